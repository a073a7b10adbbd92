use Rattle.np_lookups.proofs.Prelude.{AllByRecursion, arith, change_at-past, sym, true, ◌≡◌}
use Rattle.np_lookups.proofs.QueueLemmas.{list-found, set-changed}
use Rattle.np_lookups.proofs.lists.push_at.Goals as goal

pub returns-then-at-len : goal.returns-then-at-len
returns-then-at-len g c = sym (change_at-past _ _ _ (omega (arith, c.len.ensures)))

pub push-requires : goal.push-requires
push-requires g c =
    list-found (λ rows. AllByRecursion (λ other. g.O.Order.before (g.O.Order.key other) (g.O.Order.key c.args.row) ≡ true) rows)
    c.args.at c.args.lists.now.items c.index_mut-table.result.now (omega (arith, c.len.ensures)) c.index_mut-table.ensures.value c.requires

pub returns : goal.returns
returns g c = set-changed _ _ _ _ (omega (arith, c.len.ensures)) c.index_mut-table.ensures.value _ c.in_ok-push.ensures
