use Rattle.np_io.proofs.Prelude.{List, TornWrite, ap, arith, length, put_at, subst, sym, ℕ, ◌∙◌, ◌≡◌}
use Rattle.np_io.proofs.TornLemmas.{torn_by_part}
use Rattle.np_io.proofs.disk_calls.torn.Goals as goal

pub returns-clause-torn : goal.returns-clause-torn
returns-clause-torn c =
    let at : ℕ = c.args.write.now.at in
    let size : ℕ = length c.args.write.now.bytes.items in
    let file = c.args.image.now in
    let put : c.in_ok-next.next.items ≡ put_at at c.in_ok-left.left.items file =
    c.in_ok-next.ensures ∙ ap (λ (bytes : List ℕ). put_at at bytes file) c.deref-2.ensures.value in
    subst (TornWrite at size file) (sym put)
    (torn_by_part at size c.in_ok-left.left.items file (omega (arith, c.if-image-at.false))
    (omega (arith, c.in_ok-left.ensures.bound, ap length c.deref.ensures.value)))
