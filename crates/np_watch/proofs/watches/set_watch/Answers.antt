use Rattle.np_watch.proofs.Prelude.{arith, has_key, length, none-list_any, sym, watch_of, ◌<◌, ◌∙◌}
use Rattle.np_watch.proofs.WatchLemmas.{watches-with}
use Rattle.np_watch.proofs.watches.set_watch.Goals as goal

pub insert-requires : goal.insert-requires
insert-requires c =
    let none = none-list_any (has_key c.args.key) c.args.table.now (sym c.has.ensures ∙ c.if-has.false) in
    rw c.in_ok-watch.ensures none

pub returns-clause-watches : goal.returns-clause-watches
returns-clause-watches c =
    let none = none-list_any (has_key c.args.key) c.args.table.now (sym c.has.ensures ∙ c.if-has.false) in
    let room : length c.args.table.now < 4_294_967_295 = omega (arith, c.count.ensures) in
    rw (c.in_ok-insert.ensures.ok, c.in_ok-watch.ensures) (watches-with (watch_of c.args.tree.now c.args.key c.args.path.now) c.args.table.now none room c.requires)
