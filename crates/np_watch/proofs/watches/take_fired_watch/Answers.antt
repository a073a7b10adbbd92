use Rattle.np_watch.proofs.Prelude.{is_fired, remove_first-absent, sym, ◌∙◌}
use Rattle.np_watch.proofs.WatchLemmas.{none-found, taken, watches-without}
use Rattle.np_watch.proofs.watches.take_fired_watch.Goals as goal

pub returns-in_err-key-clause-rest : goal.returns-in_err-key-clause-rest
returns-in_err-key-clause-rest c =
    let none = rw c.rows.ensures at c.in_err-key.ensures in
    sym (remove_first-absent (is_fired c.args.tree.now) c.args.table.now (none-found (is_fired c.args.tree.now) c.args.table.now (sym none)))

pub returns-clause-rest : goal.returns-clause-rest
returns-clause-rest c =
    let found = rw c.rows.ensures at c.in_ok-key.ensures in
    c.remove.ensures ∙ taken (is_fired c.args.tree.now) c.args.table.now c.in_ok-key.key c.requires.rise (sym found)

pub returns-clause-watches : goal.returns-clause-watches
returns-clause-watches c =
    let found = rw c.rows.ensures at c.in_ok-key.ensures in
    rw (c.remove.ensures ∙ taken (is_fired c.args.tree.now) c.args.table.now c.in_ok-key.key c.requires.rise (sym found)) (watches-without (is_fired c.args.tree.now) c.args.table.now c.requires)
