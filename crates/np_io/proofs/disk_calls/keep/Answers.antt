use Rattle.np_io.proofs.Prelude.{refl, rules, ◌≡◌}
use Rattle.np_io.proofs.disk_calls.keep.Goals as goal

pub returns-clause-ok : goal.returns-clause-ok
returns-clause-ok c =
    let same : c.in_ok-before.before.items ≡ c.args.file.now.items = search rules in
    (record { before = c.in_ok-before.before; write = c.args.write }, same, refl, c.in_ok-push.ensures.items)
