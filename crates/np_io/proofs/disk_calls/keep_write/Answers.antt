use Rattle.np_io.proofs.Prelude.{refl, rules, ◌≡◌}
use Rattle.np_io.proofs.disk_calls.keep_write.Goals as goal

pub returns-clause-ok : goal.returns-clause-ok
returns-clause-ok c =
    let same : c.in_ok-bytes.bytes.items ≡ c.args.bytes.now = search rules in
    let kept = c.in_ok-keep.ensures.ok in
    (kept.0, record { at = c.args.at; bytes = c.in_ok-bytes.bytes }, kept.1, kept.2, refl, same, kept.3)
