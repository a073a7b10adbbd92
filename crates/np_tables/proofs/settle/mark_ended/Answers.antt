use Rattle.np_tables.proofs.Prelude.{JobRecord, ap, arith, change_at-past, change_at-set, length, slice_set, sym, with_mark, ◌<◌, ◌∙◌}
use Rattle.np_tables.proofs.settle.mark_ended.Goals as goal

pub returns-then-at-len : goal.returns-then-at-len
returns-then-at-len c = sym (change_at-past c.args.job.0 (with_mark c.args.node) c.args.jobs.now.items (omega (arith, c.len.ensures)))

pub returns : goal.returns
returns c =
    let within : c.args.job.0 < length c.args.jobs.now.items = omega (arith, c.len.ensures) in
    rw (c.marks_with-kept.ensures, c.items.ensures) (
    ap (λ (job : JobRecord). slice_set c.args.jobs.now.items c.args.job.0 (with_mark c.args.node job)) c.index_mut-kept.ensures.value
    ∙ sym (change_at-set c.args.job.0 (with_mark c.args.node) c.args.jobs.now.items c.index_mut-kept.result.now within))
