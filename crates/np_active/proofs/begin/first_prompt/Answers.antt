use Rattle.np_active.proofs.Prelude.{Group, ap, find, ids_in, may_begin_of, sym, ◌∙◌}
use Rattle.np_active.proofs.KindLemmas.{walk-on}
use Rattle.np_active.proofs.begin.first_prompt.Goals as goal

pub returns-then-may_begin : goal.returns-then-may_begin
returns-then-may_begin g c =
    let next = walk-on (may_begin_of (g.R.Rows.site c.args.rows.now) (g.R.Rows.state c.args.rows.now)) _ c.loop-at.at c.in_ok-job.job c.loop-at.invariant (sym c.at.ensures ∙ c.in_ok-job.was) in
    (let first = rw (sym c.may_begin.ensures ∙ c.if-may_begin.true) at next in first)
    ∙ ap (λ (group : Group). find (may_begin_of (g.R.Rows.site c.args.rows.now) (g.R.Rows.state c.args.rows.now)) (ids_in group c.args.jobs.now.members)) c.prompt_group-group.ensures

pub loop-at-preserved : goal.loop-at-preserved
loop-at-preserved g c =
    let next = walk-on (may_begin_of (g.R.Rows.site c.args.rows.now) (g.R.Rows.state c.args.rows.now)) _ c.loop-at.at c.in_ok-job.job c.loop-at.invariant (sym c.at.ensures ∙ c.in_ok-job.was) in
    rw (sym c.may_begin.ensures ∙ c.if-may_begin.false) at next
