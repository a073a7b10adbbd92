use Rattle.np_keeper.proofs.Prelude.{JobId, Roomy, ap, arith, handles_of, ◌∙◌}
use Rattle.np_keeper.proofs.Queued.{copied_next, holders_ahead, none_missing, take_whole}
use Rattle.np_keeper.proofs.handles.handles_of.Goals.{in-Some+in_ok-push, in_default}
use Rattle.np_keeper.proofs.handles.handles_of.Goals as goal

pub push-requires : goal.push-requires
push-requires g c =
    holders_ahead _ (g.R.Rows.state c.args.rows.now).handles c.args.semaphore c.requires.ordered.handles c.loop-at.table.rows c.loop-at.at c.in-Some.job c.loop-at.invariant c.in-Some.ensures

pub loop-at-preserved : goal.loop-at-preserved
loop-at-preserved g c =
    let whole = handles_of c.args.semaphore (g.R.Rows.state c.args.rows.now).handles in
    elim c.match-handle_at.branch [
      | in-Some+in_ok-push w ↦
          ap (λ (table : Roomy JobId). table.rows) w.table-is ∙ copied_next whole _ _ c.loop-at.at w.in-Some.job w.in-Some.ensures c.loop-at.invariant w.in_ok-push.ensures
      | in_default w ↦
          absurd (none_missing whole c.loop-at.at (omega (arith, c.handles-at-end.ensures, c.loop-at-test.true)) w.in_default.ensures)
    ]

pub returns : goal.returns
returns g c =
    let whole = handles_of c.args.semaphore (g.R.Rows.state c.args.rows.now).handles in
    c.loop-at.invariant ∙ take_whole whole c.loop-at.at (omega (arith, c.handles-at-end.ensures, c.loop-at-test.false, c.loop-at.auto.at-end))
