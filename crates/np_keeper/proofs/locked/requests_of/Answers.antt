use Rattle.np_keeper.proofs.Prelude.{RequestEntry, Roomy, ap, arith, sym, ◌∙◌}
use Rattle.np_keeper.proofs.Queued.{copied_next, none_missing, requests_ahead}
use Rattle.np_keeper.proofs.locked.requests_of.Goals.{in-Some+in_ok-push, in_default}
use Rattle.np_keeper.proofs.locked.requests_of.Goals as goal

pub push-requires : goal.push-requires
push-requires g c =
    requests_ahead (g.R.Rows.site c.args.rows.now) (g.R.Rows.state c.args.rows.now) c.requires.reached c.loop-at.table.rows c.loop-at.at c.in-Some.entry
    c.loop-at.invariant (sym c.in-Some.is ∙ c.in_ok-entry.ensures)

pub loop-at-preserved : goal.loop-at-preserved
loop-at-preserved g c =
    let whole = (g.R.Rows.state c.args.rows.now).requests in
    elim c.match-branch-2.branch [
      | in-Some+in_ok-push w ↦
          ap (λ (table : Roomy RequestEntry). table.rows) w.table-is
          ∙ copied_next whole _ _ c.loop-at.at w.in-Some.entry (sym w.in-Some.is ∙ c.in_ok-entry.ensures) c.loop-at.invariant w.in_ok-push.ensures
      | in_default w ↦
          absurd (none_missing whole c.loop-at.at (omega (arith, c.requests-at-end.ensures, c.loop-at-test.true)) (sym w.in_default.is ∙ c.in_ok-entry.ensures))
    ]
