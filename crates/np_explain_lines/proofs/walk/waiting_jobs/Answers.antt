use Rattle.np_explain_lines.proofs.Prelude.{IsPending, IsWaiting, Thing, arith, true, waits, ℕ, ⊎_elim, ◌≡◌}
use Rattle.np_explain_lines.proofs.Pending.{from_more, none_pending, waiting_within}
use Rattle.np_explain_lines.proofs.walk.waiting_jobs.Goals as goal

pub loop-left-init : goal.loop-left-init
loop-left-init g c = record {
  all = λ j is past. absurd (let within = waiting_within (g.R.Rows.state c.args.rows.now) j is in omega (arith, c.jobs-left.ensures));
  alone = λ it has. absurd (none_pending c.new-pending.result.items it c.new-pending.ensures.items has);
}

pub loop-left-preserved : goal.loop-left-preserved
loop-left-preserved g c = record {
  all = λ j is past.
      from_more (λ (k : ℕ). waits (g.R.Rows.state c.args.rows.now) (record { 0 = k }) ≡ true → IsPending c.push_waiting.new.pending.items (Thing.Job (record { 0 = k }))) c.loop-left.left
      (omega (arith, c.loop-left-test.true)) c.in_ok-push_waiting.ensures.told
      (λ k more waits. c.in_ok-push_waiting.ensures.stay (Thing.Job (record { 0 = k })) (c.loop-left.invariant.all (record { 0 = k }) waits more)) j.0 past is;
  alone = λ it has. ⊎_elim (c.loop-left.invariant.alone it) (λ (new : IsWaiting (g.R.Rows.state c.args.rows.now) it). new) (c.in_ok-push_waiting.ensures.alone it has);
}

pub returns-clause-all : goal.returns-clause-all
returns-clause-all g c = λ j is. c.loop-left.invariant.all j is (omega (arith, c.loop-left-test.false))
