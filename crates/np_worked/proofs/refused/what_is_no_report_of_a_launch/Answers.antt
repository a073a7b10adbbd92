use Rattle.np_worked.proofs.Prelude.{NodeState, Outcome, allocated, inl, node, refl, session}
use Rattle.np_worked.proofs.refused.what_is_no_report_of_a_launch.Goals as goal

pub returns-clause-first : goal.returns-clause-first
returns-clause-first c = record {
  session = session 1;
  number = node 0;
  attempt = 1;
  outcome = Outcome.Failed;
  event = refl;
  start = 1;
  pool = record { 0 = 0 };
  begun = inl (record { event = refl; started = refl; node = allocated NodeState.Building; stood = refl; of_pool = refl });
  first = (refl, tt);
  answered = tt;
}
