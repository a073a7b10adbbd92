use Rattle.std.proofs.Common.{sym, ap}
use Rattle.std.specs.Prelude.{is_ok}
use Rattle.np_cost_tests.proofs.costs.changes_of.Goals as goal

pub returns-in-Ok : goal.returns-in-Ok
returns-in-Ok c = record {
  event = c.args.event;
  accepted = sym (ap (λ answer. is_ok answer) c.in-Ok.ensures.answer);
  plan = c.in-Ok.ensures.changes;
}
