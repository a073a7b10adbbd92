use Rattle.np_watch.proofs.FreshLemmas.{test-says-fresh}
use Rattle.np_watch.proofs.laws.tests_say_fresh.Goals as goal

pub returns : goal.returns
returns c = test-says-fresh
