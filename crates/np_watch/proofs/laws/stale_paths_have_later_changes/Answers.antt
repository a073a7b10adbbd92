use Rattle.np_watch.proofs.FreshLemmas.{stale-is-later}
use Rattle.np_watch.proofs.laws.stale_paths_have_later_changes.Goals as goal

pub returns : goal.returns
returns c = stale-is-later
