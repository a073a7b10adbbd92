use Rattle.np_lists.proofs.Searches.{first-within}
use Rattle.np_lists.proofs.groups.place_of.Goals as goal

pub returns-clause-within : goal.returns-clause-within
returns-clause-within g c = first-within _ c.args.members.now.items c.split_of-at.result c.if-not-is_at.ensures.yes
