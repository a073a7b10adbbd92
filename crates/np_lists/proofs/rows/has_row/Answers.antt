use Rattle.np_lists.proofs.Prelude.{sym}
use Rattle.np_lists.proofs.Changes.{list_any-none}
use Rattle.np_lists.proofs.Searches.{any-first}
use Rattle.np_lists.proofs.rows.has_row.Goals as goal

pub returns-in-Some : goal.returns-in-Some
returns-in-Some g c = sym (any-first _ _ _ c.in-Some.ensures.place)

pub returns-in-None : goal.returns-in-None
returns-in-None g c = sym (list_any-none _ _ c.in-None.ensures.place)
