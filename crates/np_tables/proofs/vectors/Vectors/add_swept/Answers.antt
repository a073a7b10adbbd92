use Rattle.np_tables.proofs.Prelude.{none-list_any, sym, ◌∙◌}
use Rattle.np_tables.proofs.vectors.Vectors.add_swept.Goals as goal

pub insert-requires-clause-none : goal.insert-requires-clause-none
insert-requires-clause-none c = none-list_any _ _ (sym c.has.ensures ∙ c.if-has.false)
