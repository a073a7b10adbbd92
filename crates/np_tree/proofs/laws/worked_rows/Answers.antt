use Rattle.np_tree.proofs.Prelude.{digits, refl, ten_digits_of}
use Rattle.np_tree.proofs.laws.worked_rows.Goals as goal

pub returns-clause-sequence : goal.returns-clause-sequence
unfolding ten_digits_of digits
returns-clause-sequence c = refl

pub returns-clause-ephemeral : goal.returns-clause-ephemeral
unfolding ten_digits_of digits
returns-clause-ephemeral c = refl

pub returns-clause-expired : goal.returns-clause-expired
unfolding ten_digits_of digits
returns-clause-expired c = refl

pub returns-clause-changes : goal.returns-clause-changes
unfolding ten_digits_of digits
returns-clause-changes c = refl
