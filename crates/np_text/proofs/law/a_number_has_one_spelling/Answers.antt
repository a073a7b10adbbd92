use Rattle.np_text.proofs.Prelude.{decimal_injective}
use Rattle.np_text.proofs.SpellingLemmas.{number_of-decimal, number_of-spelled}
use Rattle.np_text.proofs.law.a_number_has_one_spelling.Goals as goal

pub returns : goal.returns
returns c = record { reads_back = number_of-decimal; spelled = number_of-spelled; apart = decimal_injective }
