use Rattle.np_text.proofs.OrderLemmas.{all_ascii_digits-ten, length-ten}
use Rattle.np_text.proofs.SpellingLemmas.{sequence_of-ten_digits_of, sequence_of-spelled, ten_digits_of-injective}
use Rattle.np_text.proofs.law.ten_digits_are_one_spelling.Goals as goal

pub returns : goal.returns
returns c = record { reads_back = sequence_of-ten_digits_of; spelled = sequence_of-spelled; apart = ten_digits_of-injective; digits = all_ascii_digits-ten; ten = length-ten }
