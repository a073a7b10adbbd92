use Rattle.np_event.proofs.Lines.{decided-short, decided-unknown, undecided-count, undecided-unknown}
use Rattle.np_event.proofs.law.a_fixed_word_decides_the_form.Goals as goal

pub returns : goal.returns
returns c = record { missing = decided-short; unknown = decided-unknown; count = undecided-count; word = undecided-unknown }
