use Rattle.np_text.proofs.SectionLemmas.{sections_of-bar, sections_of-last_bar, sections_of-none}
use Rattle.np_text.proofs.law.sections_part_at_the_first_bar.Goals as goal

pub returns : goal.returns
returns c = record { found = sections_of-bar; last = sections_of-last_bar; none = sections_of-none }
