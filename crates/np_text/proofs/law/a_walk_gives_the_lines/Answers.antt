use Rattle.np_text.proofs.LineLemmas.{lines_of-walk_end, lines_of-walk, lines_of-lines, lines_of-last}
use Rattle.np_text.proofs.law.a_walk_gives_the_lines.Goals as goal

pub returns : goal.returns
returns c = record { end = lines_of-walk_end; step = lines_of-walk; joined = lines_of-lines; last = lines_of-last }
