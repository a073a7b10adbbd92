use Rattle.np_text.proofs.Prelude.{behind, drop, sections_from, sections_of, take, ◌≡◌}
use Rattle.np_text.proofs.lines.split_sections.Given as goal

abbrev pub invariant-loop-index : goal.invariant-loop-index
invariant-loop-index l = behind (take l.index l.text) (sections_from l.fresh (drop l.index l.text)) ≡ sections_of l.text
