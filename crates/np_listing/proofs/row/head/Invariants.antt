use Rattle.np_listing.proofs.Prelude.{map, take, ◌≡◌}
use Rattle.np_listing.proofs.row.head.Given as goal

abbrev pub invariant-loop-word : goal.invariant-loop-word
invariant-loop-word l = l.row ≡ map (λ word. word.now) (take l.word-index l.words)
