use Rattle.np_path.proofs.Prelude.{string_bytes, take, ◌++◌, ◌≡◌}
use Rattle.np_path.proofs.path.Path.numbered.Given as goal

abbrev pub invariant-loop-digit : goal.invariant-loop-digit
invariant-loop-digit l = string_bytes l.text ≡ string_bytes l.initial.text ++ take l.digit-index l.digit-items
