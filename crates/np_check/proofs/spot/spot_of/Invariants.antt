use Rattle.np_check.proofs.Prelude.{behind, fold, take, ◌+◌, ◌≡◌, ◌≤◌}
use Rattle.np_check.proofs.spot.spot_of.Given as goal

abbrev pub invariant-loop-byte : goal.invariant-loop-byte
invariant-loop-byte l = record {
  line : l.spot.line ≤ l.byte-index + 1;
  column : l.spot.column ≤ l.byte-index + 1;
  spot : l.spot ≡ fold behind (record { line = 1; column = 1 }) (take l.byte-index (take l.at l.text));
}
