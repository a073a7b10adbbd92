use Rattle.np_layout.proofs.Prelude.{decimal, drop, length, ◌++◌, ◌+◌, ◌<◌, ◌^◌, ◌≡◌}
use Rattle.np_layout.proofs.buffer.decimal_digits.Given as goal

abbrev pub invariant-loop-rest : goal.invariant-loop-rest
invariant-loop-rest l = record {
  text : decimal l.rest ++ drop (l.at + 1) l.digits ≡ decimal l.n;
  within : l.at < 20;
  fits : l.rest < 10 ^ (l.at + 1);
  long : length l.digits ≡ 20;
}

abbrev pub decreases-loop-rest : goal.decreases-loop-rest
decreases-loop-rest l = l.rest
