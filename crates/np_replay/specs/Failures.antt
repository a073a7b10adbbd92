-- what a command that reads its input shows of a failure
use Rattle.std.specs.Prelude.{◌≡◌, ◌<◌, ◌⊎◌, ℕ, IfSome, length}
use Rattle.np_replay.specs.Input.{most}
use Rattle.np_replay.specs.Told.{read_line, long_line, memory_line}
use Rattle.np_replay.specs.Lower.{IsWritten, Rose, SinkFacts, SourceFacts}

pub record ShowsFailures {S K E : Type 0} (s : S → SourceFacts) (k : K → SinkFacts) (e : E → SinkFacts) (source source_now : S) (out out_now : K) (err err_now : E) (status : ℕ) : Type 0 where
  -- status 5: a read failed, or too many bytes came; err says which
  pub read : status ≡ 5 → (out_now ≡ out)
      × ((Rose (s source).faults (s source_now).faults × IsWritten (e err) (e err_now) read_line)
      ⊎ (IfSome (s source).left (λ left. most < length left) × IsWritten (e err) (e err_now) long_line))
  -- status 6: out or err failed, and `told` says which, and what is on both
  pub write : status ≡ 6 → Rose (k out).faults (k out_now).faults ⊎ Rose (e err).faults (e err_now).faults
  -- status 7: memory ran out
  pub memory : status ≡ 7 → IsWritten (e err) (e err_now) memory_line × (out_now ≡ out)
