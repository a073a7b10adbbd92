-- what counted searches see
use Rattle.std.specs.Prelude.{◌≡◌}
use Rattle.np_changes.specs.Prelude.{Configuration, State}

-- a configuration and a state of it (own)
pub record Seen : Type 0 where
  pub configuration : Configuration
  pub state : State

-- rows of this configuration and this state are those that the searches see (own)
pub record IsOf (seen : Seen) (c : Configuration) (s : State) : Type 0 where
  pub site : c ≡ seen.configuration
  pub state : s ≡ seen.state
