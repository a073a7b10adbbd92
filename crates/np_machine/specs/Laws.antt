-- words of the laws over every state
use Rattle.std.specs.Prelude.{ℕ, ◌≤◌, Bool, true, false, ◌==◌, ◌&&◌, not, Option, length}
use Rattle.std.specs.Option.{option_map}
use Rattle.np_machine.specs.declared.state.SessionFacts.{SessionFacts}
use Rattle.np_machine.specs.Tables.{role_in}
use Rattle.np_machine.specs.State.{State}
use Rattle.np_machine.specs.Lower.{Janitor, Launcher, Reaper, Requester, Role}

-- the next numbers of the second state are at least those of the first
pub record RisesFrom (s t : State) : Type 0 where
  pub sessions : length s.sessions ≤ length t.sessions
  pub requests : s.next_request ≤ t.next_request
  pub nodes : s.next_node ≤ t.next_node

-- how many events of the role were accepted; none if it is no role of the configuration
abbrev pub acts_of : Role → State → Option ℕ
acts_of role s = option_map (λ deeds. deeds.acts) (role_in role s)

abbrev pub same_role : Role → Role → Bool
same_role (Launcher p) (Launcher q) = p.0 == q.0
same_role (Janitor p) (Janitor q) = p.0 == q.0
same_role (Requester p) (Requester q) = p.0 == q.0
same_role Reaper Reaper = true
same_role _ _ = false

-- a live session of the role that is not mute
abbrev pub speaks_for : Role → SessionFacts → Bool
speaks_for role facts = same_role facts.role role && facts.live && not facts.mute
