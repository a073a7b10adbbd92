-- who acts for a role, and the faults that are planned for it
use Rattle.std.specs.Prelude.{ℕ, ◌-◌, List, Bool, true, false, ◌==◌, ◌&&◌, not, if◌then◌else◌, Option, None, filter, drop, slice_get, nat_le}
use Rattle.np_useful.specs.Lower.{Configuration, Fault, FaultKind, Role, SessionId, State, acts_of, list_any, option_map_or, role_in, same_role, session_of, speaks_for}

-- ## sessions

-- the role's current session: it speaks for the role, and no session that began later does (own)
abbrev pub is_current : Role → SessionId → State → Bool
is_current role session s =
    option_map_or (speaks_for role) (session_of session s) false && not (list_any (speaks_for role) (drop session.0 s.sessions))

-- the role has a current session (own)
abbrev pub has_current : Role → State → Bool
has_current role s = list_any (speaks_for role) s.sessions

-- ## planned faults (own)

-- the faults of the role, in the configuration's order (own)
abbrev pub faults_of : Configuration → Role → List Fault
faults_of c role = filter (λ f. same_role f.role role) c.faults

-- how many sessions of the role were lost (own)
abbrev pub strikes_of : Role → State → ℕ
strikes_of role s = option_map_or (λ deeds. deeds.strikes) (role_in role s) 0

-- the role's fault that its last lost session used up; none before the first loss or after the last
-- fault (own)
abbrev pub last_fault : Configuration → Role → State → Option Fault
last_fault c role s = if strikes_of role s == 0 then None else slice_get (faults_of c role) (strikes_of role s - 1)

-- the role's fault that comes next (own)
abbrev pub next_fault : Configuration → Role → State → Option Fault
next_fault c role s = slice_get (faults_of c role) (strikes_of role s)

-- the session ends, and its party continues with a new one (ZooKeeper: a session expires)
abbrev pub is_expire : FaultKind → Bool
is_expire FaultKind.Expire = true
is_expire FaultKind.Crash = false
is_expire FaultKind.Stop = false

-- the party stops for good (own)
abbrev pub is_stop : FaultKind → Bool
is_stop FaultKind.Expire = false
is_stop FaultKind.Crash = false
is_stop FaultKind.Stop = true

-- the role stopped for good: its last fault was a stop (own)
abbrev pub is_stopped : Configuration → Role → State → Bool
is_stopped c role s = option_map_or (λ f. is_stop f.kind) (last_fault c role s) false

-- the role has as many accepted events as the fault waits for (own)
abbrev pub is_due : Role → State → Fault → Bool
is_due role s f = option_map_or (λ acts. nat_le f.after acts) (acts_of role s) false

-- the role's next fault is of such a kind, and due (own)
abbrev pub has_due : (FaultKind → Bool) → Configuration → Role → State → Bool
has_due such c role s = option_map_or (λ f. such f.kind && is_due role s f) (next_fault c role s) false

-- the session is its role's current one, and such a fault of the role is due (own)
abbrev pub is_struck_by : (FaultKind → Bool) → Configuration → State → SessionId → Bool
is_struck_by such c s session =
    option_map_or (λ facts. is_current facts.role session s && has_due such c facts.role s) (session_of session s) false

-- a session may begin: the role has no current one and has not stopped (own)
abbrev pub may_open : Configuration → Role → State → Bool
may_open c role s = not (has_current role s) && not (is_stopped c role s)
