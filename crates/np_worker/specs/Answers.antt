-- which answers an ask may have, after a journal of the machine
use Rattle.std.specs.Prelude.{◌≡◌, ◌<◌, ◌≤◌, ◌⊎◌, ℕ, true, false, List, length, Option, Some}
use Rattle.np_worker.specs.declared.ask.Ask.{Ask}
use Rattle.np_worker.specs.declared.ask.Turn.{Turn}
use Rattle.np_worker.specs.Lower.{Configuration, Entry, Event, IsUseful, Janitor, NodeId, NodeRecord, PoolId, Role, SessionId, State, after, has_current, is_current, is_deleting, is_swept, is_wanted, judge, node_holder, node_in, reply_of}

-- ## what is recorded

-- the journal has room, and the reply is the machine's (own)
pub record IsReplied (c : Configuration) (journal : List Entry) (e : Entry) : Type 0 where
  pub room : length journal < 262144
  pub reply : e.reply ≡ reply_of (judge c (after c journal) e.event)

-- the journal has no room (own)
abbrev pub IsFull : List Entry → Type 0
IsFull journal = 262144 ≤ length journal

-- ## Act

-- a useful event of the role was recorded; none is; or one is and there is no room (own)
abbrev pub answers_act : Configuration → List Entry → Role → Turn → Type 0
answers_act c journal role (Turn.Did e) = IsUseful c (after c journal) role e.event × IsReplied c journal e
answers_act c journal role Turn.Idle = (e : Event) → IsUseful c (after c journal) role e → ⊥
answers_act c journal role Turn.Full = ((e : Event) × IsUseful c (after c journal) role e) × IsFull journal
answers_act c journal role _ = ⊥

-- ## Do

-- the event was recorded, or there is no room (own)
abbrev pub answers_do : Configuration → List Entry → Event → Turn → Type 0
answers_do c journal event (Turn.Did e) = (e.event ≡ event) × IsReplied c journal e
answers_do c journal event Turn.Full = IsFull journal
answers_do c journal event _ = ⊥

-- ## Due

-- a node of the pool that is being deleted, with its server; the pool's janitor holds it (Nodepool: the deleted node worker)
pub record IsDue (p : PoolId) (s : State) (n : NodeId) (x : Option ℕ) : Type 0 where
  pub node : NodeRecord
  pub stands : node_in n s.nodes ≡ Some node
  pub of_pool : node.pool.0 ≡ p.0
  pub deleting : is_deleting node.state ≡ true
  pub server : node.server ≡ x
  pub session : SessionId
  pub holder : node_holder n s.nodes ≡ Some session
  pub current : is_current (Janitor p) session s ≡ true

-- a node that is due, or none is (own)
abbrev pub answers_due : Configuration → List Entry → PoolId → Turn → Type 0
answers_due c journal p (Turn.DueNode n x) = IsDue p (after c journal) n x
answers_due c journal p Turn.Idle = (n : NodeId) (x : Option ℕ) → IsDue p (after c journal) n x → ⊥
answers_due c journal p _ = ⊥

-- ## Sweep

-- a server is kept: its pool has no janitor's session now, or its node is there, and building or has the server (own)
abbrev pub IsKept : PoolId → NodeId → ℕ → State → Type 0
IsKept p n x s = (has_current (Janitor p) s ≡ false) ⊎ (is_wanted s n x ≡ true)

-- it is not kept: the pool's janitor has a session, and no record wants the server (own)
pub record IsNotKept (p : PoolId) (n : NodeId) (x : ℕ) (s : State) : Type 0 where
  pub current : has_current (Janitor p) s ≡ true
  pub unwanted : is_wanted s n x ≡ false

-- the entry is a sweep of the server by the pool's janitor (own)
pub record IsSweepBy (p : PoolId) (n : NodeId) (x : ℕ) (s : State) (e : Event) : Type 0 where
  pub session : SessionId
  pub current : is_current (Janitor p) session s ≡ true
  pub event : e ≡ Event.Sweep session n x

-- the server is kept; it was swept before; it is swept now; or there is no room for that (own)
abbrev pub answers_sweep : Configuration → List Entry → PoolId → NodeId → ℕ → Turn → Type 0
answers_sweep c journal p n x (Turn.Did e) =
    IsNotKept p n x (after c journal) × (is_swept n x (after c journal).swept ≡ false) × IsSweepBy p n x (after c journal) e.event × IsReplied c journal e
answers_sweep c journal p n x (Turn.DueNode m y) = ⊥
answers_sweep c journal p n x Turn.Swept = IsNotKept p n x (after c journal) × (is_swept n x (after c journal).swept ≡ true)
answers_sweep c journal p n x Turn.Idle = IsKept p n x (after c journal)
answers_sweep c journal p n x Turn.Full = IsNotKept p n x (after c journal) × (is_swept n x (after c journal).swept ≡ false) × IsFull journal

-- ## any ask

abbrev pub answers : Configuration → List Entry → Ask → Turn → Type 0
answers c journal (Ask.Act role) t = answers_act c journal role t
answers c journal (Ask.Do event) t = answers_do c journal event t
answers c journal (Ask.Due p) t = answers_due c journal p t
answers c journal (Ask.Sweep p n x) t = answers_sweep c journal p n x t

-- ## with events that nobody chose just now

-- which events may be recorded for a role beside those that are useful now (own)
abbrev pub Also : Type 1
Also = Configuration → List Entry → Role → Event → Type 0

-- no other events (own)
abbrev pub nothing_else : Also
nothing_else c journal role e = ⊥

-- as above, but a turn of a role may also have recorded one of those (own)
abbrev pub answers_also : Also → Configuration → List Entry → Ask → Turn → Type 0
answers_also also c journal (Ask.Act role) (Turn.Did e) = (IsUseful c (after c journal) role e.event ⊎ also c journal role e.event) × IsReplied c journal e
answers_also also c journal a t = answers c journal a t
