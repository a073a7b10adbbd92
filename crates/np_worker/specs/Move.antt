-- the moves of a round: which may come one after another, and what they saw and made of the history
use Rattle.std.specs.Prelude.{Option, Some, None, ℕ, List, [], ◌∷◌, ◌++◌, ◌≡◌, zero, suc, Bool, true, false, cond}
use Rattle.np_worker.specs.declared.ask.Ask.{Ask}
use Rattle.np_worker.specs.declared.ask.Turn.{Turn}
use Rattle.np_worker.specs.declared.start.Start.{Start}
use Rattle.np_worker.specs.Lower.{Answered, Done, Entry, Event, Launch, NodeId, Outcome, PoolId, Reply, RequesterId, Role, Sight, Tag, Unturned}
use Rattle.np_desk.specs.Series as turned

-- what a turn records

-- the entry that a turn recorded, if any (own)
abbrev pub recorded : Ask → Turn → Option Entry
recorded ask (Turn.Did e) = Some e
recorded ask _ = None

-- what a round does, in order: its turns, and what its driver did

-- a turn, with its answer; a launch that was answered; a removal that did not fail (own)
pub data Move : Type 0 where
  asked : Ask → Turn → Move
  launched : Tag → Outcome → Move
  removed : ℕ → Move

-- the entries that were made (own)
abbrev pub entries_of : List Move → List Entry
entries_of [] = []
entries_of (asked ask turn ∷ moves) = turned.entries_of (recorded ask turn) ++ entries_of moves
entries_of (move ∷ moves) = entries_of moves

-- the launches that were answered (own)
abbrev pub launches_of : List Move → List Launch
launches_of [] = []
launches_of (launched tag o ∷ moves) = record { tag = tag; outcome = o } ∷ launches_of moves
launches_of (move ∷ moves) = launches_of moves

-- what a worker may do next
--
-- A pool's worker plays the launcher first. After each accepted start it owes its launch and then
-- the report of it, before anything else. Then it plays the janitor: before each turn it looks for a
-- due node, and owes the removal of that node's server, if it has one. Last it asks about servers,
-- and owes the removal of each that nobody wants.

-- ## what answers mean

-- whose worker it is: a pool's plays its launcher and its janitor (own)
pub data Work : Type 0 where
  of_pool : PoolId → Work
  of_requester : RequesterId → Work
  of_reaper : Work

-- the start that an entry accepted, if it is one (own)
abbrev pub start_in : PoolId → Event → Reply → Option Start
start_in pool (Event.Start s n) (Reply.Done (Done.Started k m)) = Some record {
  session = s;
  tag = record { pool = pool; node = n; attempt = k; start = m };
}
start_in _ _ _ = None

abbrev pub start_of : PoolId → Entry → Option Start
start_of pool e = start_in pool e.event e.reply

-- the report of a launch (own)
abbrev pub report_of : Start → Outcome → Event
report_of s o = Event.Done s.session s.tag.node s.tag.attempt o

-- nobody wants the server any more (own)
abbrev pub is_remove : Reply → Bool
is_remove (Reply.Done Done.Remove) = true
is_remove _ = false

-- the answer to a sweep is that nobody wants the server, now or before (own)
abbrev pub is_unwanted : Turn → Bool
is_unwanted (Turn.Did e) = is_remove e.reply
is_unwanted Turn.Swept = true
is_unwanted _ = false

-- ## phases

pub data Phase : Type 0 where
  -- the role takes a turn, and may take this many more
  acts : Role → ℕ → Phase
  -- an accepted start has no launch yet; then the launcher may take this many turns
  owes_launch : PoolId → ℕ → Start → Phase
  -- a launch was answered, and not reported yet
  owes_report : PoolId → ℕ → Start → Outcome → Phase
  -- the janitor looks for a due node, takes a turn, and may take this many more
  looks : PoolId → ℕ → Phase
  -- a node with this server is due
  owes_due : PoolId → ℕ → ℕ → Phase
  -- the servers are asked about
  sweeps : PoolId → Phase
  -- nobody wants this server
  owes_swept : PoolId → ℕ → Phase
  -- the worker of a requester or of the reaper has taken its turns
  rests : Phase
  -- a turn found no room in the journal
  ended : Phase

-- what follows when a role has nothing to do, or has taken its 16 turns (own)
abbrev pub after_role : Role → Phase
after_role (Role.Launcher pool) = looks pool 15
after_role (Role.Janitor pool) = sweeps pool
after_role _ = rests

-- a role that may take this many turns (own)
abbrev pub acting : Role → ℕ → Phase
acting r zero = after_role r
acting (Role.Janitor pool) (suc n) = looks pool n
acting r (suc n) = acts r n

-- the phase in which a round begins (own)
abbrev pub first_phase : Work → Phase
first_phase (of_pool pool) = acting (Role.Launcher pool) 16
first_phase (of_requester q) = acting (Role.Requester q) 16
first_phase of_reaper = acting Role.Reaper 16

-- ## what may come, and what it leads to

-- what is asked in a phase (own)
abbrev pub MayAsk : Phase → Ask → Type 0
MayAsk (acts r n) a = a ≡ Ask.Act r
MayAsk (owes_report pool n s o) a = a ≡ Ask.Do (report_of s o)
MayAsk (looks pool n) a = a ≡ Ask.Due pool
MayAsk (sweeps pool) a = (n : NodeId) × (x : ℕ) × (a ≡ Ask.Sweep pool n x)
MayAsk _ a = ⊥

-- which launch comes in a phase (own)
abbrev pub MayLaunch : Phase → Tag → Type 0
MayLaunch (owes_launch pool n s) tag = tag ≡ s.tag
MayLaunch _ tag = ⊥

-- which removal comes in a phase (own)
abbrev pub MayRemove : Phase → ℕ → Type 0
MayRemove (owes_due pool n x) y = y ≡ x
MayRemove (owes_swept pool x) y = y ≡ x
MayRemove _ y = ⊥

-- a launcher's start is launched; after another entry the role goes on (own)
abbrev pub after_start : PoolId → ℕ → Option Start → Phase
after_start pool n None = acting (Role.Launcher pool) n
after_start pool n (Some s) = owes_launch pool n s

abbrev pub after_entry : Role → ℕ → Entry → Phase
after_entry (Role.Launcher pool) n e = after_start pool n (start_of pool e)
after_entry r n e = acting r n

-- an entry was made, or the role has nothing to do (own)
abbrev pub after_act : Role → ℕ → Turn → Phase
after_act r n (Turn.Did e) = after_entry r n e
after_act r n Turn.Full = ended
after_act r n _ = after_role r

abbrev pub after_report : PoolId → ℕ → Turn → Phase
after_report pool n Turn.Full = ended
after_report pool n _ = acting (Role.Launcher pool) n

-- the server of a due node is removed before the janitor's turn (own)
abbrev pub after_look : PoolId → ℕ → Turn → Phase
after_look pool n (Turn.DueNode node (Some x)) = owes_due pool n x
after_look pool n Turn.Full = ended
after_look pool n _ = acts (Role.Janitor pool) n

abbrev pub after_sweep : PoolId → ℕ → Turn → Phase
after_sweep pool x Turn.Full = ended
after_sweep pool x t = cond (is_unwanted t) (owes_swept pool x) (sweeps pool)

abbrev pub server_in : Ask → ℕ
server_in (Ask.Sweep pool n x) = x
server_in _ = 0

-- the phase after a turn (own)
abbrev pub after_turn : Phase → Ask → Turn → Phase
after_turn (acts r n) a t = after_act r n t
after_turn (owes_report pool n s o) a t = after_report pool n t
after_turn (looks pool n) a t = after_look pool n t
after_turn (sweeps pool) a t = after_sweep pool (server_in a) t
after_turn phase a t = phase

-- the phase after a launch (own)
abbrev pub after_launch : Phase → Outcome → Phase
after_launch (owes_launch pool n s) o = owes_report pool n s o
after_launch phase o = phase

-- the phase after a removal (own)
abbrev pub after_removal : Phase → Phase
after_removal (owes_due pool n x) = acts (Role.Janitor pool) n
after_removal (owes_swept pool x) = sweeps pool
after_removal phase = phase

-- the moves may come one after another, and lead from one phase to the other (own)
abbrev pub Leads : Phase → List Move → Phase → Type 0
Leads p [] q = p ≡ q
Leads p (asked a t ∷ moves) q = MayAsk p a × Leads (after_turn p a t) moves q
Leads p (launched tag o ∷ moves) q = MayLaunch p tag × Leads (after_launch p o) moves q
Leads p (removed x ∷ moves) q = MayRemove p x × Leads (after_removal p) moves q

-- a server has to be removed (own)
abbrev pub OwesRemoval : Phase → Type 0
OwesRemoval (owes_due pool n x) = Unit {0}
OwesRemoval (owes_swept pool x) = Unit {0}
OwesRemoval _ = ⊥

-- what the turns of a round saw and made of the history

-- each turn is answered after what the one before saw; at the end more may be seen (own)
abbrev pub Walk : {F : Type 0} → (F → List Entry → Ask → Turn → Type 0) → F → List Move → Sight Entry → Sight Entry → Type 0
Walk answers f [] v w = Unturned v w
Walk answers f (asked a t ∷ moves) v w = (u : Sight Entry)
    × Answered answers recorded f v a t u × Walk answers f moves u w
Walk answers f (move ∷ moves) v w = Walk answers f moves v w
