-- what holds of the moves of every round
use Rattle.std.specs.Prelude.{◌≡◌, ◌⊎◌, ◌≤◌, ℕ, ◌+◌, List, [], ◌∷◌, ◌++◌, slice_get, Bool, true, false, cond, ◌&&◌, Contains, Option, Some, None, IfSome}
use Rattle.np_worker.specs.declared.ask.Ask.{Ask}
use Rattle.np_worker.specs.declared.ask.Turn.{Turn}
use Rattle.np_worker.specs.declared.start.Start.{Start}
use Rattle.np_worker.specs.Move.{Move, asked, launched, removed, Work, of_pool, of_requester, of_reaper, Phase, acts, owes_launch, owes_report, looks, owes_due, sweeps, owes_swept, report_of, start_of, is_unwanted}
use Rattle.np_worker.specs.Lower.{Entry, Outcome, PoolId, Role, Server, Sight, Tag}

-- ## starts

abbrev pub tags_of : Option Start → List Tag
tags_of None = []
tags_of (Some s) = s.tag ∷ []

-- the accepted start of a launcher's turn, if it made one (own)
abbrev pub start_made : Ask → Turn → Option Start
start_made (Ask.Act (Role.Launcher pool)) (Turn.Did e) = start_of pool e
start_made _ _ = None

-- the tags of the accepted starts, in order (own)
abbrev pub starts_of : List Move → List Tag
starts_of [] = []
starts_of (asked a t ∷ moves) = tags_of (start_made a t) ++ starts_of moves
starts_of (move ∷ moves) = starts_of moves

-- the tags of the launches, in order (own)
abbrev pub tags_launched : List Move → List Tag
tags_launched [] = []
tags_launched (launched tag o ∷ moves) = tag ∷ tags_launched moves
tags_launched (move ∷ moves) = tags_launched moves

-- the start whose launch a phase owes (own)
abbrev pub owed_tags : Phase → List Tag
owed_tags (owes_launch pool n s) = s.tag ∷ []
owed_tags _ = []

-- the trace ends before the launch, or before the report (own)
abbrev pub IsBeforeLaunch : Start → Phase → Type 0
IsBeforeLaunch s to = (pool : PoolId) × (n : ℕ) × (to ≡ owes_launch pool n s)

abbrev pub IsBeforeReport : Start → Outcome → Phase → Type 0
IsBeforeReport s o to = (pool : PoolId) × (n : ℕ) × (to ≡ owes_report pool n s o)

-- the launch is reported next (own)
abbrev pub Reports : Start → Outcome → List Move → Phase → Type 0
Reports s o [] to = IsBeforeReport s o to
Reports s o (asked a t ∷ moves) to = a ≡ Ask.Do (report_of s o)
Reports s o (move ∷ moves) to = ⊥

-- the start is launched next, and its launch is reported then, with what became of it (own)
abbrev pub IsReported : Start → List Move → Phase → Type 0
IsReported s [] to = IsBeforeLaunch s to
IsReported s (launched tag o ∷ moves) to = (tag ≡ s.tag) × Reports s o moves to
IsReported s (move ∷ moves) to = ⊥

-- the same for each accepted start (own)
abbrev pub AreReported : List Move → Phase → Type 0
AreReported [] to = Unit {0}
AreReported (asked a t ∷ moves) to =
    IfSome (start_made a t) (λ s. IsReported s moves to) × AreReported moves to
AreReported (move ∷ moves) to = AreReported moves to

-- ## whose turns, and in which order

-- a worker's asks: for a pool's, that its launcher or janitor acts, the report of a launch, a look
-- for a due node, and sweeps; for the others, that the role acts (own)
abbrev pub IsAskOf : Work → Ask → Type 0
IsAskOf (of_pool pool) (Ask.Act r) = (r ≡ Role.Launcher pool) ⊎ (r ≡ Role.Janitor pool)
IsAskOf (of_pool pool) (Ask.Do e) = (s : Start) × (o : Outcome) × (e ≡ report_of s o)
IsAskOf (of_pool pool) (Ask.Due p) = p ≡ pool
IsAskOf (of_pool pool) (Ask.Sweep p n x) = p ≡ pool
IsAskOf (of_requester q) a = a ≡ Ask.Act (Role.Requester q)
IsAskOf of_reaper a = a ≡ Ask.Act Role.Reaper

abbrev pub AreAsksOf : Work → List Move → Type 0
AreAsksOf work [] = Unit {0}
AreAsksOf work (asked a t ∷ moves) = IsAskOf work a × AreAsksOf work moves
AreAsksOf work (move ∷ moves) = AreAsksOf work moves

-- a launcher's asks come first, then a janitor's, then the sweeps (own)
abbrev pub stage_of : Ask → ℕ
stage_of (Ask.Act (Role.Janitor pool)) = 1
stage_of (Ask.Due pool) = 1
stage_of (Ask.Sweep pool n x) = 2
stage_of _ = 0

-- no ask is of an earlier stage than one before it (own)
abbrev pub AreInOrder : ℕ → List Move → Type 0
AreInOrder stage [] = Unit {0}
AreInOrder stage (asked a t ∷ moves) = (stage ≤ stage_of a) × AreInOrder (stage_of a) moves
AreInOrder stage (move ∷ moves) = AreInOrder stage moves

-- ## removals

-- the answer names a due node with this server, or says that nobody wants the server that was asked
-- about (own)
abbrev pub NamesServer : Ask → Turn → ℕ → Type 0
NamesServer (Ask.Due pool) (Turn.DueNode n (Some y)) x = y ≡ x
NamesServer (Ask.Sweep pool n y) t x = (y ≡ x) × (is_unwanted t ≡ true)
NamesServer _ _ x = ⊥

-- the removal comes right after a turn that named the server (own)
abbrev pub AreNamed : List Move → Type 0
AreNamed [] = Unit {0}
AreNamed (asked a t ∷ removed x ∷ moves) = NamesServer a t x × AreNamed moves
AreNamed (removed x ∷ moves) = ⊥
AreNamed (move ∷ moves) = AreNamed moves

-- the answer to a sweep of the server was not that nobody wants it (own)
abbrev pub WasKept : PoolId → List Move → Server → Type 0
WasKept pool trace server = (t : Turn)
    × Contains trace (asked (Ask.Sweep pool server.tag.node server.number) t)
    × (is_unwanted t ≡ false)

-- ## what was gained of the history

-- these entries are at these places of the history (own)
abbrev pub StandAt : List Entry → List ℕ → List Entry → Type 0
StandAt seen [] [] = Unit {0}
StandAt seen (x ∷ xs) (e ∷ es) = (slice_get seen x ≡ Some e) × StandAt seen xs es
StandAt seen _ _ = ⊥

-- one's own places grew by the places of these entries (own)
abbrev pub Gains : Sight Entry → List Entry → Sight Entry → Type 0
Gains v entries w = (gained : List ℕ)
    × (w.mine ≡ v.mine ++ gained) × StandAt w.seen gained entries

-- ## how far the roles came

abbrev pub is_did : Turn → Bool
is_did (Turn.Did e) = true
is_did _ = false

-- the role has nothing to do (own)
abbrev pub is_idle : Turn → Bool
is_idle (Turn.Did e) = false
is_idle Turn.Full = false
is_idle _ = true

abbrev pub is_launcher_act : Ask → Bool
is_launcher_act (Ask.Act (Role.Launcher pool)) = true
is_launcher_act _ = false

abbrev pub is_janitor_act : Ask → Bool
is_janitor_act (Ask.Act (Role.Janitor pool)) = true
is_janitor_act _ = false

-- a requester acts, or the reaper (own)
abbrev pub is_lone_act : Ask → Bool
is_lone_act (Ask.Act (Role.Requester q)) = true
is_lone_act (Ask.Act Role.Reaper) = true
is_lone_act _ = false

-- how many of these turns made an entry (own)
abbrev pub did_count : (Ask → Bool) → List Move → ℕ
did_count test [] = 0
did_count test (asked a t ∷ moves) = cond (test a && is_did t) 1 0 + did_count test moves
did_count test (move ∷ moves) = did_count test moves

-- one of these turns found nothing to do (own)
abbrev pub WasIdle : (Ask → Bool) → List Move → Type 0
WasIdle test [] = ⊥
WasIdle test (asked a t ∷ moves) =
    ((test a ≡ true) × (is_idle t ≡ true)) ⊎ WasIdle test moves
WasIdle test (move ∷ moves) = WasIdle test moves

-- there were 16 of these turns that made an entry, or one that found nothing to do (own)
abbrev pub TookAll : (Ask → Bool) → List Move → Type 0
TookAll test moves = (did_count test moves ≡ 16) ⊎ WasIdle test moves

-- the launcher is done (own)
abbrev pub IsPastLauncher : Phase → Type 0
IsPastLauncher (acts (Role.Janitor pool) n) = Unit {0}
IsPastLauncher (looks pool n) = Unit {0}
IsPastLauncher (owes_due pool n x) = Unit {0}
IsPastLauncher (sweeps pool) = Unit {0}
IsPastLauncher (owes_swept pool x) = Unit {0}
IsPastLauncher _ = ⊥

-- the janitor is done (own)
abbrev pub IsPastJanitor : Phase → Type 0
IsPastJanitor (sweeps pool) = Unit {0}
IsPastJanitor (owes_swept pool x) = Unit {0}
IsPastJanitor _ = ⊥

-- ## the end

-- a turn found no room in the journal (own)
abbrev pub WasFull : List Move → Type 0
WasFull [] = ⊥
WasFull (asked a t ∷ moves) = (t ≡ Turn.Full) ⊎ WasFull moves
WasFull (move ∷ moves) = WasFull moves

-- nothing comes after such a turn (own)
abbrev pub EndsWhereFull : List Move → Type 0
EndsWhereFull [] = Unit {0}
EndsWhereFull (asked a t ∷ moves) = (t ≡ Turn.Full → moves ≡ []) × EndsWhereFull moves
EndsWhereFull (move ∷ moves) = EndsWhereFull moves

-- servers of this number were removed (own)
abbrev pub WasRemoved : ℕ → List Move → Type 0
WasRemoved x [] = ⊥
WasRemoved x (removed y ∷ moves) = (y ≡ x) ⊎ WasRemoved x moves
WasRemoved x (move ∷ moves) = WasRemoved x moves
