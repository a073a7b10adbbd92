-- the parts and the stages of a round
use Rattle.std.specs.Prelude.{◌≡◌, ◌⊎◌, ℕ, ◌+◌, length, List, [], ◌∷◌, All, Bool, true, false, Option, Some, None, IfSome, Result, Ok, Err, ◌*◌, ◌<◌, ◌≤◌, ◌^◌}
use Rattle.np_worker.specs.Prelude.{Drives, Driving, Drove, IsOfServer, Leads, Move, OwesRemoval, Phase, Server, Sight, Walk, WasKept, after_turn, asked, removed, without_number, Work, acts, ended, looks, of_pool, of_reaper, of_requester, owes_due, owes_launch, owes_report, owes_swept, report_of, rests, sweeps}
use Rattle.np_worker.specs.declared.ask.Ask.{Ask}
use Rattle.np_worker.specs.declared.ask.Turn.{Turn}
use Rattle.np_worker.specs.declared.next.Next.{Next}
use Rattle.np_worker.specs.declared.playing.Playing.{Playing}
use Rattle.np_worker.specs.declared.stage.Stage.{Stage}
use Rattle.np_worker.specs.Lower.{Entry, NoMemory, PoolId, Role, Rose, option_map}
use Rattle.np_worker.specs.Move as phase

-- a part of a round

-- how many entries a turn made (own)
abbrev pub entry_count : Turn → ℕ
entry_count (Turn.Did e) = 1
entry_count _ = 0

-- the count of entries rose by as many as one's own places (own)
abbrev pub Counts : ℕ → Sight Entry → ℕ → Sight Entry → Type 0
Counts n v m w = m + length v.mine ≡ n + length w.mine

-- more removals failed (own)
abbrev pub RemovalFailed : Option Driving → Option Driving → Type 0
RemovalFailed (Some before) (Some now) = Rose before.facts.remove_faults now.facts.remove_faults
RemovalFailed _ _ = ⊥

-- the worker's servers were all asked about and kept (own)
abbrev pub AreKept : PoolId → List Move → Option Driving → Type 0
AreKept pool trace None = Unit {0}
AreKept pool trace (Some now) = IfSome now.facts.servers (λ servers. All (WasKept pool trace) servers)

module _ {F : Type 0} (answers : F → List Entry → Ask → Turn → Type 0) (f : F) where
  -- there are moves that may come from this phase on, that saw and made this of the history, and
  -- did this with the driver; this holds of them and of the phase that they lead to (own)
  pub record Part (from : Phase) (v w : Sight Entry) (before now : Option Driving) (Holds : List Move → Phase → Type 0) : Type 0 where
    pub trace : List Move
    pub to : Phase
    pub walked : Walk answers f trace v w
    pub drove : Drove trace before now
    pub led : Leads from trace to
    pub holds : Holds trace to

-- what a part came to, by how the round goes on: it may end where the journal has no room, or with a removal that failed (own)
abbrev pub ComesTo : Type 0 → Type 0 → Type 0 → Result Next NoMemory → Phase → Type 0
ComesTo go idle failed (Ok Next.Go) to = go
ComesTo go idle failed (Ok Next.Idle) to = idle
ComesTo go idle failed (Ok Next.Full) to = to ≡ phase.ended
ComesTo go idle failed (Ok Next.Failed) to = OwesRemoval to × failed
ComesTo go idle failed (Err _) to = Unit {0}

-- the phase that a part without removals leads to (own)
abbrev pub Goes : Phase → Phase → Result Next NoMemory → List Move → Phase → Type 0
Goes go idle r trace to = ComesTo (to ≡ go) (to ≡ idle) ⊥ r to

-- the same with removals, of which one may have failed (own)
abbrev pub Comes : Phase → Phase → Option Driving → Option Driving → Result Next NoMemory → List Move → Phase → Type 0
Comes go idle before now r trace to = ComesTo (to ≡ go) (to ≡ idle) (RemovalFailed before now) r to

-- what a turn came to in this phase (own)
abbrev pub Came : Phase → Ask → Result Turn NoMemory → List Move → Phase → Type 0
Came p ask (Ok t) trace to = (trace ≡ asked ask t ∷ []) × (to ≡ after_turn p ask t)
Came p ask (Err _) trace to = Unit {0}

-- an ask about a server is about one that the driver has (own)
abbrev pub IsOfDriver : Ask → Option Driving → Type 0
IsOfDriver ask None = Unit {0}
IsOfDriver ask (Some now) = IfSome now.facts.servers (λ servers. IsOfServer ask servers)

-- the server was asked about and kept, or its number was removed (own)
abbrev pub IsDealtWith : PoolId → Server → Driving → Driving → List Move → Type 0
IsDealtWith pool server before now trace =
    (WasKept pool trace server × (now.facts.servers ≡ before.facts.servers))
    ⊎ (now.facts.servers ≡ option_map (without_number server.number) before.facts.servers)

-- what the sweep of one server came to (own)
abbrev pub SweepsOne : PoolId → Server → Driving → Driving → Result Next NoMemory → List Move → Phase → Type 0
SweepsOne pool server before now r trace to =
    ComesTo ((to ≡ phase.sweeps pool) × IsDealtWith pool server before now trace) ⊥ (RemovalFailed (Some before) (Some now)) r to

-- what a pool's round came to (own)
abbrev pub SweepsAll : PoolId → Driving → Driving → Result Next NoMemory → List Move → Phase → Type 0
SweepsAll pool before now r trace to =
    ComesTo ((to ≡ phase.sweeps pool) × AreKept pool trace (Some now)) ((to ≡ phase.sweeps pool) × AreKept pool trace (Some now)) (RemovalFailed (Some before) (Some now)) r to

-- whether the journal has no room (own)
abbrev pub is_full : Next → Bool
is_full Next.Full = true
is_full _ = false

-- what a removal came to (own)
abbrev pub RemovalEnds : ℕ → Driving → Driving → Next → Type 0
RemovalEnds x before now Next.Go = Drives (removed x ∷ []) before now
RemovalEnds x before now Next.Failed = Drives [] before now × RemovalFailed (Some before) (Some now)
RemovalEnds x before now _ = ⊥

-- the stages of a round, and the phases that they are

abbrev pub phase_of : Stage → Phase
phase_of (Stage.Acts r n) = acts r n
phase_of (Stage.Launches pool n s) = owes_launch pool n s
phase_of (Stage.Reports pool n s o) = owes_report pool n s o
phase_of (Stage.Looks pool n) = looks pool n
phase_of (Stage.Removes pool n x) = owes_due pool n x
phase_of (Stage.Sweeps pool) = sweeps pool
phase_of Stage.Rests = rests
phase_of Stage.Ended = ended

-- what is asked in a turn, if a turn comes next (own)
abbrev pub ask_of : Stage → Option Ask
ask_of (Stage.Acts r n) = Some (Ask.Act r)
ask_of (Stage.Reports pool n s o) = Some (Ask.Do (report_of s o))
ask_of (Stage.Looks pool n) = Some (Ask.Due pool)
ask_of _ = None

-- what a series of turns asks next (own)
abbrev pub asks : Playing → Option Ask
asks p = ask_of p.stage

-- what an answer leads to; the count is right where it is less than 2 ^ 32 (own)
abbrev pub Hears : Playing → Turn → Playing → Type 0
Hears p t q = ((a : Ask) → ask_of p.stage ≡ Some a → phase_of q.stage ≡ after_turn (phase_of p.stage) a t)
    × (q.entries < 2 ^ 32 → q.entries ≡ p.entries + entry_count t)

-- ## whose stage it is

-- who plays a role (own)
abbrev pub player : Role → Work
player (Role.Launcher pool) = of_pool pool
player (Role.Janitor pool) = of_pool pool
player (Role.Requester q) = of_requester q
player Role.Reaper = of_reaper

-- it plays one role, which does nothing but act (own)
abbrev pub IsLone : Work → Type 0
IsLone (of_pool pool) = ⊥
IsLone _ = Unit {0}

-- the phase is one of this worker's round (own)
abbrev pub IsOfWork : Work → Phase → Type 0
IsOfWork w (acts r n) = player r ≡ w
IsOfWork w (owes_launch pool n s) = of_pool pool ≡ w
IsOfWork w (owes_report pool n s o) = of_pool pool ≡ w
IsOfWork w (looks pool n) = of_pool pool ≡ w
IsOfWork w (owes_due pool n x) = of_pool pool ≡ w
IsOfWork w (sweeps pool) = of_pool pool ≡ w
IsOfWork w (owes_swept pool x) = of_pool pool ≡ w
IsOfWork w rests = IsLone w
IsOfWork w ended = Unit {0}

-- ## how long it may go on

-- how many turns, launches and removals may come; those of the servers at the end are not counted (own)
abbrev pub steps_left : Phase → ℕ
steps_left (acts (Role.Launcher pool) n) = 51 + 3 * n
steps_left (acts (Role.Janitor pool) n) = 1 + 3 * n
steps_left (acts _ n) = 1 + n
steps_left (owes_launch pool n s) = 50 + 3 * n
steps_left (owes_report pool n s o) = 49 + 3 * n
steps_left (looks pool n) = 3 + 3 * n
steps_left (owes_due pool n x) = 2 + 3 * n
steps_left _ = 0

-- turns were taken until another move comes, or 16 of them (own)
abbrev pub WentFar : Phase → Stage → Type 0
WentFar from s = (steps_left (phase_of s) ≤ steps_left from)
    × ((ask_of s ≡ None) ⊎ (steps_left (phase_of s) + 16 ≤ steps_left from))

-- the roles took their turns (own)
abbrev pub IsPlayed : Phase → Type 0
IsPlayed (sweeps pool) = Unit {0}
IsPlayed rests = Unit {0}
IsPlayed _ = ⊥

-- how a stage went on (own)
abbrev pub WentOn : Next → Phase → Phase → Type 0
WentOn Next.Go before now = steps_left now < steps_left before
WentOn Next.Idle before now = IsPlayed now
WentOn _ before now = Unit {0}

-- the phase that a series of turns leads to (own)
abbrev pub Reaches : Result Stage NoMemory → List Move → Phase → Type 0
Reaches (Ok s) trace to = to ≡ phase_of s
Reaches (Err _) trace to = Unit {0}
