-- a worker's round and a round of all players at a board, and which role an entry is of
use Rattle.std.specs.Prelude.{◌≡◌, ◌++◌, ◌∷◌, [], ℕ, List, length, Some, ◌<◌, ◌≤◌, map, All, Contains, Bool, false, ◌⊎◌, true, IfOk, Option, Result}
use Rattle.np_worker.specs.Prelude.{IsAskOf, StartsWith, Work, Drove, Leads, Move, Phase, Sight, Walk, ended, first_phase, owes_launch, owes_report, AreRising, Driving, IsUseful, Server, asked, of_pool, of_reaper, of_requester}
use Rattle.np_worker.specs.declared.ask.Ask.{Ask}
use Rattle.np_worker.specs.Servers.{answers_of, DrivenAs, Player, WasAnswered, HasServers, IsOfRound, IsOnlyNodeOfItsNumber, IsOnlyOfItsNumber, IsSweptAfter, KeepsJanitor, LeftWithCause, StaysKept, WasDue, WasUnwanted}
use Rattle.np_worker.specs.declared.ask.Turn.{Turn}
use Rattle.np_worker.specs.Move.{entries_of}
use Rattle.np_worker.specs.Trace.{StandAt, WasFull, did_count, is_launcher_act, is_janitor_act, is_lone_act}
use Rattle.np_worker.specs.declared.worker.RoundEnd.{RoundEnd}
use Rattle.np_worker.specs.Moves.{AreOrderly}
use Rattle.np_worker.specs.Stage.{RemovalFailed}
use Rattle.np_worker.specs.Lower.{Configuration, Done, Entry, Event, Janitor, Launcher, NoMemory, PoolId, Reaper, Reply, Requester, Role, SessionId, State, after, maker_of, role_of}

-- which role the entries of a round are of

-- the event is the role's: the session that makes it is of the role, a session that it opens is of the role, and sessions are crashed and expired by the reaper alone (own)
pub record IsOfRole (role : Role) (s : State) (e : Event) : Type 0 where
  pub maker : (session : SessionId) → maker_of e ≡ Some session → role_of session s ≡ Some role
  pub opens : (r : Role) → e ≡ Event.OpenSession r → r ≡ role
  pub crashes : (session : SessionId) → e ≡ Event.Crash session → role ≡ Reaper
  pub expires : (session : SessionId) → e ≡ Event.Expire session → role ≡ Reaper

-- the entry at the place is of a role that the worker acts for (own)
pub record IsOfWorker (c : Configuration) (seen : List Entry) (work : Work) (x : ℕ) : Type 0 where
  pub before : List Entry
  pub entry : Entry
  pub place : length before ≡ x
  pub stands : StartsWith seen (before ++ entry ∷ [])
  pub role : Role
  pub own : IsAskOf work (Ask.Act role)
  pub of_role : IsOfRole role (after c before) entry.event

-- a round of all players, as each of them took its turns at one history

-- a player after its round: what it saw and made of the history, and the phase that its moves led
-- to (own)
pub record PlayerEnd : Type 0 where
  pub player : Player
  pub sight : Sight Entry
  pub phase : Phase

-- nothing of one's own was made of this history yet (own)
abbrev pub fresh_sight : List Entry → Sight Entry
fresh_sight history = record { seen = history; mine = [] }

-- the player took the turns of its round, after this history, and its driver did what the moves say;
-- its events may be planned, or not (own)
pub record PlaysFrom (plans : Bool) (c : Configuration) (history : List Entry) (player : Player) (end : PlayerEnd) : Type 0 where
  pub trace : List Move
  pub walked : Walk (answers_of plans) c trace (fresh_sight history) end.sight
  pub drove : Drove trace player.driving end.player.driving
  pub led : Leads (first_phase player.work) trace end.phase
  pub work : end.player.work ≡ player.work

-- so did each of them (own)
abbrev pub EachPlaysFrom : Bool → Configuration → List Entry → List Player → List PlayerEnd → Type 0
EachPlaysFrom plans c history [] [] = Unit {0}
EachPlaysFrom plans c history (player ∷ players) (end ∷ ends) = PlaysFrom plans c history player end × EachPlaysFrom plans c history players ends
EachPlaysFrom plans c history _ _ = ⊥

-- some player made the entry at the place (own)
pub record IsMade (ends : List PlayerEnd) (x : ℕ) : Type 0 where
  pub end : PlayerEnd
  pub there : Contains ends end
  pub made : Contains end.sight.mine x

-- the round was cut off: the launch of a start or its report is still to come, or a turn found no
-- room in the journal (own)
abbrev pub IsCutOff : Phase → Type 0
IsCutOff (owes_launch pool n s) = Unit {0}
IsCutOff (owes_report pool n s o) = Unit {0}
IsCutOff ended = Unit {0}
IsCutOff _ = ⊥

-- the players played a round, and only their entries were added to the history. If the round of all
-- was not cut off, none of theirs was (own)
pub record IsRound (plans : Bool) (c : Configuration) (history later : List Entry) (players now : List Player) (is_cut : Bool) : Type 0 where
  pub ends : List PlayerEnd
  pub plays : EachPlaysFrom plans c history players ends
  pub players_now : map (λ (end : PlayerEnd). end.player) ends ≡ now
  pub goes_on : StartsWith later history
  pub seen : All (λ (end : PlayerEnd). StartsWith later end.sight.seen) ends
  pub made : (x : ℕ) → length history ≤ x → x < length later → IsMade ends x
  pub uncut : is_cut ≡ false → All (λ (end : PlayerEnd). IsCutOff end.phase → ⊥) ends

-- a worker's round at a board: where its entries stand, of which role they are, how far its roles came, and what became of its servers

-- ## how far the roles came

-- at some time of the round, after a history that was seen, the role had no useful event (own)
pub record HadNothing (c : Configuration) (role : Role) (history seen : List Entry) : Type 0 where
  pub before : List Entry
  pub of_round : StartsWith before history
  pub of_seen : StartsWith seen before
  pub nothing : (e : Event) → IsUseful c (after c before) role e → ⊥

-- the turns in which the role acts, among those of its worker (own)
abbrev pub acts_as : Role → Ask → Bool
acts_as (Launcher pool) = is_launcher_act
acts_as (Janitor pool) = is_janitor_act
acts_as _ = is_lone_act

-- 16 turns of the role made an entry, or it had no useful event at some time of the round (own)
abbrev pub CameFar : Configuration → List Entry → List Entry → List Move → Role → Type 0
CameFar c history seen trace role = (did_count (acts_as role) trace ≡ 16) ⊎ HadNothing c role history seen

-- each role of the worker did; the janitor, unless a removal failed (own)
abbrev pub RolesCameFar : Configuration → Work → List Entry → List Entry → List Move → Type 0 → Type 0
RolesCameFar c (of_pool pool) history seen trace failed =
    CameFar c history seen trace (Launcher pool) × ((failed → ⊥) → CameFar c history seen trace (Janitor pool))
RolesCameFar c (of_requester q) history seen trace failed = CameFar c history seen trace (Requester q)
RolesCameFar c of_reaper history seen trace failed = CameFar c history seen trace Reaper

-- ## sweeps

-- a sweep that made an entry was answered that nobody wants the server (own)
abbrev pub IsSweptSo : Ask → Turn → Type 0
IsSweptSo (Ask.Sweep pool n x) (Turn.Did e) = e.reply ≡ Reply.Done Done.Remove
IsSweptSo _ _ = Unit {0}

abbrev pub AreSweptSo : List Move → Type 0
AreSweptSo [] = Unit {0}
AreSweptSo (asked a t ∷ moves) = IsSweptSo a t × AreSweptSo moves
AreSweptSo (move ∷ moves) = AreSweptSo moves

-- ## servers

-- a server left with a cause. If no other server of the round has its number, it is itself swept; if no other node of the pool has a server of that number, the due node is its own (own)
pub record HasLeft (c : Configuration) (history seen : List Entry) (pool : PoolId) (trace : List Move) (servers : List Server) (server : Server) : Type 0 where
  pub cause : LeftWithCause c history seen pool trace servers server
  pub own_pair : IsOnlyOfItsNumber trace servers server → WasDue c history seen pool server.number ⊎ IsSweptAfter c seen server
  pub own_node : IsOnlyNodeOfItsNumber c history seen pool server → (due : WasDue c history seen pool server.number) → due.node ≡ server.tag.node

module _ (plans : Bool) (c : Configuration) where
  -- each server that the driver had before the round or launched in it, and no longer has, left so (own)
  abbrev pub ServersLeave : (history : List Entry) (player : Player) (end : PlayerEnd) → PlaysFrom plans c history player end → Type 0
  ServersLeave history player end plays = (pool : PoolId) (before now : List Server)
      → player.work ≡ of_pool pool → HasServers player before → HasServers end.player now
      → (server : Server) → IsOfRound plays.trace before server → (Contains now server → ⊥)
      → HasLeft c history end.sight.seen pool plays.trace before server

  -- each server that the driver has after the round was kept at some time of it, after which the round made no entries but sweeps (own)
  abbrev pub ServersStay : List Entry → Player → PlayerEnd → Type 0
  ServersStay history player end = (pool : PoolId) (now : List Server)
      → player.work ≡ of_pool pool → HasServers end.player now → All (StaysKept c history end.sight pool) now

  -- if the journal before was driven, a server that had been named in it and that no record wanted is gone, where the pool had a janitor throughout: so one whose removal had failed (own)
  abbrev pub ServersGo : List Entry → Player → PlayerEnd → Type 0
  ServersGo history player end = (drivings : List Driving) (pool : PoolId) (now : List Server)
      → player.work ≡ of_pool pool → HasServers end.player now
      → DrivenAs (WasAnswered drivings) plans c history → KeepsJanitor c history end.sight.seen pool
      → (server : Server) → WasUnwanted c history server → Contains now server → ⊥

  -- ## the round

  -- what is known where memory sufficed: how many entries were made, whether a turn found the journal full, and if none did, how far the roles came and which servers are left (own)
  pub record CameToEnd (history : List Entry) (player : Player) (end : PlayerEnd) (plays : PlaysFrom plans c history player end) (is : RoundEnd) : Type 0 where
    pub entries : is.entries ≡ length end.sight.mine
    pub full : is.full ≡ true → WasFull plays.trace
    pub room : is.full ≡ false → WasFull plays.trace → ⊥
    pub roles : is.full ≡ false → RolesCameFar c player.work history end.sight.seen plays.trace (RemovalFailed player.driving end.player.driving)
    pub stay : is.full ≡ false → (RemovalFailed player.driving end.player.driving → ⊥) → ServersStay history player end
    pub go : is.full ≡ false → (RemovalFailed player.driving end.player.driving → ⊥) → ServersGo history player end

  -- a worker's round after this history, at a board at which events may be planned or not (own)
  pub record IsRoundAtBoard (history : List Entry) (player : Player) (end : PlayerEnd) (result : Result RoundEnd NoMemory) : Type 0 where
    pub plays : PlaysFrom plans c history player end
    pub orderly : AreOrderly player.work plays.trace end.phase
    -- the entries that it made stand in what was seen, in order and after the history
    pub stand : StandAt end.sight.seen end.sight.mine (entries_of plays.trace)
    pub rising : AreRising (length history) end.sight.mine (length end.sight.seen)
    -- each is of a role that the worker acts for
    pub makers : (x : ℕ) → Contains end.sight.mine x → IsOfWorker c end.sight.seen player.work x
    -- a sweep recorded nothing but that nobody wants the server
    pub swept : AreSweptSo plays.trace
    pub leave : ServersLeave history player end plays
    pub ended : IfOk result (CameToEnd history player end plays)

  -- a worker's round through a pass that may have earlier places: they stay, and those of this round come after them (own)
  pub record HasRoundAtBoard (work : Work) (v w : Sight Entry) (before now : Option Driving) (result : Result RoundEnd NoMemory) : Type 0 where
    pub gained : List ℕ
    pub phase : Phase
    pub mine : w.mine ≡ v.mine ++ gained
    pub round : IsRoundAtBoard v.seen
        (record { work = work; driving = before })
        (record {
          player = record { work = work; driving = now };
          sight = record { seen = w.seen; mine = gained };
          phase = phase;
        })
        result

-- the answers of these turns are those of a board, whose configuration is part of what no turn changes (own)
abbrev pub AnswersAsBoard : {F : Type 0} → Bool → (F → Configuration) → (F → List Entry → Ask → Turn → Type 0) → Type 0
AnswersAsBoard {F} plans site answers = (f : F) (history : List Entry) (a : Ask) (t : Turn) → answers f history a t → answers_of plans (site f) history a t
