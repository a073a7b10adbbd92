-- what holds of a tree in which a machine writes
use Rattle.std.specs.Prelude.{◌<◌, ◌+◌, ◌-◌, ◌*◌, ◌^◌, ◌≡◌, ℕ, true, List, length}
use Rattle.np_keeper.specs.Lower.{Changes, Configuration, Goes, Growth, HasRoomFor, IsCarried, IsReady, IsStored, Op, SessionsChange, State, TreeState, after_multi, after_parts, changed, decoded, is_in, tree_session, with_begin, with_end, with_spare, writer}

-- the change numbers that a tree may take (own)
abbrev pub most_changes : ℕ
most_changes = 16_777_216

-- the room for the changes that are left: an event takes that of at most 64 parts
abbrev pub room_left : TreeState → ℕ
room_left t = (most_changes - t.changes) * 64

-- the tree stores the state that is read from it, with room for the events to come
pub record IsHeld (c : Configuration) (t : TreeState) : Type 0 where
  pub stored : IsStored c (decoded c t) t
  pub begun : t.begun < 2 ^ 32
  pub room : HasRoomFor (room_left t) t

-- the changes are ready for the tree, and leave a state that it can carry
pub record MayChange (c : Configuration) (ch : Changes) (s : State) : Type 0 where
  pub ready : IsReady c ch s
  pub later : IsCarried c (changed c ch s)
  pub few : length s.sessions + 2 < 2 ^ 32

-- if a session is opened, it can begin without memory
abbrev pub CanBegin : Growth → TreeState → Type 0
CanBegin (Growth.Session role) t = (0 < t.spare) × (t.begun < 4_294_967_295)
CanBegin other t = Unit {0}

-- if a session is opened, there is memory for it
abbrev pub HasSpare : Growth → TreeState → Type 0
HasSpare (Growth.Session role) t = 0 < t.spare
HasSpare other t = Unit {0}

-- a session that expires is live in the tree
abbrev pub CanEnd : SessionsChange → TreeState → Type 0
CanEnd (SessionsChange.End session) t = (session.0 < 4_294_967_295) × (is_in t.live (tree_session session) ≡ true)
CanEnd other t = Unit {0}

-- the tree holds this state of the configuration
pub record Holds (c : Configuration) (s : State) (t : TreeState) : Type 0 where
  pub held : IsHeld c t
  pub state : decoded c t ≡ s

-- the tree after the parts of an event's changes and the begin or the end of a session
abbrev pub made : Changes → List Op → TreeState → TreeState
made ch parts t = with_end ch.sessions (with_begin ch.grows (after_multi t (writer ch.maker) parts))

-- the parts are accepted from a session of 32 bits, the session that is opened can begin after them or
-- the one that expires can end, and the change numbers suffice
pub record CanMake (ch : Changes) (parts : List Op) (t : TreeState) : Type 0 where
  pub session : writer ch.maker < 4_294_967_296
  pub goes : Goes t (writer ch.maker) parts (after_parts t (writer ch.maker) parts)
  pub begins : CanBegin ch.grows (after_multi t (writer ch.maker) parts)
  pub ends : (spare : ℕ) → CanEnd ch.sessions (with_spare (with_begin ch.grows (after_multi t (writer ch.maker) parts)) spare)
  pub number : t.changes < 18_446_744_073_709_551_615
  pub next : (with_begin ch.grows (after_multi t (writer ch.maker) parts)).changes < 18_446_744_073_709_551_615
