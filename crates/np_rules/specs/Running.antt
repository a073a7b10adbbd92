-- the machine with its journal, from the start or from an earlier run, and where it writes what changes
use Rattle.std.specs.Prelude.{List, ◌++◌, ◌∷◌, [], Bool, if◌then◌else◌, nat_lt, length, ◌≡◌, ℕ, ◌+◌}
use Rattle.np_changes.specs.Prelude.{Configuration, Entry, Event, Reply, State, judge, next, reply_of, Runs, IsFitSite}
use Rattle.np_event.specs.declared.reply.Refusal.{Refusal}
use Rattle.np_index.specs.Index.{IndexParts, IsIndexOf}

-- the machine with its journal

-- a configuration, the journal that was recorded, and the state that it led to (own)
pub record Ran : Type 0 where
  pub configuration : Configuration
  pub journal : List Entry
  pub state : State

-- the journal may take one more entry (own: 262,144 at most)
abbrev pub has_room : Ran → Bool
has_room m = nat_lt (length m.journal) 262144

-- the machine's reply; full if the journal has no room
abbrev pub answer_of : Ran → Event → Reply
answer_of m e = if has_room m then reply_of (judge m.configuration m.state e) else Reply.Refused Refusal.Full

-- the entry is recorded and the state advances; a full machine stays as it is
abbrev pub applied : Ran → Event → Ran
applied m e = record m {
  journal = if has_room m then m.journal ++ record { event = e; reply = reply_of (judge m.configuration m.state e) } ∷ [] else m.journal;
  state = if has_room m then next m.configuration m.state e else m.state;
}

-- a machine whose journal goes on from an earlier run

-- some run of so many entries, and then of the journal, leads to the state (own)
pub record RunsOn (c : Configuration) (earlier : ℕ) (journal : List Entry) (s : State) : Type 0 where
  pub before : List Entry
  pub many : length before ≡ earlier
  pub runs : Runs c (before ++ journal) s

-- after so many earlier entries, the journal may take one more (own: 262,144 at most in all)
abbrev pub has_room_after : ℕ → Ran → Bool
has_room_after earlier m = nat_lt (earlier + length m.journal) 262144

-- the machine's reply after so many earlier entries; full if there is no room
abbrev pub answer_after : ℕ → Ran → Event → Reply
answer_after earlier m e = if has_room_after earlier m then reply_of (judge m.configuration m.state e) else Reply.Refused Refusal.Full

-- the entry is recorded and the state advances; a full machine stays as it is
abbrev pub applied_after : ℕ → Ran → Event → Ran
applied_after earlier m e = record m {
  journal = if has_room_after earlier m then m.journal ++ record { event = e; reply = reply_of (judge m.configuration m.state e) } ∷ [] else m.journal;
  state = if has_room_after earlier m then next m.configuration m.state e else m.state;
}

-- a machine with where it writes what changes

-- a configuration, how many entries came before the journal, the journal that was recorded, the state
-- that they led to, and the store that has the state (own)
pub record Running (S : Type 0) : Type 0 where
  pub configuration : Configuration
  pub earlier : ℕ
  pub journal : List Entry
  pub state : State
  pub store : S

-- without the store and the earlier entries
abbrev pub ran_of : {S : Type 0} → Running S → Ran
ran_of m = record { configuration = m.configuration; journal = m.journal; state = m.state }

-- the machine ran at a configuration whose numbers leave room, its index is that of the state, and its
-- store has the state (own)
pub record IsKept {S : Type 0} (holds : S → Configuration → State → Type 0) (m : Running S) (parts : IndexParts) : Type 0 where
  pub site : IsFitSite m.configuration
  pub runs : RunsOn m.configuration m.earlier m.journal m.state
  pub index : IsIndexOf m.configuration m.state parts
  pub held : holds m.store m.configuration m.state
