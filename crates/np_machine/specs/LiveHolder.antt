-- who holds a node or a request, read from the journal alone
use Rattle.std.specs.Prelude.{◌≡◌, Bool, true, false, ◌==◌, ◌&&◌, if◌then◌else◌, List, [], ◌∷◌, ◌++◌, is_some, slice_get}
use Rattle.std.specs.List.{AllByRecursion}
use Rattle.std.specs.Option.{option_map_or}
use Rattle.np_machine.specs.Tables.{is_session, same_request, is_marked, request_in}
use Rattle.np_machine.specs.Step.{next}
use Rattle.np_machine.specs.History.{after, state_after}
use Rattle.np_machine.specs.Turns.{is_done}
use Rattle.np_machine.specs.State.{State, start}
use Rattle.np_machine.specs.Lower.{Configuration, Done, Entry, Event, JobId, NodeId, Reply, RequestId, SessionId}

-- ## replies

abbrev pub is_held : Done → Bool
is_held Done.Held = true
is_held _ = false

-- the reply names the node that was made
abbrev pub is_new_node : NodeId → Done → Bool
is_new_node n (Done.Node m) = m.0 == n.0
is_new_node n _ = false

-- ## nodes

abbrev pub is_node : NodeId → NodeId → Bool
is_node n m = m.0 == n.0

-- the job has the node among its nodes
abbrev pub has_node : NodeId → JobId → State → Bool
has_node n j s = option_map_or (is_marked n) (slice_get s.jobs j.0) false

-- an entry by which the session holds the node; later is the state after it
abbrev pub is_holding : SessionId → NodeId → State → Event → Done → Bool
is_holding session n later (Event.TakeReady by r m) what = is_session by session && is_node n m && is_held what
is_holding session n later (Event.Create by r) what = is_session by session && is_new_node n what
is_holding session n later (Event.Start by m) what = is_session by session && is_node n m
is_holding session n later (Event.Done by m attempt o) what = is_session by session && is_node n m
is_holding session n later (Event.LockNode by m) what = is_session by session && is_node n m && is_held what
is_holding session n later (Event.Take by j) what = is_session by session && has_node n j later
is_holding session n later (Event.EndNode by m as_what) what = is_session by session && is_node n m
is_holding session n later (Event.MarkDeleting by m) what = is_session by session && is_node n m
is_holding session n later (Event.FreeNode by m) what = is_session by session && is_node n m
is_holding session n later _ what = false

-- an entry after which the session no longer holds the node: it unlocked it, it expired, or the
-- node is gone
abbrev pub is_ending : SessionId → NodeId → Event → Bool
is_ending session n (Event.Expire other) = is_session other session
is_ending session n (Event.UnlockNode by m) = is_session by session && is_node n m
is_ending session n (Event.Gone by m) = is_node n m
is_ending session n _ = false

-- a refused entry changes nothing
abbrev pub holds_after : SessionId → NodeId → Bool → State → Event → Reply → Bool
holds_after session n held later e (Reply.Refused why) = held
holds_after session n held later e (Reply.Done what) =
    if is_ending session n e then false else (if is_holding session n later e what then true else held)

-- over the rest of a journal, from the state before it
abbrev pub holds_from : Configuration → State → SessionId → NodeId → Bool → List Entry → Bool
holds_from c s session n held [] = held
holds_from c s session n held (entry ∷ journal) =
    holds_from c (next c s entry.event) session n (holds_after session n held (next c s entry.event) entry.event entry.reply) journal

-- the journal has a holding entry of the session on the node, and after it no ending one (own)
abbrev pub IsLiveHolder : Configuration → List Entry → SessionId → NodeId → Type 0
IsLiveHolder c journal session n = holds_from c (start c) session n false journal ≡ true

-- ## the same, in terms of one entry

-- the entry was accepted, and the session no longer holds the node after it
abbrev pub ends_hold : SessionId → NodeId → Entry → Bool
ends_hold session n entry = is_done entry.reply && is_ending session n entry.event

-- from the state on, an entry by which the session holds the node was accepted, and none after it ends that
pub record HoldsSince (c : Configuration) (s : State) (journal : List Entry) (session : SessionId) (n : NodeId) : Type 0 where
  pub before : List Entry
  pub entry : Entry
  pub rest : List Entry
  pub what : Done
  pub splits : journal ≡ before ++ entry ∷ rest
  pub accepted : entry.reply ≡ Reply.Done what
  pub holds : is_holding session n (state_after c s (before ++ entry ∷ [])) entry.event what ≡ true
  pub none_ends : AllByRecursion (λ e. ends_hold session n e ≡ false) rest

-- ## requests

-- the session locked the request
abbrev pub is_locking : SessionId → RequestId → Event → Done → Bool
is_locking session r (Event.LockRequest by q) what = is_session by session && same_request q r && is_held what
is_locking session r _ what = false

-- the session unlocked the request, or expired
abbrev pub is_unlocking : SessionId → RequestId → Event → Bool
is_unlocking session r (Event.Expire other) = is_session other session
is_unlocking session r (Event.UnlockRequest by q) = is_session by session && same_request q r
is_unlocking session r _ = false

abbrev pub locks_after : SessionId → RequestId → Bool → Event → Reply → Bool
locks_after session r held e (Reply.Refused why) = held
locks_after session r held e (Reply.Done what) =
    if is_unlocking session r e then false else (if is_locking session r e what then true else held)

abbrev pub locks_from : SessionId → RequestId → Bool → List Entry → Bool
locks_from session r held [] = held
locks_from session r held (entry ∷ journal) = locks_from session r (locks_after session r held entry.event entry.reply) journal

-- the request is there, and the session locked it and neither unlocked it nor expired since (own)
abbrev pub IsLiveRequestHolder : Configuration → List Entry → SessionId → RequestId → Type 0
IsLiveRequestHolder c journal session r =
    (is_some (request_in r (after c journal).requests) ≡ true) × (locks_from session r false journal ≡ true)

-- the entry was accepted, and the session no longer has the request's lock after it
abbrev pub ends_lock : SessionId → RequestId → Entry → Bool
ends_lock session r entry = is_done entry.reply && is_unlocking session r entry.event

-- an entry by which the session locked the request was accepted, and none after it ends that
pub record LockedSince (journal : List Entry) (session : SessionId) (r : RequestId) : Type 0 where
  pub before : List Entry
  pub entry : Entry
  pub rest : List Entry
  pub what : Done
  pub splits : journal ≡ before ++ entry ∷ rest
  pub accepted : entry.reply ≡ Reply.Done what
  pub locks : is_locking session r entry.event what ≡ true
  pub none_ends : AllByRecursion (λ e. ends_lock session r e ≡ false) rest
