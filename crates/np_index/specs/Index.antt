-- what an index has, when it is the index of a state, and what is prepared before the state changes
use Rattle.std.specs.Prelude.{ℕ, Bool, true, false, ◌&&◌, if◌then◌else◌, List, [], ◌∷◌, Option, Some, None, filter, find, map, option_and_then, slice_get, ◌≡◌, ◌==◌, not, nat_lt}
use Rattle.np_index.specs.Waiting.{AreAwaited, first_rest}
use Rattle.np_index.specs.declared.awaited.Rest.{Rest}
use Rattle.np_index.specs.Lower.{ActiveOf, ActivePast, Amount, AreActive, AreClasses, AreGiven, AreGivenPrepared, AreLookupsOf, AreLookupsPrepared, AreMovedOf, AreOpen, Changes, ClassesOf, Configuration, GivenOf, GivenPrepared, Group, HasRoomForActive, HasRoomForGiven, HasRoomForMoved, HasRoomForPast, IsActivePast, IsPast, IsTouched, LookupsOf, LookupsPrepared, NodeId, OpenOf, Past, PastOf, PoolId, Rank, Registration, RequestEntry, RequestId, RequestRecord, SessionId, SessionsChange, State, TouchedOf, amount_of, comes_before, decline_set, insert_before, is_candidate, is_declined_by_all, is_id_before, is_open_to, is_rank_before, node_in, nothing, option_map, option_map_or, rank_of, request_entry}

-- the requests that a pool's launcher may take up, in the order in which launchers take them up

-- entries in the order in which launchers take them up
abbrev pub in_order : List RequestEntry → List RequestEntry
in_order [] = []
in_order (e ∷ entries) = insert_before (λ other. comes_before e other) e (in_order entries)

-- the candidates of the pool in that order: the one at this place
abbrev pub candidate_of : Configuration → State → PoolId → ℕ → Option RequestId
candidate_of c s p at = option_map (λ e. e.id) (slice_get (in_order (filter (is_candidate c s p) s.requests)) at)

-- ## by ranks

-- the ranks of the candidates of the pool in that order
abbrev pub candidate_ranks : Configuration → State → PoolId → List Rank
candidate_ranks c s p = map (λ e. rank_of e.id e.kept) (in_order (filter (is_candidate c s p) s.requests))

-- there is such a request, and the pool's launcher may take it up
abbrev pub may_take_up : Configuration → State → PoolId → RequestId → Bool
may_take_up c s p r = option_map_or (is_candidate c s p) (request_entry r s.requests) false

-- the record of the request, if it is open to the pool
abbrev pub open_record : PoolId → RequestId → State → Option RequestRecord
open_record p r s = option_and_then (λ e. if is_open_to p e then Some e.kept else None) (request_entry r s.requests)

-- the rank comes after the one that is given, if one is
abbrev pub is_past : Option Rank → Rank → Bool
is_past None x = true
is_past (Some given) x = is_rank_before given x

-- the first of these ranks that comes after the one that is given and that the pool's launcher may take up
abbrev pub next_among : Configuration → State → PoolId → Option Rank → List Rank → Option Rank
next_among c s p given ranks = find (λ x. is_past given x && may_take_up c s p x.request) ranks

-- of two ranks the one that comes first, the best so far if the other is not there
abbrev pub earlier_rank : Option Rank → Option Rank → Option Rank
earlier_rank None found = found
earlier_rank (Some best) None = Some best
earlier_rank (Some best) (Some found) = if is_rank_before found best then Some found else Some best

-- what an index has, and when it is the index of a state

-- the parts of an index, with what the pending requests of each tenant still wait for (own)
pub record IndexParts : Type 0 where
  pub lookups : LookupsOf
  pub classes : ClassesOf
  pub awaited : List Amount
  pub requested : OpenOf
  pub active : ActiveOf
  pub given : GivenOf

-- each part says what the state says
pub record IsIndexOf (c : Configuration) (s : State) (index : IndexParts) : Type 0 where
  pub lookups : AreLookupsOf c s index.lookups
  pub classes : AreClasses c s index.classes
  pub awaited : AreAwaited c s index.awaited
  pub requested : AreOpen c s index.requested
  pub active : AreActive c s index.active
  pub given : AreGiven c s index.given

-- what is prepared of an index before a state changes

-- what was found of each part (own)
pub record PreparedOf : Type 0 where
  -- what the changes touch
  pub touched : TouchedOf
  -- these nodes and requests, with their groups
  pub past : PastOf
  -- what the request whose record may change waits for
  pub before : Option Rest
  -- these requests, with their records
  pub moved : List Past
  -- the jobs and the sessions that the changes touch, with their groups
  pub placed : ActivePast
  -- the nodes to put anew of those that were given, with their groups
  pub given : GivenPrepared
  -- the rest of the lookups' changes
  pub lookups : LookupsPrepared

-- there is room in each part for what the changes put
pub record HasRoomFor (c : Configuration) (prepared : PreparedOf) (index : IndexParts) : Type 0 where
  pub classes : HasRoomForPast prepared.past index.classes
  pub requested : HasRoomForMoved c prepared.moved index.requested
  pub active : HasRoomForActive prepared.placed index.active
  pub given : HasRoomForGiven prepared.given index.given

-- each part but the lookups still says what the state says, and all that the changes touch is found. What
-- grows is in the lookups already: where a session ends nothing grows
pub record IsPreparedFor (c : Configuration) (s : State) (ch : Changes) (prepared : PreparedOf) (index : IndexParts) : Type 0 where
  pub lookups : AreLookupsPrepared c s ch index.lookups prepared.lookups
  pub ends : (session : SessionId) → ch.sessions ≡ SessionsChange.End session → AreLookupsOf c s index.lookups
  pub classes : AreClasses c s index.classes
  pub touched : IsTouched s ch prepared.touched
  pub past : IsPast c s prepared.touched prepared.past
  pub awaited : AreAwaited c s index.awaited
  pub before : prepared.before ≡ first_rest c s prepared.touched.requests
  pub requested : AreOpen c s index.requested
  pub moved : AreMovedOf s ch prepared.moved
  pub active : AreActive c s index.active
  pub placed : IsActivePast c s index.active.lines prepared.touched prepared.placed
  pub given : AreGiven c s index.given
  pub listed : AreGivenPrepared c s ch prepared.given
  pub room : HasRoomFor c prepared index

-- the requests that every registered pool declined, by the sets of pools that declined (own)

-- the pool's number is past those of any configuration
abbrev pub is_late : Registration → Bool
is_late row = not (nat_lt row.pool.0 64)

-- every registered pool declined it, and the pools of this set did and no others
abbrev pub is_of_set : State → ℕ → RequestEntry → Bool
is_of_set s set e = is_declined_by_all s e.kept && (decline_set e.kept.declined == set)

-- the first such request
abbrev pub first_of_set : ℕ → State → Option RequestId
first_of_set set s = option_map (λ e. e.id) (find (is_of_set s set) s.requests)

-- the one that comes first by priority and then sequence
abbrev pub earlier : Option RequestId → Option RequestId → Option RequestId
earlier None other = other
earlier (Some a) None = Some a
earlier (Some a) (Some b) = if is_id_before b a then Some b else Some a

-- what is read of a node by its id

-- what the node takes of its pool, nothing if it is not there
abbrev pub taken_by : Configuration → State → NodeId → Amount
taken_by c s n = option_map_or (λ k. amount_of c k.pool k.label) (node_in n s.nodes) nothing

-- groups that differ in their third number alone (own)

-- both are of one class, and have one first and one second number
abbrev pub is_alike : Group → Group → Bool
is_alike g h = (g.class == h.class) && ((g.first == h.first) && (g.second == h.second))

-- the third number of a group that was found, if it is like the other
abbrev pub third_if : Group → Option Group → Option ℕ
third_if g None = None
third_if g (Some found) = if is_alike found g then Some found.third else None
