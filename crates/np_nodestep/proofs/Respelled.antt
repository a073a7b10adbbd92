-- a tree in which a node's record stands in another spelling stores the same state
use Rattle.std.proofs.Common.{◌≡◌, ℕ, ◌+◌, ◌-◌, ◌*◌, ◌<◌, Bool, true, false, cond, List, [], ◌∷◌, refl, sym, ap, subst, arith}
use Rattle.np_changes.specs.Prelude.{Configuration, NodeEntry, NodeId, State, change_first}
use Rattle.np_layout.specs.Prelude.{HasRoomFor, IsStored, IsWhole, LaysOut, TreeState, after_part, decoded, next_change, set, with_next_number}
use Rattle.np_layout.specs.declared.place.Place.TheVariants.{Node}
use Rattle.np_layout.proofs.Deletes.{is_node_it}
use Rattle.np_layout.proofs.Sets.{nodes-lay-out}
use Rattle.np_layout.specs.Parts.{Stands}
use Rattle.np_layout.proofs.Stands.{room-after, room-less, stands-numbered}
use Rattle.np_layout.proofs.OneState.{trees-have-one_state}
use Rattle.np_keeper.specs.Keeper.{IsHeld, most_changes, room_left}
use Rattle.np_nodestep.specs.Spelling.{IsSpelling, respelled}

-- a record that stays
same-by : (e : NodeEntry) (entries later : List NodeEntry) (b : Bool) → later ≡ entries → cond b (e ∷ entries) (e ∷ later) ≡ e ∷ entries
same-by e entries later true same = refl
same-by e entries later false same = ap (λ (rest : List NodeEntry). e ∷ rest) same

same-kept : (n : NodeId) (entries : List NodeEntry) → change_first (is_node_it n) (λ e. record e { kept = e.kept }) entries ≡ entries
same-kept n [] = refl
same-kept n (e ∷ entries) = same-by e entries (change_first (is_node_it n) (λ e. record e { kept = e.kept }) entries) (is_node_it n e) (same-kept n entries)

-- the next number is one more
next-number : (t : TreeState) → t.changes < 16_777_214 → next_change t ≡ t.changes + 1
next-number t low = omega arith

module _ (c : Configuration) (t : TreeState) (n : NodeId) (bytes : List ℕ) (held : IsHeld c t) (low : t.changes < 16_777_214) (is : IsSpelling c t n bytes) where
  abbrev s : State
  s = decoded c t

  abbrev put : TreeState
  put = after_part t 1 (set bytes (Node n))

  abbrev more : ℕ
  more = (most_changes - (t.changes + 1)) * 64

  lays : LaysOut s put
  lays =
      subst (λ (entries : List NodeEntry). LaysOut (record s { nodes = entries }) put) (same-kept n s.nodes)
      ((nodes-lay-out s t n (λ kept. kept) is.kept bytes held.stored.whole held.stored.carried.good held.stored.lays is.there is.spells).lays 1)

  stands : IsWhole put.nodes → Stands s (with_next_number put) 1 more
  stands whole = stands-numbered s put 1 more (next_change put) (let next = next-number t low in omega arith) (record {
    whole = whole;
    good = held.stored.carried.good;
    lays = lays;
    live = held.stored.lays.live.first;
    room = room-after t 1 (set bytes (Node n) ∷ []) more (room-less t (room_left t) (1 + more) (omega arith) held.room);
  })

  stored : IsWhole put.nodes → IsStored c s (with_next_number put)
  stored whole = record { whole = whole; lays = (stands whole).lays; carried = held.stored.carried }

  held-put : IsWhole put.nodes → IsHeld c (with_next_number put)
  held-put whole = record {
    stored = subst (λ (later : State). IsStored c later (with_next_number put)) (sym (trees-have-one_state c s (with_next_number put) (stored whole))) (stored whole);
    begun = held.begun;
    room = subst (λ (number : ℕ). HasRoomFor ((most_changes - number) * 64) (with_next_number put)) (sym (next-number t low)) (stands whole).room;
  }

  same-state : IsWhole put.nodes → decoded c (with_next_number put) ≡ s
  same-state whole = trees-have-one_state c s (with_next_number put) (stored whole)

-- the tree is held and stores the same state
pub held-respelled : (c : Configuration) (t : TreeState) (n : NodeId) (bytes : List ℕ) → IsHeld c t → t.changes < 16_777_214 → IsSpelling c t n bytes → IsWhole (respelled t n bytes).nodes → IsHeld c (respelled t n bytes)
held-respelled c t n bytes held low is whole = held-put c t n bytes held low is whole

pub state-respelled : (c : Configuration) (t : TreeState) (n : NodeId) (bytes : List ℕ) → IsHeld c t → t.changes < 16_777_214 → IsSpelling c t n bytes → IsWhole (respelled t n bytes).nodes → decoded c (respelled t n bytes) ≡ decoded c t
state-respelled c t n bytes held low is whole = same-state c t n bytes held low is whole
