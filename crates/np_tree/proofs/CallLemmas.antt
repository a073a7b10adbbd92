-- the parts of a call, one after another, and what is always true of a tree after each call
use Rattle.np_tree.proofs.Prelude.{AllByRecursion, AnsweredGoes, BeginsKeepTree, Bool, CallsKeepTree, ChecksLeaveTheTree, EndsKeepTree, Err, Goes, GoesAfter, GoesAnswered, GoesEmpty, GoesFront, GoesJoined, GoesUnderOneNumber, GoesUnrefused, HasParts-below, HasRoom, Holds, Inner, IsDated, IsKept, IsKept-root, IsOk, IsPart, IsTree, IsTreeUpTo, IsWhole, KeepsStart, Known, List, Mode, NoMemory, Node, NodeLists, None, Ok, OnErr, OnOk, Op, OpDone, Option, OwnerLives, PartsKeepTree, PathsAreTheirParts, RaisesKeepTree, Refused, Result, SessionFault, Some, Stops, TreeRefusal, TreeState, [], after_begin, after_create_under, after_loss, after_multi, after_part, after_parts, all-change_first, all-filter, all-filter_to, all-insert_before, all-mapped, all-push, all-weaker, answers_from, ap, arith, at_path, by_bool, change_node, cond, drop, drop_more, false, filter, get_or, is_at, is_check, is_ephemeral, is_in, is_owned, is_owner, length, length-take-le, list_any, list_any-append, lit≤, made_path, name_of, nat_tests, new_node, new_tree, next_change, not, not-true, or_left, parent_of, part_answer, path_before, refl, state_of, subst, suc, sym, take, take-append-drop, take_all, take_more, true, where_found, with_bytes, with_child, with_counter, with_new_child, with_next_number, without, without_child, ℕ, ◌++◌, ◌+◌, ◌<◌, ◌==◌, ◌∙◌, ◌∷◌, ◌≡◌, ◌≤◌}
use Rattle.np_tree.proofs.WholeLemmas.{HasRoom-after_end, HasRoom-after_part, HasRoom-change_node, IsWhole-after_end, IsWhole-after_part, IsWhole-after_raise, IsWhole-new_tree, and_then-ok, by-part, parts-keep}
use Rattle.np_tree.proofs.RowLemmas.{some_same}
use Rattle.np_session.specs.Known as known

-- # the parts of a call, one after another

-- ## a part changes nodes alone

-- the state with other nodes
abbrev pub with_nodes : TreeState → List Node → TreeState
with_nodes t nodes = record t { nodes = nodes }

-- all except the nodes is the same
pub record SameBut (t u : TreeState) : Type 0 where
  pub is : u ≡ with_nodes t u.nodes

found-nodes : {A : Type 0} (o : Option A) (t : TreeState) (f : A → TreeState) → ((a : A) → SameBut t (f a)) → SameBut t (where_found o t f)
found-nodes None t f each = record { is = refl }
found-nodes (Some a) t f each = each a

after_create_under-nodes : (t : TreeState) (session : ℕ) (above name bytes : List ℕ) (mode : Mode) → SameBut t (after_create_under t session above name bytes mode)
after_create_under-nodes t session above name bytes mode =
    found-nodes (at_path t.nodes above) t (λ parent. record t { nodes = with_new_child (next_change t) session above name bytes mode parent t.nodes }) (λ parent. record { is = refl })

pub after_part-nodes : (t : TreeState) (session : ℕ) (part : Op) → SameBut t (after_part t session part)
after_part-nodes t s (Op.Create path bytes mode) = found-nodes (parent_of path) t (λ above. after_create_under t s above (name_of path) bytes mode) (λ above. after_create_under-nodes t s above (name_of path) bytes mode)
after_part-nodes t s (Op.CreateUnder parent bytes mode) = after_create_under-nodes t s parent [] bytes mode
after_part-nodes t s (Op.Set path bytes expect) = record { is = refl }
after_part-nodes t s (Op.Delete path expect) = record { is = refl }
after_part-nodes t s (Op.Check path expect) = record { is = refl }

pub SameBut-then : (t u v : TreeState) → SameBut t u → SameBut u v → SameBut t v
SameBut-then t u v first second = record { is = second.is ∙ ap (λ (w : TreeState). with_nodes w v.nodes) first.is }

pub after_parts-nodes : (t : TreeState) (session : ℕ) (parts : List Op) → SameBut t (after_parts t session parts)
after_parts-nodes t s [] = record { is = refl }
after_parts-nodes t s (part ∷ parts) = SameBut-then t (after_part t s part) (after_parts (after_part t s part) s parts) (after_part-nodes t s part) (after_parts-nodes (after_part t s part) s parts)

-- ## one part more

pub after_parts-append : (t : TreeState) (session : ℕ) (parts more : List Op) → after_parts t session (parts ++ more) ≡ after_parts (after_parts t session parts) session more
after_parts-append t s [] more = refl
after_parts-append t s (part ∷ parts) more = after_parts-append (after_part t s part) s parts more

-- ## checks alone

check-nothing : (t : TreeState) (session : ℕ) (part : Op) → is_check part ≡ true → after_part t session part ≡ t
check-nothing t s (Op.Check path expect) is = refl
check-nothing t s part is = absurd cc

pub after_parts-checks : (t : TreeState) (session : ℕ) (parts : List Op) → list_any (λ part. not (is_check part)) parts ≡ false → after_parts t session parts ≡ t
after_parts-checks t s [] none = refl
after_parts-checks t s (part ∷ parts) none = grind (arith, none, check-nothing t s part, after_parts-checks t s parts)

-- # the parts of a `multi`, one after another

-- one more part was accepted
pub answers-more : (at : ℕ) (t : TreeState) (s : ℕ) (parts : List Op) (part : Op) (done : List OpDone) (a : OpDone) → answers_from at t s parts ≡ Ok done → part_answer (after_parts t s parts) s part ≡ Ok a → answers_from at t s (parts ++ part ∷ []) ≡ Ok (done ++ a ∷ [])
answers-more at t s [] part done a so_far accepted = let none : [] ≡ done = cc in rw (accepted, ← none) refl
answers-more at t s (p ∷ parts) part done a so_far accepted =
    let both = and_then-ok at (part_answer t s p) (answers_from (at + 1) (after_part t s p) s parts) done so_far in
    rw (both.1, answers-more (at + 1) (after_part t s p) s parts part both.2.0 a both.2.1 accepted) (ap (λ (ds : List OpDone). Ok (ds ++ a ∷ [])) both.2.2)

-- a part was refused
pub answers-refused : (at : ℕ) (t : TreeState) (s : ℕ) (parts : List Op) (part : Op) (others : List Op) (done : List OpDone) (refusal : TreeRefusal) → answers_from at t s parts ≡ Ok done → part_answer (after_parts t s parts) s part ≡ Err refusal →
    answers_from at t s (parts ++ part ∷ others) ≡ Err (record { index = at + length parts; refusal = refusal })
answers-refused at t s [] part others done refusal so_far refused =
    let here : at + 0 ≡ at = omega arith in
    rw (refused, here) refl
answers-refused at t s (p ∷ parts) part others done refusal so_far refused =
    let both = and_then-ok at (part_answer t s p) (answers_from (at + 1) (after_part t s p) s parts) done so_far in
    let there : at + suc (length parts) ≡ at + 1 + length parts = omega arith in
    rw (both.1, answers-refused (at + 1) (after_part t s p) s parts part others both.2.0 refusal both.2.1 refused, there) refl

-- ## the loop over the parts

pub KeepsStart-trans : (a b c : NodeLists) → KeepsStart a b → KeepsStart b c → KeepsStart a c
KeepsStart-trans a b c first second =
    record { nodes = second.nodes ∙ first.nodes; marks = second.marks ∙ first.marks; can = λ can. second.can (first.can can) }

-- the first parts are done, each was accepted, and all of them can be undone
pub record SoFar (start now : Inner) (s : ℕ) (parts : List Op) (i : ℕ) (done : List OpDone) : Type 0 where
  pub state : state_of now ≡ after_parts (state_of start) s (take i parts)
  pub told : answers_from 0 (state_of start) s (take i parts) ≡ Ok done
  pub kept : IsKept now.lists.nodes now.lists.marks
  pub began : KeepsStart start.lists now.lists
  pub proper : AllByRecursion IsPart (take i parts)

-- a part, and the tree that it left
pub record DoesPart (now next : Inner) (s : ℕ) (parts : List Op) (i : ℕ) (part : Op) : Type 0 where
  pub within : i < length parts
  pub is : part ≡ get_or parts i part
  pub state : state_of next ≡ after_part (state_of now) s part
  pub kept : IsKept next.lists.nodes next.lists.marks
  pub began : KeepsStart now.lists next.lists
  pub proper : IsPart part

one_more : (parts : List Op) (i : ℕ) (part : Op) → i < length parts → part ≡ get_or parts i part → take (i + 1) parts ≡ take i parts ++ part ∷ []
one_more parts i part within is = take_more parts i part within ∙ ap (λ (p : Op). take i parts ++ p ∷ []) (sym is)

pub SoFar-more : (start now next : Inner) (s : ℕ) (parts : List Op) (i : ℕ) (part : Op) (done : List OpDone) (a : OpDone) → SoFar start now s parts i done → DoesPart now next s parts i part → part_answer (state_of now) s part ≡ Ok a →
    SoFar start next s parts (i + 1) (done ++ a ∷ [])
SoFar-more start now next s parts i part done a so_far does accepted =
    let more = one_more parts i part does.within does.is in
    record {
      state = does.state ∙ ap (λ (t : TreeState). after_part t s part) so_far.state ∙ sym (after_parts-append (state_of start) s (take i parts) (part ∷ [])) ∙ ap (after_parts (state_of start) s) (sym more);
      told = rw more (answers-more 0 (state_of start) s (take i parts) part done a so_far.told (rw so_far.state at accepted));
      kept = does.kept;
      began = KeepsStart-trans start.lists now.lists next.lists so_far.began does.began;
      proper = rw more (all-push IsPart (take i parts) part so_far.proper does.proper);
    }

whole : (parts : List Op) (i : ℕ) (part : Op) → i < length parts → part ≡ get_or parts i part → parts ≡ take i parts ++ part ∷ drop (i + 1) parts
whole parts i part within is =
    sym (take-append-drop i parts) ∙ ap (λ (rest : List Op). take i parts ++ rest) (drop_more parts i part within ∙ ap (λ (p : Op). p ∷ drop (i + 1) parts) (sym is))

pub SoFar-refused : (start now : Inner) (s : ℕ) (parts : List Op) (i : ℕ) (part : Op) (done : List OpDone) (refusal : TreeRefusal) → SoFar start now s parts i done → i < length parts → part ≡ get_or parts i part → part_answer (state_of now) s part ≡ Err refusal →
    answers_from 0 (state_of start) s parts ≡ Err (record { index = i; refusal = refusal })
SoFar-refused start now s parts i part done refusal so_far within is refused =
    let at : 0 + length (take i parts) ≡ i = let long = length-take-le i parts (omega arith) in omega arith in
    ap (answers_from 0 (state_of start) s) (whole parts i part within is)
    ∙ answers-refused 0 (state_of start) s (take i parts) part (drop (i + 1) parts) done refusal so_far.told (rw so_far.state at refused)
    ∙ ap (λ (k : ℕ). Err (record { index = k; refusal = refusal })) at

pub ok-by : {A E : Type 0} (r : Result A E) → IsOk r → (a : A) × (r ≡ Ok a)
ok-by (Ok a) is = (a, refl)
ok-by (Err e) is = absurd cc

-- memory ran out at a part that was accepted
pub SoFar-stopped : (start now : Inner) (s : ℕ) (parts : List Op) (i : ℕ) (part : Op) (done : List OpDone) → SoFar start now s parts i done → i < length parts → part ≡ get_or parts i part → IsOk (part_answer (state_of now) s part) →
    Stops (state_of start) s parts NoMemory
SoFar-stopped start now s parts i part done so_far within is accepted =
    let told = ok-by (part_answer (state_of now) s part) accepted in
    let more = answers-more 0 (state_of start) s (take i parts) part done told.0 so_far.told (ap (λ (u : TreeState). part_answer u s part) (sym so_far.state) ∙ told.1) in
    (i, within, rw (one_more parts i part within is, more) refl)

pub SoFar-all : (start now : Inner) (s : ℕ) (parts : List Op) (i : ℕ) (done : List OpDone) → SoFar start now s parts i done → length parts ≤ i →
    (answers_from 0 (state_of start) s parts ≡ Ok done) × (state_of now ≡ after_parts (state_of start) s parts) × AllByRecursion IsPart parts
SoFar-all start now s parts i done so_far past =
    let all = take_all i parts past in
    (rw all at so_far.told, rw all at so_far.state, rw all at so_far.proper)

-- all except the nodes is as it was
pub SoFar-rest : (start now next : Inner) (s : ℕ) (parts : List Op) (i : ℕ) (done : List OpDone) → SoFar start now s parts i done → state_of next ≡ state_of now → state_of next ≡ with_nodes (state_of start) next.lists.nodes
SoFar-rest start now next s parts i done so_far same =
    let is = same ∙ so_far.state in
    is ∙ (after_parts-nodes (state_of start) s (take i parts)).is ∙ ap (λ (t : TreeState). with_nodes (state_of start) t.nodes) (sym is)

-- checks alone do not change the tree
pub after_multi-checks : (t : TreeState) (s : ℕ) (parts : List Op) → list_any (λ part. not (is_check part)) parts ≡ false → after_parts t s parts ≡ after_multi t s parts
after_multi-checks t s parts none = rw none (after_parts-checks t s parts none)

-- other parts take a number
pub after_multi-change : (t : TreeState) (s : ℕ) (parts : List Op) → list_any (λ part. not (is_check part)) parts ≡ true → with_next_number (after_parts t s parts) ≡ after_multi t s parts
after_multi-change t s parts some = rw some refl

-- # several parts in one call

pub goes-empty : GoesEmpty
goes-empty t s = refl

pub goes-front : GoesFront
goes-front t u s part parts ok later = (ok, later)

pub goes-joined : GoesJoined
goes-joined t u v s [] more same later = subst (λ (w : TreeState). Goes w s more v) (sym same) later
goes-joined t u v s (part ∷ parts) more goes later = (goes.0, goes-joined (after_part t s part) u v s parts more goes.1 later)

pub goes-answered : GoesAnswered
goes-answered at t u s [] goes = refl
goes-answered at t u s (part ∷ parts) goes = grind (arith, goes.0, goes-answered (at + 1) (after_part t s part) u s parts goes.1)

pub goes-after : GoesAfter
goes-after t u s [] same = same
goes-after t u s (part ∷ parts) goes = goes-after (after_part t s part) u s parts goes.1

pub goes-unrefused : GoesUnrefused
goes-unrefused t u s parts (Refused index refusal) goes stops = grind (arith, goes-answered 0 t u s parts goes, stops)
goes-unrefused t u s parts NoMemory goes stops = refl

pub goes-under-one-number : GoesUnderOneNumber
goes-under-one-number t u s parts goes change = sym (after_multi-change t s parts change) ∙ ap with_next_number (goes-after t u s parts goes)

pub checks-leave-the-tree : ChecksLeaveTheTree
checks-leave-the-tree t u s parts goes checks =
    let stays = after_parts-checks t s parts checks in
    (sym (after_multi-checks t s parts checks) ∙ stays, sym (goes-after t u s parts goes) ∙ stays)

pub answered-goes : AnsweredGoes
answered-goes at t s [] done is = refl
answered-goes at t s (part ∷ parts) done is =
    let both = and_then-ok at (part_answer t s part) (answers_from (at + 1) (after_part t s part) s parts) done is in
    (grind (arith, both.1), answered-goes (at + 1) (after_part t s part) s parts both.2.0 both.2.1)

-- ## paths

pub paths-are-their-parts : PathsAreTheirParts
paths-are-their-parts p q this that is_p is_q named_this named_that same =
    let one = HasParts-below p this is_p named_this in
    let other = HasParts-below q that is_q named_that in
    (some_same (sym one.above ∙ ap parent_of same ∙ other.above), sym one.last ∙ ap name_of same ∙ other.last)

-- # what is always true of a tree, after each call

-- ## what is true of each node, after a part

-- it is true of a node that is made, and each change of a node keeps it
record Keeps (P : Node → Type 0) (z session : ℕ) : Type 0 where
  made : (path bytes : List ℕ) (mode : Mode) → P (new_node z session path bytes mode)
  child_more : (mode : Mode) (n : Node) → P n → P (with_child z mode n)
  other_bytes : (bytes : List ℕ) (n : Node) → P n → P (with_bytes z bytes n)
  child_less : (n : Node) → P n → P (without_child z n)

module _ (P : Node → Type 0) (t : TreeState) (session : ℕ) (keeps : Keeps P (next_change t) session) where
  all-after_part : (part : Op) (d : OpDone) → IsPart part → part_answer t session part ≡ Ok d → AllByRecursion P t.nodes → AllByRecursion P (after_part t session part).nodes
  all-after_part part d proper is all = by-part t session (λ o nodes. AllByRecursion P nodes) (record {
    made = λ dir name bytes made mode makes may. all-insert_before P (λ m. path_before (made_path may.parent name mode) m.path) (new_node (next_change t) session (made_path may.parent name mode) bytes mode) (change_node dir (with_child (next_change t) mode) t.nodes) (keeps.made (made_path may.parent name mode) bytes mode)
        (all-change_first P (is_at dir) (with_child (next_change t) mode) t.nodes (keeps.child_more mode) all);
    other_bytes = λ path bytes. all-change_first P (is_at path) (with_bytes (next_change t) bytes) t.nodes (keeps.other_bytes bytes) all;
    gone = λ path dir above may. all-filter P (λ n. not (is_at path n)) (change_node dir (without_child (next_change t)) t.nodes) (all-change_first P (is_at dir) (without_child (next_change t)) t.nodes keeps.child_less all);
    same = all;
  }) part d proper is

-- ### its owner

Keeps-owner : (live : List ℕ) (z session : ℕ) → is_in live session ≡ true → Keeps (λ n. OwnerLives live n.facts.owner) z session
Keeps-owner live z session is = record {
  made = λ path bytes mode. by_bool (λ b. OwnerLives live (cond b (Some session) None)) (is_ephemeral mode) (λ _. is) (λ _. tt);
  child_more = λ mode n lives. lives;
  other_bytes = λ bytes n lives. lives;
  child_less = λ n lives. lives;
}

-- the session that may do a part is live
alive : (t : TreeState) (session : ℕ) (part : Op) (d : OpDone) → part_answer t session part ≡ Ok d → is_in t.live session ≡ true
alive t s part d is = grind (arith, is)

-- ### its numbers

Keeps-dated : (z session : ℕ) → Keeps (IsDated z) z session
Keeps-dated z session = record {
  made = λ path bytes mode. record { czxid = omega arith; mzxid = omega arith; pzxid = omega arith };
  child_more = λ mode n dated. record { czxid = dated.czxid; mzxid = dated.mzxid; pzxid = omega arith };
  other_bytes = λ bytes n dated. record { czxid = dated.czxid; mzxid = omega arith; pzxid = dated.pzxid };
  child_less = λ n dated. record { czxid = dated.czxid; mzxid = dated.mzxid; pzxid = omega arith };
}

-- ## parts

pub IsTreeUpTo-after_part : PartsKeepTree
IsTreeUpTo-after_part t s part d proper is tree =
    let same = (after_part-nodes t s part).is in
    let live : (after_part t s part).live ≡ t.live = ap (λ (u : TreeState). u.live) same in
    record {
      whole = IsWhole-after_part t s part d proper is tree.whole;
      room = HasRoom-after_part t s part d proper is tree.whole tree.room;
      owners = subst (λ (l : List ℕ). AllByRecursion (λ n. OwnerLives l n.facts.owner) (after_part t s part).nodes) (sym live)
          (all-after_part (λ n. OwnerLives t.live n.facts.owner) t s (Keeps-owner t.live (next_change t) s (alive t s part d is)) part d proper is tree.owners);
      dated = all-after_part (IsDated (next_change t)) t s (Keeps-dated (next_change t) s) part d proper is tree.dated;
      last = tree.last;
    }

-- ### all of a call

pub IsTreeUpTo-later : (z y : ℕ) (t : TreeState) → z ≤ y → y ≤ 18_446_744_073_709_551_615 → IsTreeUpTo z t → IsTreeUpTo y t
IsTreeUpTo-later z y t later last tree = record {
  whole = tree.whole;
  room = tree.room;
  owners = tree.owners;
  dated = all-weaker (IsDated z) (IsDated y) (λ n dated. let cz = dated.czxid in let mz = dated.mzxid in let pz = dated.pzxid in record { czxid = omega arith; mzxid = omega arith; pzxid = omega arith }) t.nodes tree.dated;
  last = last;
}

-- only the nodes and the live sessions matter
pub IsTreeUpTo-of : (z : ℕ) (t u : TreeState) → u.nodes ≡ t.nodes → u.live ≡ t.live → IsTreeUpTo z t → IsTreeUpTo z u
IsTreeUpTo-of z t u nodes live tree = record {
  whole = subst IsWhole (sym nodes) tree.whole;
  room = subst HasRoom (sym nodes) tree.room;
  owners = rw (live, nodes) tree.owners;
  dated = subst (λ (ns : List Node). AllByRecursion (IsDated z) ns) (sym nodes) tree.dated;
  last = tree.last;
}

-- while a change is being made
IsTreeUpTo-next : (t : TreeState) → IsTree t → IsTreeUpTo (next_change t) t
IsTreeUpTo-next t tree = let small = tree.last in IsTreeUpTo-later t.changes (next_change t) t (omega arith) (omega arith) tree

-- the number is the same for each part
next-same : (t : TreeState) (session : ℕ) (part : Op) → next_change (after_part t session part) ≡ next_change t
next-same t s part = ap next_change (after_part-nodes t s part).is

IsTreeUpTo-after_parts : (t : TreeState) (session : ℕ) (parts : List Op) (done : List OpDone) → AllByRecursion IsPart parts → answers_from 0 t session parts ≡ Ok done → IsTreeUpTo (next_change t) t → IsTreeUpTo (next_change (after_parts t session parts)) (after_parts t session parts)
IsTreeUpTo-after_parts t s parts done proper is tree =
    parts-keep (λ u. IsTreeUpTo (next_change u) u) s (λ u part d proper is has. subst (λ (z : ℕ). IsTreeUpTo z (after_part u s part)) (sym (next-same u s part)) (IsTreeUpTo-after_part u s part d proper is has)) 0 t parts done proper is tree

-- the change took its number
IsTree-number : (u : TreeState) → IsTreeUpTo (next_change u) u → IsTree (with_next_number u)
IsTree-number u tree = record { whole = tree.whole; room = tree.room; owners = tree.owners; dated = tree.dated; last = tree.last }

pub IsTree-after_multi : CallsKeepTree
IsTree-after_multi t s parts done proper is tree =
    by_bool (λ b. IsTree (cond b (with_next_number (after_parts t s parts)) t)) (list_any (λ part. not (is_check part)) parts) (λ _. IsTree-number (after_parts t s parts) (IsTreeUpTo-after_parts t s parts done proper is (IsTreeUpTo-next t tree))) (λ _. tree)

pub IsTree-call : (t : TreeState) (session : ℕ) (part : Op) (d : OpDone) → IsPart part → part_answer t session part ≡ Ok d → IsTree t → IsTree (with_next_number (after_part t session part))
IsTree-call t s part d proper is tree =
    IsTree-number (after_part t s part) (subst (λ (z : ℕ). IsTreeUpTo z (after_part t s part)) (sym (next-same t s part)) (IsTreeUpTo-after_part t s part d proper is (IsTreeUpTo-next t tree)))

-- ## sessions and counters

begun-by : (live : List ℕ) (new : ℕ) (o : Option ℕ) → OwnerLives live o → OwnerLives (live ++ new ∷ []) o
begun-by live new None lives = tt
begun-by live new (Some session) lives = list_any-append (λ s. s == session) live (new ∷ []) ∙ or_left (list_any (λ s. s == session) live) (list_any (λ s. s == session) (new ∷ [])) lives

pub IsTree-after_begin : BeginsKeepTree
IsTree-after_begin t tree = record {
  whole = tree.whole;
  room = tree.room;
  owners = all-weaker (λ n. OwnerLives t.live n.facts.owner) (λ n. OwnerLives (after_begin t).live n.facts.owner) (λ n lives. begun-by t.live (t.begun + 1) n.facts.owner lives) t.nodes tree.owners;
  dated = tree.dated;
  last = tree.last;
}

is_in-without : (xs : List ℕ) (session other : ℕ) → (other == session) ≡ false → is_in xs other ≡ true → is_in (without xs session) other ≡ true
is_in-without [] session other apart has = absurd cc
is_in-without (x ∷ xs) session other apart has = grind (arith, nat_tests, apart, has, is_in-without xs session other apart)

ended-owner : (live : List ℕ) (session : ℕ) (o : Option ℕ) → not (is_owner session o) ≡ true → OwnerLives live o → OwnerLives (without live session) o
ended-owner live session None other lives = tt
ended-owner live session (Some owner) other lives = is_in-without live session owner (not-true (owner == session) other) lives

pub IsTree-after_end : EndsKeepTree
IsTree-after_end t s tree =
    let next = IsTreeUpTo-next t tree in
    let z : ℕ = next_change t in
    let keep : Node → Bool = λ n. not (is_owned s n) in
    record {
      whole = IsWhole-after_end z s t.nodes tree.whole;
      room = HasRoom-after_end z s t.nodes tree.room;
      owners = all-mapped (λ n. OwnerLives (without t.live s) n.facts.owner) (λ n. OwnerLives (without t.live s) n.facts.owner) (after_loss t.nodes z s) (filter keep t.nodes) (λ n lives. lives)
          (all-filter_to (λ n. OwnerLives t.live n.facts.owner) (λ n. OwnerLives (without t.live s) n.facts.owner) keep t.nodes (λ n other lives. ended-owner t.live s n.facts.owner other lives) tree.owners);
      dated = all-mapped (IsDated z) (IsDated z) (after_loss t.nodes z s) (filter keep t.nodes) (λ n dated. record { czxid = dated.czxid; mzxid = dated.mzxid; pzxid = grind (arith, dated.pzxid) }) (all-filter (IsDated z) keep t.nodes next.dated);
      last = next.last;
    }

pub IsTree-after_raise : RaisesKeepTree
IsTree-after_raise t path to tree = record {
  whole = IsWhole-after_raise t path to tree.whole;
  room = HasRoom-change_node path (with_counter to) (λ _. refl) t.nodes tree.room;
  owners = all-change_first (λ n. OwnerLives t.live n.facts.owner) (is_at path) (with_counter to) t.nodes (λ n lives. lives) tree.owners;
  dated = all-change_first (IsDated t.changes) (is_at path) (with_counter to) t.nodes (λ n dated. record { czxid = dated.czxid; mzxid = dated.mzxid; pzxid = dated.pzxid }) tree.dated;
  last = tree.last;
}

pub IsTree-new_tree : IsTree new_tree
IsTree-new_tree = record {
  whole = IsWhole-new_tree;
  room = IsKept-root.room;
  owners = (tt, tt);
  dated = (record { czxid = lit≤ tt; mzxid = lit≤ tt; pzxid = lit≤ tt }, tt);
  last = lit≤ tt;
}

-- # what is true of the fields between two calls, after each call

-- the fields are those of a tree, and there is nothing to undo
pub Holds-tree : (b : Inner) (t : TreeState) → IsKept b.lists.nodes b.lists.marks → state_of b ≡ t → IsTree t → b.lists.undo.items ≡ [] → Holds b
Holds-tree b t kept same tree undo = record { kept = kept; tree = subst IsTree (sym same) tree; undo = undo }

-- a call of one part
pub Holds-call : (a b : Inner) (session : ℕ) (part : Op) (d : OpDone) → Holds a → IsPart part → part_answer (state_of a) session part ≡ Ok d → IsKept b.lists.nodes b.lists.marks → state_of b ≡ with_next_number (after_part (state_of a) session part) → b.lists.undo.items ≡ [] → Holds b
Holds-call a b session part d holds proper is kept same undo =
    Holds-tree b (with_next_number (after_part (state_of a) session part)) kept same (IsTree-call (state_of a) session part d proper is holds.tree) undo

-- the fields show the nodes, the live sessions and the change number of a tree
pub Holds-of : (b : Inner) (t : TreeState) → IsTree t → b.changes ≡ t.changes → b.lists.nodes ≡ t.nodes → b.sessions.live ≡ t.live → IsKept b.lists.nodes b.lists.marks → b.lists.undo.items ≡ [] → Holds b
Holds-of b t tree number nodes live kept undo = record { kept = kept; tree = subst (λ (z : ℕ). IsTreeUpTo z (state_of b)) (sym number) (IsTreeUpTo-of t.changes t (state_of b) nodes live tree); undo = undo }

-- a session begins, or none does
pub Holds-begin : (a : Inner) (k : Known) (r : Result ℕ SessionFault) → Holds a → OnOk r (k ≡ known.with_spare (known.after_begin a.sessions) k.spare) → OnErr r (k ≡ a.sessions) → Holds (record a { sessions = k })
Holds-begin a k (Ok id) holds begun same = Holds-of (record a { sessions = k }) (after_begin (state_of a)) (IsTree-after_begin (state_of a) holds.tree) refl refl (ap (λ (l : Known). l.live) begun) holds.kept holds.undo
Holds-begin a k (Err fault) holds begun same = Holds-of (record a { sessions = k }) (state_of a) holds.tree refl refl (ap (λ (l : Known). l.live) same) holds.kept holds.undo
