-- the members of groups of requests: after a move, after a change, and made request by request
use Rattle.np_lookups.proofs.Prelude.{AreAsKept, AreBy, AreListed, AreOpen, Bool, Changes, Configuration, Declined, Group, IsEither, IsPrepared, IsReached, JobId, List, Member, None, NonePass, OpenOf, Option, Past, PoolId, Rank, RequestEntry, RequestId, RequestRecord, RequestView, Rises, Some, State, [], all-at, all-map, all-weaker, and_false, ap, apart, arith, by_bool, changed, closed_group, closed_member, cond, contrapositive, false, find, find-none, find-push_new, find-push_other, has-with, has-without, has_member, inl, inr, invariant-Runs, is-below, is_closed_to, is_declined_by, is_elsewhere, is_found_closed, is_found_in, is_found_open, is_id_before, is_listed, is_member_before, is_rank_before, is_requested, is_some, length, line_of, list_any, list_any-append, map, member, member-equal, nat_lt, nat_tests, not, numbered, open_group, open_member, option_map, option_map_or, or_false, passes_moved, passes_with, past_of, pool_of, rank_equal, rank_is_in, rank_of, rank_one_way, rank_some_way, rank_transitive, refl, request-untouched, request_equal, request_in, request_one_way, request_view, rises-with, rises-without, same_group, same_members, same_rank, same_request, slice_get, suc, sym, take, take-all, take_there, touches_request, true, with_moved, with_one, without_one, zero, ℕ, ◌&&◌, ◌*◌, ◌++◌, ◌+◌, ◌-◌, ◌<◌, ◌==◌, ◌||◌, ◌∙◌, ◌∷◌, ◌≡◌, ◌≤◌, ◌⊎◌}
use Rattle.np_lookups.proofs.QueueLemmas.{earlier}

-- # the members of groups after a request is moved from those that one record has it in to another's

-- ## truth values

-- members by a test that says the same
pub groups-by : (was now : Group → Rank → Bool) (ms : List (Member Rank)) → ((g : Group) (x : Rank) → was g x ≡ now g x) → AreBy was ms → AreBy now ms
groups-by was now ms alike are = record { rises = are.rises; each = λ g x. are.each g x ∙ alike g x }

-- ## one member

-- the member, if there is one, is this rank in this group
abbrev pub is_at : Group → Rank → Option (Member Rank) → Bool
is_at g x one = option_map_or (λ m. same_group m.group g && same_rank m.id x) one false

module _ (g : Group) (x : Rank) where
  has-one : (one : Option (Member Rank)) (ms : List (Member Rank)) → has_member same_rank g x (with_one one ms) ≡ (is_at g x one || has_member same_rank g x ms)
  has-one None ms = refl
  has-one (Some m) ms = has-with is_rank_before same_rank rank_equal g x m.group m.id ms

  has-no_one : (one : Option (Member Rank)) (ms : List (Member Rank)) → Rises (is_member_before is_rank_before) ms
      → has_member same_rank g x (without_one one ms) ≡ (not (is_at g x one) && has_member same_rank g x ms)
  has-no_one None ms rises = refl
  has-no_one (Some m) ms rises = has-without is_rank_before same_rank rank_one_way rank_equal g x m.group m.id ms rises

rises-one : (one : Option (Member Rank)) (ms : List (Member Rank)) → Rises (is_member_before is_rank_before) ms → Rises (is_member_before is_rank_before) (with_one one ms)
rises-one None ms rises = rises
rises-one (Some m) ms rises = rises-with is_rank_before same_rank rank_transitive rank_some_way m.group m.id ms rises

rises-no_one : (one : Option (Member Rank)) (ms : List (Member Rank)) → Rises (is_member_before is_rank_before) ms → Rises (is_member_before is_rank_before) (without_one one ms)
rises-no_one None ms rises = rises
rises-no_one (Some m) ms rises = rises-without is_rank_before same_rank m.group m.id ms rises

same-at : (a b : Option (Member Rank)) (g : Group) (x : Rank) → same_members a b ≡ true → is_at g x a ≡ is_at g x b
same-at None None g x same = refl
same-at None (Some b) g x same = absurd cc
same-at (Some a) None g x same = absurd cc
same-at (Some a) (Some b) g x same = ap (λ (m : Member Rank). same_group m.group g && same_rank m.id x) (member-equal same_rank rank_equal a b same)

-- where a rank stays; `among` says whether the group is one of these, and `own` whether the rank is the request's
stays : (among own was now old new passes : Bool) → was ≡ (among && (own && old)) → now ≡ (among && (own && new))
    → (among ≡ true → own ≡ true → (passes ≡ old) ⊎ (passes ≡ new)) → was ≡ now → passes ≡ cond (among && own) new passes
stays among own was now old new passes was_is now_is either same = grind (arith, was_is, now_is, either)

-- where it goes
goes : (among own was now old new passes : Bool) → was ≡ (among && (own && old)) → now ≡ (among && (own && new))
    → (among ≡ true → own ≡ true → (passes ≡ old) ⊎ (passes ≡ new)) → (now || (not was && passes)) ≡ cond (among && own) new passes
goes among own was now old new passes was_is now_is either = grind (arith, was_is, now_is, either)

-- of the request's ranks at most one is in these groups, before and after
module _ (among : Group → Bool) (r : RequestId) (was now : Option (Member Rank)) (old new : Group → Rank → Bool)
    (was_is : (g : Group) (x : Rank) → is_at g x was ≡ (among g && (same_request r x.request && old g x)))
    (now_is : (g : Group) (x : Rank) → is_at g x now ≡ (among g && (same_request r x.request && new g x)))
    (passes : Group → Rank → Bool)
    (either : (g : Group) (x : Rank) → among g ≡ true → same_request r x.request ≡ true → (passes g x ≡ old g x) ⊎ (passes g x ≡ new g x)) where
  -- those of the request's ranks pass in these groups that are to
  abbrev passes_one : Group → Rank → Bool
  passes_one g x = cond (among g && same_request r x.request) (new g x) (passes g x)

  left_alone : same_members was now ≡ true → (g : Group) (x : Rank) → passes g x ≡ passes_one g x
  left_alone same g x = stays (among g) (same_request r x.request) _ _ (old g x) (new g x) (passes g x) (was_is g x) (now_is g x) (either g x) (same-at was now g x same)

  moved_on : (g : Group) (x : Rank) → (is_at g x now || (not (is_at g x was) && passes g x)) ≡ passes_one g x
  moved_on g x = goes (among g) (same_request r x.request) _ _ (old g x) (new g x) (passes g x) (was_is g x) (now_is g x) (either g x)

  pub one-moved : (ms : List (Member Rank)) → AreBy passes ms → AreBy passes_one (with_moved was now ms)
  one-moved ms are = by (same_members was now) refl where
    by : (b : Bool) → same_members was now ≡ b → AreBy passes_one (cond b ms (with_one now (without_one was ms)))
    by true same = groups-by passes passes_one ms (left_alone same) are
    by false other = record {
      rises = rises-one now (without_one was ms) (rises-no_one was ms are.rises);
      each = λ g x.
          has-one g x now (without_one was ms)
          ∙ ap (λ (b : Bool). is_at g x now || b) (has-no_one g x was ms are.rises ∙ ap (λ (b : Bool). not (is_at g x was) && b) (are.each g x))
          ∙ moved_on g x;
    }

-- ## kinds of groups

-- a group of requested requests, of whatever line
abbrev pub is_open : Group → Bool
is_open g = same_group (open_group g.third) g

-- one of those that are closed to the pool
abbrev pub is_closed_of : PoolId → Group → Bool
is_closed_of p g = same_group (closed_group g.third p) g

-- one of those that are closed to some pool
abbrev pub is_closed : Group → Bool
is_closed g = is_closed_of (pool_of g) g

not-open : (g : Group) (line : ℕ) → is_open g ≡ false → same_group (open_group line) g ≡ false
not-open g line out = grind (arith, nat_tests)

not-closed : (g : Group) (line : ℕ) (p : PoolId) → is_closed_of p g ≡ false → same_group (closed_group line p) g ≡ false
not-closed g line p out = grind (arith, nat_tests)

abbrev pub pool_by : ℕ → PoolId
pool_by n = record { 0 = n }

-- ## the groups of a record

-- a group of those that are closed to a pool says which pool
pool-is : (g : Group) (p : PoolId) → is_closed_of p g ≡ true → pool_of g ≡ p
pool-is g p is = let first : g.first ≡ p.0 = grind (arith, nat_tests) in ap pool_by first

-- a member that there is if a test passes
at-if : (b : Bool) (m : Member Rank) (g : Group) (x : Rank) → is_at g x (cond b (Some m) None) ≡ (b && (same_group m.group g && same_rank m.id x))
at-if true m g x = refl
at-if false m g x = refl

-- that a member is in a group of requested requests says the same as that its record is in the group
open-table : (own asked here closed is same relative : Bool) → (own ≡ true → closed ≡ false) → (own ≡ false → here ≡ false)
    → (asked && (here && (same && relative))) ≡ (own && (same && (relative && (asked && (here || (closed && is))))))
open-table own asked here closed is same relative other out = grind (arith, other, out)

-- the same for a group of those that are closed to a pool
closed-table : (own asked shut here opened closed low is same relative : Bool) → (own ≡ true → opened ≡ false) → (own ≡ true → closed ≡ here) → (own ≡ true → low ≡ true) → (own ≡ true → is ≡ shut) → (own ≡ false → here ≡ false)
    → ((asked && shut) && (here && (same && relative))) ≡ (own && (same && (relative && (asked && (opened || (closed && (low && is)))))))
closed-table own asked shut here opened closed low is same relative other alike within says out = grind (arith, other, alike, within, says, out)

module _ (pools : ℕ) (of : RequestRecord → ℕ) (r : RequestId) where
  open-is : (found : Option RequestRecord) (g : Group) (x : Rank)
      → is_at g x (open_member (option_map_or of found 0) r found) ≡ (is_open g && (same_request r x.request && is_found_in pools of g x found))
  open-is None g x = sym (ap (λ (b : Bool). is_open g && b) (and_false (same_request r x.request)) ∙ and_false (is_open g))
  open-is (Some k) g x =
      at-if (is_requested k.state) (member (open_group (of k)) (rank_of r k)) g x
      ∙ open-table (is_open g) (is_requested k.state) (same_group (open_group (of k)) g) (same_group (closed_group (of k) (pool_of g)) g) (nat_lt g.first pools && is_closed_to (pool_of g) k)
      (same_request r x.request) (k.relative_priority == x.relative) (λ is. grind (arith, nat_tests)) (not-open g (of k))

  module _ (p : PoolId) (within : nat_lt p.0 pools ≡ true) where
    closed-is : (found : Option RequestRecord) (g : Group) (x : Rank)
        → is_at g x (closed_member (option_map_or of found 0) p r found) ≡ (is_closed_of p g && (same_request r x.request && is_found_in pools of g x found))
    closed-is None g x = sym (ap (λ (b : Bool). is_closed_of p g && b) (and_false (same_request r x.request)) ∙ and_false (is_closed_of p g))
    closed-is (Some k) g x =
        at-if (is_requested k.state && is_closed_to p k) (member (closed_group (of k) p) (rank_of r k)) g x
        ∙ closed-table (is_closed_of p g) (is_requested k.state) (is_closed_to p k) (same_group (closed_group (of k) p) g) (same_group (open_group (of k)) g) (same_group (closed_group (of k) (pool_of g)) g)
        (nat_lt g.first pools) (is_closed_to (pool_of g) k) (same_request r x.request) (k.relative_priority == x.relative)
        (λ is. grind (arith, nat_tests)) (λ is. ap (λ (q : PoolId). same_group (closed_group (of k) q) g) (pool-is g p is)) (λ is. ap (λ (q : PoolId). nat_lt q.0 pools) (pool-is g p is) ∙ within)
        (λ is. ap (λ (q : PoolId). is_closed_to q k) (pool-is g p is)) (not-closed g (of k) p)

-- ## the groups so far

-- a group of requested requests, or one of those that are closed to a pool below this number
abbrev pub is_done : ℕ → Group → Bool
is_done n g = is_open g || (is_closed g && nat_lt g.first n)

-- of the request's ranks those pass in the groups so far that the record has there
abbrev pub passes_so_far : ℕ → (RequestRecord → ℕ) → RequestId → Option RequestRecord → ℕ → (Group → Rank → Bool) → Group → Rank → Bool
passes_so_far pools of r now n passes g x = cond (same_request r x.request && is_done n g) (is_found_in pools of g x now) (passes g x)

-- first those of requested requests, then those of each pool
none-done : (g : Group) → is_done 0 g ≡ is_open g
none-done g = grind (arith, nat_tests)

next-done : (p : PoolId) (g : Group) → is_done (p.0 + 1) g ≡ (is_closed_of p g || is_done p.0 g)
next-done p g = grind (arith, nat_tests)

not-done : (p : PoolId) (g : Group) → is_closed_of p g ≡ true → is_done p.0 g ≡ false
not-done p g is = grind (arith, nat_tests)

-- a group of no pool, and not of requested requests, has no rank
none-found : (pools : ℕ) (of : RequestRecord → ℕ) (g : Group) (x : Rank) (found : Option RequestRecord) → is_done pools g ≡ false → is_found_in pools of g x found ≡ false
none-found pools of g x None out = refl
none-found pools of g x (Some k) out = grind (arith, not-open g (of k), not-closed g (of k) (pool_of g))

-- ## a record that has the request in no group

none-open : (line : ℕ) (r : RequestId) (found : Option RequestRecord) → is_found_open found ≡ false → open_member line r found ≡ None
none-open line r None out = refl
none-open line r (Some k) out = rw out refl

none-closed : (line : ℕ) (p : PoolId) (r : RequestId) (found : Option RequestRecord) → is_found_closed found ≡ false → closed_member line p r found ≡ None
none-closed line p r None out = refl
none-closed line p r (Some k) out = by (is_requested k.state) k.pinned k.declined (Some (member (closed_group line p) (rank_of r k))) out where
  by : (b : Bool) (pinned : Option PoolId) (declined : List Declined) (one : Option (Member Rank)) → (b && (is_some pinned || not (length declined == 0))) ≡ false
      → cond (b && (is_declined_by p declined || is_elsewhere p pinned)) one None ≡ None
  by b pinned [] one out = grind (arith, nat_tests)
  by b pinned (d ∷ declined) one out = grind (arith, nat_tests)

not_open-not_closed : (found : Option RequestRecord) → is_found_open found ≡ false → is_found_closed found ≡ false
not_open-not_closed None out = refl
not_open-not_closed (Some k) out = rw out refl

-- what a call is passed, as it is defined
pub moved-as : (a b k l : Option (Member Rank)) (ms later : List (Member Rank)) → later ≡ with_moved a b ms → a ≡ k → b ≡ l → later ≡ with_moved k l ms
moved-as a b k l ms later is was now = rw (← was, ← now) is

-- a rank in a group that neither record is in stays as it was
left-out : (own done old new passes : Bool) → (own ≡ true → (passes ≡ old) ⊎ (passes ≡ new)) → (done ≡ false → old ≡ false) → (done ≡ false → new ≡ false) → cond (own && done) new passes ≡ cond own new passes
left-out own done old new passes either was now = grind (arith, either, was, now)

-- a rank in the groups so far, with more of them
one-done : (among own done later new passes : Bool) → later ≡ (among || done) → cond (among && own) new (cond (own && done) new passes) ≡ cond (own && later) new passes
one-done among own done later new passes is = grind (arith, is)

first-done : (among own later new passes : Bool) → later ≡ among → cond (among && own) new passes ≡ cond (own && later) new passes
first-done among own later new passes is = grind (arith, is)

module _ (pools : ℕ) (of : RequestRecord → ℕ) (r : RequestId) (was now : Option RequestRecord) (passes : Group → Rank → Bool) (either : IsEither pools of r was now passes) where
  abbrev line_was : ℕ
  line_was = option_map_or of was 0

  abbrev line_now : ℕ
  line_now = option_map_or of now 0

  -- first in the groups of requested requests
  pub open-moved : (ms : List (Member Rank)) → AreBy passes ms
      → AreBy (passes_so_far pools of r now 0 passes) (with_moved (open_member line_was r was) (open_member line_now r now) ms)
  open-moved ms are =
      groups-by _ (passes_so_far pools of r now 0 passes) _ (λ g x. first-done (is_open g) (same_request r x.request) (is_done 0 g) (is_found_in pools of g x now) (passes g x) (none-done g))
      (one-moved is_open r (open_member line_was r was) (open_member line_now r now) (λ g x. is_found_in pools of g x was) (λ g x. is_found_in pools of g x now)
      (open-is pools of r was) (open-is pools of r now) passes (λ g x here is. either g x is) ms are)

  -- as a call does it
  pub open-moved-by : (left joined : ℕ) (a b : Option (Member Rank)) (ms later : List (Member Rank)) → left ≡ line_was → joined ≡ line_now
      → a ≡ open_member left r was → b ≡ open_member joined r now → later ≡ with_moved a b ms → AreBy passes ms → AreBy (passes_so_far pools of r now 0 passes) later
  open-moved-by left joined a b ms later left_is joined_is a_is b_is is are =
      rw (is, a_is, b_is, left_is, joined_is) (open-moved ms are)

  -- then in those of each pool
  pub closed-moved : (p : PoolId) → p.0 < pools → (ms : List (Member Rank)) → AreBy (passes_so_far pools of r now p.0 passes) ms
      → AreBy (passes_so_far pools of r now (p.0 + 1) passes) (with_moved (closed_member line_was p r was) (closed_member line_now p r now) ms)
  closed-moved p within ms are =
      groups-by _ (passes_so_far pools of r now (p.0 + 1) passes) _
      (λ g x. one-done (is_closed_of p g) (same_request r x.request) (is_done p.0 g) (is_done (p.0 + 1) g) (is_found_in pools of g x now) (passes g x) (next-done p g))
      (one-moved (is_closed_of p) r (closed_member line_was p r was) (closed_member line_now p r now) (λ g x. is_found_in pools of g x was) (λ g x. is_found_in pools of g x now)
      (closed-is pools of r p (is-below p.0 pools within) was) (closed-is pools of r p (is-below p.0 pools within) now) (passes_so_far pools of r now p.0 passes)
      (λ g x here is. rw (is, not-done p g here) (either g x is)) ms are)

  -- and no other group has ranks
  pub all-moved : (ms : List (Member Rank)) → AreBy (passes_so_far pools of r now pools passes) ms → AreBy (passes_with pools of r now passes) ms
  all-moved ms are =
      groups-by _ (passes_with pools of r now passes) ms
      (λ g x. left-out (same_request r x.request) (is_done pools g) (is_found_in pools of g x was) (is_found_in pools of g x now) (passes g x) (either g x) (none-found pools of g x was) (none-found pools of g x now)) are

  -- if it was closed to no pool and is to none
  pub none-closed-moved : is_found_closed was ≡ false → is_found_closed now ≡ false → (ms : List (Member Rank)) → AreBy (passes_so_far pools of r now 0 passes) ms
      → AreBy (passes_with pools of r now passes) ms
  none-closed-moved was_out now_out ms are = all-moved ms (by pools (omega arith)) where
    by : (n : ℕ) → n ≤ pools → AreBy (passes_so_far pools of r now n passes) ms
    by zero few = are
    by (suc n) few =
        let moved = closed-moved (pool_by n) (omega arith) ms (by n (omega arith)) in
        let next : n + 1 ≡ suc n = omega arith in
        rw (none-closed line_was (pool_by n) r was was_out, none-closed line_now (pool_by n) r now now_out, next) at moved

  -- or was in no line and is in none
  pub none-moved : is_found_open was ≡ false → is_found_open now ≡ false → (ms : List (Member Rank)) → AreBy passes ms → AreBy (passes_with pools of r now passes) ms
  none-moved was_out now_out ms are =
      let moved = open-moved ms are in
      none-closed-moved (not_open-not_closed was was_out) (not_open-not_closed now now_out) ms
      (rw (none-open line_was r was was_out, none-open line_now r now now_out) at moved)

-- # the members of groups after a change, from those before it

-- ## what is listed

kept-map : (s : State) (r : RequestId) (requests : List RequestId) → is_listed r (map (past_of s) requests) ≡ list_any (λ x. same_request x r) requests
kept-map s r [] = refl
kept-map s r (x ∷ requests) = ap (λ (b : Bool). same_request x r || b) (kept-map s r requests)

pub is-prepared : (s : State) (ch : Changes) (requests : List RequestId) (moved : List Past) → moved ≡ map (past_of s) requests → AreListed ch s requests → IsPrepared s ch moved
is-prepared s ch requests moved is listed = rw is (record {
  touched = λ r touched. kept-map s r requests ∙ listed r touched;
  kept = all-map (λ (past : Past). past.kept ≡ request_in past.request s.requests) (past_of s) requests (λ r. refl);
})

-- ## one request more

kept-push : (moved : List Past) (past : Past) (r : RequestId) → is_listed r (moved ++ past ∷ []) ≡ (is_listed r moved || same_request past.request r)
kept-push moved past r = list_any-append (λ (w : Past). same_request w.request r) moved (past ∷ []) ∙ ap (λ (b : Bool). is_listed r moved || b) (or_false (same_request past.request r))

-- what a call makes of the members by a test, for one request
abbrev Moves_one : ℕ → (RequestRecord → ℕ) → Past → Option RequestRecord → List (Member Rank) → List (Member Rank) → Type 0
Moves_one pools of past found ms later = (passes : Group → Rank → Bool) → IsEither pools of past.request past.kept found passes → AreBy passes ms → AreBy (passes_with pools of past.request found passes) later

-- one that is listed is where the state has it
once-listed : (own listed is found passes : Bool) → (own ≡ true → is ≡ found) → cond own found (cond listed is passes) ≡ cond (listed || own) is passes
once-listed own listed is found passes has = grind (arith, has)

module _ (c : Configuration) (s : State) (lines : List JobId) (moved : List Past) (at : ℕ) (past : Past) (there : slice_get moved at ≡ Some past) (passes : Group → Rank → Bool) where
  abbrev now : Option RequestRecord
  now = request_in past.request s.requests

  abbrev found_in : Group → Rank → Option RequestRecord → Bool
  found_in g x found = is_found_in (length c.pools) (line_of c lines) g x found

  -- the state's record of a rank's request
  state-has : (g : Group) (x : Rank) → same_request past.request x.request ≡ true → rank_is_in c s lines g x ≡ found_in g x now
  state-has g x same = ap (λ (r : RequestId). found_in g x (request_in r s.requests)) (sym (request_equal past.request x.request same))

  moved-either : AreAsKept c lines moved passes → IsEither (length c.pools) (line_of c lines) past.request past.kept now (passes_moved c s lines (take at moved) passes)
  moved-either kept g x same =
      by_bool (λ (b : Bool). (cond b (rank_is_in c s lines g x) (passes g x) ≡ found_in g x past.kept) ⊎ (cond b (rank_is_in c s lines g x) (passes g x) ≡ found_in g x now)) (is_listed x.request (take at moved))
      (λ _. inr (state-has g x same))
      (λ _. inl (all-at (λ (w : Past). (g : Group) (rank : Rank) → same_request w.request rank.request ≡ true → passes g rank ≡ found_in g rank w.kept) moved at past kept there g x same))

  moved-next : (g : Group) (x : Rank)
      → passes_with (length c.pools) (line_of c lines) past.request now (passes_moved c s lines (take at moved) passes) g x ≡ passes_moved c s lines (take (at + 1) moved) passes g x
  moved-next g x =
      once-listed (same_request past.request x.request) (is_listed x.request (take at moved)) (rank_is_in c s lines g x) (found_in g x now) (passes g x) (state-has g x)
      ∙ ap (λ (b : Bool). cond b (rank_is_in c s lines g x) (passes g x)) (sym (kept-push (take at moved) past x.request))
      ∙ ap (λ (some : List Past). passes_moved c s lines some passes g x) (sym (take_there moved at past there))

  moved-more : (ms : List (Member Rank)) → AreBy (passes_with (length c.pools) (line_of c lines) past.request now (passes_moved c s lines (take at moved) passes)) ms
      → AreBy (passes_moved c s lines (take (at + 1) moved) passes) ms
  moved-more ms are = groups-by _ (passes_moved c s lines (take (at + 1) moved) passes) ms moved-next are

  pub move-next : (config : Configuration) (pools : ℕ) (found : Option RequestRecord) (ms later : List (Member Rank)) → config ≡ c → pools ≡ length c.pools → found ≡ now
      → Moves_one pools (line_of config lines) past found ms later → AreAsKept c lines moved passes → AreBy (passes_moved c s lines (take at moved) passes) ms
      → AreBy (passes_moved c s lines (take (at + 1) moved) passes) later
  move-next config pools found ms later site pools_are found_is moves kept are =
      moved-more later ((rw (site, pools_are, found_is) at moves) (passes_moved c s lines (take at moved) passes) (moved-either kept) are)

-- ## all of them

module _ (c : Configuration) (s : State) (lines : List JobId) (ch : Changes) (moved : List Past) (prepared : IsPrepared s ch moved) where
  as-kept : AreAsKept c lines moved (rank_is_in c s lines)
  as-kept =
      all-weaker (λ (past : Past). past.kept ≡ request_in past.request s.requests)
      (λ (past : Past). (g : Group) (x : Rank) → same_request past.request x.request ≡ true → rank_is_in c s lines g x ≡ is_found_in (length c.pools) (line_of c lines) g x past.kept)
      (λ past is g x same.
      ap (λ (r : RequestId). is_found_in (length c.pools) (line_of c lines) g x (request_in r s.requests)) (sym (request_equal past.request x.request same))
      ∙ ap (is_found_in (length c.pools) (line_of c lines) g x) (sym is))
      moved prepared.kept

  rank-stays : (g : Group) (x : Rank) → passes_moved c (changed c ch s) lines moved (rank_is_in c s lines) g x ≡ rank_is_in c (changed c ch s) lines g x
  rank-stays g x =
      by_bool (λ (b : Bool). cond b (rank_is_in c (changed c ch s) lines g x) (rank_is_in c s lines g x) ≡ rank_is_in c (changed c ch s) lines g x) (is_listed x.request moved)
      (λ _. refl)
      (λ out. ap (is_found_in (length c.pools) (line_of c lines) g x)
      (sym (request-untouched c ch s x.request (contrapositive (touches_request ch s x.request) (is_listed x.request moved) (prepared.touched x.request) out))))

-- the same for all
abbrev pub Moves : List JobId → List Past → List (Member Rank) → List (Member Rank) → Configuration → State → Type 0
Moves lines moved old new c t = (passes : Group → Rank → Bool) → AreAsKept c lines moved passes → AreBy passes old → AreBy (passes_moved c t lines moved passes) new

-- what was listed is where it is after the change, and all else where it was
pub open-noted : (c site : Configuration) (s t : State) (ch : Changes) (moved : List Past) (old new : OpenOf) → new.lines ≡ old.lines → Moves old.lines moved old.members new.members site t
    → IsReached c s → IsPrepared s ch moved → site ≡ c → t ≡ changed c ch s → AreOpen c s old → AreOpen c (changed c ch s) new
open-noted c site s t ch moved old new same_lines moves reached prepared same_site after was =
    let all : Moves old.lines moved old.members new.members c (changed c ch s) = rw (same_site, after) at moves in
    let are : AreBy (rank_is_in c (changed c ch s) old.lines) new.members =
    groups-by _ (rank_is_in c (changed c ch s) old.lines) new.members (rank-stays c s old.lines ch moved prepared)
    (all (rank_is_in c s old.lines) (as-kept c s old.lines ch moved prepared) (record { rises = was.rises; each = was.each })) in
    record {
      rises = are.rises;
      each = λ g x. are.each g x ∙ ap (λ (lines : List JobId). rank_is_in c (changed c ch s) lines g x) (sym same_lines);
      once = (numbered c s ch (invariant-Runs c reached.journal s reached.runs).numbered).requests_rise;
    }

-- ## a walk over them

-- room for one request less
pub room-next : (n i k : ℕ) → i < n → (n - i) * k ≡ (n - (i + 1)) * k + k
room-next n i k less = let one : n - i ≡ n - (i + 1) + 1 = omega arith in rw one (omega arith)

-- # the members of groups, made request by request

-- the rank's request is among these rows, and in the group
abbrev pub is_row_in : ℕ → (RequestRecord → ℕ) → List RequestEntry → Group → Rank → Bool
is_row_in pools of rows g x = is_found_in pools of g x (request_in x.request rows)

module _ (pools : ℕ) (of : RequestRecord → ℕ) (rows : List RequestEntry) (rises : Rises (λ a b. is_id_before a.id b.id) rows) (at : ℕ) (e : RequestEntry) (there : slice_get rows at ≡ Some e) where
  none-yet : (x : Rank) → same_request e.id x.request ≡ true → find (λ other. same_request other.id x.request) (take at rows) ≡ None
  none-yet x same =
      let first = earlier (λ (a b : RequestEntry). is_id_before a.id b.id) rows at e rises there in
      let others : NonePass (λ other. same_request other.id x.request) (take at rows) =
      all-weaker (λ (other : RequestEntry). is_id_before other.id e.id ≡ true) (λ (other : RequestEntry). same_request other.id x.request ≡ false)
      (λ other order. rw (← request_equal e.id x.request same) (apart is_id_before same_request request_one_way request_equal other.id e.id order)) (take at rows) first in
      find-none (λ (other : RequestEntry). same_request other.id x.request) (take at rows) others

  pub row-either : IsEither pools of e.id None (Some e.kept) (is_row_in pools of (take at rows))
  row-either g x same = inl (ap (λ (o : Option RequestEntry). is_found_in pools of g x (option_map (λ k. k.kept) o)) (none-yet x same))

  pub row-next : (g : Group) (x : Rank) → passes_with pools of e.id (Some e.kept) (is_row_in pools of (take at rows)) g x ≡ is_row_in pools of (take (at + 1) rows) g x
  row-next g x =
      by_bool (λ (b : Bool). cond b (is_found_in pools of g x (Some e.kept)) (is_row_in pools of (take at rows) g x) ≡ is_row_in pools of (take at rows ++ e ∷ []) g x) (same_request e.id x.request)
      (λ same. ap (λ (o : Option RequestEntry). is_found_in pools of g x (option_map (λ k. k.kept) o)) (sym (find-push_new (λ (other : RequestEntry). same_request other.id x.request) e (take at rows) same (none-yet x same))))
      (λ other. ap (λ (o : Option RequestEntry). is_found_in pools of g x (option_map (λ k. k.kept) o)) (sym (find-push_other (λ (k : RequestEntry). same_request k.id x.request) e (take at rows) other)))
      ∙ ap (λ (some : List RequestEntry). is_row_in pools of some g x) (sym (take_there rows at e there))

-- what a call makes of the members by a test
abbrev pub Adds : ℕ → (RequestRecord → ℕ) → RequestView → List (Member Rank) → List (Member Rank) → Type 0
Adds pools of view ms later = (passes : Group → Rank → Bool) → IsEither pools of view.id None (Some view.kept) passes → AreBy passes ms → AreBy (passes_with pools of view.id (Some view.kept) passes) later

module _ (c : Configuration) (s : State) (lines : List JobId) (reached : IsReached c s) where
  rise : Rises (λ a b. is_id_before a.id b.id) s.requests
  rise = (invariant-Runs c reached.journal s reached.runs).numbered.requests_rise

  -- the members are the requests of these rows
  abbrev pub AreOf : List RequestEntry → List (Member Rank) → Type 0
  AreOf rows ms = AreBy (is_row_in (length c.pools) (line_of c lines) rows) ms

  -- one request more, as it is seen
  pub rows-next : (at : ℕ) (view : RequestView) (o : Option RequestEntry) → slice_get s.requests at ≡ o → option_map request_view o ≡ Some view
      → (ms later : List (Member Rank)) (config : Configuration) (pools : ℕ) → config ≡ c → pools ≡ length c.pools → AreOf (take at s.requests) ms → Adds pools (line_of config lines) view ms later
      → AreOf (take (at + 1) s.requests) later
  rows-next at view None is seen ms later config pools site many are adds = absurd cc
  rows-next at view (Some e) is seen ms later config pools site many are adds =
      let same : request_view e ≡ view = cc in
      let more : Adds (length c.pools) (line_of c lines) (request_view e) ms later = rw (site, many, ← same) at adds in
      groups-by _ (is_row_in (length c.pools) (line_of c lines) (take (at + 1) s.requests)) later (row-next (length c.pools) (line_of c lines) s.requests rise at e is)
      (more (is_row_in (length c.pools) (line_of c lines) (take at s.requests)) (row-either (length c.pools) (line_of c lines) s.requests rise at e is) are)

  -- all requests
  pub rows-all : (at : ℕ) (ms : List (Member Rank)) → at ≡ length s.requests → AreOf (take at s.requests) ms → AreBy (rank_is_in c s lines) ms
  rows-all at ms all are =
      let whole : take at s.requests ≡ s.requests = ap (λ (n : ℕ). take n s.requests) all ∙ take-all s.requests in
      groups-by _ (rank_is_in c s lines) ms (λ g x. ap (λ (some : List RequestEntry). is_row_in (length c.pools) (line_of c lines) some g x) whole) are

  pub open-rebuilt : (kept : OpenOf) → kept.lines ≡ lines → AreBy (rank_is_in c s lines) kept.members → AreOpen c s kept
  open-rebuilt kept same are = record { rises = are.rises; each = λ g x. are.each g x ∙ ap (λ (list : List JobId). rank_is_in c s list g x) (sym same); once = rise }
