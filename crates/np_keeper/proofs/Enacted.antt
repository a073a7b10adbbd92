-- the changes of an event made in a tree: they may be made, and the tree then holds the changed state
use Rattle.np_keeper.proofs.Prelude.{AllByRecursion, AtPart, Bool, CanBegin, CanEnd, CanMake, Changes, Configuration, Err, Event, EventsEnact, Fits, Goes, Growth, HasGoodIds, HasRoomFor, HasSpare, Holds, IsAccepted, IsCarried, IsEnacted, IsHeld, IsLater, IsOk, IsPart, IsPlanned, IsReached, IsReady, IsSound, IsStored, IsTyped, IsWhole, JanitorRole, Job, LauncherRole, LaysOut, List, Maker, MakerPremise, MayChange, Mode, Node, None, Ok, OnErr, OnOk, Op, OpDone, Option, Place, Reply, RequesterRole, Result, Row, Semaphore, SessionFacts, SessionId, Sessions, SessionsChange, SessionsPremise, Some, Stands, State, Tick, TreeRefusal, TreeState, TreesHaveOneState, after_begin, after_create_under, after_multi, after_part, after_parts, and_then, answered-goes, answers_from, ap, append_assoc, arith, at_path, begins-later, by_bool, calls-later, changed, changes-after, checks-leave-the-tree, cond, decimal, decoded, deeds-enact, digits, enacted, ends-later, events-are-ready, events-enact, false, first-goes, first-lays, first_directories, first_parts, first_tree, goes-under-one-number, growths-enact, handles-enact, inl, inr, invariant-Runs, is_check, is_in, is_numbered, job_text, jobs-enact, judge, later-joined, later-than-itself, length, length-append, length-map-range_with_len, list_all, list_all-append, list_any, made, make, make_each, map, map-range_with_len_more, min, most_changes, name_of, nat_tests, new_job, new_tree, next, next_change, no_deeds, nodes-enact, not, number-of, parent_of, part_answer, parts-change_nodes_alone, parts_of, past-end, plan-next, range_with_len, records-are-spelled, refl, reply_of, requests-enact, reserves-later, role_text, room-after, room-less, room_left, rows_at, same-lays, session-low, session_at, session_of, sessions-enact, sessions_from, slice_get, slice_get_within, start, starts-are-carried, steps-are-carried, subst, suc, sym, ticks-enact, tree_session, trees-have-one_state, true, under, where_found, with_begin, with_end, with_new_child, with_next_number, with_spare, writer, zero, ℕ, [], ◌&&◌, ◌*◌, ◌++◌, ◌+◌, ◌-◌, ◌<◌, ◌==◌, ◌^◌, ◌∙◌, ◌∷◌, ◌≡◌, ◌≤◌, ◌⊎◌}

-- # the changes that a keeper is given may be made

-- the plan of an accepted event may be made in a state that a run reaches
pub may-change : (c : Configuration) (s : State) (ch : Changes) → IsSound c → IsCarried c s → IsReached c s → Fits c s → IsPlanned c s ch → IsTyped ch → MayChange c ch s
may-change c s ch sound carried reached fits planned typed =
    let accepted : IsAccepted c s planned.event = record {
      sound = sound;
      fits = fits;
      invariant = invariant-Runs c reached.journal s reached.runs;
      carried = carried;
      accepted = planned.accepted;
      typed = subst IsTyped planned.plan typed;
    } in
    record {
      ready = subst (λ (x : Changes). IsReady c x s) (sym planned.plan) (events-are-ready records-are-spelled c s planned.event accepted);
      later = subst (IsCarried c) (sym (ap (λ (x : Changes). changed c x s) planned.plan ∙ plan-next c s planned.event planned.accepted)) (steps-are-carried c s planned.event accepted);
      few = let many = fits.sessions in omega arith;
    }

-- # the sessions of the machine that are live are live in the tree

-- the session at a place of the list
live-at : (t : TreeState) (rows : List Row) (at k : ℕ) (facts : SessionFacts) → slice_get (sessions_from t at rows) k ≡ Some facts → is_in t.live (at + k + 1) ≡ facts.live
live-at t [] at k facts there = absurd cc
live-at t (row ∷ rows) at zero facts there =
    let is : session_at t at row ≡ facts = cc in
    let same : at + 0 + 1 ≡ at + 1 = omega arith in
    ap (λ (n : ℕ). is_in t.live n) same ∙ ap (λ (f : SessionFacts). f.live) is
live-at t (row ∷ rows) at (suc k) facts there =
    let same : at + suc k + 1 ≡ (at + 1) + k + 1 = omega arith in
    ap (λ (n : ℕ). is_in t.live n) same ∙ live-at t rows (at + 1) k facts there

-- a session of the state is live as the tree's of its number is
pub live-session : (c : Configuration) (t : TreeState) (session : SessionId) (facts : SessionFacts) → session_of session (decoded c t) ≡ Some facts → is_in t.live (tree_session session) ≡ facts.live
live-session c t session facts there =
    by_bool (λ b. cond b None (slice_get (decoded c t).sessions (session.0 - 1)) ≡ Some facts → is_in t.live (tree_session session) ≡ facts.live) (session.0 == 0) (λ _ none. absurd cc)
    (λ is some.
    let low : 1 ≤ session.0 = grind (arith, nat_tests) in
    let same : session.0 + 1 ≡ 1 + (session.0 - 1) + 1 = omega arith in
    ap (λ (n : ℕ). is_in t.live n) same ∙ live-at t (under Sessions t) 1 (session.0 - 1) facts some)
    there

-- who writes the changes is live
pub writer-lives : (c : Configuration) (t : TreeState) (maker : Option Maker) → IsHeld c t → MakerPremise (decoded c t) maker → is_in t.live (writer maker) ≡ true
writer-lives c t None held premise = held.stored.lays.live.first
writer-lives c t (Some maker) held premise = live-session c t maker.session premise.facts premise.begun ∙ premise.live

-- the number of who writes the changes is one of the tree's
pub writer-low : (s : State) (maker : Option Maker) → MakerPremise s maker → length s.sessions + 2 < 2 ^ 32 → writer maker < 4294967296
writer-low s None premise few = omega arith
writer-low s (Some maker) premise few = let low = session-low maker.session s premise.facts premise.begun in omega arith

-- # a tree with another spare: nothing of the layout sees it

-- ## what the layout does not see

spared-lays : (s : State) (t : TreeState) (k : ℕ) → HasGoodIds s → LaysOut s t → LaysOut s (with_spare t k)
spared-lays s t k good lays = same-lays s t (with_spare t k) good refl refl (record { rows = λ other good apart. refl; leaves = λ other good has apart leaves. leaves; counters = λ other next good has apart is. is }) lays

-- it stores the same state
pub stored-spared : (c : Configuration) (s : State) (t : TreeState) (k : ℕ) → IsStored c s t → IsStored c s (with_spare t k)
stored-spared c s t k stored = record { whole = stored.whole; lays = spared-lays s t k stored.carried.good stored.lays; carried = stored.carried }

-- it has the same room
pub room-spared : (t : TreeState) (k more : ℕ) → HasRoomFor more t → HasRoomFor more (with_spare t k)
room-spared t k more room = record { change = room.change; versions = room.versions; counters = room.counters; rows = room.rows; few = room.few }

-- what holds of a tree holds of it with another spare
pub held-spared : (c : Configuration) (t : TreeState) (k : ℕ) → IsHeld c t → IsHeld c (with_spare t k)
held-spared c t k held = record { stored = stored-spared c _ t k held.stored; begun = held.begun; room = room-spared t k _ held.room }

-- and so does a state that it holds
pub holds-spared : (c : Configuration) (s : State) (t u : TreeState) → u ≡ with_spare t u.spare → Holds c s t → Holds c s u
holds-spared c s t u is holds = subst (Holds c s) (sym is) (record { held = held-spared c t u.spare holds.held; state = holds.state })

pub held-reserved : (c : Configuration) (t u : TreeState) → u ≡ with_spare t u.spare → IsHeld c t → Holds c (decoded c t) u
held-reserved c t u is held = holds-spared c (decoded c t) t u is (record { held = held; state = refl })

-- another spare is a tree's own
pub own-spare : (u x : TreeState) (k : ℕ) → u ≡ with_spare x k → u ≡ with_spare x u.spare
own-spare u x k is = is ∙ ap (with_spare x) (sym (ap (λ (t : TreeState). t.spare) is))

-- ## what a call does not see

under-spared : (t : TreeState) (k w : ℕ) (above name bytes : List ℕ) (mode : Mode) (o : Option Node) →
    where_found o (with_spare t k) (λ parent. record (with_spare t k) { nodes = with_new_child (next_change t) w above name bytes mode parent t.nodes }) ≡ with_spare (where_found o t (λ parent. record t { nodes = with_new_child (next_change t) w above name bytes mode parent t.nodes })) k
under-spared t k w above name bytes mode None = refl
under-spared t k w above name bytes mode (Some parent) = refl

create-spared : (t : TreeState) (k w : ℕ) (name bytes : List ℕ) (mode : Mode) (o : Option (List ℕ)) →
    where_found o (with_spare t k) (λ above. after_create_under (with_spare t k) w above name bytes mode) ≡ with_spare (where_found o t (λ above. after_create_under t w above name bytes mode)) k
create-spared t k w name bytes mode None = refl
create-spared t k w name bytes mode (Some above) = under-spared t k w above name bytes mode (at_path t.nodes above)

part-spared : (t : TreeState) (k w : ℕ) (part : Op) → after_part (with_spare t k) w part ≡ with_spare (after_part t w part) k
part-spared t k w (Op.Create path bytes mode) = create-spared t k w (name_of path) bytes mode (parent_of path)
part-spared t k w (Op.CreateUnder parent bytes mode) = under-spared t k w parent [] bytes mode (at_path t.nodes parent)
part-spared t k w other = refl

parts-spared : (t : TreeState) (k w : ℕ) (parts : List Op) → after_parts (with_spare t k) w parts ≡ with_spare (after_parts t w parts) k
parts-spared t k w [] = refl
parts-spared t k w (part ∷ parts) = ap (λ (u : TreeState). after_parts u w parts) (part-spared t k w part) ∙ parts-spared (after_part t w part) k w parts

answer-spared : (t : TreeState) (k w : ℕ) (part : Op) → part_answer (with_spare t k) w part ≡ part_answer t w part
answer-spared t k w (Op.Create path bytes mode) = refl
answer-spared t k w other = refl

-- a call is answered the same
pub answers-spared : (at : ℕ) (t : TreeState) (k w : ℕ) (parts : List Op) → answers_from at (with_spare t k) w parts ≡ answers_from at t w parts
answers-spared at t k w [] = refl
answers-spared at t k w (part ∷ parts) =
    ap (λ (u : TreeState). and_then at (part_answer (with_spare t k) w part) (answers_from (at + 1) u w parts)) (part-spared t k w part)
    ∙ ap (λ (rest : Result (List OpDone) AtPart). and_then at (part_answer (with_spare t k) w part) rest) (answers-spared (at + 1) (after_part t w part) k w parts)
    ∙ ap (λ (first : Result OpDone TreeRefusal). and_then at first (answers_from (at + 1) (after_part t w part) w parts)) (answer-spared t k w part)

-- and leaves the same, with that spare
pub multi-spared : (t : TreeState) (k w : ℕ) (parts : List Op) → after_multi (with_spare t k) w parts ≡ with_spare (after_multi t w parts) k
multi-spared t k w parts =
    by_bool (λ b. cond b (with_next_number (after_parts (with_spare t k) w parts)) (with_spare t k) ≡ with_spare (cond b (with_next_number (after_parts t w parts)) t) k) (list_any (λ part. not (is_check part)) parts)
    (λ _. ap with_next_number (parts-spared t k w parts)) (λ _. refl)

-- ## either outcome

-- what holds anyway holds after an error
pub err-always : {A B : Type 0} {P : Type 0} (r : Result A B) → P → OnErr r P
err-always (Ok a) is = tt
err-always (Err b) is = is

-- what follows from either outcome
pub either-way : {A B : Type 0} {X Y P : Type 0} (r : Result A B) → OnOk r X → OnErr r Y → (X → P) → (Y → P) → P
either-way (Ok a) x y f g = f x
either-way (Err b) x y f g = g y

-- # the parts of the first call, each put behind those before it

-- twelve parts, each behind the one before
pub twelve : (old : List Op) (a b c d e f g h i j k l : Op) → (((((((((((old ++ (a ∷ [])) ++ (b ∷ [])) ++ (c ∷ [])) ++ (d ∷ [])) ++ (e ∷ [])) ++ (f ∷ [])) ++ (g ∷ [])) ++ (h ∷ [])) ++ (i ∷ [])) ++ (j ∷ [])) ++ (k ∷ [])) ++ (l ∷ []) ≡ old ++ (a ∷ b ∷ c ∷ d ∷ e ∷ f ∷ g ∷ h ∷ i ∷ j ∷ k ∷ l ∷ [])
twelve [] a b c d e f g h i j k l = refl
twelve (x ∷ old) a b c d e f g h i j k l = ap (λ (parts : List Op). x ∷ parts) (twelve old a b c d e f g h i j k l)

-- the nodes of the first places of a list have been put behind what was there
pub record IsMade {A : Type 0} (bytes : List ℕ) (place : ℕ → Place) (list : List A) (old ops : List Op) (at : ℕ) : Type 0 where
  pub low : at ≤ length list
  pub is : ops ≡ old ++ map (λ n. make bytes (place n)) (range_with_len 0 at)

module _ {A : Type 0} (bytes : List ℕ) (place : ℕ → Place) (list : List A) (old : List Op) where
  -- one more
  pub made-next : (ops later : List Op) (at : ℕ) (a : A) → slice_get list at ≡ Some a → IsMade bytes place list old ops at → later ≡ ops ++ make bytes (place at) ∷ [] → IsMade bytes place list old later (at + 1)
  made-next ops later at a there made next = record {
    low = let low = slice_get_within list at a there in omega arith;
    is =
        next
        ∙ ap (λ (parts : List Op). parts ++ make bytes (place at) ∷ []) made.is
        ∙ append_assoc old (map (λ n. make bytes (place n)) (range_with_len 0 at)) (make bytes (place at) ∷ [])
        ∙ ap (λ (parts : List Op). old ++ parts) (sym (map-range_with_len_more (λ n. make bytes (place n)) 0 at at (omega arith)));
  }

  -- all of them
  pub made-all : (ops : List Op) (at : ℕ) → slice_get list at ≡ None → IsMade bytes place list old ops at → ops ≡ old ++ make_each bytes place list
  made-all ops at past made =
      let high = past-end list at past in
      let low = made.low in
      let same : at ≡ length list = omega arith in
      made.is ∙ ap (λ (n : ℕ). old ++ map (λ k. make bytes (place k)) (range_with_len 0 n)) same

-- the text of the first tick
pub zero-text : decimal 0 ≡ 48 ∷ []
unfolding digits
zero-text = refl

-- # the parts of the first call, how many they are, and the tree that they leave

-- ## the kinds

abbrev semaphore_at : ℕ → Place
semaphore_at n = Semaphore (record { 0 = n })

abbrev job_at : ℕ → Place
job_at n = Job (record { 0 = n })

abbrev launcher_at : ℕ → Place
launcher_at n = LauncherRole (record { 0 = n })

abbrev janitor_at : ℕ → Place
janitor_at n = JanitorRole (record { 0 = n })

abbrev requester_at : ℕ → Place
requester_at n = RequesterRole (record { 0 = n })

-- the parts, and those of each table behind them
module _ (c : Configuration) where
  abbrev directories : List Op
  directories = map (make []) first_directories

  abbrev with_semaphores : List Op
  with_semaphores = directories ++ make_each [] semaphore_at c.semaphores

  abbrev with_jobs : List ℕ → List Op
  with_jobs text = with_semaphores ++ make_each text job_at c.jobs

  abbrev with_launchers : List ℕ → List Op
  with_launchers text = with_jobs (job_text new_job) ++ make_each text launcher_at c.pools

  abbrev with_janitors : List ℕ → List Op
  with_janitors text = with_launchers (role_text no_deeds) ++ make_each text janitor_at c.pools

  abbrev with_requesters : List ℕ → List Op
  with_requesters text = with_janitors (role_text no_deeds) ++ make_each text requester_at c.requesters

  -- put one behind another they are the first parts
  pub first-is : (o a b d e f g last : List Op) (job role again more : List ℕ) → o ≡ [] → a ≡ o ++ directories → b ≡ a ++ make_each [] semaphore_at c.semaphores →
      job ≡ job_text new_job → d ≡ b ++ make_each job job_at c.jobs →
      role ≡ role_text no_deeds → e ≡ d ++ make_each role launcher_at c.pools →
      again ≡ role_text no_deeds → f ≡ e ++ make_each again janitor_at c.pools →
      more ≡ role_text no_deeds → g ≡ f ++ make_each more requester_at c.requesters →
      last ≡ g ++ make (48 ∷ []) Tick ∷ [] → last ≡ first_parts c
  first-is o a b d e f g last job role again more is-o is-a is-b is-job is-d is-role is-e is-again is-f is-more is-g is-last =
      rw (is-last, is-g, is-f, is-e, is-d, is-b, is-a, is-o, is-more, is-again, is-role, is-job) (ap (λ (text : List ℕ). with_requesters (role_text no_deeds) ++ make text Tick ∷ []) (sym zero-text))

-- ## how many they are

length-each : {A : Type 0} (front : List Op) (bytes : List ℕ) (place : ℕ → Place) (list : List A) → length (front ++ make_each bytes place list) ≡ length front + length list
length-each front bytes place list = length-append front (make_each bytes place list) ∙ ap (λ (n : ℕ). length front + n) (length-map-range_with_len (λ n. make bytes (place n)) 0 (length list))

-- each is numbered
numbered-range : (bytes : List ℕ) (place : ℕ → Place) (count at : ℕ) → list_all is_numbered (map (λ n. make bytes (place n)) (range_with_len at count)) ≡ true
numbered-range bytes place zero at = refl
numbered-range bytes place (suc count) at = numbered-range bytes place count (at + 1)

numbered-both : (front more : List Op) → list_all is_numbered front ≡ true → list_all is_numbered more ≡ true → list_all is_numbered (front ++ more) ≡ true
numbered-both front more one two = list_all-append is_numbered front more ∙ ap (λ (b : Bool). b && list_all is_numbered more) one ∙ two

-- each of the first parts is numbered
pub first-numbered : (c : Configuration) → list_all is_numbered (first_parts c) ≡ true
first-numbered c =
    numbered-both (with_requesters c (role_text no_deeds)) (make (decimal 0) Tick ∷ [])
    (numbered-both (with_janitors c (role_text no_deeds)) (make_each (role_text no_deeds) requester_at c.requesters)
    (numbered-both (with_launchers c (role_text no_deeds)) (make_each (role_text no_deeds) janitor_at c.pools)
    (numbered-both (with_jobs c (job_text new_job)) (make_each (role_text no_deeds) launcher_at c.pools)
    (numbered-both (with_semaphores c) (make_each (job_text new_job) job_at c.jobs)
    (numbered-both (directories c) (make_each [] semaphore_at c.semaphores) refl
    (numbered-range [] semaphore_at (length c.semaphores) 0))
    (numbered-range (job_text new_job) job_at (length c.jobs) 0))
    (numbered-range (role_text no_deeds) launcher_at (length c.pools) 0))
    (numbered-range (role_text no_deeds) janitor_at (length c.pools) 0))
    (numbered-range (role_text no_deeds) requester_at (length c.requesters) 0))
    refl

-- they are few
pub first-few : (c : Configuration) → IsSound c → length (first_parts c) ≤ 10_000
first-few c sound =
    let one : length (first_parts c) ≡ length (with_requesters c (role_text no_deeds)) + 1 = length-append (with_requesters c (role_text no_deeds)) (make (decimal 0) Tick ∷ []) in
    let requesters = length-each (with_janitors c (role_text no_deeds)) (role_text no_deeds) requester_at c.requesters in
    let janitors = length-each (with_launchers c (role_text no_deeds)) (role_text no_deeds) janitor_at c.pools in
    let launchers = length-each (with_jobs c (job_text new_job)) (role_text no_deeds) launcher_at c.pools in
    let jobs = length-each (with_semaphores c) (job_text new_job) job_at c.jobs in
    let semaphores = length-each (directories c) [] semaphore_at c.semaphores in
    let first : length (directories c) ≡ 12 = refl in
    let a = sound.few_semaphores in
    let b = sound.demand.few_jobs in
    let d = sound.supply.few_pools in
    let e = sound.few_requesters in
    omega arith

-- ## the tree

room-begun : (more : ℕ) → more ≤ 2_147_483_648 → HasRoomFor more (after_begin new_tree)
room-begun more few = record {
  change = omega arith;
  versions = (omega arith, tt);
  counters = (omega arith, tt);
  rows = λ dir. let none : 0 + more ≤ 4_294_967_295 = omega arith in none;
  few = few;
}

goes-first : (t : TreeState) (parts : List Op) → IsOk (answers_from 0 t 1 parts) → Goes t 1 parts (after_parts t 1 parts)
goes-first t parts ok = by (answers_from 0 t 1 parts) refl ok where
  by : (r : Result (List OpDone) AtPart) → answers_from 0 t 1 parts ≡ r → IsOk r → Goes t 1 parts (after_parts t 1 parts)
  by (Ok done) is ok = answered-goes 0 t 1 parts done is
  by (Err at) is ok = absurd cc

module _ (c : Configuration) (sound : IsSound c) where
  abbrev begun : TreeState
  begun = after_begin new_tree

  -- each part is accepted, whatever the spare
  pub first-goes-spared : (k : ℕ) → Goes (with_spare begun k) 1 (first_parts c) (after_parts (with_spare begun k) 1 (first_parts c))
  first-goes-spared k =
      goes-first (with_spare begun k) (first_parts c)
      (subst (λ (r : Result (List OpDone) AtPart). IsOk r) (sym (answers-spared 0 begun k 1 (first_parts c))) (first-goes c sound))

  goes-begun : Goes begun 1 (first_parts c) (after_parts begun 1 (first_parts c))
  goes-begun = goes-first begun (first_parts c) (first-goes c sound)

  room-first : HasRoomFor 1_073_741_824 (after_parts begun 1 (first_parts c))
  room-first = let few = first-few c sound in room-after begun 1 (first_parts c) 1_073_741_824 (room-begun (length (first_parts c) + 1_073_741_824) (omega arith))

  room-numbered : (t : TreeState) → t.changes ≡ 0 → HasRoomFor 1_073_741_824 t → HasRoomFor 1_073_741_824 (with_next_number t)
  room-numbered t number room = record { change = omega arith; versions = room.versions; counters = room.counters; rows = room.rows; few = room.few }

  room-tree : HasRoomFor 1_073_741_824 (first_tree c)
  room-tree = by (list_any (λ part. not (is_check part)) (first_parts c)) refl where
    by : (b : Bool) → list_any (λ part. not (is_check part)) (first_parts c) ≡ b → HasRoomFor 1_073_741_824 (first_tree c)
    by true is = subst (HasRoomFor 1_073_741_824) (sym (goes-under-one-number begun (after_parts begun 1 (first_parts c)) 1 (first_parts c) goes-begun is)) (room-numbered (after_parts begun 1 (first_parts c)) (changes-after begun 1 (first_parts c)) room-first)
    by false is = absurd cc

  -- the first tree holds the state before the first event
  first-stored : IsWhole (first_tree c).nodes → IsStored c (start c) (first_tree c)
  first-stored whole = record { whole = whole; lays = first-lays c sound; carried = starts-are-carried c sound }

  first-decoded : IsWhole (first_tree c).nodes → decoded c (first_tree c) ≡ start c
  first-decoded whole = trees-have-one_state c (start c) (first_tree c) (first-stored whole)

  first-held : IsWhole (first_tree c).nodes → IsHeld c (first_tree c)
  first-held whole = record {
    stored = subst (λ (s : State). IsStored c s (first_tree c)) (sym (first-decoded whole)) (first-stored whole);
    begun = let is : (first_tree c).begun ≡ 0 + 1 = (first-lays c sound).live.begun in omega arith;
    room = room-less (first_tree c) 1_073_741_824 (room_left (first_tree c)) (omega arith) room-tree;
  }

  -- so does the one that the call leaves, whatever its spare
  pub holds-first : (t called : TreeState) (ops : List Op) → IsWhole called.nodes → ops ≡ first_parts c → t ≡ with_spare begun t.spare → called ≡ after_multi t 1 ops → Holds c (start c) called
  holds-first t called ops whole are spare calls =
      let same : called ≡ with_spare (first_tree c) t.spare = calls ∙ ap (after_multi t 1) are ∙ ap (λ (u : TreeState). after_multi u 1 (first_parts c)) spare ∙ multi-spared begun t.spare 1 (first_parts c) in
      let nodes = subst (λ (u : TreeState). IsWhole u.nodes) same whole in
      subst (Holds c (start c)) (sym same) (record { held = held-spared c (first_tree c) t.spare (first-held nodes); state = first-decoded nodes })

-- # the tree after the changes of an event holds the changed state

-- ## the change number

-- the nodes and the number are as they were
record IsSame (t u : TreeState) : Type 0 where
  nodes : u.nodes ≡ t.nodes
  number : u.changes ≡ t.changes

-- a change has a number, or nothing changes
abbrev Moves : TreeState → TreeState → Type 0
Moves t u = (t.changes < u.changes) ⊎ IsSame t u

min-low : (a b : ℕ) → a < b → min (a + 1) b ≡ a + 1
min-low a b low = omega arith

multi-moves : (t : TreeState) (w : ℕ) (parts : List Op) → t.changes < 18_446_744_073_709_551_615 → Goes t w parts (after_parts t w parts) → Moves t (after_multi t w parts)
multi-moves t w parts low goes = by (list_any (λ part. not (is_check part)) parts) refl where
  by : (b : Bool) → list_any (λ part. not (is_check part)) parts ≡ b → Moves t (after_multi t w parts)
  by true is =
      let same = changes-after t w parts in
      let next = min-low (after_parts t w parts).changes 18_446_744_073_709_551_615 (omega arith) in
      let number : (after_multi t w parts).changes ≡ next_change (after_parts t w parts) = ap (λ (u : TreeState). u.changes) (goes-under-one-number t (after_parts t w parts) w parts goes is) in
      inl (omega arith)
  by false is =
      let both = checks-leave-the-tree t (after_parts t w parts) w parts goes is in
      inr (record { nodes = ap (λ (u : TreeState). u.nodes) both.0; number = ap (λ (u : TreeState). u.changes) both.0 })

begin-moves : (growth : Growth) (t u : TreeState) → Moves t u → Moves t (with_begin growth u)
begin-moves (Growth.Session role) t u (inl more) = inl more
begin-moves (Growth.Session role) t u (inr same) = inr (record { nodes = same.nodes; number = same.number })
begin-moves other t u moves = moves

end-moves : (change : SessionsChange) (t u : TreeState) → u.changes < 18_446_744_073_709_551_615 → Moves t u → Moves t (with_end change u)
end-moves (SessionsChange.End session) t u low (inl more) = let next = min-low u.changes 18_446_744_073_709_551_615 low in inl (omega arith)
end-moves (SessionsChange.End session) t u low (inr same) = let next = min-low u.changes 18_446_744_073_709_551_615 low in let number = same.number in inl (omega arith)
end-moves other t u low moves = moves

room-same : (t u : TreeState) (more : ℕ) → IsSame t u → HasRoomFor more t → HasRoomFor more u
room-same t u more same room = record {
  change = let number = same.number in let low = room.change in omega arith;
  versions = subst (λ (nodes : List Node). AllByRecursion (λ n. n.facts.version + more ≤ 18_446_744_073_709_551_615) nodes) (sym same.nodes) room.versions;
  counters = subst (λ (nodes : List Node). AllByRecursion (λ n. n.facts.counter + more ≤ 2_147_483_648) nodes) (sym same.nodes) room.counters;
  rows = λ dir.
      let rows : rows_at u dir ≡ rows_at t dir = ap (λ (nodes : List Node). rows_at (record t { nodes = nodes }) dir) same.nodes in
      let many : length (rows_at u dir) ≡ length (rows_at t dir) = ap length rows in
      let low = room.rows dir in
      omega arith;
  few = room.few;
}

-- ## the sessions

begun-begin : (growth : Growth) (t u : TreeState) → u.begun ≡ t.begun → (with_begin growth u).begun ≤ t.begun + 1
begun-begin Growth.Nothing t u same = omega arith
begun-begin other t u same = omega arith

begun-end : (change : SessionsChange) (u : TreeState) → (with_end change u).begun ≡ u.begun
begun-end SessionsChange.Same u = refl
begun-end other u = refl

-- parts change neither sessions nor the spare
record KeepsSessions (t u : TreeState) : Type 0 where
  live : u.live ≡ t.live
  begun : u.begun ≡ t.begun
  spare : u.spare ≡ t.spare

parts-sessions : (t : TreeState) (w : ℕ) (parts : List Op) → KeepsSessions t (after_parts t w parts)
parts-sessions t w [] = record { live = refl; begun = refl; spare = refl }
parts-sessions t w (part ∷ parts) =
    let is = parts-change_nodes_alone t w part in
    let rest = parts-sessions (after_part t w part) w parts in
    record {
      live = rest.live ∙ ap (λ (u : TreeState). u.live) is;
      begun = rest.begun ∙ ap (λ (u : TreeState). u.begun) is;
      spare = rest.spare ∙ ap (λ (u : TreeState). u.spare) is;
    }

multi-sessions : (t : TreeState) (w : ℕ) (parts : List Op) → KeepsSessions t (after_multi t w parts)
multi-sessions t w parts =
    by_bool (λ b. KeepsSessions t (cond b (with_next_number (after_parts t w parts)) t)) (list_any (λ part. not (is_check part)) parts)
    (λ _. let all = parts-sessions t w parts in record { live = all.live; begun = all.begun; spare = all.spare }) (λ _. record { live = refl; begun = refl; spare = refl })

begin-number : (growth : Growth) (u : TreeState) → (with_begin growth u).changes ≡ u.changes
begin-number Growth.Nothing u = refl
begin-number other u = refl

begin-by : (growth : Growth) (t u : TreeState) → KeepsSessions t u → t.begun < 4_294_967_295 → HasSpare growth t → CanBegin growth u
begin-by (Growth.Session role) t u keeps low spare = (let same = keeps.spare in omega arith, let same = keeps.begun in omega arith)
begin-by other t u keeps low spare = tt

end-by : (c : Configuration) (t : TreeState) (k : ℕ) (ch : Changes) (change : SessionsChange) → SessionsPremise (decoded c t) ch change → (u : TreeState) → KeepsSessions t u → length (decoded c t).sessions + 2 < 2 ^ 32 → CanEnd change (with_spare (with_begin ch.grows u) k)
end-by c t k ch (SessionsChange.End session) premise u keeps few =
    let same : (with_begin ch.grows u).live ≡ t.live = ap (λ (growth : Growth). (with_begin growth u).live) premise.same_size ∙ keeps.live in
    let low = session-low session (decoded c t) premise.facts premise.begun in
    (omega arith, ap (λ (live : List ℕ). is_in live (tree_session session)) same ∙ live-session c t session premise.facts premise.begun ∙ premise.live)
end-by c t k ch other premise u keeps few = tt

-- an end does not see the spare
pub end-spared : (change : SessionsChange) (u : TreeState) (k : ℕ) → with_end change (with_spare u k) ≡ with_spare (with_end change u) k
end-spared SessionsChange.Same u k = refl
end-spared other u k = refl

-- ## the whole

module _ (enact : EventsEnact) (one : TreesHaveOneState) (c : Configuration) (ch : Changes) (t : TreeState) (held : IsHeld c t) (low : t.changes < 16_777_214) (may : MayChange c ch (decoded c t)) where
  abbrev s : State
  s = decoded c t

  abbrev w : ℕ
  w = writer ch.maker

  abbrev parts : List Op
  parts = parts_of c ch s t

  abbrev after : TreeState
  after = enacted c ch s t

  abbrev more : ℕ
  more = (most_changes - (t.changes + 1)) * 64

  stands : Stands s t w (more + 64)
  stands = record {
    whole = held.stored.whole;
    good = held.stored.carried.good;
    lays = held.stored.lays;
    live = writer-lives c t ch.maker held may.ready.premises.maker;
    room = room-less t (room_left t) (more + 64) (omega arith) held.room;
  }

  enacts : IsEnacted c ch s t more
  enacts = enact c ch s t more may.ready stands (omega arith)

  -- the parts are accepted
  pub goes-held : Goes t w parts (after_parts t w parts)
  goes-held = enacts.goes

  stored : IsStored c (changed c ch s) after
  stored = record { whole = enacts.whole; lays = enacts.lays; carried = may.later }

  -- the state that is read after them is the changed one
  pub decoded-later : decoded c after ≡ changed c ch s
  decoded-later = one c (changed c ch s) after stored

  number-low : (with_begin ch.grows (after_multi t w parts)).changes < 18_446_744_073_709_551_615
  number-low =
      let number = number-of t w parts enacts.goes in
      let is : (after_multi t w parts).changes ≡ number.number = ap (λ (u : TreeState). u.changes) number.is in
      let begins = begin-number ch.grows (after_multi t w parts) in
      let small = number.low in
      omega arith

  moves : Moves t after
  moves = end-moves ch.sessions t (with_begin ch.grows (after_multi t w parts)) number-low (begin-moves ch.grows t (after_multi t w parts) (multi-moves t w parts (omega arith) enacts.goes))

  room-by : Moves t after → HasRoomFor (room_left after) after
  room-by (inl rises) = room-less after more (room_left after) (omega arith) enacts.room
  room-by (inr same) = subst (λ (number : ℕ). HasRoomFor ((most_changes - number) * 64) after) (sym same.number) (room-same t after (room_left t) same held.room)

  begun-later : after.begun < 2 ^ 32
  begun-later =
      let first = begun-begin ch.grows t (after_multi t w parts) (multi-sessions t w parts).begun in
      let last = begun-end ch.sessions (with_begin ch.grows (after_multi t w parts)) in
      let are = held.stored.lays.live.begun in
      let few = may.few in
      omega arith

  -- the tree after them is held
  pub held-later : IsHeld c after
  held-later = record {
    stored = subst (λ (later : State). IsStored c later after) (sym decoded-later) stored;
    begun = begun-later;
    room = room-by moves;
  }

  -- a session that is opened can begin after the call
  pub can-begin : HasSpare ch.grows t → CanBegin ch.grows (after_multi t w parts)
  can-begin spare = begin-by ch.grows t (after_multi t w parts) (multi-sessions t w parts) (let are = held.stored.lays.live.begun in let few = may.few in omega arith) spare

  -- and one that expires can end after it
  pub can-end : (k : ℕ) → CanEnd ch.sessions (with_spare (with_begin ch.grows (after_multi t w parts)) k)
  can-end k = end-by c t k ch ch.sessions may.ready.premises.sessions (after_multi t w parts) (multi-sessions t w parts) may.few

-- ## a tree that holds a state, with memory reserved

module _ (enact : EventsEnact) (one : TreesHaveOneState) (c : Configuration) (ch : Changes) (s : State) (old t : TreeState) (same : t ≡ with_spare old t.spare) (before : Holds c s old) (few : old.changes < 16_777_214) (may : MayChange c ch s) where
  here : Holds c s t
  here = holds-spared c s old t same before

  low : t.changes < 16_777_214
  low = let number : t.changes ≡ old.changes = ap (λ (u : TreeState). u.changes) same in omega arith

  may-here : MayChange c ch (decoded c t)
  may-here = subst (MayChange c ch) (sym here.state) may

  -- the parts can be made
  pub can-make : (ops : List Op) → ops ≡ parts_of c ch s t → HasSpare ch.grows t → CanMake ch ops t
  can-make ops is spare = subst (λ (list : List Op). CanMake ch list t) (sym is) (subst (λ (x : State). CanMake ch (parts_of c ch x t) t) here.state (record {
    session = writer-low (decoded c t) ch.maker may-here.ready.premises.maker may-here.few;
    goes = goes-held enact one c ch t here.held low may-here;
    begins = can-begin enact one c ch t here.held low may-here spare;
    ends = can-end enact one c ch t here.held low may-here;
    number = let few = low in omega arith;
    next = number-low enact one c ch t here.held low may-here;
  }))

  made-here : (k : ℕ) → Holds c (changed c ch (decoded c t)) (with_spare (made ch (parts_of c ch (decoded c t) t) t) k)
  made-here k = record {
    held = held-spared c (enacted c ch (decoded c t) t) k (held-later enact one c ch t here.held low may-here);
    state = decoded-later enact one c ch t here.held low may-here;
  }

  -- and the tree after them holds the changed state, whichever spare a session that began left
  pub holds-made : (ops : List Op) (u : TreeState) → ops ≡ parts_of c ch s t → u ≡ with_spare (made ch ops t) u.spare → Holds c (changed c ch s) u
  holds-made ops u is after =
      let whole : u ≡ with_spare (made ch (parts_of c ch s t) t) u.spare = after ∙ ap (λ (list : List Op). with_spare (made ch list t) u.spare) is in
      subst (Holds c (changed c ch s)) (sym whole)
      (subst (λ (x : State). Holds c (changed c ch x) (with_spare (made ch (parts_of c ch x t) t) u.spare)) here.state (made-here u.spare))

-- # each step of making the changes of an event leaves a later tree

-- another spare
pub later-spared : (t u : TreeState) → u ≡ with_spare t u.spare → IsLater t u
later-spared t u is = subst (IsLater t) (sym is) (reserves-later t u.spare)

-- the same tree
pub later-same : (t u : TreeState) → u ≡ t → IsLater t u
later-same t u is = subst (IsLater t) (sym is) (later-than-itself t)

begin-later : (growth : Growth) (t : TreeState) → IsLater t (with_begin growth t)
begin-later (Growth.Session role) t = begins-later t
begin-later other t = later-than-itself t

end-later : (change : SessionsChange) (t : TreeState) → IsWhole t.nodes → t.changes < 18_446_744_073_709_551_615 → IsLater t (with_end change t)
end-later (SessionsChange.End session) t whole low = ends-later t (tree_session session) whole low
end-later other t whole low = later-than-itself t

begin-nodes : (growth : Growth) (t : TreeState) → (with_begin growth t).nodes ≡ t.nodes
begin-nodes Growth.Nothing t = refl
begin-nodes other t = refl

-- a call, then the begin of a session, then an end
pub made-later : (t called begun ended : TreeState) (w k : ℕ) (parts : List Op) (growth : Growth) (change : SessionsChange) →
    IsWhole t.nodes → AllByRecursion IsPart parts → t.changes < 18_446_744_073_709_551_615 → Goes t w parts (after_parts t w parts) → called ≡ after_multi t w parts → IsWhole called.nodes →
    (with_begin growth (after_multi t w parts)).changes < 18_446_744_073_709_551_615 → begun ≡ with_spare (with_begin growth called) k → ended ≡ with_end change begun → IsLater t ended
made-later t called begun ended w k parts growth change whole proper low goes calls whole_called next begins ends =
    let first : IsLater t called = subst (IsLater t) (sym calls) (calls-later t (after_parts t w parts) w parts whole proper low goes) in
    let second : IsLater called begun = subst (IsLater called) (sym begins) (later-joined called (with_begin growth called) (with_spare (with_begin growth called) k) (begin-later growth called) (reserves-later (with_begin growth called) k)) in
    let nodes : begun.nodes ≡ called.nodes = ap (λ (u : TreeState). u.nodes) begins ∙ begin-nodes growth called in
    let number : begun.changes ≡ (with_begin growth (after_multi t w parts)).changes = ap (λ (u : TreeState). u.changes) begins ∙ ap (λ (u : TreeState). (with_begin growth u).changes) calls in
    let third : IsLater begun ended = subst (IsLater begun) (sym ends) (end-later change begun (subst IsWhole (sym nodes) whole_called) (omega arith)) in
    later-joined t called ended first (later-joined called begun ended second third)

-- # what is said of the state that is read from a tree holds of any state that the tree stores

-- a reply by the state that is read is one by the state that is stored
pub reply-laid : (c : Configuration) (e : Event) (s : State) (t : TreeState) (r : Reply) → IsStored c s t → r ≡ reply_of (judge c (decoded c t) e) → r ≡ reply_of (judge c s e)
reply-laid c e s t r stored is = is ∙ ap (λ (x : State). reply_of (judge c x e)) (trees-have-one_state c s t stored)

-- a tree of the state after the one that is read stores the state after the one that was stored
pub next-laid : (c : Configuration) (e : Event) (s : State) (t u : TreeState) → IsStored c s t → IsHeld c u → decoded c u ≡ next c (decoded c t) e → IsStored c (next c s e) u
next-laid c e s t u stored held is =
    subst (λ (x : State). IsStored c x u) (is ∙ ap (λ (x : State). next c x e) (trees-have-one_state c s t stored)) held.stored

-- # the law of a whole event

-- the changes of an accepted event are enacted
pub enact : EventsEnact
enact = events-enact growths-enact (record {
  requests = requests-enact;
  nodes = nodes-enact;
  jobs = jobs-enact;
  handles = handles-enact;
  deeds = deeds-enact;
  sessions = sessions-enact;
  ticks = ticks-enact;
})
