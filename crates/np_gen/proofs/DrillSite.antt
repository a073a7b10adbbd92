-- the drill site: it is a configuration that a text can have, and what its jobs are
use Rattle.np_gen.proofs.Prelude.{Bool, Job, LabelId, List, [], after_draws, after_job, ap, append-nil, append_assoc, arith, cond, draw, drawn_jobs, drawn_labels, drill_job, false, jobs_from, jobs_of, label_at, next_state, refl, suc, sym, true, zero, ℕ, ◌%◌, ◌++◌, ◌+◌, ◌-◌, ◌<◌, ◌==◌, ◌∙◌, ◌∷◌, ◌≡◌, ◌≤◌, All, All-append, All-filter_number, by_bool, All-nil, All-weaker, EachAfter, EachAfter-append, StandsByOwner, after_earlier, filter, length, length-append, nat_tests, subst, AllByRecursion, all_ascii_digits, bytes_eq, bytes_eq-apart, decimal, decimal_injective, digits_decimal, drop, is_name_byte, is_name_text, job_name, length-decimal-le, list_all, list_any, model, nat_le, All-cons, All-replicate, AreProviders, AreRequesters, Fault, IsJob, IsLabel, IsOffer, IsPool, IsPriority, IsProvider, IsRequester, IsSem, IsSound, IsTaken, IsWanted, Label, Pool, Provider, Requester, Sem, SemId, Tenant, all-push, all-weaker, configuration, deploy, drill_jobs, drill_labels, drill_offer, drill_pools, drill_providers, drill_requesters, drill_semaphores, drill_site, is_large, job_labels, job_priority, job_semaphores, label_count, lit<, lit≤, replicate, rules, stage, All-filter, All-head, All-tail, asks_for_nine, filter-append, ◌/◌, ◌≢◌}

-- # one draw more

pub after_draws-more : (k s : ℕ) → after_draws (k + 1) s ≡ next_state (after_draws k s)
after_draws-more zero s = refl
after_draws-more (suc k) s = let more : suc k + 1 ≡ suc (k + 1) = omega arith in rw more (after_draws-more k (next_state s))

pub drawn_labels-more : (k s : ℕ) → drawn_labels (k + 1) s ≡ drawn_labels k s ++ label_at (draw (after_draws k s) % 4) ∷ []
drawn_labels-more zero s = refl
drawn_labels-more (suc k) s = let more : suc k + 1 ≡ suc (k + 1) = omega arith in rw more (ap (λ (ls : List LabelId). label_at (draw s % 4) ∷ ls) (drawn_labels-more k (next_state s)))

pub ruleset draws = (after_draws-more, drawn_labels-more)

-- before the first job, after one more, and after the last
pub jobs_of-first : (q n : ℕ) (rows : List Job) → rows ++ jobs_of q (jobs_from (n - 0) 0 n) ≡ rows ++ jobs_of q (drawn_jobs n)
jobs_of-first q n rows = let all : n - 0 ≡ n = omega arith in ap (λ (k : ℕ). rows ++ jobs_of q (jobs_from k 0 n)) all

pub jobs_of-more : (q n i s : ℕ) (rows : List Job) → i < n
    → (rows ++ jobs_of q (drill_job i s ∷ [])) ++ jobs_of q (jobs_from (n - (i + 1)) (i + 1) (after_job i s)) ≡ rows ++ jobs_of q (jobs_from (n - i) i s)
jobs_of-more q n i s rows less =
    let one : n - i ≡ suc (n - (i + 1)) = omega arith in
    let later : List Job = jobs_of q (jobs_from (n - (i + 1)) (i + 1) (after_job i s)) in
    let this : cond (i % 4 == q) (drill_job i s ∷ []) [] ++ later ≡ cond (i % 4 == q) (drill_job i s ∷ later) later = grind arith in
    append_assoc rows (jobs_of q (drill_job i s ∷ [])) later
    ∙ ap (λ (js : List Job). rows ++ js) this
    ∙ ap (λ (k : ℕ). rows ++ jobs_of q (jobs_from k i s)) (sym one)

pub jobs_of-all : (q n i s : ℕ) (rows : List Job) → n ≤ i → rows ++ jobs_of q (jobs_from (n - i) i s) ≡ rows
jobs_of-all q n i s rows most = let none : n - i ≡ 0 = omega arith in ap (λ (k : ℕ). rows ++ jobs_of q (jobs_from k i s)) none ∙ append-nil rows

pub ruleset jobs = (jobs_of-first, jobs_of-more, jobs_of-all)

-- # rows in four groups, one for each owner

module _ {T : Type 0} (owner : T → ℕ) where
  abbrev pub group : ℕ → List T → List T
  group k xs = filter (λ y. owner y == k) xs

  -- the rows of the owners below a number, in the order of these
  abbrev pub groups : ℕ → List T → List T
  groups zero xs = []
  groups (suc k) xs = groups k xs ++ group k xs

  groups_below : (k : ℕ) (xs : List T) → All (λ y. owner y < k) (groups k xs)
  groups_below zero xs = All-nil (λ (y : T). owner y < 0)
  groups_below (suc k) xs = All-append (λ (y : T). owner y < suc k) (groups k xs) (group k xs)
      (All-weaker (λ (y : T). owner y < k) (λ (y : T). owner y < suc k) (λ y h. omega arith) (groups k xs) (groups_below k xs))
      (All-weaker (λ (y : T). owner y ≡ k) (λ (y : T). owner y < suc k) (λ y h. omega arith) (group k xs) (All-filter_number owner k xs))

  all_grouped : (xs : List T) → All (λ y. owner y < 4) xs → length (group 0 xs) + length (group 1 xs) + length (group 2 xs) + length (group 3 xs) ≡ length xs
  all_grouped [] owned = refl
  all_grouped (x ∷ xs) owned =
      let here : owner x < 4 = All-head (λ (y : T). owner y < 4) x xs owned in
      grind (arith, nat_tests, all_grouped xs (All-tail (λ (y : T). owner y < 4) x xs owned))

  length-groups : (xs : List T) → All (λ y. owner y < 4) xs → length (groups 4 xs) ≡ length xs
  length-groups xs owned = simp length-append (omega (arith, all_grouped xs owned))

module _ {T : Type 0} (owner : T → ℕ) (P : List T → T → Type 0) where
  groups_stand : (k : ℕ) (xs : List T) → ((k : ℕ) → EachAfter P [] (group owner k xs)) → EachAfter (StandsByOwner owner P) [] (groups owner k xs)
  groups_stand zero xs each = tt
  groups_stand (suc k) xs each =
      let old : List T = groups owner k xs in
      let more = after_earlier owner P k old [] (group owner k xs) (groups_below owner k xs) (All-nil (λ (y : T). owner y ≡ k)) (All-filter_number owner k xs) (each k) in
      EachAfter-append (StandsByOwner owner P) [] old (group owner k xs) (groups_stand k xs each) (subst (λ (e : List T). EachAfter (StandsByOwner owner P) e (group owner k xs)) (append-nil old) more)

-- # names of jobs: each is a name, and no two jobs have the same one

digits_named : (text : List ℕ) → all_ascii_digits text ≡ true → list_all is_name_byte text ≡ true
digits_named [] digits = refl
digits_named (b ∷ text) digits = grind (arith, nat_tests, digits, digits_named text)

pub job_name_named : (i : ℕ) → i < 4000 → is_name_text (job_name i) ≡ true
unfolding is_name_text
job_name_named i small =
    let few : length (decimal i) ≤ 4 = length-decimal-le 4 i (omega arith) (omega arith) (omega arith) in
    let least : nat_le 1 (length (job_name i)) ≡ true = grind (arith, nat_tests) in
    let most : nat_le (length (job_name i)) 64 ≡ true = grind (arith, nat_tests) in
    let bytes : list_all is_name_byte (decimal i) ≡ true = digits_named (decimal i) (digits_decimal model i (omega arith)) in
    rw (least, most) bytes

-- a job's name is that of an earlier number
pub record IsBefore (i : ℕ) (row : Job) : Type 0 where
  pub number : ℕ
  pub less : number < i
  pub named : row.name ≡ job_name number

other_name : (i : ℕ) (row : Job) → i < 4000 → IsBefore i row → bytes_eq (job_name i) row.name ≡ false
other_name i row small before = bytes_eq-apart (job_name i) row.name (λ same.
    let digits : decimal i ≡ decimal before.number = ap (drop 1) (same ∙ before.named) in
    let number : i ≡ before.number = decimal_injective i before.number (omega arith) (omega arith) digits in
    omega arith)

pub new_name : (i : ℕ) (earlier : List Job) → i < 4000 → AllByRecursion (IsBefore i) earlier → list_any (λ row. bytes_eq (job_name i) row.name) earlier ≡ false
new_name i [] small each = refl
new_name i (row ∷ earlier) small each = rw (other_name i row small each.0) (new_name i earlier small each.1)

-- # the drill site is a configuration that a text can have

-- ## one job

-- labels that a job may ask for
record IsAsked (labels : List LabelId) : Type 0 where
  wanted : All (IsWanted 4) labels
  some : 1 ≤ length labels
  few : length labels ≤ 9

drawn_wanted : (k s : ℕ) → All (IsWanted 4) (drawn_labels k s)
drawn_wanted zero s = All-nil (IsWanted 4)
drawn_wanted (suc k) s = All-cons (IsWanted 4) (label_at (draw s % 4)) (drawn_labels k (next_state s)) (omega arith) (drawn_wanted k (next_state s))

pub length-drawn : (k s : ℕ) → length (drawn_labels k s) ≡ k
length-drawn zero s = refl
length-drawn (suc k) s = omega (arith, length-drawn k (next_state s))

labels_asked : (i s : ℕ) → IsAsked (job_labels i s)
labels_asked i s =
    let k : ℕ = label_count s in
    by_bool (λ b. IsAsked (cond b (replicate 9 (label_at 0)) (drawn_labels k (next_state s)))) (is_large i)
    (λ _. record { wanted = All-replicate (IsWanted 4) 9 (label_at 0) (lit< tt); some = lit≤ tt; few = lit≤ tt })
    (λ _. record { wanted = drawn_wanted k (next_state s); some = omega (arith, length-drawn k (next_state s)); few = omega (arith, length-drawn k (next_state s)) })

priority_stands : (i s : ℕ) → IsPriority (job_priority i s)
priority_stands i s = grind (arith, nat_tests)

-- semaphores that a job may take
record IsTakenOf (semaphores : List SemId) : Type 0 where
  taken : EachAfter (IsTaken 2) [] semaphores
  few : length semaphores ≤ 1

one_taken : (s : SemId) → s.0 < 2 → IsTakenOf (s ∷ [])
one_taken s there = record { taken = (record { semaphore = there; new = refl }, tt); few = lit≤ tt }

semaphores_taken : (i s : ℕ) → IsTakenOf (job_semaphores i s)
semaphores_taken i s =
    let d : ℕ = draw (after_draws (label_count s + 2) s) in
    by (is_large i) (d % 8 == 0) (d % 8 == 1)
  where
    by : (large none one : Bool) → IsTakenOf (cond large [] (cond none (deploy ∷ []) (cond one (stage ∷ []) [])))
    by true none one = record { taken = tt; few = lit≤ tt }
    by false true one = one_taken deploy (lit< tt)
    by false false true = one_taken stage (lit< tt)
    by false false false = record { taken = tt; few = lit≤ tt }

job_stands : (earlier : List Job) (i s : ℕ) → i < 4000 → AllByRecursion (IsBefore i) earlier → IsJob 4 2 0 earlier (drill_job i s)
job_stands earlier i s small before =
    let asked : IsAsked (job_labels i s) = labels_asked i s in
    let taken : IsTakenOf (job_semaphores i s) = semaphores_taken i s in
    record {
      name = record { named = job_name_named i small; new = new_name i earlier small before };
      wanted = asked.wanted;
      some_label = asked.some;
      few_labels = omega (arith, asked.few);
      priority = priority_stands i s;
      relative = lit≤ tt;
      taken = taken.taken;
      few_taken = omega (arith, taken.few);
      tenant = lit≤ tt;
    }

-- ## the jobs of a requester

jobs_stand : (q k i s : ℕ) (earlier : List Job) → i + k ≤ 4000 → AllByRecursion (IsBefore i) earlier → EachAfter (IsJob 4 2 0) earlier (jobs_of q (jobs_from k i s))
jobs_stand q zero i s earlier small before = tt
jobs_stand q (suc k) i s earlier small before =
    let rest : List Job = jobs_of q (jobs_from k (i + 1) (after_job i s)) in
    let later : AllByRecursion (IsBefore (i + 1)) earlier =
    all-weaker (IsBefore i) (IsBefore (i + 1)) (λ row h. record { number = h.number; less = omega (arith, h.less); named = h.named }) earlier before in
    by_bool (λ b. EachAfter (IsJob 4 2 0) earlier (cond b (drill_job i s ∷ rest) rest)) (i % 4 == q)
    (λ _. (job_stands earlier i s (omega arith) before, jobs_stand q k (i + 1) (after_job i s) (earlier ++ drill_job i s ∷ []) (omega arith) (all-push (IsBefore (i + 1)) earlier (drill_job i s) later record { number = i; less = omega arith; named = refl })))
    (λ _. jobs_stand q k (i + 1) (after_job i s) earlier (omega arith) later)

jobs_owned : (k i s : ℕ) → All (λ (job : Job). job.requester.0 < 4) (jobs_from k i s)
jobs_owned zero i s = All-nil (λ (job : Job). job.requester.0 < 4)
jobs_owned (suc k) i s =
    let here : i % 4 < 4 = omega arith in
    All-cons (λ (job : Job). job.requester.0 < 4) (drill_job i s) (jobs_from k (i + 1) (after_job i s)) here (jobs_owned k (i + 1) (after_job i s))

length-jobs_from : (k i s : ℕ) → length (jobs_from k i s) ≡ k
length-jobs_from zero i s = refl
length-jobs_from (suc k) i s = omega (arith, length-jobs_from k (i + 1) (after_job i s))

-- ## the supply

labels_stand : EachAfter IsLabel [] drill_labels
unfolding is_name_text
labels_stand = search (rules, lit≤)

providers_stand : EachAfter IsProvider [] drill_providers
unfolding is_name_text
providers_stand = search (rules, lit≤)

offers_stand : EachAfter (IsOffer 4) [] (drill_offer 0 ∷ drill_offer 1 ∷ drill_offer 2 ∷ drill_offer 3 ∷ [])
offers_stand = search (rules, lit≤, lit<)

pools_stand : EachAfter (StandsByOwner (λ (p : Pool). p.provider) (IsPool 4)) [] drill_pools
unfolding is_name_text
pools_stand = search (rules, lit≤, offers_stand, All-cons {X = Pool}, All-nil {X = Pool})

pools_owned : All (λ (p : Pool). p.provider < 2) drill_pools
pools_owned = search (rules, All-cons {X = Pool}, All-nil {X = Pool}, lit<)

has_pool : (k : ℕ) → k < 2 → 1 ≤ length (filter (λ (p : Pool). p.provider == k) drill_pools)
has_pool zero there = lit≤ tt
has_pool (suc zero) there = lit≤ tt
has_pool (suc (suc k)) there = absurd (omega arith)

supply_stands : AreProviders 4 drill_providers drill_pools
supply_stands = search (rules, lit≤, providers_stand, pools_stand, pools_owned, has_pool)

semaphores_stand : EachAfter IsSem [] drill_semaphores
unfolding is_name_text
semaphores_stand = search (rules, lit≤)

-- ## the requesters

requesters_stand : EachAfter IsRequester [] drill_requesters
unfolding is_name_text
requesters_stand = search (rules, lit≤)

demand_stands : (n : ℕ) → n ≤ 4000 → AreRequesters 4 2 0 drill_requesters (drill_jobs n)
demand_stands n small =
    let owner : Job → ℕ = λ job. job.requester.0 in
    let all : length (drill_jobs n) ≡ length (drawn_jobs n) = length-groups owner (drawn_jobs n) (jobs_owned n 0 n) in
    let count : length (drawn_jobs n) ≡ n = length-jobs_from n 0 n in
    let within : length (drill_jobs n) ≤ 4096 = omega arith in
    record {
      each_requester = requesters_stand;
      each_job = groups_stand owner (IsJob 4 2 0) 4 (drawn_jobs n) (λ k. jobs_stand k n 0 n [] (omega arith) tt);
      few_jobs = within;
      owned = groups_below owner 4 (drawn_jobs n);
    }

-- ## the site

pub drill_site-sound : (n : ℕ) → n ≤ 4000 → IsSound (drill_site n)
unfolding drill_site
drill_site-sound n small = search (rules, lit≤, labels_stand, supply_stands, semaphores_stand, demand_stands n small, All-nil {X = Fault})

-- the parts that the code makes are the site
pub drill_site-made : (n : ℕ) (labels : List Label) (providers : List Provider) (pools : List Pool) (semaphores : List Sem) (tenants : List Tenant)
    (requesters : List Requester) (jobs : List Job) (faults : List Fault) → labels ≡ drill_labels → providers ≡ drill_providers → pools ≡ drill_pools
    → semaphores ≡ drill_semaphores → tenants ≡ [] → requesters ≡ drill_requesters → jobs ≡ drill_jobs n → faults ≡ []
    → configuration labels providers pools semaphores tenants requesters jobs faults 0 ≡ drill_site n
unfolding drill_site
drill_site-made n labels providers pools semaphores tenants requesters jobs faults a b c d e f g h = rw (a, b, c, d, e, f, g, h) refl

-- # how many jobs of the site are large

-- ## rows in groups

commute : {T : Type 0} (p q : T → Bool) (xs : List T) → filter p (filter q xs) ≡ filter q (filter p xs)
commute p q [] = refl
commute p q (x ∷ xs) = grind (arith, commute p q xs)

module _ {T : Type 0} (owner : T → ℕ) where
  filter-groups : (p : T → Bool) (k : ℕ) (xs : List T) → filter p (groups owner k xs) ≡ groups owner k (filter p xs)
  filter-groups p zero xs = refl
  filter-groups p (suc k) xs = filter-append p (groups owner k xs) (group owner k xs) ∙ (λ i. filter-groups p k xs i ++ commute p (λ y. owner y == k) xs i)

  -- as many rows pass a test in the groups as in all rows
  length-filter_groups : (p : T → Bool) (xs : List T) → All (λ y. owner y < 4) xs → length (filter p (groups owner 4 xs)) ≡ length (filter p xs)
  length-filter_groups p xs owned = ap length (filter-groups p 4 xs) ∙ length-groups owner (filter p xs) (All-filter p (λ (y : T). owner y < 4) xs owned)

-- ## the jobs

asks_when_large : (i s : ℕ) → (length (job_labels i s) == 9) ≡ (i % 10 == 9)
asks_when_large i s = by_bool (λ b. (length (cond b (replicate 9 (label_at 0)) (drawn_labels (label_count s) (next_state s))) == 9) ≡ b) (i % 10 == 9) (λ _. refl)
    (λ _. let few : length (drawn_labels (label_count s) (next_state s)) ≤ 3 = omega (arith, length-drawn (label_count s) (next_state s)) in grind (arith, nat_tests))

one_more : (b : Bool) (job : Job) (later : List Job) (i k : ℕ) → (i % 10 == 9) ≡ b → length later + (i + 1) / 10 ≡ (i + 1 + k) / 10 → length (cond b (job ∷ later) later) + i / 10 ≡ (i + suc k) / 10
one_more true job later i k is rest = let nine : i % 10 ≡ 9 = grind (arith, nat_tests) in omega arith
one_more false job later i k is rest = let other : i % 10 ≢ 9 = grind (arith, nat_tests) in omega arith

counted : (k i s : ℕ) → length (filter asks_for_nine (jobs_from k i s)) + i / 10 ≡ (i + k) / 10
counted zero i s = omega arith
counted (suc k) i s =
    rw (asks_when_large i s) (one_more (i % 10 == 9) (drill_job i s) (filter asks_for_nine (jobs_from k (i + 1) (after_job i s))) i k refl (counted k (i + 1) (after_job i s)))

pub large_jobs : (n : ℕ) → length (filter asks_for_nine (drill_site n).jobs) ≡ n / 10
unfolding drill_site
large_jobs n =
    let owner : Job → ℕ = λ job. job.requester.0 in
    let all : length (filter asks_for_nine (drill_jobs n)) ≡ length (filter asks_for_nine (drawn_jobs n)) = length-filter_groups owner asks_for_nine (drawn_jobs n) (jobs_owned n 0 n) in
    let count : length (filter asks_for_nine (drawn_jobs n)) + 0 / 10 ≡ (0 + n) / 10 = counted n 0 n in
    all ∙ omega arith
