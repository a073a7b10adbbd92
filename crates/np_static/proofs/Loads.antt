-- the loads of hosts that a driver keeps, and which host a launch takes
use Rattle.np_static.proofs.Prelude.{AreFull, Bool, DistinctNumbers, Err, FailsOnlyFull, HasOutcome, HostDriver, Hosting, IsFirstFree, IsFirstHost, KeepsLoads, Launch, LaunchFault, List, None, Ok, Option, Outcome, Result, Server, Some, Tag, Told, after_launch, after_removal, all-filter, all-stands, and_from, and_parts, ap, are_numbered, arith, by_bool, cond, count-apart, count-push, count-same, facts_of, false, filter, first_free, get_or, get_or-set_at, get_or-set_other, get_or_from_slice_get, get_or_read_under, have_hosts, host_of, hosted_outcome, inl, inr, is_number, is_numbered, is_sound, launch_on, launched_numbers, length, length-filter_at_most, length-filter_both, length-map, length-set, list_all-append, load_of, map-push, nat_le, nat_lt, nat_tests, none_above, none_above-each, not, numbers_of, numbers_with, or_right, refl, server_number, slice_get, slice_get-get_or, slice_get_within, slice_index, slice_set, subst, suc, sum, sum_by-cons, true, without, without_number, zero, ℕ, [], ◌++◌, ◌+◌, ◌/◌, ◌<◌, ◌==◌, ◌∙◌, ◌∷◌, ◌≡◌, ◌≢◌, ◌≤◌, ◌⊎◌}

-- # which host a launch takes

-- ## the first host with room

-- the first n of these hosts, of which the first has the number h, have as many servers as they carry
abbrev pub AreFullTo : ℕ → List ℕ → List ℕ → ℕ → Type 0
AreFullTo h hosts numbers n = (k i most : ℕ) → i ≡ h + k → k < n → slice_get hosts k ≡ Some most → most ≤ load_of i numbers

-- a host is the first that is not full, or all are full
abbrev pub IsFound : ℕ → List ℕ → List ℕ → Option ℕ → Type 0
IsFound h hosts numbers None = AreFullTo h hosts numbers (length hosts)
IsFound h hosts numbers (Some j) = (at most : ℕ) × (j ≡ h + at) × (slice_get hosts at ≡ Some most) × (load_of j numbers < most) × AreFullTo h hosts numbers at

full-one : (h first : ℕ) (hosts numbers : List ℕ) (n : ℕ) → first ≤ load_of h numbers → AreFullTo (suc h) hosts numbers n → AreFullTo h (first ∷ hosts) numbers (suc n)
full-one h first hosts numbers n here later zero i most same less stands = grind arith
full-one h first hosts numbers n here later (suc k) i most same less stands = later k i most (omega arith) (omega arith) stands

found-later : (h first : ℕ) (hosts numbers : List ℕ) (o : Option ℕ) → first ≤ load_of h numbers → IsFound (suc h) hosts numbers o → IsFound h (first ∷ hosts) numbers o
found-later h first hosts numbers None here found = full-one h first hosts numbers (length hosts) here found
found-later h first hosts numbers (Some j) here found = (suc found.0, found.1, omega (arith, found.2), found.3, found.4, full-one h first hosts numbers found.0 here found.5)

is-found : (h : ℕ) (hosts numbers : List ℕ) → IsFound h hosts numbers (first_free h hosts numbers)
is-found h [] numbers = λ k i most same less stands. absurd cc
is-found h (first ∷ hosts) numbers =
    by_bool (λ b. IsFound h (first ∷ hosts) numbers (cond b (Some h) (first_free (suc h) hosts numbers))) (nat_lt (load_of h numbers) first)
    (λ is. (0, first, omega arith, refl, grind (arith, nat_tests), λ k i most same less stands. absurd (omega arith)))
    (λ is. found-later h first hosts numbers (first_free (suc h) hosts numbers) (grind (arith, nat_tests)) (is-found (suc h) hosts numbers))

-- no other host is the first
found-first : (hosts numbers : List ℕ) (h : ℕ) (o : Option ℕ) → IsFound 0 hosts numbers o → IsFirstHost hosts numbers h → o ≡ Some h
found-first hosts numbers h None found first = absurd (omega (arith, found h h first.most (omega arith) (slice_get_within hosts h first.most first.stands) first.stands, first.free))
found-first hosts numbers h (Some j) found first =
    let same : j ≡ found.0 = omega (arith, found.2) in
    let load : load_of j numbers ≡ load_of found.0 numbers = ap (λ i. load_of i numbers) same in
    let low : found.0 < h → found.1 ≤ load_of found.0 numbers = λ less. first.before found.0 found.1 less found.3 in
    let high : h < found.0 → first.most ≤ load_of h numbers = λ less. found.5 h h first.most (omega arith) less first.stands in
    let is : j ≡ h = grind (arith, found.2, found.4, first.free, low, high, load) in
    ap Some is

-- ## all hosts together

-- if all hosts are full, there are as many servers as all carry
sum-full : (h : ℕ) (hosts numbers : List ℕ) → AreFullTo h hosts numbers (length hosts) → sum hosts ≤ length numbers
sum-full h [] numbers full = omega arith
sum-full h (most ∷ hosts) numbers full =
    let others : List ℕ = filter (λ x. not (host_of x == h)) numbers in
    let apart : (i : ℕ) → h < i → load_of i others ≡ load_of i numbers = λ i less. count-apart (λ x. host_of x == i) (λ x. host_of x == h) (λ x is. grind (arith, nat_tests)) numbers in
    let rest = sum-full (suc h) hosts others (λ k i m same less stands. omega (arith, apart i, full (suc k) i m (omega arith) (omega arith) stands)) in
    omega (arith, full 0 h most (omega arith) (omega arith) refl, rest, sum_by-cons (λ n. n) most hosts, length-filter_both (λ x. host_of x == h) (λ x. not (host_of x == h)) (λ x. refl) numbers)

-- ## what the next launch comes to

-- a launch takes the first host with room, or all hosts are full, or as many launches were answered as may be
abbrev pub Comes : Hosting → Outcome → Type 0
Comes d (Outcome.Launched x) = (h : ℕ) × (x ≡ server_number (suc (length d.told.answered)) h) × IsFirstHost d.hosts (numbers_of d.told.servers) h
Comes d Outcome.Failed = (9007199254740992 ≤ length d.told.answered) ⊎ AreFull d.hosts (numbers_of d.told.servers)

comes-by : (d : Hosting) (b : Bool) (o : Option ℕ) → nat_lt (length d.told.answered) 9007199254740992 ≡ b → IsFound 0 d.hosts (numbers_of d.told.servers) o →
    Comes d (cond b (launch_on (suc (length d.told.answered)) o) Outcome.Failed)
comes-by d false o few found = inl (grind (arith, nat_tests))
comes-by d true None few found = inr (λ h most stands. found h h most (omega arith) (slice_get_within d.hosts h most stands) stands)
comes-by d true (Some h) few found =
    let same : h ≡ found.0 = omega (arith, found.2) in (
      h,
      refl,
      record {
        most = found.1;
        stands = ap (slice_get d.hosts) same ∙ found.3;
        free = found.4;
        before = λ k full less stands. found.5 k k full (omega arith) (omega arith) stands;
      },
    )

comes : (d : Hosting) (o : Outcome) → hosted_outcome d ≡ o → Comes d o
comes d o is = subst (Comes d) is (comes-by d (nat_lt (length d.told.answered) 9007199254740992) (first_free 0 d.hosts (numbers_of d.told.servers)) refl (is-found 0 d.hosts (numbers_of d.told.servers)))

pub launch-takes : (d : Hosting) (x : ℕ) → hosted_outcome d ≡ Outcome.Launched x → (h : ℕ) × (x ≡ server_number (suc (length d.told.answered)) h) × IsFirstHost d.hosts (numbers_of d.told.servers) h
launch-takes d x is = comes d (Outcome.Launched x) is

pub launch-fails : (d : Hosting) → hosted_outcome d ≡ Outcome.Failed → (9007199254740992 ≤ length d.told.answered) ⊎ AreFull d.hosts (numbers_of d.told.servers)
launch-fails d is = comes d Outcome.Failed is

pub launch-many : (d : Hosting) → 9007199254740992 ≤ length d.told.answered → hosted_outcome d ≡ Outcome.Failed
launch-many d many = grind (arith, nat_tests)

full-by : (d : Hosting) (o : Outcome) → AreFull d.hosts (numbers_of d.told.servers) → Comes d o → o ≡ Outcome.Failed
full-by d Outcome.Failed full is = refl
full-by d (Outcome.Launched x) full is = absurd (omega (arith, full is.0 is.2.most is.2.stands, is.2.free))

pub launch-full : (d : Hosting) → AreFull d.hosts (numbers_of d.told.servers) → hosted_outcome d ≡ Outcome.Failed
launch-full d full = full-by d (hosted_outcome d) full (comes d (hosted_outcome d) refl)

-- ## what a driver that keeps its loads takes

kept-full : (hosts loads : List ℕ) (at : ℕ) (numbers : List ℕ) → KeepsLoads hosts loads at numbers → (k most : ℕ) → k < at → slice_get hosts k ≡ Some most → most ≤ load_of k numbers
kept-full hosts loads at numbers keeps k most less stands =
    omega (arith, keeps.passed k less, keeps.counted k (slice_get_within hosts k most stands), get_or_from_slice_get hosts k most 0 stands)

pub outcome-full : (d : Hosting) (loads : List ℕ) (at : ℕ) → KeepsLoads d.hosts loads at (numbers_of d.told.servers) → at ≡ length d.hosts → hosted_outcome d ≡ Outcome.Failed
outcome-full d loads at keeps end = launch-full d (λ h most stands. kept-full d.hosts loads at (numbers_of d.told.servers) keeps h most (omega (arith, slice_get_within d.hosts h most stands)) stands)

pub outcome-at : (d : Hosting) (loads : List ℕ) (at : ℕ) → KeepsLoads d.hosts loads at (numbers_of d.told.servers) → at < length d.hosts → slice_index loads at < slice_index d.hosts at → length d.told.answered < 9007199254740992 →
    hosted_outcome d ≡ Outcome.Launched (server_number (suc (length d.told.answered)) at)
outcome-at d loads at keeps inside free few =
    let numbers = numbers_of d.told.servers in
    let here : IsFirstHost d.hosts numbers at = record {
      most = slice_index d.hosts at;
      stands = slice_get-get_or d.hosts at 0 inside;
      free = omega (arith, keeps.counted at inside);
      before = kept-full d.hosts loads at numbers keeps;
    } in
    let first = found-first d.hosts numbers at (first_free 0 d.hosts numbers) (is-found 0 d.hosts numbers) here in
    let test : nat_lt (length d.told.answered) 9007199254740992 ≡ true = grind (arith, nat_tests) in
    rw (test, first) refl

-- ## why a launch fails

pub fails-only-full : (d : Hosting) (tag : Tag) (r : Result ℕ LaunchFault) (now : Told) → HasOutcome (hosted_outcome d) d.told tag r now → FailsOnlyFull (facts_of d.told 0) (sum d.hosts) r
fails-only-full d tag (Ok x) now has = tt
fails-only-full d tag (Err LaunchFault.Failed) now has = elim (launch-fails d has.0) [
  | inl many ↦ inr many
  | inr full ↦ inl (omega (arith, sum-full 0 d.hosts (numbers_of d.told.servers) (λ k i most same less stands. grind (arith, full k most stands)), length-map (λ (s : Server). s.number) d.told.servers))
]
fails-only-full d tag (Err LaunchFault.NoMemory) now has = tt

-- # the numbers of launches

pub are_numbered-push : (k j : ℕ) (launches : List Launch) (launch : Launch) → j ≡ k + length launches → are_numbered k launches ≡ true → is_numbered j launch.outcome ≡ true → are_numbered k (launches ++ launch ∷ []) ≡ true
are_numbered-push k j [] launch at all is = let same : j ≡ k = omega arith in rw (← same, is) refl
are_numbered-push k j (first ∷ launches) launch at all is = grind (arith, are_numbered-push (suc k) j launches launch (omega arith))

-- what a launch that failed leaves
pub failed-leaves : (before : Told) (tag : Tag) (r : Result ℕ LaunchFault) (now : Told) → HasOutcome Outcome.Failed before tag r now → are_numbered 1 before.answered ≡ true →
    (now.servers ≡ before.servers) × (are_numbered 1 now.answered ≡ true)
failed-leaves before tag (Ok x) now has was = absurd (let no = has.0 in cc)
failed-leaves before tag (Err LaunchFault.Failed) now has was =
    rw has.1 (refl, are_numbered-push 1 (1 + length before.answered) before.answered (record { tag = tag; outcome = Outcome.Failed }) refl was refl)
failed-leaves before tag (Err LaunchFault.NoMemory) now has was = rw has (refl, was)

launched-later : (k : ℕ) (launches : List Launch) (x : ℕ) → are_numbered k launches ≡ true → x / 1024 < k → is_number x (launched_numbers launches) ≡ false
launched-later k [] x all less = refl
launched-later k (launch ∷ launches) x all less = grind (arith, nat_tests, launched-later (suc k) launches x)

distinct-by : (k : ℕ) (o : Outcome) (launches : List Launch) → is_numbered k o ≡ true → are_numbered (suc k) launches ≡ true → DistinctNumbers (launched_numbers launches) → DistinctNumbers (numbers_with o (launched_numbers launches))
distinct-by k Outcome.Failed launches is all later = later
distinct-by k (Outcome.Launched x) launches is all later = (launched-later (suc k) launches x all (grind (arith, nat_tests)), later)

-- launches whose servers tell their numbers answered no number twice
pub launched-distinct : (k : ℕ) (launches : List Launch) → are_numbered k launches ≡ true → DistinctNumbers (launched_numbers launches)
launched-distinct k [] all = tt
launched-distinct k (launch ∷ launches) all =
    let parts = and_parts (is_numbered k launch.outcome) (are_numbered (suc k) launches) all in
    distinct-by k launch.outcome launches parts.0 parts.1 (launched-distinct (suc k) launches parts.1)

-- # what a driver keeps of its hosts

-- the load that is read at a place
pub load-at : (d : HostDriver) (at load : ℕ) → load ≡ get_or d.loads.items at load → at < length d.loads.items → load ≡ slice_index d.loads.items at
load-at d at load is inside = get_or_read_under d.loads.items at (length d.loads.items) load 0 is inside refl

-- a launch passes full hosts; the lists that were read are those that are kept
pub passes : (d : HostDriver) (hosts loads : List ℕ) (at : ℕ) → hosts ≡ d.hosts.items → loads ≡ d.loads.items → IsFirstFree hosts loads d.from at →
    IsFirstFree d.hosts.items d.loads.items d.from at × KeepsLoads d.hosts.items d.loads.items at (numbers_of d.inventory.servers)
passes d hosts loads at same alike found =
    let free : IsFirstFree d.hosts.items d.loads.items d.from at = rw (← same, ← alike) found in
    let keeps = d.keeps in
    let passed : (h : ℕ) → h < at → slice_index d.hosts.items h ≤ slice_index d.loads.items h = λ h less. grind (arith, keeps.passed h, free.full h) in
    (free, assumption (passed, keeps, free))

-- one load is changed, and no host is passed that was not
keeps-set : (hosts loads : List ℕ) (from to : ℕ) (numbers now : List ℕ) (at v : ℕ) → KeepsLoads hosts loads from numbers → at < length hosts → v ≤ slice_index hosts at → v ≡ load_of at now →
    ((h : ℕ) → h ≢ at → load_of h now ≡ load_of h numbers) → have_hosts (length hosts) now ≡ true → to ≤ from → to ≤ at → KeepsLoads hosts (slice_set loads at v) to now
keeps-set hosts loads from to numbers now at v keeps inside most counted other known before under =
    let set : (h : ℕ) → slice_index (slice_set loads at v) h ≡ cond (h == at) v (slice_index loads h) = λ h. grind (arith, nat_tests, get_or-set_at, get_or-set_other, keeps.lengths) in
    record {
      few = keeps.few;
      lengths = length-set loads at v ∙ keeps.lengths;
      counted = λ h less. grind (arith, nat_tests, set h, keeps.counted h, other h);
      carried = λ h less. grind (arith, nat_tests, set h, keeps.carried h);
      known = known;
      passed = λ h less. grind (arith, nat_tests, set h, keeps.passed h);
      within = omega (arith, keeps.within);
    }

-- a launch on a host that is not full
pub launched : (d : HostDriver) (at : ℕ) (tag : Tag) (now : Told) (x v : ℕ) → IsFirstFree d.hosts.items d.loads.items d.from at → KeepsLoads d.hosts.items d.loads.items at (numbers_of d.inventory.servers) →
    at < length d.hosts.items → x ≡ server_number (suc (length d.inventory.answered)) at → now ≡ after_launch d.inventory tag (Outcome.Launched x) → v ≡ slice_index d.loads.items at + 1 →
    KeepsLoads d.hosts.items (slice_set d.loads.items at v) at (numbers_of now.servers) × (are_numbered 1 now.answered ≡ true)
launched d at tag now x v free keeps inside number grown more =
    let hosts = d.hosts.items in
    let numbers = numbers_of d.inventory.servers in
    let on : host_of x ≡ at = omega (arith, keeps.few) in
    let turn : x / 1024 ≡ suc (length d.inventory.answered) = omega (arith, keeps.few) in
    let servers = ap (λ (told : Told). numbers_of told.servers) grown ∙ map-push (λ (s : Server). s.number) d.inventory.servers (record { tag = tag; number = x }) in
    let pushed : (h : ℕ) → load_of h (numbers_of now.servers) ≡ load_of h numbers + cond (host_of x == h) 1 0 = λ h. ap (load_of h) servers ∙ count-push (λ y. host_of y == h) numbers x in
    let known = ap (have_hosts (length hosts)) servers ∙ list_all-append (λ y. nat_lt (host_of y) (length hosts)) numbers (x ∷ []) in (
      keeps-set hosts d.loads.items at at numbers (numbers_of now.servers) at v keeps inside (omega (arith, free.free inside)) (grind (arith, nat_tests, pushed at, keeps.counted at inside)) (λ h differ. grind (arith, nat_tests, pushed h))
          (grind (arith, nat_tests, known, keeps.known)) (omega arith) (omega arith),
      ap (λ (told : Told). are_numbered 1 told.answered) grown
          ∙ are_numbered-push 1 (suc (length d.inventory.answered)) d.inventory.answered (record { tag = tag; outcome = Outcome.Launched x }) (omega arith) d.numbered (grind (arith, nat_tests)),
    )

-- ## a removal

numbers-left : (x : ℕ) (servers : List Server) → numbers_of (without_number x servers) ≡ without x (numbers_of servers)
numbers-left x [] = refl
numbers-left x (server ∷ servers) = grind (arith, numbers-left x servers)

module _ (d : HostDriver) (now : Told) (x : ℕ) (left : now ≡ after_removal d.inventory x) where
  kept : numbers_of now.servers ≡ without x (numbers_of d.inventory.servers)
  kept = ap (λ (told : Told). numbers_of told.servers) left ∙ numbers-left x d.inventory.servers

  -- other hosts have the servers that they had
  other : (h : ℕ) → h ≢ host_of x → load_of h (numbers_of now.servers) ≡ load_of h (numbers_of d.inventory.servers)
  other h differ = ap (load_of h) kept ∙ count-apart (λ y. host_of y == h) (λ y. y == x) (λ y is. grind (arith, nat_tests)) (numbers_of d.inventory.servers)

  known : have_hosts (length d.hosts.items) (numbers_of now.servers) ≡ true
  known = ap (have_hosts (length d.hosts.items)) kept ∙ all-filter (λ y. nat_lt (host_of y) (length d.hosts.items)) (λ y. not (y == x)) (numbers_of d.inventory.servers) d.keeps.known

  -- no server of such a number is there
  pub keeps-unknown : length d.hosts.items ≤ host_of x → KeepsLoads d.hosts.items d.loads.items d.from (numbers_of now.servers)
  keeps-unknown outside =
      let keeps = d.keeps in
      let counted : (h : ℕ) → h < length d.hosts.items → slice_index d.loads.items h ≡ load_of h (numbers_of now.servers) = λ h less. grind (arith, keeps.counted h less, other h) in
      assumption (counted, known, keeps)

  pub fewer : length now.servers ≤ length d.inventory.servers
  fewer = rw left (length-filter_at_most (λ (s : Server). not (s.number == x)) d.inventory.servers)

  -- no more are gone than the host had
  pub gone : host_of x < length d.hosts.items → load_of (host_of x) (numbers_of now.servers) + length d.inventory.servers ≡ slice_index d.loads.items (host_of x) + length now.servers
  gone inside =
      let same = count-same (λ y. host_of y == host_of x) (λ y. y == x) (λ y is. grind (arith, nat_tests)) (numbers_of d.inventory.servers) in
      omega (arith, same, ap (load_of (host_of x)) kept, ap length kept, length-map (λ (s : Server). s.number) now.servers, length-map (λ (s : Server). s.number) d.inventory.servers, d.keeps.counted (host_of x) inside)

  pub keeps-removed : (v to : ℕ) → host_of x < length d.hosts.items → v + length d.inventory.servers ≡ slice_index d.loads.items (host_of x) + length now.servers → to ≤ d.from → to ≤ host_of x →
      KeepsLoads d.hosts.items (slice_set d.loads.items (host_of x) v) to (numbers_of now.servers)
  keeps-removed v to inside left before under =
      keeps-set d.hosts.items d.loads.items d.from to (numbers_of d.inventory.servers) (numbers_of now.servers) (host_of x) v d.keeps inside
      (omega (arith, fewer, d.keeps.carried (host_of x) inside)) (omega (arith, gone inside)) other known before under

-- # sound lists, host by host

above-at : (h : ℕ) (hosts numbers : List ℕ) → none_above h hosts numbers ≡ true → (k i most : ℕ) → i ≡ h + k → slice_get hosts k ≡ Some most → load_of i numbers ≤ most
above-at h [] numbers above k i most same at = absurd cc
above-at h (first ∷ hosts) numbers above zero i most same at = grind (arith, nat_tests)
above-at h (first ∷ hosts) numbers above (suc k) i most same at =
    above-at (suc h) hosts numbers (and_parts (nat_le (load_of h numbers) first) (none_above (suc h) hosts numbers) above).1 k i most (omega arith) at

pub sound-carried : (hosts numbers : List ℕ) → is_sound hosts numbers ≡ true → (h most : ℕ) → slice_get hosts h ≡ Some most → load_of h numbers ≤ most
sound-carried hosts numbers sound h most at = above-at 0 hosts numbers (and_parts (none_above 0 hosts numbers) (have_hosts (length hosts) numbers) sound).0 h h most (omega arith) at

pub sound-known : (hosts numbers : List ℕ) → is_sound hosts numbers ≡ true → (x : ℕ) → is_number x numbers ≡ true → host_of x < length hosts
sound-known hosts numbers sound x stands = grind (arith, nat_tests, all-stands (λ y. nat_lt (host_of y) (length hosts)) x numbers)

known-each : (n : ℕ) (numbers : List ℕ) → ((x : ℕ) → is_number x numbers ≡ true → host_of x < n) → have_hosts n numbers ≡ true
known-each n [] each = refl
known-each n (x ∷ numbers) each =
    grind (arith, nat_tests, each x, known-each n numbers (λ y stands. each y (or_right (x == y) (is_number y numbers) stands)))

pub sound-each : (hosts numbers : List ℕ) → ((h most : ℕ) → slice_get hosts h ≡ Some most → load_of h numbers ≤ most) → ((x : ℕ) → is_number x numbers ≡ true → host_of x < length hosts) → is_sound hosts numbers ≡ true
sound-each hosts numbers carried known =
    and_from (none_above 0 hosts numbers) (have_hosts (length hosts) numbers)
    (none_above-each 0 hosts numbers (λ k i same less. grind (arith, carried k (slice_index hosts k) (slice_get-get_or hosts k 0 less)))) (known-each (length hosts) numbers known)
