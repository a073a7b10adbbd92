-- a site that was played: from what the rounds left to what a run or a drill shows
use Rattle.np_top.proofs.Prelude.{All, All-append, All-cons, All-head, All-map, All-nil, All-tail, All-weaker, AllByRecursion, Answer, AreAloneSound, AreCarried, AreHosted, ArePlanned, BeginsEmpty, BeginsNew, Bool, Configuration, DistinctNumbers, Driven, DrivenAs, DrivenBy, DrivenFrom, DriverFacts, Driving, EachAfter, Ending, EndsPlay, EndsRun, EndsSite, EndsWithTick, Entry, Err, Event, FailAfter, FailOnlyFull, HasCome, HasEnded, HasEventLine, HasHostLines, HasIds, HasIds-next, HasIds-start, HasStopped, HostDriver, Hosted, Hosting, IfOk, IfSome, IsDrill, IsDrivenTurn, IsDrivenWithHosts, IsFresh, IsPlannedAt, IsPlannedTurn, IsPlayedTo, IsPrinted, IsSayable, IsSettled, IsSound, IsTrue, IsTyped, IsUseful, JobId, Launch, List, NeverRepeats, NodeId, None, Ok, Option, Outcome, PlannedBy, PoolId, Ran, Reason, Refusal, RequestId, RequestRecord, Result, Role, Runs, Says, SessionId, Simulation, Site, SiteCommand, SiteDriver, Some, SourceFacts, State, Tag, Told, Turn, WasAnswered, WasOfUse, WasPlayed, WasPlayedBy, after, ap, arith, driven-more, driven_as, driving, drop, drop-past, false, fates, found, from-map_some, has_digits, host_facts, hosted, hosted-count, hosted-fresh, hosted-lines, hosted-simulated, hosted_run, inl, inr, is_ok, is_planned, is_some, janitor, judge, launch_of, launched_numbers, launcher, length, length-map, list_any, lock_request_as, maker, map, next, numbers_in, option_map, outcome_of, planned-driven, planned-planned, planned_without_hosts, printed-Runs, refl, reports_of, request-digits, request_at, request_in, room_at, row_holds, servers_up, simulated, simulated_outcome, simulation_facts, simulation_of, simulation_plan, simulations, simulations-planned, site_facts, site_of, site_plan, site_planned, site_room, site_sound, slice_get, slice_get-map, sound_at, start, status_of_fates, subst, suc, summary_of, sym, text-of, text_of, told_nothing, told_of, true, turns, turns_from, unlock_request_as, zero, ℕ, [], ◌++◌, ◌>>=◌, ◌||◌, ◌∙◌, ◌∷◌, ◌≡◌}

-- # a site that was played: from what the rounds left to what a run shows

-- ## the clouds

abbrev IsNewCloud : Simulation → Type 0
IsNewCloud cloud = BeginsNew (simulation_facts cloud)

simulations-new : (c : Configuration) (n : ℕ) → All IsNewCloud (simulations c n)
simulations-new c zero = All-nil IsNewCloud
simulations-new c (suc n) =
    let cloud : Simulation = simulation_of c (record { 0 = n }) in
    All-append IsNewCloud (simulations c n) (cloud ∷ []) (simulations-new c n) (All-cons IsNewCloud cloud [] (record { answered = refl; servers = refl }) (All-nil IsNewCloud))

pub new_clouds : (c : Configuration) (clouds : List Simulation) → clouds ≡ simulations c (length c.pools) → All (λ (cloud : Simulation). BeginsNew (simulation_facts cloud)) clouds
new_clouds c clouds are = subst (All IsNewCloud) (sym are) (simulations-new c (length c.pools))

-- a driver that launched nothing has no servers, and reports its answers
pub new_servers : {D : Type 0} (facts : D → DriverFacts) (ds : List D) → All (λ (d : D). BeginsNew (facts d)) ds → All (λ (d : D). (facts d).servers ≡ Some []) ds
new_servers facts ds all = All-weaker (λ d. BeginsNew (facts d)) (λ d. (facts d).servers ≡ Some []) (λ d b. b.servers) ds all

pub new_empty : {D : Type 0} (facts : D → DriverFacts) (ds : List D) → All (λ (d : D). BeginsNew (facts d)) ds → All (λ (d : D). BeginsEmpty (facts d)) ds
new_empty facts ds all = All-weaker (λ d. BeginsNew (facts d)) (λ d. BeginsEmpty (facts d)) (λ d b. record { answered = ap is_some b.answered; servers = b.servers }) ds all

pub plans_of : {D : Type 0} (facts : D → DriverFacts) (plan : D → Tag → Option Outcome) (sound : D → List ℕ → Bool) (room : D → ℕ) (ds : List D) →
    map (λ (d : Driving). d.plan) (map (driving facts plan sound room) ds) ≡ map plan ds
plans_of facts plan sound room [] = refl
plans_of facts plan sound room (d ∷ ds) = ap (λ (plans : List (Tag → Option Outcome)). plan d ∷ plans) (plans_of facts plan sound room ds)

-- what the clouds answered is what the configuration plans
module _ (sound : Simulation → List ℕ → Bool) (room : Simulation → ℕ) where
  abbrev pub clouds_driving : List Simulation → List Driving
  clouds_driving = map (driving simulation_facts simulation_plan sound room)

  module _ (c : Configuration) (journal : List Entry) (clouds now : List Simulation) (are : clouds ≡ simulations c (length c.pools)) (same : map simulation_plan now ≡ map simulation_plan clouds) where
    plans : map (λ (d : Driving). d.plan) (clouds_driving now) ≡ map simulation_plan (simulations c (length c.pools))
    plans = plans_of simulation_facts simulation_plan sound room now ∙ same ∙ ap (map simulation_plan) are

    planned : ArePlanned c 0 (map (λ (d : Driving). d.plan) (clouds_driving now))
    planned = subst (ArePlanned c 0) (sym plans) (simulations-planned c (length c.pools))

    pub driven_by_clouds : (may_plan : Bool) → DrivenAs (WasAnswered (clouds_driving now)) may_plan c journal → driven_as may_plan c journal
    driven_by_clouds false driven = planned-driven c (clouds_driving now) planned journal driven
    driven_by_clouds true driven = planned-planned c (clouds_driving now) planned journal driven

-- with planned events, or without
pub driven_either : (says : Says) (may_plan : Bool) (c : Configuration) (journal : List Entry) → (may_plan ≡ false → DrivenBy says c journal) → (may_plan ≡ true → PlannedBy says c journal) → DrivenAs says may_plan c journal
driven_either says false c journal off on = off refl
driven_either says true c journal off on = on refl

-- ## the journal

module _ (c d : Configuration) (journal : List Entry) (s : State) (same : d ≡ c) (runs : Runs d journal s) where
  reached : after c journal ≡ s
  reached = subst (λ (x : Configuration). after x journal ≡ s) same runs.ends

  pub settled_end : IsSettled c s × EndsWithTick journal → HasStopped c journal false
  settled_end settled = (subst (IsSettled c) (sym reached) settled.0, settled.1)

  pub played_to : (may_plan : Bool) (text : List ℕ) (full : Bool) → IsPrinted d journal text → HasEnded may_plan c journal full → IsPlayedTo may_plan c journal text full
  played_to may_plan text full printed ended = record {
    printed = subst (λ (x : Configuration). IsPrinted x journal text) same printed;
    ended = ended;
  }

  pub status_then : (status : ℕ) → status ≡ status_of_fates (fates s) → status ≡ status_of_fates (fates (after c journal))
  status_then status is = is ∙ ap (λ (x : State). status_of_fates (fates x)) (sym reached)

-- it is known which of the two it was
pub ended_is : (may_plan : Bool) (c : Configuration) (journal : List Entry) (full b : Bool) → full ≡ b → HasEnded may_plan c journal full → HasEnded may_plan c journal b
ended_is may_plan c journal full b is ended = subst (HasEnded may_plan c journal) is ended

-- how the rounds ended
pub ended_so : (c d : Configuration) (journal : List Entry) (s : State) (full : Bool) → d ≡ c → Runs d journal s → (full ≡ false → IsSettled c s × EndsWithTick journal) → (full ≡ true → length journal ≡ 262144) → HasStopped c journal full
ended_so c d journal s true same runs settled full = full refl
ended_so c d journal s false same runs settled full = settled_end c d journal s same runs (settled refl)

pub played_by : (may_plan : Bool) {D : Type 0} (facts : D → DriverFacts) (plan : D → Tag → Option Outcome) (sound : D → List ℕ → Bool) (room : D → ℕ) (c : Configuration) (ds es : List D) (journal : List Entry) (full : Bool)
    → All (λ (d : D). (facts d).servers ≡ Some []) ds → WasPlayed may_plan c (map (driving facts plan sound room) ds) (map (driving facts plan sound room) es) journal full → WasPlayedBy may_plan c journal full
played_by may_plan facts plan sound room c ds es journal full none played = record {
  before = map (driving facts plan sound room) ds;
  left = map (driving facts plan sound room) es;
  empty = All-map (λ (d : Driving). d.facts.servers ≡ Some []) (driving facts plan sound room) ds none;
  played = played;
}

-- ## the machine of a board

-- what holds of the configuration and the journal of one holds of those of the other
module _ (m b : Ran) (same : m ≡ b) (c : Configuration) (is : b.configuration ≡ c) (P : Configuration → List Entry → Type 0) where
  pub to_machine : P c b.journal → P m.configuration m.journal
  to_machine p = subst (λ (x : Ran). P x.configuration x.journal) (sym same) (subst (λ (x : Configuration). P x b.journal) (sym is) p)

  pub from_machine : P m.configuration m.journal → P c b.journal
  from_machine p = subst (λ (x : Configuration). P x b.journal) is (subst (λ (x : Ran). P x.configuration x.journal) same p)

-- ## the rows of a board

-- the rows are those of a machine that a board has
module _ (b m : Ran) (same : m ≡ b) (site : Configuration) (state : State) (is_site : site ≡ m.configuration) (is_state : state ≡ m.state) where
  rows_site : site ≡ b.configuration
  rows_site = is_site ∙ ap (λ (r : Ran). r.configuration) same

  pub rows_state : state ≡ b.state
  rows_state = is_state ∙ ap (λ (r : Ran). r.state) same

  pub rows_runs : (journal : List Entry) → journal ≡ b.journal → Runs b.configuration b.journal b.state → Runs site journal state
  rows_runs journal is runs =
      subst (λ (x : Configuration). Runs x journal state) (sym rows_site)
      (subst (λ (j : List Entry). Runs b.configuration j state) (sym is) (subst (Runs b.configuration b.journal) (sym rows_state) runs))

  pub rows_printed : (journal : List Entry) (text : List ℕ) → journal ≡ b.journal → IsPrinted site journal text → IsPrinted b.configuration b.journal text
  rows_printed journal text is printed =
      subst (λ (x : Configuration). IsPrinted x b.journal text) rows_site (subst (λ (j : List Entry). IsPrinted site j text) is printed)

  pub rows_jobs : length b.state.jobs ≡ length b.configuration.jobs → length state.jobs ≡ length site.jobs
  rows_jobs jobs = ap (λ (s : State). length s.jobs) rows_state ∙ (jobs ∙ sym (ap (λ (c : Configuration). length c.jobs) rows_site))

-- # a site with hosts: its drivers, and what they drove

-- ## before it is played

pub come_lines : (source source_now : SourceFacts) (h : Hosted) → HasCome hosted_run source source_now (Ok h) → HasHostLines h
come_lines source source_now h come = hosted-lines come.came h come.reads

-- the driver has launched nothing
abbrev IsNew : SiteDriver → Type 0
IsNew d = BeginsNew (site_facts d)

new-each : (drivers : List SiteDriver) → All IsFresh (map site_of drivers) → All IsNew drivers
new-each [] fresh = All-nil IsNew
new-each (d ∷ ds) fresh =
    let told : told_of (site_of d) ≡ told_nothing = All-head IsFresh (site_of d) (map site_of ds) fresh in
    All-cons IsNew d ds (record { answered = ap (λ (t : Told). Some t.answered) told; servers = ap (λ (t : Told). Some t.servers) told })
    (new-each ds (All-tail IsFresh (site_of d) (map site_of ds) fresh))

module _ (h : Hosted) (has : HasHostLines h) (drivers : List SiteDriver) (are : map site_of drivers ≡ h.sites) where
  pub drivers_count : length drivers ≡ length h.configuration.pools
  drivers_count = sym (length-map drivers site_of) ∙ (ap length are ∙ hosted-count h has)

  pub drivers_new : All IsNew drivers
  drivers_new = new-each drivers (subst (λ (sites : List Site). All IsFresh sites) (sym are) (hosted-fresh h has))

-- ## what its drivers answered

-- the site of a driver that has its plan
planned-at : (ds : List Driving) (sites : List Site) (k : ℕ) (d : Driving) → map (λ (d : Driving). d.plan) ds ≡ map site_planned sites → slice_get ds k ≡ Some d →
    (site : Site) × (slice_get sites k ≡ Some site) × (site_planned site ≡ d.plan)
planned-at ds sites k d same at =
    from-map_some site_planned (slice_get sites k) d.plan
    (sym (slice_get-map site_planned sites k) ∙ (ap (λ (l : List (Tag → Option Outcome)). slice_get l k) (sym same) ∙ (slice_get-map (λ (d : Driving). d.plan) ds k ∙ ap (option_map (λ (d : Driving). d.plan)) at)))

module _ (h : Hosted) (has : HasHostLines h) where
  planned-cloud : (pool : PoolId) (start : ℕ) (o : Outcome) (cloud : Simulation) → slice_get h.sites pool.0 ≡ Some (simulated cloud) → simulated_outcome cloud start ≡ o → outcome_of h.configuration pool start ≡ o
  planned-cloud pool start o cloud at is =
      ap (λ (x : Simulation). simulated_outcome x start) (sym (hosted-simulated h has pool cloud at)) ∙ is

  planned-site : (pool : PoolId) (tag : Tag) (o : Outcome) (site : Site) → slice_get h.sites pool.0 ≡ Some site → IfSome (site_planned site tag) (λ planned. planned ≡ o) → IsPlannedAt h.configuration (Some site) pool tag.start o
  planned-site pool tag o (simulated cloud) at planned = planned-cloud pool tag.start o cloud at planned
  planned-site pool tag o (hosted hosts) at planned = tt

  module _ (drivings : List Driving) (plans : map (λ (d : Driving). d.plan) drivings ≡ map site_planned h.sites) where
    answered-planned : (pool : PoolId) (n : NodeId) (attempt first : ℕ) (o : Outcome) → WasAnswered drivings pool n attempt first o → planned_without_hosts h pool n attempt first o
    answered-planned pool n attempt first o was =
        let by = planned-at drivings h.sites pool.0 was.driving plans was.of_pool in
        let tag = (launch_of pool n attempt first o).tag in
        let planned : IfSome (site_planned by.0 tag) (λ planned. planned ≡ o) = subst (λ (plan : Tag → Option Outcome). IfSome (plan tag) (λ planned. planned ≡ o)) (sym by.2) was.planned in
        subst (λ (x : Option Site). IsPlannedAt h.configuration x pool first o) (sym by.1) (planned-site pool tag o by.0 by.1 planned)

    hosts-planned-driven : (journal : List Entry) → DrivenBy (WasAnswered drivings) h.configuration journal → DrivenBy (planned_without_hosts h) h.configuration journal
    hosts-planned-driven journal driven = driven-more h.configuration (WasAnswered drivings) (planned_without_hosts h) answered-planned [] (turns h.configuration journal) driven

-- ## what its hosts carried

-- the driver that came back for a pool is on the terms of its site
record IsBack (now : List SiteDriver) (k : ℕ) (site : Site) : Type 0 where
  it : SiteDriver
  at : slice_get now k ≡ Some it
  plan : site_plan it ≡ site_planned site
  sound : site_sound it ≡ sound_at site
  room : site_room it ≡ room_at site

back-of : (now : List SiteDriver) (k : ℕ) (site : Site) (o : Option SiteDriver) → slice_get now k ≡ o
    → option_map site_plan o ≡ Some (site_planned site) → option_map site_sound o ≡ Some (sound_at site) → option_map site_room o ≡ Some (room_at site) → IsBack now k site
back-of now k site None is plan sound room = absurd cc
back-of now k site (Some d) is plan sound room = record { it = d; at = is; plan = cc; sound = cc; room = cc }

by-site : {A : Type 0} (f : SiteDriver → A) (g : Site → A) → ((d : SiteDriver) → f d ≡ g (site_of d)) → (drivers : List SiteDriver) → map f drivers ≡ map g (map site_of drivers)
by-site f g same [] = refl
by-site f g same (d ∷ ds) = ap (λ x. x ∷ map f ds) (same d) ∙ ap (λ l. g (site_of d) ∷ l) (by-site f g same ds)

-- the numbers of the servers that launches made, told in two ways
same-numbers : (launches : List Launch) → launched_numbers launches ≡ numbers_in (map (λ (l : Launch). l.outcome) launches)
same-numbers [] = refl
same-numbers (launch ∷ launches) = grind (arith, same-numbers launches)

-- no hosts answer a number twice
abbrev pub HostsAreDistinct : Type 0
HostsAreDistinct = (hosts : HostDriver) → IfSome (host_facts hosts).answered (λ launches. DistinctNumbers (launched_numbers launches))

abbrev driving-site : SiteDriver → Driving
driving-site = driving site_facts site_plan site_sound site_room

never-repeats : HostsAreDistinct → (tag : Tag) (d : SiteDriver) → site_plan d tag ≡ None → NeverRepeats (driving-site d)
never-repeats distinct tag (SiteDriver.Sim cloud) none = absurd cc
never-repeats distinct tag (SiteDriver.Hosts hosts) none = subst DistinctNumbers (same-numbers hosts.inventory.answered) (distinct hosts)

module _ (h : Hosted) (drivers now : List SiteDriver) (are : map site_of drivers ≡ h.sites) where
  kept-at : {A : Type 0} (f : SiteDriver → A) (g : Site → A) → ((d : SiteDriver) → f d ≡ g (site_of d)) → map f now ≡ map f drivers → (k : ℕ) (site : Site) → slice_get h.sites k ≡ Some site → option_map f (slice_get now k) ≡ Some (g site)
  kept-at f g same kept k site at =
      sym (slice_get-map f now k) ∙ (ap (λ l. slice_get l k) (kept ∙ (by-site f g same drivers ∙ ap (map g) are)) ∙ (slice_get-map g h.sites k ∙ ap (option_map g) at))

  module _ (plans : map site_plan now ≡ map site_plan drivers) (sounds : map site_sound now ≡ map site_sound drivers) (rooms : map site_room now ≡ map site_room drivers) where
    back-at : (k : ℕ) (site : Site) → slice_get h.sites k ≡ Some site → IsBack now k site
    back-at k site at =
        back-of now k site (slice_get now k) refl
        (kept-at site_plan site_planned (λ d. refl) plans k site at)
        (kept-at site_sound sound_at (λ d. refl) sounds k site at)
        (kept-at site_room room_at (λ d. refl) rooms k site at)

    module _ (c : Configuration) (journal : List Entry) (carried : AreCarried c journal (map driving-site now)) (failed : FailOnlyFull c journal (map driving-site now)) (distinct : HostsAreDistinct) where
      are-hosted : (p : PoolId) (hosts : Hosting) → slice_get h.sites p.0 ≡ Some (hosted hosts) → AreHosted c journal p hosts.hosts
      are-hosted p hosts at =
          let back = back-at p.0 (hosted hosts) at in
          let tag : Tag = record { pool = p; node = record { 0 = 0 }; attempt = 0; start = 0 } in
          let here : slice_get (map driving-site now) p.0 ≡ Some (driving-site back.it) = slice_get-map driving-site now p.0 ∙ ap (option_map driving-site) back.at in
          let never : NeverRepeats (driving-site back.it) = never-repeats distinct tag back.it (ap (λ (plan : Tag → Option Outcome). plan tag) back.plan) in
          record {
            carried = λ before rest e is tick.
                let numbers : List ℕ = servers_up p (after c (before ++ e ∷ [])).nodes in
                subst (λ (sound : List ℕ → Bool). IsTrue (sound numbers)) back.sound (carried.nodes p (driving-site back.it) here never before rest e is tick);
            reported = subst (λ (sound : List ℕ → Bool). AreAloneSound sound (reports_of c p journal)) back.sound (carried.reports p (driving-site back.it) here);
            failed = subst (λ (room : ℕ). FailAfter room 0 (reports_of c p journal)) back.room (failed.failed p (driving-site back.it) here);
          }

-- what the drivers drove that came back, on the same terms as before
pub hosts_driven : (h : Hosted) → HasHostLines h → (drivers now : List SiteDriver) → map site_of drivers ≡ h.sites
    → map site_plan now ≡ map site_plan drivers → map site_sound now ≡ map site_sound drivers → map site_room now ≡ map site_room drivers → (journal : List Entry)
    → DrivenBy (WasAnswered (map driving-site now)) h.configuration journal → AreCarried h.configuration journal (map driving-site now) → FailOnlyFull h.configuration journal (map driving-site now)
    → HostsAreDistinct → IsDrivenWithHosts h journal
hosts_driven h has drivers now are plans sounds rooms journal driven carried failed distinct = record {
  driven = hosts-planned-driven h has (map driving-site now) (plans_of site_facts site_plan site_sound site_room now ∙ (plans ∙ (by-site site_plan site_planned (λ d. refl) drivers ∙ ap (map site_planned) are))) journal driven;
  hosted = are-hosted h drivers now are plans sounds rooms h.configuration journal carried failed distinct;
}

-- # how a run ends, by how its input was read and how the site was played

module _ (r : SiteCommand) where
  -- playing ended with a journal that was driven
  pub ends_site : {N : Type 0} (site : r.Site) (journal : List Entry) (end : Result Ending N) → r.IsDriven site journal → IfOk end (EndsPlay r.plans (r.configuration site) journal) → IfOk end (EndsSite r site)
  ends_site site journal (Ok end) driven ends = (journal, driven, ends)
  ends_site site journal (Err none) driven ends = tt

  module _ (source source_now : SourceFacts) where
    pub run_ends : (site : r.Site) (e : Ending) → HasCome r source source_now (Ok site) → EndsSite r site e → EndsRun r source source_now e
    run_ends site (Ending.Prints text status) come ends =
        (record { came = come.came; site = site; journal = ends.0; input = come.input; read = come.reads; driven = ends.1; played = ends.2.0 }, ends.2.1)
    run_ends site (Ending.Full text) come ends =
        record { came = come.came; site = site; journal = ends.0; input = come.input; read = come.reads; driven = ends.1; played = ends.2 }
    run_ends site _ come ends = absurd ends.2

-- # each entry of a journal that was driven has a line

-- ## an accepted event names requests that exist

request_by : (s : State) (r : RequestId) (why : Refusal) (o : Option RequestRecord) (rest : RequestRecord → Answer) → AllByRecursion IsSayable s.requests → request_in r s.requests ≡ o →
    is_ok (found o why >>= rest) ≡ true → has_digits r ≡ true
request_by s r why None rest ids is ok = absurd cc
request_by s r why (Some request) rest ids is ok = request-digits r s.requests request ids is

-- a test that begins with the request
named : (s : State) (r : RequestId) (rest : RequestRecord → Answer) → AllByRecursion IsSayable s.requests → is_ok (request_at s r >>= rest) ≡ true → has_digits r ≡ true
named s r rest ids ok = request_by s r _ (request_in r s.requests) rest ids refl ok

-- a test of the maker before it
named-then : {A : Type 0} (o : Result A Refusal) (s : State) (r : RequestId) (rest : A → RequestRecord → Answer) → AllByRecursion IsSayable s.requests →
    is_ok (o >>= (λ a. request_at s r >>= rest a)) ≡ true → has_digits r ≡ true
named-then (Ok a) s r rest ids ok = named s r (rest a) ids ok
named-then (Err why) s r rest ids ok = absurd cc

by_role : (o : Result Role Refusal) (f : Role → Answer) (r : RequestId) → ((role : Role) → is_ok (f role) ≡ true → has_digits r ≡ true) → is_ok (o >>= f) ≡ true → has_digits r ≡ true
by_role (Ok role) f r each ok = each role ok
by_role (Err why) f r each ok = absurd cc

module _ (c : Configuration) (s : State) (ids : AllByRecursion IsSayable s.requests) where
  locked : (session : SessionId) (r : RequestId) (by : Role) → is_ok (lock_request_as c s session r by) ≡ true → has_digits r ≡ true
  locked session r (Role.Launcher p) ok = named s r _ ids ok
  locked session r (Role.Janitor p) ok = named s r _ ids ok
  locked session r _ ok = absurd cc

  unlocked-by : (session : SessionId) (r : RequestId) (by : Role) → is_ok (unlock_request_as s session r by) ≡ true → has_digits r ≡ true
  unlocked-by session r (Role.Launcher p) ok = named s r _ ids ok
  unlocked-by session r (Role.Janitor p) ok = named s r _ ids ok
  unlocked-by session r _ ok = absurd cc

  -- ## an accepted event has a line, unless it revises a request

  pub accepted-line : (e : Event) → is_ok (judge c s e) ≡ true → ((session : SessionId) (j : JobId) (v : ℕ) → e ≡ Event.Revise session j v → ⊥) → IsTyped e → HasEventLine e
  accepted-line Event.Tick ok never typed = record { role = tt; words = tt }
  accepted-line (Event.OpenSession Role.Reaper) ok never typed = absurd cc
  accepted-line (Event.OpenSession _) ok never typed = record { role = tt; words = (tt, (typed, tt)) }
  accepted-line (Event.Crash session) ok never typed = record { role = tt; words = (typed, tt) }
  accepted-line (Event.Expire session) ok never typed = record { role = tt; words = (typed, tt) }
  accepted-line (Event.Register session) ok never typed = record { role = tt; words = (typed, tt) }
  accepted-line (Event.Revise session j v) ok never typed = absurd (never session j v refl)
  accepted-line (Event.LockRequest session r) ok never typed = record { role = tt; words = (typed.0, (text-of r (by_role (maker s session) _ r (locked session r) ok) typed.1, tt)) }
  accepted-line (Event.UnlockRequest session r) ok never typed = record { role = tt; words = (typed.0, (text-of r (by_role (maker s session) _ r (unlocked-by session r) ok) typed.1, tt)) }
  accepted-line (Event.Accept session r) ok never typed = record { role = tt; words = (typed.0, (text-of r (named-then (launcher s session) s r _ ids ok) typed.1, tt)) }
  accepted-line (Event.Decline session r (Reason.NoLabel l)) ok never typed = record { role = tt; words = (typed.0, (text-of r (named-then (launcher s session) s r _ ids ok) typed.1, (tt, (typed.2, tt)))) }
  accepted-line (Event.Decline session r (Reason.Spent n)) ok never typed = record { role = tt; words = (typed.0, (text-of r (named-then (launcher s session) s r _ ids ok) typed.1, (tt, (typed.2, tt)))) }
  accepted-line (Event.Decline session r _) ok never typed = record { role = tt; words = (typed.0, (text-of r (named-then (launcher s session) s r _ ids ok) typed.1, (tt, tt))) }
  accepted-line (Event.TakeReady session r n) ok never typed = record { role = tt; words = (typed.0, (text-of r (named-then (launcher s session) s r _ ids ok) typed.1, (typed.2, tt))) }
  accepted-line (Event.Create session r) ok never typed = record { role = tt; words = (typed.0, (text-of r (named-then (launcher s session) s r _ ids ok) typed.1, tt)) }
  accepted-line (Event.Done session n k (Outcome.Launched x)) ok never typed = record { role = tt; words = (typed.0, (typed.1, (typed.2, (tt, (typed.3, tt))))) }
  accepted-line (Event.Done session n k Outcome.Failed) ok never typed = record { role = tt; words = (typed.0, (typed.1, (typed.2, (tt, tt)))) }
  accepted-line (Event.Fulfil session r) ok never typed = record { role = tt; words = (typed.0, (text-of r (named-then (launcher s session) s r _ ids ok) typed.1, tt)) }
  accepted-line (Event.EndNode session n e) ok never typed = record { role = tt; words = (typed.0, (typed.1, (tt, tt))) }
  accepted-line (Event.Reset session r) ok never typed = record { role = tt; words = (typed.0, (text-of r (named-then (janitor s session) s r _ ids ok) typed.1, tt)) }
  accepted-line (Event.FailDeclined session r) ok never typed = record { role = tt; words = (typed.0, (text-of r (named-then (janitor s session) s r _ ids ok) typed.1, tt)) }
  accepted-line (Event.Sweep session n x) ok never typed = record { role = tt; words = (typed.0, (typed.1, (typed.2, tt))) }
  accepted-line _ ok never typed = record { role = tt; words = (typed.0, (typed.1, tt)) }

-- ## a driven event has a line

-- no role revises a request
never_revises : (c : Configuration) (s : State) (by : Role) (session : SessionId) (j : JobId) (v : ℕ) → row_holds c s by (Event.Revise session j v) ≡ true → ⊥
never_revises c s by session j v row = grind arith

useful-line : (c : Configuration) (s : State) (by : Role) (e : Event) → HasIds c s → IsUseful c s by e → IsTyped e → HasEventLine e
useful-line c s by e ids useful typed = accepted-line c s ids.requests e useful.accepted (λ session j v is. never_revises c s by session j v (subst (λ x. row_holds c s by x ≡ true) is useful.row)) typed

sweep-line : (session : SessionId) (n : NodeId) (x : ℕ) → IsTyped (Event.Sweep session n x) → HasEventLine (Event.Sweep session n x)
sweep-line session n x typed = record { role = tt; words = (typed.0, (typed.1, (typed.2, tt))) }

report-line : (session : SessionId) (n : NodeId) (k : ℕ) (o : Outcome) → IsTyped (Event.Done session n k o) → HasEventLine (Event.Done session n k o)
report-line session n k (Outcome.Launched x) typed = record { role = tt; words = (typed.0, (typed.1, (typed.2, (tt, (typed.3, tt))))) }
report-line session n k Outcome.Failed typed = record { role = tt; words = (typed.0, (typed.1, (typed.2, (tt, tt)))) }

module _ (says : Says) (c : Configuration) (sound : IsSound c) where
  turn-line : (past : List Turn) (t : Turn) → HasIds c t.before → IsDrivenTurn says c past t → IsTyped t.entry.event → HasEventLine t.entry.event
  turn-line past t ids (inl of_use) typed = useful-line c t.before of_use.role t.entry.event ids of_use.useful typed
  turn-line past t ids (inr (inl tick)) typed = subst HasEventLine (sym tick.event) (record { role = tt; words = tt })
  turn-line past t ids (inr (inr (inl sweep))) typed =
      subst HasEventLine (sym sweep.event) (sweep-line sweep.session sweep.number sweep.server (subst IsTyped sweep.event typed))
  turn-line past t ids (inr (inr (inr report))) typed =
      subst HasEventLine (sym report.event) (report-line report.session report.number report.attempt report.outcome (subst IsTyped report.event typed))

  -- no revision is planned
  planned-line : (past : List Turn) (t : Turn) → HasIds c t.before → WasOfUse c past t → IsTyped t.entry.event → HasEventLine t.entry.event
  planned-line past t ids was typed = accepted-line c t.before ids.requests t.entry.event was.accepted
      (λ session j v is. let never : false ≡ true = subst (λ (e : Event). is_planned e ≡ true) is was.planned in cc) typed

  line-of : (past : List Turn) (t : Turn) → HasIds c t.before → IsPlannedTurn says c past t → IsTyped t.entry.event → HasEventLine t.entry.event
  line-of past t ids (inl driven) typed = turn-line past t ids driven typed
  line-of past t ids (inr was) typed = planned-line past t ids was typed

  lines_from : (past : List Turn) (s : State) (journal : List Entry) → HasIds c s → EachAfter (IsPlannedTurn says c) past (turns_from c s journal) →
      AllByRecursion (λ (e : Entry). IsTyped e.event) journal → AllByRecursion (λ (e : Entry). HasEventLine e.event) journal
  lines_from past s [] ids driven typed = tt
  lines_from past s (e ∷ journal) ids driven typed =
      let t : Turn = record { before = s; entry = e; later = next c s e.event } in
      (line-of past t ids driven.0 typed.0, lines_from (past ++ t ∷ []) (next c s e.event) journal (HasIds-next c sound s e.event ids) driven.1 typed.1)

  -- a driven journal plans nothing
  planned-from : (past ts : List Turn) → DrivenFrom says c past ts → EachAfter (IsPlannedTurn says c) past ts
  planned-from past [] driven = tt
  planned-from past (t ∷ ts) driven = (inl driven.0, planned-from (past ++ t ∷ []) ts driven.1)

  pub lines_as : (plans : Bool) (journal : List Entry) → DrivenAs says plans c journal → AllByRecursion (λ (e : Entry). IsTyped e.event) journal → AllByRecursion (λ (e : Entry). HasEventLine e.event) journal
  lines_as false journal driven typed = lines_from [] (start c) journal (HasIds-start c) (planned-from [] (turns c journal) driven) typed
  lines_as true journal planned typed = lines_from [] (start c) journal (HasIds-start c) planned typed

-- # a site that was played for its summary: from what playing left to what a drill shows

pub drill_shown : (c d : Configuration) (journal : List Entry) (s : State) (text : List ℕ) (full : Bool) → d ≡ c → IsSound c → Runs d journal s →
    AllByRecursion (λ (e : Entry). HasEventLine e.event) journal → Driven c journal → HasEnded false c journal full → text ≡ summary_of (fates s) → IsDrill c text full
drill_shown c d journal s text full same sound runs lines driven ended summary =
    let own : Runs c journal s = subst (λ (x : Configuration). Runs x journal s) same runs in
    record {
      journal = journal;
      runs = subst (Runs c journal) (sym own.ends) own;
      driven = driven;
      ended = ended;
      summary = summary ∙ ap (λ (x : State). summary_of (fates x)) (sym own.ends);
      throughout = (printed-Runs c journal s (text_of c journal) sound own lines refl).throughout;
    }

-- # whether some job's fate is waiting, one job after another

-- after the last there is none
pub any-end : {X Y : Type 0} (p : Y → Bool) (f : X → Y) (xs : List X) (at : ℕ) → slice_get xs at ≡ None → list_any p (map f (drop at xs)) ≡ false
any-end p f xs at is = rw (drop-past xs at is) refl

-- the first is such
pub such-first : (whole first rest : Bool) → whole ≡ (first || rest) → first ≡ true → whole ≡ true
such-first whole first rest is first-is = rw (is, first-is) refl

-- it is not: the others decide
pub such-later : (whole first rest : Bool) → whole ≡ (first || rest) → first ≡ false → whole ≡ rest
such-later whole first rest is first-is = rw (is, first-is) refl

-- what the place decides, and then the later ones
pub any-next : {X Y : Type 0} (p : Y → Bool) (f : X → Y) (xs : List X) (at : ℕ) (x : X) → slice_get xs at ≡ Some x →
    list_any p (map f (drop at xs)) ≡ (p (f x) || list_any p (map f (drop (suc at) xs)))
any-next p f [] at x is = absurd cc
any-next {X} p f (y ∷ xs) zero x is = let same : y ≡ x = cc in ap (λ (z : X). p (f z) || list_any p (map f xs)) same
any-next p f (y ∷ xs) (suc at) x is = any-next p f xs at x is
