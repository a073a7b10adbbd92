-- why and by whom an entry of a round was made: the player whose work it is, its role and its servers
use Rattle.np_worker.proofs.Prelude.{All, All-cons, All-contains, All-filter, All-head, All-nil, Answered, AreAsksOf, AreNamed, AreNumbered, Ask, Bool, Configuration, Contains, Contains-append_left, Contains-append_right, Contains-push, Contains-push_cases, Drives, Driving, Drove, EachPlaysFrom, Entry, Event, FollowsPlan, IfSome, IsAskOf, IsChosen, IsCutOff, IsFull, IsNumbered, IsOfRole, IsOfServer, IsOfWorker, IsReplied, IsRound, Janitor, Launch, Launcher, Leads, List, MayAsk, MayLaunch, MayRemove, Move, NamesServer, NodeId, None, Option, Outcome, Phase, Player, PlayerEnd, PlaysFrom, PoolId, Role, Server, SessionId, Sight, Some, SomeTurn, Start, StartsWith, State, SweepsServers, Tag, Turn, Unturned, Walk, WasAnswered, WasNamed, Work, acting, acts, after, after_entry, after_launch, after_removal, after_role, after_start, after_turn, answers_of, answers_sweep, ap, append-nil, append_assoc, arith, asked, cond, driving_in, drivings_of, ended, first_phase, fresh_sight, inl, inr, is_remove, launch_of, launched, launches_of, length, looks, maker_of, map, nat_tests, next_number, none-some, not, of_pool, option_map, owes_due, owes_launch, owes_report, owes_swept, recorded, refl, removed, report_of, role_of, same_Some, servers_after, slice_get, start_of, starts_more, starts_on, starts_same, subst, suc, sweeps, sym, turns, with_launched, without_number, zero, ℕ, [], ⊎_elim, ◌++◌, ◌+◌, ◌==◌, ◌∙◌, ◌∷◌, ◌≡◌, ◌≤◌, ◌⊎◌, by_bool}
use Rattle.np_worker.proofs.Walks.{starts_equal, starts_length, Rises, walk_rises, member-cases, no-member, All-left, All-right}
use Rattle.np_worker.proofs.Steps.{asks_of, goes_on, of_removal}
use Rattle.np_worker.proofs.Journals.{act-work, all_named_later, named_later, report_names, start-parts, sweep-work}
use Rattle.np_worker.proofs.Reports.{chosen-of_role}
use Rattle.np_worker.proofs.Records.{current-role, role-stays}

-- # why a player's round made an entry: it acted for its role, it swept a server, or it reported a launch that it had begun with its entry before

-- the second place comes right after the first
pub record Follows (places : List ℕ) (first second : ℕ) : Type 0 where
  pub earlier : List ℕ
  pub later : List ℕ
  pub splits : places ≡ earlier ++ first ∷ second ∷ later

follows_later : (xs ys : List ℕ) (first second : ℕ) → StartsWith ys xs → Follows xs first second → Follows ys first second
follows_later xs ys first second s h = record {
  earlier = h.earlier;
  later = h.later ++ s.0;
  splits = s.1 ∙ (ap (λ (l : List ℕ). l ++ s.0) h.splits ∙ append_assoc h.earlier (first ∷ second ∷ h.later) s.0);
}

-- ## causes

-- the pool's launcher accepted this start, by an entry of the journal
pub record Accepted (plans : Bool) (c : Configuration) (work : Work) (pool : PoolId) (start : Start) (journal : List Entry) : Type 0 where
  pub own : work ≡ of_pool pool
  pub earlier : List Entry
  pub begin : Entry
  pub rest : List Entry
  pub stood : journal ≡ earlier ++ begin ∷ rest
  pub begun : start_of pool begin ≡ Some start
  pub act : IsChosen plans c earlier (Launcher pool) begin.event × IsReplied c earlier begin

accepted_later : (plans : Bool) (c : Configuration) (work : Work) (pool : PoolId) (start : Start) (journal later : List Entry) → StartsWith later journal → Accepted plans c work pool start journal → Accepted plans c work pool start later
accepted_later plans c work pool start journal later s h = record {
  own = h.own;
  earlier = h.earlier;
  begin = h.begin;
  rest = h.rest ++ s.0;
  stood = s.1 ∙ (ap (λ (l : List Entry). l ++ s.0) h.stood ∙ append_assoc h.earlier (h.begin ∷ h.rest) s.0);
  begun = h.begun;
  act = h.act;
}

module _ (plans : Bool) (c : Configuration) (before : List Entry) (entry : Entry) where
  pub record IsActed (work : Work) : Type 0 where
    pub role : Role
    pub own : IsAskOf work (Ask.Act role)
    pub answer : IsChosen plans c before role entry.event × IsReplied c before entry

  -- if it was known which servers there are, the server was named
  pub record IsSwept (work : Work) (knew : Type 0) : Type 0 where
    pub pool : PoolId
    pub own : work ≡ of_pool pool
    pub node : NodeId
    pub server : ℕ
    pub answer : answers_sweep c before pool node server (Turn.Did entry)
    pub named : knew → SomeTurn (NamesServer node server) (turns c before)

  pub record IsReported (work : Work) : Type 0 where
    pub pool : PoolId
    pub start : Start
    pub outcome : Outcome
    pub event : entry.event ≡ report_of start outcome
    pub accepted : Accepted plans c work pool start before
    pub open accepted use *

  -- these places of one's own are of the start and, right after it, of the report of one of these launches
  abbrev pub HasReported : Work → List ℕ → List Launch → Type 0
  HasReported work mine launches = (r : IsReported work) × Follows mine (length r.earlier) (length before) × Contains launches (record { tag = r.start.tag; outcome = r.outcome })

  abbrev pub Cause : Work → Type 0 → List ℕ → List Launch → Type 0
  Cause work knew mine launches = IsActed work ⊎ (IsSwept work knew ⊎ HasReported work mine launches)

  cause_later : (work : Work) (knew : Type 0) (mine places : List ℕ) (launches more : List Launch) → StartsWith places mine → StartsWith more launches
      → Cause work knew mine launches → Cause work knew places more
  cause_later work knew mine places launches more ps ls (inl acted) = inl acted
  cause_later work knew mine places launches more ps ls (inr (inl swept)) = inr (inl swept)
  cause_later work knew mine places launches more ps ls (inr (inr (r, next, there))) =
      inr (inr (r, follows_later mine places (length r.earlier) (length before) ps next, subst (λ (l : List Launch). Contains l (record { tag = r.start.tag; outcome = r.outcome })) (sym ls.1) (Contains-append_left launches ls.0 (record { tag = r.start.tag; outcome = r.outcome }) there)))

-- ## the entries that a round made so far

-- the turn recorded the entry after this history, and its place is the last of one's own
abbrev pub Adds : List Entry → Entry → Sight Entry → Sight Entry → Type 0
Adds before e v u = StartsWith before v.seen × (u.seen ≡ before ++ e ∷ []) × (u.mine ≡ v.mine ++ length before ∷ [])

pub adds_seen : (before : List Entry) (e : Entry) (v u : Sight Entry) → Adds before e v u → StartsWith u.seen v.seen
adds_seen before e v u h = subst (λ (l : List Entry). StartsWith l v.seen) (sym h.1) (starts_more before v.seen (e ∷ []) h.0)

module _ (plans : Bool) (c : Configuration) (work : Work) (knew : Type 0) where
  -- the entry at the place, what came before it, and why it was made
  pub record Made (mine : List ℕ) (launches : List Launch) (seen : List Entry) (x : ℕ) : Type 0 where
    pub before : List Entry
    pub entry : Entry
    pub place : length before ≡ x
    pub stands : StartsWith seen (before ++ entry ∷ [])
    pub cause : Cause plans c before entry work knew mine launches

  -- each entry of one's own has its cause
  abbrev pub HasMade : Sight Entry → List Launch → Type 0
  HasMade v launches = (x : ℕ) → Contains v.mine x → Made v.mine launches v.seen x

  made_later : (v u : Sight Entry) (launches more : List Launch) (x : ℕ) → StartsWith u.seen v.seen → StartsWith u.mine v.mine → StartsWith more launches
      → Made v.mine launches v.seen x → Made u.mine more u.seen x
  made_later v u launches more x seen places ls h = record {
    before = h.before;
    entry = h.entry;
    place = h.place;
    stands = starts_on u.seen v.seen (h.before ++ h.entry ∷ []) seen h.stands;
    cause = cause_later plans c h.before h.entry work knew v.mine u.mine launches more places ls h.cause;
  }

  -- no further entry is one's own
  pub quiet_made : (v u : Sight Entry) (launches more : List Launch) → Unturned v u → StartsWith more launches → HasMade v launches → HasMade u more
  quiet_made v u launches more s l h =
      λ x k. made_later v u launches more x s.0 (starts_equal u.mine v.mine s.1) l (h x (subst (λ (xs : List ℕ). Contains xs x) s.1 k))

  -- one more entry is, with its cause
  pub added_made : (before : List Entry) (e : Entry) (v u : Sight Entry) (launches : List Launch) → Adds before e v u → Cause plans c before e work knew u.mine launches
      → HasMade v launches → HasMade u launches
  added_made before e v u launches s cause h = λ x k. ⊎_elim
      (λ old. made_later v u launches launches x (adds_seen before e v u s) (length before ∷ [], s.2) (starts_same launches) (h x old))
      (λ same. subst (Made u.mine launches u.seen) same
      (record { before = before; entry = e; place = refl; stands = starts_equal u.seen (before ++ e ∷ []) s.1; cause = cause }))
      (Contains-push_cases v.mine (length before) x (subst (λ (xs : List ℕ). Contains xs x) s.2 k))

-- ## The whole of a worker's round: what its phase owes, and that each entry has its cause

-- the last entry of one's own accepted the start
pub record HasBegun (plans : Bool) (c : Configuration) (work : Work) (pool : PoolId) (s : Start) (v : Sight Entry) : Type 0 where
  pub accepted : Accepted plans c work pool s v.seen
  pub places : List ℕ
  pub last : v.mine ≡ places ++ length accepted.earlier ∷ []

module _ (plans : Bool) (c : Configuration) (work : Work) (knew : Type 0) where
  -- if it is known which servers there are, each of them was named
  abbrev Named : List Entry → List Server → Type 0
  Named journal servers = knew → All (WasNamed c journal) servers

  -- what the worker owes in the phase, if it saw this and had these launches and servers; after its report a launch's server is named
  abbrev pub Fits : Phase → Sight Entry → List Launch → List Server → Type 0
  Fits (owes_launch pool n s) v launches servers = HasBegun plans c work pool s v × Named v.seen servers
  Fits (owes_report pool n s o) v launches servers = HasBegun plans c work pool s v × Contains launches (record { tag = s.tag; outcome = o })
      × ((before : List Entry) (e : Entry) → StartsWith before v.seen → e.event ≡ report_of s o → Named (before ++ e ∷ []) servers)
  Fits ended v launches servers = IsFull v.seen
  Fits _ v launches servers = Named v.seen servers

  acting_fits : (r : Role) (n : ℕ) (v : Sight Entry) (launches : List Launch) (servers : List Server) → Named v.seen servers → Fits (acting r n) v launches servers
  acting_fits r n v launches servers k = goes_on (λ p. Fits p v launches servers) (λ q m. k) (λ pool m. k) (λ pool. k) k r n

  -- the worker came to the phase, with this sight and these launches and servers
  pub record Stands (p : Phase) (v : Sight Entry) (launches : List Launch) (servers : List Server) : Type 0 where
    pub made : HasMade plans c work knew v launches
    pub fits : Fits p v launches servers

  -- ## more was seen

  named_more : (journal later : List Entry) (servers : List Server) → StartsWith later journal → Named journal servers → Named later servers
  named_more journal later servers s h = λ k. all_named_later c journal later servers s (h k)

  begun_later : (pool : PoolId) (s : Start) (v u : Sight Entry) → Unturned v u → HasBegun plans c work pool s v → HasBegun plans c work pool s u
  unfolding accepted_later
  begun_later pool s v u m h = record { accepted = accepted_later plans c work pool s v.seen u.seen m.0 h.accepted; places = h.places; last = m.1 ∙ h.last }

  fits_later : (p : Phase) (v u : Sight Entry) (launches : List Launch) (servers : List Server) → Unturned v u → Fits p v launches servers → Fits p u launches servers
  fits_later (owes_launch pool n s) v u launches servers m h = (begun_later pool s v u m h.0, named_more v.seen u.seen servers m.0 h.1)
  fits_later (owes_report pool n s o) v u launches servers m h =
      (begun_later pool s v u m h.0, h.1, λ before e from. h.2 before e (starts_on before u.seen v.seen from m.0))
  fits_later ended v u launches servers m h = omega (arith, h, starts_length u.seen v.seen m.0)
  fits_later _ v u launches servers m h = named_more v.seen u.seen servers m.0 h

  -- ## turns

  module _ (v u : Sight Entry) (launches : List Launch) (servers : List Server) (made : HasMade plans c work knew v launches) where
    -- no entry was made
    quiet : (p : Phase) (before : List Entry) → StartsWith before v.seen → (u.seen ≡ before) × (u.mine ≡ v.mine) → (Unturned v u → Fits p u launches servers) → Stands p u launches servers
    quiet p before s r k =
        let m : Unturned v u = (subst (λ (l : List Entry). StartsWith l v.seen) (sym r.0) s, r.1) in
        record { made = quiet_made plans c work knew v u launches launches m (starts_same launches) made; fits = k m }

    full : (before : List Entry) → (u.seen ≡ before) × (u.mine ≡ v.mine) → IsFull before → IsFull u.seen
    full before r h = subst IsFull (sym r.0) h

    -- one was, with its cause
    did : (p : Phase) (before : List Entry) (e : Entry) → Adds before e v u → Cause plans c before e work knew u.mine launches → Fits p u launches servers → Stands p u launches servers
    did p before e m cause k = record { made = added_made plans c work knew before e v u launches m cause made; fits = k }

    -- ### a role acts

    start_fits : (pool : PoolId) (n : ℕ) (before : List Entry) (e : Entry) (o : Option Start) → start_of pool e ≡ o → work ≡ of_pool pool → Adds before e v u
        → IsChosen plans c before (Role.Launcher pool) e.event × IsReplied c before e → Named u.seen servers → Fits (after_start pool n o) u launches servers
    start_fits pool n before e None is own m a k = acting_fits (Role.Launcher pool) n u launches servers k
    start_fits pool n before e (Some s) is own m a k =
        (record { accepted = record { own = own; earlier = before; begin = e; rest = []; stood = m.1; begun = is; act = a }; places = v.mine; last = m.2 }, k)

    entry_fits : (r : Role) (n : ℕ) (before : List Entry) (e : Entry) → IsAskOf work (Ask.Act r) → Adds before e v u → IsChosen plans c before r e.event × IsReplied c before e
        → Named u.seen servers → Fits (after_entry r n e) u launches servers
    entry_fits (Role.Launcher pool) n before e own m a k = start_fits pool n before e (start_of pool e) refl (act-work work (Role.Launcher pool) pool own refl) m a k
    entry_fits (Role.Janitor pool) n before e own m a k = acting_fits (Role.Janitor pool) n u launches servers k
    entry_fits r n before e own m a k = acting_fits r n u launches servers k

    -- what the worker owes after the turn, if it owed this before, and asks so
    abbrev Turned : Phase → Turn → Ask → Type 0
    Turned p t a = IsAskOf work a → (knew → (pool : PoolId) → work ≡ of_pool pool → IsOfServer a servers) → Answered (answers_of plans) recorded c v a t u → Stands (after_turn p a t) u launches servers

    act_step : (r : Role) (n : ℕ) (t : Turn) → Named v.seen servers → Turned (acts r n) t (Ask.Act r)
    act_step r n (Turn.Did e) k own there a =
        let m : Adds a.0 e v u = (a.1, a.3.0, a.3.1) in
        did (after_entry r n e) a.0 e m (inl (record { role = r; own = own; answer = a.2 })) (entry_fits r n a.0 e own m a.2 (named_more v.seen u.seen servers (adds_seen a.0 e v u m) k))
    act_step r n Turn.Idle k own there a = quiet (after_role r) a.0 a.1 a.3 (λ m. acting_fits r 0 u launches servers (named_more v.seen u.seen servers m.0 k))
    act_step r n Turn.Full k own there a = quiet ended a.0 a.1 a.3 (λ m. full a.0 a.3 a.2.1)
    act_step r n _ k own there a = absurd a.2

    -- ### a launch is reported

    report_cause : (pool : PoolId) (s : Start) (o : Outcome) (before : List Entry) (e : Entry) → HasBegun plans c work pool s v → Contains launches (record { tag = s.tag; outcome = o }) → Adds before e v u
        → e.event ≡ report_of s o → HasReported plans c before e work u.mine launches
    unfolding accepted_later
    report_cause pool s o before e b l m is = (
      record { pool = pool; start = s; outcome = o; event = is; accepted = accepted_later plans c work pool s v.seen before m.0 b.accepted },
      record {
        earlier = b.places;
        later = [];
        splits = m.2 ∙ (ap (λ (xs : List ℕ). xs ++ length before ∷ []) b.last ∙ append_assoc b.places (length b.accepted.earlier ∷ []) (length before ∷ []));
      },
      l,
    )

    report_step : (pool : PoolId) (n : ℕ) (s : Start) (o : Outcome) (t : Turn) → Fits (owes_report pool n s o) v launches servers → Turned (owes_report pool n s o) t (Ask.Do (report_of s o))
    report_step pool n s o (Turn.Did e) h own there a =
        let m : Adds a.0 e v u = (a.1, a.3.0, a.3.1) in
        did (acting (Role.Launcher pool) n) a.0 e m (inr (inr (report_cause pool s o a.0 e h.0 h.1 m a.2.0)))
        (acting_fits (Role.Launcher pool) n u launches servers (subst (λ (l : List Entry). Named l servers) (sym m.1) (h.2 a.0 e a.1 a.2.0)))
    report_step pool n s o Turn.Full h own there a = quiet ended a.0 a.1 a.3 (λ m. full a.0 a.3 a.2)
    report_step pool n s o _ h own there a = absurd a.2

    -- ### the janitor looks for a due node

    look_step : (pool : PoolId) (n : ℕ) (t : Turn) → Named v.seen servers → Turned (looks pool n) t (Ask.Due pool)
    look_step pool n (Turn.DueNode node None) k own there a = quiet (acts (Role.Janitor pool) n) a.0 a.1 a.3 (λ m. named_more v.seen u.seen servers m.0 k)
    look_step pool n (Turn.DueNode node (Some x)) k own there a = quiet (owes_due pool n x) a.0 a.1 a.3 (λ m. named_more v.seen u.seen servers m.0 k)
    look_step pool n Turn.Idle k own there a = quiet (acts (Role.Janitor pool) n) a.0 a.1 a.3 (λ m. named_more v.seen u.seen servers m.0 k)
    look_step pool n _ k own there a = absurd a.2

    -- ### a server is asked about

    sweep_named : (before : List Entry) (n : NodeId) (x : ℕ) → StartsWith before v.seen → (server : Server) × Contains servers server × (server.tag.node ≡ n) × (server.number ≡ x) → All (WasNamed c v.seen) servers
        → SomeTurn (NamesServer n x) (turns c before)
    sweep_named before n x s there k =
        subst (λ (y : ℕ). SomeTurn (NamesServer n y) (turns c before)) there.3 (subst (λ (m : NodeId). SomeTurn (NamesServer m there.0.number) (turns c before)) there.2
        (named_later c v.seen before there.0 s (All-contains (WasNamed c v.seen) servers there.0 k there.1)))

    sweep_step : (pool : PoolId) (n : NodeId) (x : ℕ) (t : Turn) → Named v.seen servers → Turned (sweeps pool) t (Ask.Sweep pool n x)
    sweep_step pool n x (Turn.Did e) k own there a =
        let m : Adds a.0 e v u = (a.1, a.3.0, a.3.1) in
        let is : work ≡ of_pool pool = sweep-work work pool n x own in
        let swept : IsSwept plans c a.0 e work knew = record { pool = pool; own = is; node = n; server = x; answer = a.2; named = λ known. sweep_named a.0 n x a.1 (there known pool is) (k known) } in
        did (cond (is_remove e.reply) (owes_swept pool x) (sweeps pool)) a.0 e m (inr (inl swept))
        (let now = named_more v.seen u.seen servers (adds_seen a.0 e v u m) k in by_bool (λ b. Fits (cond b (owes_swept pool x) (sweeps pool)) u launches servers) (is_remove e.reply) (λ _. now) (λ _. now))
    sweep_step pool n x Turn.Swept k own there a = quiet (owes_swept pool x) a.0 a.1 a.3 (λ m. named_more v.seen u.seen servers m.0 k)
    sweep_step pool n x Turn.Idle k own there a = quiet (sweeps pool) a.0 a.1 a.3 (λ m. named_more v.seen u.seen servers m.0 k)
    sweep_step pool n x Turn.Full k own there a = quiet ended a.0 a.1 a.3 (λ m. full a.0 a.3 a.2.2)
    sweep_step pool n x _ k own there a = absurd a.2

    -- a sweep of a pool's worker asks about a server that is there
    turn_step : (p : Phase) (a : Ask) (t : Turn) → MayAsk p a → Fits p v launches servers → Turned p t a
    turn_step (acts r n) a t m h = subst (Turned (acts r n) t) (sym m) (act_step r n t h)
    turn_step (owes_report pool n s o) a t m h = subst (Turned (owes_report pool n s o) t) (sym m) (report_step pool n s o t h)
    turn_step (looks pool n) a t m h = subst (Turned (looks pool n) t) (sym m) (look_step pool n t h)
    turn_step (sweeps pool) a t m h = subst (Turned (sweeps pool) t) (sym m.2) (sweep_step pool m.0 m.1 t h)
    turn_step _ a t m h = absurd m

  -- ## launches and removals

  launch_fits : (p : Phase) (tag : Tag) (o : Outcome) (v : Sight Entry) (launches : List Launch) (servers : List Server) → MayLaunch p tag → Fits p v launches servers
      → Fits (after_launch p o) v (launches ++ record { tag = tag; outcome = o } ∷ []) (with_launched tag o servers)
  launch_fits (owes_launch pool n s) tag o v launches servers m h =
      subst (λ (g : Tag). Fits (owes_report pool n s o) v (launches ++ record { tag = g; outcome = o } ∷ []) (with_launched g o servers)) (sym m)
      (h.0, Contains-push launches (record { tag = s.tag; outcome = o }), λ before e from is k. report_names c before e s o servers is (all_named_later c v.seen before servers from (h.1 k)))
  launch_fits _ tag o v launches servers m h = absurd m

  launch_step : (p : Phase) (tag : Tag) (o : Outcome) (v : Sight Entry) (launches : List Launch) (servers : List Server) → MayLaunch p tag → Stands p v launches servers
      → Stands (after_launch p o) v (launches ++ record { tag = tag; outcome = o } ∷ []) (with_launched tag o servers)
  launch_step p tag o v launches servers m h = record {
    made = quiet_made plans c work knew v v launches (launches ++ record { tag = tag; outcome = o } ∷ []) (starts_same v.seen, refl) (record { tag = tag; outcome = o } ∷ [], refl) h.made;
    fits = launch_fits p tag o v launches servers m h.fits;
  }

  named_left : (x : ℕ) (journal : List Entry) (servers : List Server) → Named journal servers → Named journal (without_number x servers)
  named_left x journal servers h = λ k. All-filter (λ (server : Server). not (server.number == x)) (WasNamed c journal) servers (h k)

  removal_step : (p : Phase) (y : ℕ) (v : Sight Entry) (launches : List Launch) (servers : List Server) → MayRemove p y → Stands p v launches servers → Stands (after_removal p) v launches (without_number y servers)
  removal_step p y v launches servers m h = record {
    made = h.made;
    fits = of_removal (λ s t. Fits s v launches servers → Fits t v launches (without_number y servers)) (λ pool n x k. named_left y v.seen servers k) (λ pool x k. named_left y v.seen servers k) p y m h.fits;
  }

  -- ## the round

  -- each entry it made has its cause, and it came to a phase that fits what was seen, its launches
  -- and the servers that are left
  pub walk_stands : (ms : List Move) (p q : Phase) (v w : Sight Entry) (launches : List Launch) (servers : List Server) → Stands p v launches servers → Walk (answers_of plans) c ms v w → Leads p ms q
      → AreAsksOf work ms → (knew → (pool : PoolId) → work ≡ of_pool pool → SweepsServers ms servers) → Stands q w (launches ++ launches_of ms) (servers_after ms servers)
  walk_stands [] p q v w launches servers h k l own s =
      subst (λ (ls : List Launch). Stands q w ls servers) (sym (append-nil launches)) (subst (λ (r : Phase). Stands r w launches servers) l
      (record { made = quiet_made plans c work knew v w launches launches k (starts_same launches) h.made; fits = fits_later p v w launches servers k h.fits }))
  walk_stands (asked a t ∷ ms) p q v w launches servers h k l own s = walk_stands ms (after_turn p a t) q k.0 w launches servers
      (turn_step v k.0 launches servers h.made p a t l.0 h.fits own.0 (λ known pool e. (s known pool e).0) k.1) k.2 l.1 own.1 (λ known pool e. (s known pool e).1)
  walk_stands (launched tag o ∷ ms) p q v w launches servers h k l own s =
      subst (λ (ls : List Launch). Stands q w ls (servers_after ms (with_launched tag o servers))) (append_assoc launches (record { tag = tag; outcome = o } ∷ []) (launches_of ms))
      (walk_stands ms (after_launch p o) q v w (launches ++ record { tag = tag; outcome = o } ∷ []) (with_launched tag o servers) (launch_step p tag o v launches servers l.0 h) k l.1 own s)
  walk_stands (removed x ∷ ms) p q v w launches servers h k l own s =
      walk_stands ms (after_removal p) q v w launches (without_number x servers) (removal_step p x v launches servers l.0 h) k l.1 own s

  pub first_fits : (w : Work) (v : Sight Entry) (launches : List Launch) (servers : List Server) → Named v.seen servers → Fits (first_phase w) v launches servers
  first_fits (of_pool pool) v launches servers k = k
  first_fits _ v launches servers k = k

-- # The servers of a worker's driver over a round

-- a pool's worker has a driver
abbrev pub HasDriver : Work → Option Driving → Type 0
HasDriver (of_pool pool) None = ⊥
HasDriver _ _ = Unit {0}

-- a worker with its number among the pools' has one
pub numbered_driver : (n : ℕ) (work : Work) (driving : Option Driving) → IsNumbered n work driving → HasDriver work driving
numbered_driver n work driving x1 = grind (arith, nat_tests)

-- the servers that a worker's driver had before a round, each of them named, and what the round did with them
pub record Serves (c : Configuration) (history : List Entry) (work : Work) (moves : List Move) (now : Option Driving) : Type 0 where
  pub servers : List Server
  pub named : All (WasNamed c history) servers
  pub swept : (pool : PoolId) → work ≡ of_pool pool → SweepsServers moves servers
  pub left : (journal : List Entry) → All (WasNamed c journal) (servers_after moves servers) → All (AreNamed c journal) (driving_in now)

-- what holds of the value, if there is one, holds of this one
pub told : {A : Type 0} (P : A → Type 0) (o : Option A) (a : A) → o ≡ Some a → IfSome o P → P a
told {A} P o a is h = subst (λ (x : Option A). IfSome x P) is h

pub serves : (c : Configuration) (history : List Entry) (work : Work) (moves : List Move) (before now : Option Driving) → HasDriver work before → All (AreNamed c history) (driving_in before) → Drove moves before now → Serves c history work moves now
serves c history (of_pool pool) moves None now h k d = absurd h
serves c history _ moves None None h k d = record { servers = []; named = All-nil (WasNamed c history); swept = λ pool e. absurd cc; left = λ journal k. All-nil (AreNamed c journal) }
serves c history work moves (Some before) (Some now) h k d =
    let are = All-head (AreNamed c history) before [] k in
    record {
      servers = are.servers;
      named = are.named;
      swept = λ pool e. told (SweepsServers moves) before.facts.servers are.servers are.told d.swept;
      left = λ journal k. All-cons (AreNamed c journal) now [] (record { servers = servers_after moves are.servers; told = d.servers ∙ ap (option_map (servers_after moves)) are.told; named = k }) (All-nil (AreNamed c journal));
    }
serves c history work moves _ _ h k d = absurd d

-- ## What a player's round made, and which servers it leaves named

-- all servers were named, unless the round was cut off
fits_named : (plans : Bool) (c : Configuration) (work : Work) (p : Phase) (v : Sight Entry) (launches : List Launch) (servers : List Server) → (IsCutOff p → ⊥)
    → Fits plans c work (Unit {0}) p v launches servers → All (WasNamed c v.seen) servers
fits_named plans c work (owes_launch pool n s) v launches servers o h = absurd (o tt)
fits_named plans c work (owes_report pool n s x) v launches servers o h = absurd (o tt)
fits_named plans c work ended v launches servers o h = absurd (o tt)
fits_named plans c work _ v launches servers o h = h tt

module _ {plans : Bool} (c : Configuration) (history : List Entry) (player : Player) (end : PlayerEnd) (p : PlaysFrom plans c history player end) where
  -- ## the history

  -- the places of what it made rise, and come after the history
  pub rises : Rises (length history) end.sight
  rises = walk_rises (answers_of plans) c (length history) p.trace (fresh_sight history) end.sight p.walked (omega arith, tt)

  -- ## entries and servers

  comes_to : (knew : Type 0) (servers : List Server) → (knew → All (WasNamed c history) servers) → (knew → (pool : PoolId) → player.work ≡ of_pool pool → SweepsServers p.trace servers)
      → Stands plans c player.work knew end.phase end.sight (launches_of p.trace) (servers_after p.trace servers)
  comes_to knew servers named swept =
      walk_stands plans c player.work knew p.trace (first_phase player.work) end.phase (fresh_sight history) end.sight [] servers
      (record { made = λ x k. absurd (omega (arith, k.1)); fits = first_fits plans c player.work knew player.work (fresh_sight history) [] servers named })
      p.walked p.led (asks_of player.work end.phase p.trace p.led) swept

  -- each entry of the round has its cause, whatever its servers are
  pub each_caused : (x : ℕ) → Contains end.sight.mine x → Made plans c player.work ⊥ end.sight.mine (launches_of p.trace) end.sight.seen x
  each_caused = (comes_to ⊥ [] (λ none. absurd none) (λ none. absurd none)).made

  -- a pool's worker has a driver, or no one would know which servers it sweeps
  module _ (driver : HasDriver player.work player.driving) (knew : All (AreNamed c history) (driving_in player.driving)) where
    had_servers : Serves c history player.work p.trace end.player.driving
    had_servers = serves c history player.work p.trace player.driving end.player.driving driver knew p.drove

    came_to : Stands plans c player.work (Unit {0}) end.phase end.sight (launches_of p.trace) (servers_after p.trace (had_servers).servers)
    came_to = comes_to (Unit {0}) (had_servers).servers (λ _. (had_servers).named) (λ _. (had_servers).swept)

    -- each entry that the round made has its cause, and the servers that it swept were named
    pub each_made : (x : ℕ) → Contains end.sight.mine x → Made plans c player.work (Unit {0}) end.sight.mine (launches_of p.trace) end.sight.seen x
    each_made = (came_to).made

    -- the servers that are left were named, unless the round was cut off
    pub servers_named : (IsCutOff end.phase → ⊥) → All (AreNamed c end.sight.seen) (driving_in end.player.driving)
    servers_named o = (had_servers).left end.sight.seen (fits_named plans c player.work end.phase end.sight (launches_of p.trace) (servers_after p.trace (had_servers).servers) o (came_to).fits)

-- # players and their ends: whose work each is, and the drivers among them

abbrev pub player_of : PlayerEnd → Player
player_of end = end.player

-- ## whose end it is

-- the round that an end is of; the servers of its player were named before
pub record RoundOf (plans : Bool) (c : Configuration) (history : List Entry) (end : PlayerEnd) : Type 0 where
  pub player : Player
  pub plays : PlaysFrom plans c history player end
  pub named : All (AreNamed c history) (driving_in player.driving)
  pub driver : HasDriver player.work player.driving

module _ {plans : Bool} (c : Configuration) (history : List Entry) where
  pub round-of : (n : ℕ) (players : List Player) (ends : List PlayerEnd) → EachPlaysFrom plans c history players ends → AreNumbered n players → All (AreNamed c history) (drivings_of players) → (end : PlayerEnd) → Contains ends end → RoundOf plans c history end
  round-of n [] [] each are named end there = no-member end there
  round-of n (player ∷ players) (first ∷ ends) each are named end there = ⊎_elim
      (λ (same : first ≡ end). subst (λ (e : PlayerEnd). RoundOf plans c history e) same
      (record { player = player; plays = each.0; named = All-left (AreNamed c history) (driving_in player.driving) (drivings_of players) named; driver = numbered_driver n player.work player.driving are.0 }))
      (λ (later : Contains ends end). round-of (next_number n player.work) players ends each.1 are.1 (All-right (AreNamed c history) (driving_in player.driving) (drivings_of players) named) end later)
      (member-cases first ends end there)
  round-of n _ _ each are named end there = absurd each

  -- some player's round came to this end
  pub end-plays : (players : List Player) (ends : List PlayerEnd) → EachPlaysFrom plans c history players ends → (end : PlayerEnd) → Contains ends end → (player : Player) × PlaysFrom plans c history player end
  end-plays [] [] each end there = no-member end there
  end-plays (player ∷ players) (first ∷ ends) each end there = ⊎_elim
      (λ (same : first ≡ end). (player, subst (PlaysFrom plans c history player) same each.0))
      (λ (later : Contains ends end). end-plays players ends each.1 end later)
      (member-cases first ends end there)
  end-plays _ _ each end there = absurd each

-- ## numbers

number-kept : (n : ℕ) (work : Work) (before now : Option Driving) (moves : List Move) → Drove moves before now → IsNumbered n work before → IsNumbered n work now
number-kept n work before now moves x1 x2 = grind (arith, nat_tests)

module _ (plans : Bool) (c : Configuration) (history : List Entry) where
  pub numbered-now : (n : ℕ) (players : List Player) (ends : List PlayerEnd) → EachPlaysFrom plans c history players ends → AreNumbered n players → AreNumbered n (map player_of ends)
  numbered-now n [] [] each are = tt
  numbered-now n (player ∷ players) (end ∷ ends) each are =
      let work : player.work ≡ end.player.work = sym each.0.work in (
        subst (λ (w : Work). IsNumbered n w end.player.driving) work (number-kept n player.work player.driving end.player.driving each.0.trace each.0.drove are.0),
        subst (λ (w : Work). AreNumbered (next_number n w) (map player_of ends)) work (numbered-now (next_number n player.work) players ends each.1 are.1),
      )
  numbered-now n _ _ each are = absurd each

-- the first number only rises
next-least : (n : ℕ) (work : Work) → n ≤ next_number n work
next-least n work = grind (arith, nat_tests)

-- a pool's worker is not numbered below the first
number-least : (n : ℕ) (work : Work) (driving : Option Driving) (pool : PoolId) → IsNumbered n work driving → work ≡ of_pool pool → (pool.0 ≡ n) × (next_number n work ≡ suc n)
number-least n work driving pool x1 x2 = grind (arith, nat_tests)

numbered-least : (n : ℕ) (players : List Player) → AreNumbered n players → (player : Player) → Contains players player → (pool : PoolId) → player.work ≡ of_pool pool → n ≤ pool.0
numbered-least n [] are player there pool own = no-member player there
numbered-least n (first ∷ players) are player there pool own = ⊎_elim
    (λ (same : first ≡ player). let h = number-least n first.work first.driving pool are.0 (ap (λ (p : Player). p.work) same ∙ own) in omega (arith, h.0))
    (λ (later : Contains players player). omega (arith, next-least n first.work, numbered-least (next_number n first.work) players are.1 player later pool own))
    (member-cases first players player there)

pub player-there : (ends : List PlayerEnd) (end : PlayerEnd) → Contains ends end → Contains (map player_of ends) end.player
player-there [] end there = no-member end there
player-there (first ∷ ends) end there = ⊎_elim
    (λ (same : first ≡ end). (0, omega arith, ap player_of same))
    (λ (later : Contains ends end). let h = player-there ends end later in (suc h.0, omega (arith, h.1), h.2))
    (member-cases first ends end there)

-- only one of them is of the pool's worker
pub one-end : (n : ℕ) (ends : List PlayerEnd) → AreNumbered n (map player_of ends) → (a b : PlayerEnd) → Contains ends a → Contains ends b → (pool : PoolId) → a.player.work ≡ of_pool pool → b.player.work ≡ of_pool pool → a ≡ b
one-end n [] are a b there also pool own of = no-member a there
one-end n (first ∷ ends) are a b there also pool own of =
    let later-is : (e : PlayerEnd) → Contains ends e → e.player.work ≡ of_pool pool → next_number n first.player.work ≤ pool.0 = λ e h k. numbered-least (next_number n first.player.work) (map player_of ends) are.1 e.player (player-there ends e h) pool k in
    let first-is : (e : PlayerEnd) → first ≡ e → e.player.work ≡ of_pool pool → (pool.0 ≡ n) × (next_number n first.player.work ≡ suc n) = λ e h k. number-least n first.player.work first.player.driving pool are.0 (ap (λ (p : PlayerEnd). p.player.work) h ∙ k) in
    ⊎_elim
    (λ (same : first ≡ a). ⊎_elim
    (λ (equal : first ≡ b). sym same ∙ equal)
    (λ (later : Contains ends b). absurd (omega (arith, (first-is a same own).0, (first-is a same own).1, later-is b later of)))
    (member-cases first ends b also))
    (λ (past : Contains ends a). ⊎_elim
    (λ (equal : first ≡ b). absurd (omega (arith, (first-is b equal of).0, (first-is b equal of).1, later-is a past own)))
    (λ (later : Contains ends b). one-end (next_number n first.player.work) ends are.1 a b past later pool own of)
    (member-cases first ends b also))
    (member-cases first ends a there)

-- ## What a driver answered to the launches of a round

-- the driver answered this, if it reports its answers
abbrev pub HasAnswered : Driving → Launch → Type 0
HasAnswered driving l = IfSome driving.facts.answered (λ launches. Contains launches l)

-- what became of the launch is what was planned for it, if anything was
abbrev pub IsPlanned : (Tag → Option Outcome) → Launch → Type 0
IsPlanned plan l = IfSome (plan l.tag) (λ planned. planned ≡ l.outcome)

grown_some : (more : List Launch) (l : Launch) (o : Option (List Launch)) → ((launches : List Launch) → o ≡ Some launches → Contains (launches ++ more) l) → IfSome (option_map (λ launches. launches ++ more) o) (λ launches. Contains launches l)
grown_some more l None each = tt
grown_some more l (Some launches) each = each launches refl

-- the driver answered what it had answered before, and the launches of the round
answered_now : (moves : List Move) (before now : Driving) → Drives moves before now → (l : Launch) → ((launches : List Launch) → before.facts.answered ≡ Some launches → Contains (launches ++ launches_of moves) l) → HasAnswered now l
answered_now moves before now d l each = subst (λ (o : Option (List Launch)). IfSome o (λ launches. Contains launches l)) (sym d.answered) (grown_some (launches_of moves) l before.facts.answered each)

all_planned : (plan : Tag → Option Outcome) (moves : List Move) → FollowsPlan plan moves → All (IsPlanned plan) (launches_of moves)
all_planned plan [] h = All-nil (IsPlanned plan)
all_planned plan (launched tag o ∷ moves) h = All-cons (IsPlanned plan) (record { tag = tag; outcome = o }) (launches_of moves) h.0 (all_planned plan moves h.1)
all_planned plan (move ∷ moves) h = all_planned plan moves h

-- ## each pool's worker, with its driver before and after the round

-- the round of the worker of the pool of this number, and what it did with the driver
pub record PoolRound (plans : Bool) (c : Configuration) (history : List Entry) (all : List PlayerEnd) (number : ℕ) (d d' : Driving) : Type 0 where
  pub player : Player
  pub end : PlayerEnd
  pub plays : PlaysFrom plans c history player end
  pub there : Contains all end
  pub pool : PoolId
  pub is_number : pool.0 ≡ number
  pub work : player.work ≡ of_pool pool
  pub drives : Drives plays.trace d d'

module _ (plans : Bool) (c : Configuration) (history : List Entry) (all : List PlayerEnd) where
  -- at a place there is no driver before and after the round, or that of a pool's worker
  abbrev pub AtPlace : ℕ → Option Driving → Option Driving → Type 0
  AtPlace number before now = ((before ≡ None) × (now ≡ None)) ⊎ ((d : Driving) × (d' : Driving) × (before ≡ Some d) × (now ≡ Some d') × PoolRound plans c history all number d d')

  first-place : (player : Player) (end : PlayerEnd) (plays : PlaysFrom plans c history player end) → Contains all end → (before now : List Driving) (n : ℕ) (work : Work) → player.work ≡ work → (a b : Option Driving) → Drove plays.trace a b → IsNumbered n work a
      → ((k : ℕ) → AtPlace (next_number n work + k) (slice_get before k) (slice_get now k)) → (k : ℕ) → AtPlace (n + k) (slice_get (driving_in a ++ before) k) (slice_get (driving_in b ++ now) k)
  first-place player end plays there before now n (of_pool pool) own (Some a) (Some b) drove is rest zero =
      inr (a, b, refl, refl, record { player = player; end = end; plays = plays; there = there; pool = pool; is_number = omega (arith, is); work = own; drives = drove })
  first-place player end plays there before now n (of_pool pool) own (Some a) (Some b) drove is rest (suc k) =
      let next : suc n + k ≡ n + suc k = omega arith in subst (λ (m : ℕ). AtPlace m (slice_get before k) (slice_get now k)) next (rest k)
  first-place player end plays there before now n (of_pool pool) own None b drove is rest k = absurd is
  first-place player end plays there before now n (of_pool pool) own (Some a) None drove is rest k = absurd drove
  first-place player end plays there before now n _ own None None drove is rest k = rest k
  first-place player end plays there before now n _ own None (Some b) drove is rest k = absurd drove
  first-place player end plays there before now n _ own (Some a) b drove is rest k = absurd is

  pub at-place : (n : ℕ) (players : List Player) (ends : List PlayerEnd) → ((end : PlayerEnd) → Contains ends end → Contains all end) → EachPlaysFrom plans c history players ends → AreNumbered n players
      → (k : ℕ) → AtPlace (n + k) (slice_get (drivings_of players) k) (slice_get (drivings_of (map player_of ends)) k)
  at-place n [] [] among each are k = inl (refl, refl)
  at-place n (player ∷ players) (end ∷ ends) among each are k =
      first-place player end each.0 (among end (0, omega arith, refl)) (drivings_of players) (drivings_of (map player_of ends)) n player.work refl player.driving end.player.driving each.0.drove are.0
      (at-place (next_number n player.work) players ends (λ e h. among e (suc h.0, omega (arith, h.1), h.2)) each.1 are.1) k
  at-place n _ _ among each are k = absurd each

module _ (plans : Bool) (c : Configuration) (history : List Entry) where
  -- what the pool's driver had answered before the round, it has answered after it
  pub answer-kept : (players : List Player) (ends : List PlayerEnd) → EachPlaysFrom plans c history players ends → AreNumbered 0 players → (pool : PoolId) (n : NodeId) (attempt first : ℕ) (o : Outcome) → WasAnswered (drivings_of players) pool n attempt first o → WasAnswered (drivings_of (map player_of ends)) pool n attempt first o
  answer-kept players ends each are pool n attempt first o was = ⊎_elim
      (λ none. absurd (none-some was.driving (sym none.0 ∙ was.of_pool)))
      (λ at.
      let r = at.4 in
      let same : at.0 ≡ was.driving = same_Some at.0 was.driving (sym at.2 ∙ was.of_pool) in
      record {
        driving = at.1;
        of_pool = at.3;
        answered = answered_now r.plays.trace at.0 at.1 r.drives (launch_of pool n attempt first o) (λ launches is. Contains-append_left launches (launches_of r.plays.trace) (launch_of pool n attempt first o)
            (told (λ (all : List Launch). Contains all (launch_of pool n attempt first o)) at.0.facts.answered launches is (subst (λ (d : Driving). HasAnswered d (launch_of pool n attempt first o)) (sym same) was.answered)));
        planned = subst (λ (plan : Tag → Option Outcome). IsPlanned plan (launch_of pool n attempt first o)) (ap (λ (d : Driving). d.plan) (sym same) ∙ sym r.drives.plan) was.planned;
      })
      (at-place plans c history ends 0 players ends (λ end there. there) each are pool.0)

-- ## what is answered in the round

-- the driver of the pool is at the pool's place
record DrivesPool (players : List Player) (n : ℕ) (player : Player) (pool : PoolId) : Type 0 where
  place : ℕ
  driving : Driving
  at_place : pool.0 ≡ n + place
  own : player.driving ≡ Some driving
  stands : slice_get (drivings_of players) place ≡ Some driving

pool-first : (n : ℕ) (work : Work) (driving : Option Driving) (rest : List Driving) (pool : PoolId) → IsNumbered n work driving → work ≡ of_pool pool → (d : Driving) × (driving ≡ Some d) × (pool.0 ≡ n) × (slice_get (driving_in driving ++ rest) 0 ≡ Some d)
pool-first n (of_pool other) (Some d) rest pool is same =
    let equal : other ≡ pool = cc in
    (d, refl, ap (λ (p : PoolId). p.0) (sym equal) ∙ is, refl)
pool-first n (of_pool other) None rest pool is same = absurd is
pool-first n _ driving rest pool is same = absurd cc

past-first : (n : ℕ) (work : Work) (driving : Option Driving) (rest : List Driving) (number k : ℕ) (d : Driving) → IsNumbered n work driving → number ≡ next_number n work + k → slice_get rest k ≡ Some d → (j : ℕ) × (number ≡ n + j) × (slice_get (driving_in driving ++ rest) j ≡ Some d)
past-first n (of_pool pool) (Some a) rest number k d is sum there = (suc k, omega arith, there)
past-first n (of_pool pool) None rest number k d is sum there = absurd is
past-first n _ None rest number k d is sum there = (k, sum, there)
past-first n _ (Some a) rest number k d is sum there = absurd is

drives-pool : (n : ℕ) (players : List Player) → AreNumbered n players → (player : Player) → Contains players player → (pool : PoolId) → player.work ≡ of_pool pool → DrivesPool players n player pool
drives-pool n [] are player there pool own = no-member player there
drives-pool n (first ∷ players) are player there pool own = ⊎_elim
    (λ (same : first ≡ player).
    let h = pool-first n first.work first.driving (drivings_of players) pool are.0 (ap (λ (p : Player). p.work) same ∙ own) in
    record { place = 0; driving = h.0; at_place = omega (arith, h.2); own = ap (λ (p : Player). p.driving) (sym same) ∙ h.1; stands = h.3 })
    (λ (later : Contains players player).
    let h = drives-pool (next_number n first.work) players are.1 player later pool own in
    let k = past-first n first.work first.driving (drivings_of players) pool.0 h.place h.driving are.0 h.at_place h.stands in
    record { place = k.0; driving = h.driving; at_place = k.1; own = h.own; stands = k.2 })
    (member-cases first players player there)

-- the drive of a worker that has a driver now
drive-of : (before now : Option Driving) (moves : List Move) (d : Driving) → Drove moves before now → now ≡ Some d → (a : Driving) × Drives moves a d
drive-of None None moves d drove is = absurd cc
drive-of (Some a) (Some b) moves d drove is =
    let same : b ≡ d = cc in
    (a, subst (λ (x : Driving). Drives moves a x) same drove)
drive-of _ _ moves d drove is = absurd drove

module _ {plans : Bool} where
  -- what was launched in the round of a pool's worker was answered by the pool's driver
  pub answer-new : (c : Configuration) (history : List Entry) (now : List Player) → AreNumbered 0 now → (player : Player) (end : PlayerEnd) (plays : PlaysFrom plans c history player end) → Contains now end.player
      → (pool : PoolId) → end.player.work ≡ of_pool pool → (n : NodeId) (attempt first : ℕ) (o : Outcome) → Contains (launches_of plays.trace) (launch_of pool n attempt first o)
      → WasAnswered (drivings_of now) pool n attempt first o
  answer-new c history now are player end plays there pool own n attempt first o made =
      let h = drives-pool 0 now are end.player there pool own in
      let place : h.place ≡ pool.0 = omega (arith, h.at_place) in
      let drive = drive-of player.driving end.player.driving plays.trace h.driving plays.drove h.own in
      record {
        driving = h.driving;
        of_pool = subst (λ (k : ℕ). slice_get (drivings_of now) k ≡ Some h.driving) place h.stands;
        answered = answered_now plays.trace drive.0 h.driving drive.1 (launch_of pool n attempt first o) (λ launches _. Contains-append_right launches (launches_of plays.trace) (launch_of pool n attempt first o) made);
        planned = subst (λ (plan : Tag → Option Outcome). IsPlanned plan (launch_of pool n attempt first o)) (sym drive.1.plan)
            (All-contains (IsPlanned drive.0.plan) (launches_of plays.trace) (launch_of pool n attempt first o) (all_planned drive.0.plan plays.trace drive.1.planned) made);
      }

-- # each entry of a worker's round is of a role that the worker acts for

-- an event of a maker of the role is of the role
made-of_role : (role : Role) (s : State) (session : SessionId) (e : Event) → maker_of e ≡ Some session → role_of session s ≡ Some role → IsOfRole role s e
made-of_role role s session e made is = record {
  maker = λ other also. subst (λ (x : SessionId). role_of x s ≡ Some role) (same_Some session other (sym made ∙ also)) is;
  opens = λ r opens. absurd (none-some session (sym (ap maker_of opens) ∙ made));
  crashes = λ crashed crashes. absurd (none-some session (sym (ap maker_of crashes) ∙ made));
  expires = λ expired expires. absurd (none-some session (sym (ap maker_of expires) ∙ made));
}

-- the entry after this history is of a role that the worker acts for
pub record OfRole (c : Configuration) (work : Work) (before : List Entry) (e : Entry) : Type 0 where
  pub role : Role
  pub own : IsAskOf work (Ask.Act role)
  pub of_role : IsOfRole role (after c before) e.event

-- it is, whatever its cause
pub of-cause : (plans : Bool) (c : Configuration) (before : List Entry) (e : Entry) (work : Work) (knew : Type 0) (mine : List ℕ) (launches : List Launch)
    → Cause plans c before e work knew mine launches → OfRole c work before e
of-cause plans c before e work knew mine launches (inl a) = record { role = a.role; own = a.own; of_role = chosen-of_role c before a.role plans e.event a.answer.0 }
of-cause plans c before e work knew mine launches (inr (inl s)) =
    let by = s.answer.2 in
    record {
      role = Janitor s.pool;
      own = subst (λ (w : Work). IsAskOf w (Ask.Act (Janitor s.pool))) (sym s.own) (inr refl);
      of_role = made-of_role (Janitor s.pool) (after c before) by.session e.event (ap maker_of by.event) (current-role (Janitor s.pool) by.session (after c before) by.current);
    }
of-cause plans c before e work knew mine launches (inr (inr (r, next, there))) =
    let parts = start-parts r.pool r.begin.event r.begin.reply r.start r.begun in
    let begun : role_of r.start.session (after c r.earlier) ≡ Some (Launcher r.pool) =
    (chosen-of_role c r.earlier (Launcher r.pool) plans r.begin.event r.act.0).maker r.start.session (ap maker_of parts.event) in
    let now : role_of r.start.session (after c before) ≡ Some (Launcher r.pool) = subst (λ (l : List Entry). role_of r.start.session (after c l) ≡ Some (Launcher r.pool)) (sym r.stood)
    (role-stays c r.earlier (r.begin ∷ r.rest) r.start.session (Launcher r.pool) begun) in
    record {
      role = Launcher r.pool;
      own = subst (λ (w : Work). IsAskOf w (Ask.Act (Launcher r.pool))) (sym r.own) (inl refl);
      of_role = made-of_role (Launcher r.pool) (after c before) r.start.session e.event (ap maker_of r.event) now;
    }

module _ {plans : Bool} where
  pub entry_of_worker : (c : Configuration) (history : List Entry) (player : Player) (end : PlayerEnd) → PlaysFrom plans c history player end → (x : ℕ) → Contains end.sight.mine x → IsOfWorker c end.sight.seen player.work x
  entry_of_worker c history player end plays x mine =
      let made = each_caused c history player end plays x mine in
      let of = of-cause plans c made.before made.entry player.work ⊥ _ _ made.cause in
      record { before = made.before; entry = made.entry; place = made.place; stands = made.stands; role = of.role; own = of.own; of_role = of.of_role }

  pub entry_of_player : (c : Configuration) (history later : List Entry) (players now : List Player) (is_cut : Bool) (round : IsRound plans c history later players now is_cut)
      → (end : PlayerEnd) → Contains round.ends end → (x : ℕ) → Contains end.sight.mine x → IsOfWorker c end.sight.seen end.player.work x
  entry_of_player c history later players now is_cut round end there x mine =
      let p = end-plays c history players round.ends round.plays end there in
      subst (λ (w : Work). IsOfWorker c end.sight.seen w x) (sym p.1.work) (entry_of_worker c history p.0 end p.1 x mine)
