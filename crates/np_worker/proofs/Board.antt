-- a round at a board: a server that no record wants any more is gone after it
use Rattle.np_worker.proofs.Prelude.{All, All-contains, AnswersAsBoard, AreAsksOf, AreKept, AreSweptSo, Ask, BeginsLaunch, Bool, CameFar, CameToEnd, Configuration, Contains, DrivenAs, Driving, EndsAs, Entry, Err, Event, HadNothing, HasRoundAtBoard, HasServers, IfOk, IfSome, IsAskOf, IsKept, IsPastJanitor, IsPastLauncher, IsReportOfLaunch, IsRoundAtBoard, IsSweptSo, IsUseful, Janitor, KeepsJanitor, Launcher, List, MatchBool, Move, NamesServer, NoMemory, NodeId, NodeRecord, None, Ok, Option, Outcome, OwesRemoval, Part, Phase, Player, PlayerEnd, PlaysFrom, PoolId, Reaper, Records, RemovalFailed, Requester, Rests, Result, Role, RolesCameFar, RolesTook, RoundEnd, Says, Server, ServersGo, ServersLeave, ServersStay, Sight, Some, StandAt, StartsWith, StaysKept, TookAll, Turn, Walk, WasAnswered, WasIdle, WasKept, WasNamed, WasUnwanted, Work, acts_as, after, answers_of, ap, append-nil, append_assoc, arith, asked, ended, entries_of, false, false≢true, first_phase, inl, inr, is_building, is_idle, is_ok, is_server, is_wanted, judge, length, length-append, nat_tests, node_in, node_in-below, not-second, of_pool, of_reaper, of_requester, option_map_or, recorded, refl, start, starts_on, starts_same, subst, sym, true, turns, ℕ, [], ⊎_elim, ◌++◌, ◌+◌, ◌<◌, ◌||◌, ◌∙◌, ◌∷◌, ◌≡◌, ◌≤◌}
use Rattle.np_worker.proofs.Records.{IsSteady, IsGiven, attempts-steady, given-stays, holds-after, done-spends}
use Rattle.np_worker.proofs.Journals.{turn_after, some-place, driven-at, done-turn}
use Rattle.np_worker.proofs.Reports.{walk_as}
use Rattle.np_worker.proofs.Leaving.{kept_stay, left_with_cause, own_node, own_pair, sweep_removes}
use Rattle.np_worker.proofs.Walks.{orderly, turn_seen, walk_gains, walk_seen}
use Rattle.np_worker.proofs.Made.{entry_of_worker, rises}
use Rattle.np_worker.proofs.Steps.{ends_full, is_at_end}

-- # a server that no record wants any more is never wanted again, and so is gone after a whole round

-- ## a record that does not want a server stays so

-- the record does not have this server, and none is being launched for it
abbrev Leaves : ℕ → NodeRecord → Type 0
Leaves x node = (is_building node.state || is_server x node.server) ≡ false

none_of : (a b : Bool) → (a || b) ≡ false → a ≡ false
none_of a b none = grind (arith, nat_tests)

leaves-steady : (x : ℕ) → IsSteady (Leaves x)
leaves-steady x e old k comes was =
    let over = comes.over (none_of (is_building old.state) (is_server x old.server) was) in
    rw (over.0, over.1) (not-second (is_building old.state) (is_server x old.server) was)

-- ## numbers that were given

module _ (c : Configuration) where
  given-later : (n : NodeId) (journal more : List Entry) → n.0 < (after c journal).next_node → n.0 < (after c (journal ++ more)).next_node
  given-later n journal more given = (given-stays n (λ (node : NodeRecord). 0 ≤ node.attempts) (attempts-steady 0) c journal more (record { given = given; holds = λ node is. omega arith })).given

  module _ (n : NodeId) (x : ℕ) (b : List Entry) (u : Entry) (names : NamesServer n x (turn_after c b u)) where
    accepted-given : is_ok (judge c (after c b) u.event) ≡ true → n.0 < (after c b).next_node
    accepted-given accepted =
        (done-spends c (after c b) names.session n names.attempt (Outcome.Launched x) (holds-after c b).numbered
        (subst (λ (e : Event). is_ok (judge c (after c b) e) ≡ true) names.event accepted)).given

    reported-given : (says : Says) → IsReportOfLaunch says (turns c b) (turn_after c b u) → n.0 < (after c b).next_node
    reported-given says r =
        let same : Event.Done r.session r.number r.attempt r.outcome ≡ Event.Done names.session n names.attempt (Outcome.Launched x) = sym r.event ∙ names.event in
        let number : r.number ≡ n = cc in
        let found = some-place c (BeginsLaunch r.session r.number r.attempt r.start r.pool) (start c) b r.begun in
        let stood : node_in n (after c found.before).nodes ≡ Some found.holds.node = subst (λ (m : NodeId). node_in m (after c found.before).nodes ≡ Some found.holds.node) number found.holds.stood in
        subst (λ (j : List Entry). n.0 < (after c j).next_node) (sym found.stands)
        (given-later n found.before (found.entry ∷ found.rest) (node_in-below n (after c found.before).next_node found.holds.node (after c found.before).nodes (holds-after c found.before).numbered.nodes_below stood))

  -- the number of a node whose server was named was given
  named-given : (plans : Bool) (says : Says) (journal before rest : List Entry) (server : Server) → DrivenAs says plans c journal → journal ≡ before ++ rest → WasNamed c before server → server.tag.node.0 < (after c before).next_node
  named-given plans says journal before rest server driven is named =
      let found = some-place c (NamesServer server.tag.node server.number) (start c) before named in
      let outer : journal ≡ found.before ++ found.entry ∷ (found.rest ++ rest) = is ∙ (ap (λ (l : List Entry). l ++ rest) found.stands ∙ append_assoc found.before (found.entry ∷ found.rest) rest) in
      let turn = driven-at c says plans journal found.before found.entry (found.rest ++ rest) driven outer in
      let given : server.tag.node.0 < (after c found.before).next_node = ⊎_elim (accepted-given server.tag.node server.number found.before found.entry found.holds)
      (reported-given server.tag.node server.number found.before found.entry found.holds says) (done-turn c says (turns c found.before) (turn_after c found.before found.entry) found.holds.session server.tag.node found.holds.attempt (Outcome.Launched server.number) found.holds.event plans turn) in
      subst (λ (j : List Entry). server.tag.node.0 < (after c j).next_node) (sym found.stands)
      (given-later server.tag.node found.before (found.entry ∷ found.rest) given)

  -- ## unwanted for good

  unwanted-by : (x : ℕ) (o : Option NodeRecord) → ((node : NodeRecord) → o ≡ Some node → Leaves x node) → option_map_or (λ (k : NodeRecord). is_building k.state || is_server x k.server) o false ≡ false
  unwanted-by x o each = grind (arith, nat_tests)

  unwanted-stays : (journal more : List Entry) (n : NodeId) (x : ℕ) → n.0 < (after c journal).next_node → is_wanted (after c journal) n x ≡ false → is_wanted (after c (journal ++ more)) n x ≡ false
  unwanted-stays journal more n x given unwanted =
      let old : IsGiven n (Leaves x) (after c journal) = record { given = given; holds = λ node is. subst (λ (o : Option NodeRecord). option_map_or (λ (k : NodeRecord). is_building k.state || is_server x k.server) o false ≡ false) is unwanted } in
      let new : IsGiven n (Leaves x) (after c (journal ++ more)) = given-stays n (Leaves x) (leaves-steady x) c journal more old in
      unwanted-by x (node_in n (after c (journal ++ more)).nodes) new.holds

  -- ## a whole round

  not-kept : (plans : Bool) (says : Says) (history before seen : List Entry) (pool : PoolId) (server : Server) → DrivenAs says plans c history → StartsWith before history → StartsWith seen before → KeepsJanitor c history seen pool → WasUnwanted c history server → IsKept pool server.tag.node server.number (after c before) → ⊥
  not-kept plans says history before seen pool server driven of_round of_seen keeps was kept =
      ⊎_elim (λ none. false≢true (sym none ∙ keeps before of_round of_seen))
      (λ wanted. false≢true (sym stays ∙ wanted)) kept
    where
      later : StartsWith before was.before
      later = starts_on before history was.before of_round was.of_history

      given : server.tag.node.0 < (after c was.before).next_node
      given = named-given plans says history was.before was.of_history.0 server driven was.of_history.1 was.named

      stays : is_wanted (after c before) server.tag.node server.number ≡ false
      stays = subst (λ (j : List Entry). is_wanted (after c j) server.tag.node server.number ≡ false) (sym later.1)
          (unwanted-stays was.before later.0 server.tag.node server.number given was.unwanted)

  pub unwanted_gone : (plans : Bool) (says : Says) (history : List Entry) (player : Player) (end : PlayerEnd) (pool : PoolId) (servers : List Server) (plays : PlaysFrom plans c history player end) → DrivenAs says plans c history → (end.phase ≡ ended → ⊥) → All (WasKept pool plays.trace) servers → KeepsJanitor c history end.sight.seen pool → (server : Server) → WasUnwanted c history server → Contains servers server → ⊥
  unwanted_gone plans says history player end pool servers plays driven room kept keeps server was there =
      let stay = All-contains (StaysKept c history end.sight pool) servers server (kept_stay plans c history player end pool servers plays room kept) there in
      not-kept plans says history stay.before end.sight.seen pool server driven stay.of_round stay.of_seen keeps was stay.kept

-- # A worker's round at a board.

-- ## earlier places

abbrev sight : List Entry → List ℕ → Sight Entry
sight seen mine = record { seen = seen; mine = mine }

-- a turn does the same whatever places there were before
shift_turn : (r : Option Entry) (before : List Entry) (pre m : List ℕ) (v u : Sight Entry) → v.mine ≡ pre ++ m → Records r before v u → (k : List ℕ) × (u.mine ≡ pre ++ k) × Records r before (sight v.seen m) (sight u.seen k)
shift_turn None before pre m v u is h = (m, h.1 ∙ is, (h.0, refl))
shift_turn (Some e) before pre m v u is h = (m ++ length before ∷ [], h.1 ∙ (ap (λ (l : List ℕ). l ++ length before ∷ []) is ∙ append_assoc pre m (length before ∷ [])), (h.0, refl))

module _ {F : Type 0} (answers : F → List Entry → Ask → Turn → Type 0) (f : F) where
  pub shift_walk : (ms : List Move) (pre m : List ℕ) (v w : Sight Entry) → v.mine ≡ pre ++ m → Walk answers f ms v w → (g : List ℕ) × (w.mine ≡ pre ++ g) × Walk answers f ms (sight v.seen m) (sight w.seen g)
  shift_walk [] pre m v w is h = (m, h.1 ∙ is, (h.0, refl))
  shift_walk (asked a t ∷ ms) pre m v w is h =
      let turned = shift_turn (recorded a t) h.1.0 pre m v h.0 is h.1.3 in
      let rest = shift_walk ms pre turned.0 h.0 w turned.1 h.2 in
      (rest.0, rest.1, (sight h.0.seen turned.0, (h.1.0, h.1.1, h.1.2, turned.2), rest.2))
  shift_walk (move ∷ ms) pre m v w is h = shift_walk ms pre m v w is h

-- ## sweeps

swept_so : (plans : Bool) (c : Configuration) (before : List Entry) (a : Ask) (t : Turn) → answers_of plans c before a t → IsSweptSo a t
swept_so plans c before (Ask.Sweep p n x) (Turn.Did e) h = sweep_removes c before p n x e h
swept_so plans c before a t h = tt

are_swept_so : (plans : Bool) (c : Configuration) (ms : List Move) (v w : Sight Entry) → Walk (answers_of plans) c ms v w → AreSweptSo ms
are_swept_so plans c [] v w h = tt
are_swept_so plans c (asked a t ∷ ms) v w h = (swept_so plans c h.1.0 a t h.1.2, are_swept_so plans c ms h.0 w h.2)
are_swept_so plans c (move ∷ ms) v w h = are_swept_so plans c ms v w h

-- ## how far the roles came

unrecorded : (a : Ask) (t : Turn) → is_idle t ≡ true → recorded a t ≡ None
unrecorded a t x1 = grind (arith, nat_tests)

module _ (plans : Bool) (c : Configuration) where
  -- a board answers so only where the role has no useful event
  idle_turn : (before : List Entry) (role : Role) (t : Turn) → is_idle t ≡ true → answers_of plans c before (Ask.Act role) t → (e : Event) → IsUseful c (after c before) role e → ⊥
  idle_turn before role t x1 x2 e x3 = grind (arith, nat_tests)

  -- the turns that are counted for a role are its own
  abbrev Names : Work → Role → Type 0
  Names work role = (a : Ask) → IsAskOf work a → acts_as role a ≡ true → a ≡ Ask.Act role

  had_nothing : (work : Work) (role : Role) → Names work role → (history : List Entry) (ms : List Move) (v w : Sight Entry) → StartsWith v.seen history → Walk (answers_of plans) c ms v w → AreAsksOf work ms → WasIdle (acts_as role) ms → HadNothing c role history w.seen
  had_nothing work role names history [] v w on h asks idle = absurd idle
  had_nothing work role names history (asked a t ∷ ms) v w on h asks idle = ⊎_elim
      (λ (now : (acts_as role a ≡ true) × (is_idle t ≡ true)).
      let seen : h.0.seen ≡ h.1.0 = (subst (λ (r : Option Entry). Records r h.1.0 v h.0) (unrecorded a t now.1) h.1.3).0 in record {
        before = h.1.0;
        of_round = starts_on h.1.0 v.seen history h.1.1 on;
        of_seen = subst (λ (l : List Entry). StartsWith w.seen l) seen (walk_seen (answers_of plans) c ms h.0 w h.2);
        nothing = idle_turn h.1.0 role t now.1 (subst (λ (x : Ask). answers_of plans c h.1.0 x t) (names a asks.0 now.0) h.1.2);
      })
      (λ (later : WasIdle (acts_as role) ms). had_nothing work role names history ms h.0 w (starts_on h.0.seen v.seen history (turn_seen (answers_of plans) c a t v h.0 h.1) on) h.2 asks.1 later)
      idle
  had_nothing work role names history (move ∷ ms) v w on h asks idle = had_nothing work role names history ms v w on h asks idle

  came_far : (work : Work) (role : Role) → Names work role → (history : List Entry) (ms : List Move) (w : Sight Entry) → Walk (answers_of plans) c ms (sight history []) w → AreAsksOf work ms → TookAll (acts_as role) ms → CameFar c history w.seen ms role
  came_far work role names history ms w h asks (inl all) = inl all
  came_far work role names history ms w h asks (inr idle) = inr (had_nothing work role names history ms (sight history []) w (starts_same history) h asks idle)

names_launcher : (plans : Bool) (c : Configuration) (pool : PoolId) → Names plans c (of_pool pool) (Launcher pool)
names_launcher plans c pool a x1 x2 = grind (arith, nat_tests)

names_janitor : (plans : Bool) (c : Configuration) (pool : PoolId) → Names plans c (of_pool pool) (Janitor pool)
names_janitor plans c pool a x1 x2 = grind (arith, nat_tests)

owes_past : (p : Phase) → OwesRemoval p → IsPastLauncher p
owes_past p x1 = grind (arith, nat_tests)

roles_came_far : (plans : Bool) (c : Configuration) (work : Work) (history : List Entry) (ms : List Move) (to : Phase) (w : Sight Entry) (before now : Option Driving) → Walk (answers_of plans) c ms (sight history []) w → AreAsksOf work ms → RolesTook work ms to → Rests work before now ms to → RolesCameFar c work history w.seen ms (RemovalFailed before now)
roles_came_far plans c (of_pool pool) history ms to w before now h asks took rested =
    let launcher : IsPastLauncher to = ⊎_elim (λ done. subst IsPastLauncher (sym done.0) tt) (λ failed. owes_past to failed.0) rested in (
      came_far plans c (of_pool pool) (Launcher pool) (names_launcher plans c pool) history ms w h asks (took.0 launcher),
      (λ none. let janitor : IsPastJanitor to = ⊎_elim (λ done. subst IsPastJanitor (sym done.0) tt) (λ failed. absurd (none failed.1)) rested in
          came_far plans c (of_pool pool) (Janitor pool) (names_janitor plans c pool) history ms w h asks (took.1 janitor)),
    )
roles_came_far plans c (of_requester q) history ms to w before now h asks took rested = came_far plans c (of_requester q) (Requester q) (λ a own is. own) history ms w h asks (took rested)
roles_came_far plans c of_reaper history ms to w before now h asks took rested = came_far plans c of_reaper Reaper (λ a own is. own) history ms w h asks (took rested)

-- ## how a round ends

by_full : (full : Bool) (P Q : Type 0) → MatchBool full P Q → (full ≡ true → P) × (full ≡ false → Q)
by_full full P Q h = ((λ is. grind (arith, nat_tests)), (λ is. grind (arith, nat_tests)))

first_goes_on : (work : Work) → first_phase work ≡ ended → ⊥
first_goes_on work x1 = grind (arith, nat_tests)

rests_before_end : (work : Work) (before now : Option Driving) (ms : List Move) (to : Phase) → Rests work before now ms to → to ≡ ended → ⊥
rests_before_end work before now ms to x1 x2 = grind (arith, nat_tests)

servers_kept : (pool : PoolId) (ms : List Move) (player : Player) (servers : List Server) → AreKept pool ms player.driving → HasServers player servers → All (WasKept pool ms) servers
servers_kept pool ms player servers kept has =
    subst (λ (o : Option (List Server)). IfSome o (λ some. All (WasKept pool ms) some)) has.told
    (subst (λ (d : Option Driving). AreKept pool ms d) has.drives kept)

module _ (plans : Bool) (c : Configuration) (history : List Entry) (player : Player) (end : PlayerEnd) (plays : PlaysFrom plans c history player end) where
  abbrev Failed : Type 0
  Failed = RemovalFailed player.driving end.player.driving

  abbrev Rested : Type 0
  Rested = Rests player.work player.driving end.player.driving plays.trace end.phase

  before_end : Rested → end.phase ≡ ended → ⊥
  before_end rested = rests_before_end player.work player.driving end.player.driving plays.trace end.phase rested

  kept : (pool : PoolId) (now : List Server) → player.work ≡ of_pool pool → HasServers end.player now → Rested → (Failed → ⊥) → All (WasKept pool plays.trace) now
  kept pool now work has rested none = servers_kept pool plays.trace end.player now
      (⊎_elim (λ done. done.1) (λ failed. absurd (none failed.1)) (subst (λ (w : Work). Rests w player.driving end.player.driving plays.trace end.phase) work rested)) has

  leave : ServersLeave plans c history player end plays
  leave pool before now work had has server own gone = record {
    cause = left_with_cause plans c history player end pool before now plays work had has server own gone;
    own_pair = own_pair c history end.sight.seen pool plays.trace before server (left_with_cause plans c history player end pool before now plays work had has server own gone);
    own_node = own_node c history end.sight.seen pool server;
  }

  stay : Rested → (Failed → ⊥) → ServersStay plans c history player end
  stay rested none pool now work has = kept_stay plans c history player end pool now plays (before_end rested) (kept pool now work has rested none)

  go : Rested → (Failed → ⊥) → ServersGo plans c history player end
  go rested none drivings pool now work has driven keeps server was there =
      unwanted_gone c plans (WasAnswered drivings) history player end pool now plays driven (before_end rested) (kept pool now work has rested none) keeps server was there

  came_to_end : (result : Result RoundEnd NoMemory) → EndsAs player.work player.driving end.player.driving result plays.trace end.phase → IfOk result (λ is. is.entries ≡ length end.sight.mine) → IfOk result (CameToEnd plans c history player end plays)
  came_to_end (Err fault) ends entries = tt
  came_to_end (Ok is) ends entries =
      let rested : is.full ≡ false → Rested = (by_full is.full (end.phase ≡ ended) Rested ends).1 in
      let ordered = orderly player.work plays.trace end.phase plays.led in record {
        entries = entries;
        full = λ full. ends_full (first_phase player.work) end.phase plays.trace (first_goes_on player.work) plays.led ((by_full is.full (end.phase ≡ ended) Rested ends).0 full);
        room = λ room full. before_end (rested room) (is_at_end (first_phase player.work) end.phase plays.trace plays.led full);
        roles = λ room. roles_came_far plans c player.work history plays.trace end.phase end.sight player.driving end.player.driving plays.walked ordered.asks ordered.took (rested room);
        stay = λ room. stay (rested room);
        go = λ room. go (rested room);
      }

  pub at_board : (result : Result RoundEnd NoMemory) → EndsAs player.work player.driving end.player.driving result plays.trace end.phase → IfOk result (λ is. is.entries ≡ length end.sight.mine) → IsRoundAtBoard plans c history player end result
  at_board result ends entries = let gains = walk_gains (answers_of plans) c plays.trace (sight history []) end.sight plays.walked in record {
    plays = plays;
    orderly = orderly player.work plays.trace end.phase plays.led;
    stand = subst (λ (l : List ℕ). StandAt end.sight.seen l (entries_of plays.trace)) (sym gains.1) gains.2;
    rising = (rises c history player end plays).1;
    makers = entry_of_worker {plans = plans} c history player end plays;
    swept = are_swept_so plans c plays.trace (sight history []) end.sight plays.walked;
    leave = leave;
    ended = came_to_end result ends entries;
  }

-- ## through any pass

gained_entries : (result : Result RoundEnd NoMemory) (mine gained later : List ℕ) → later ≡ mine ++ gained → IfOk result (λ is. length later ≡ length mine + is.entries) → IfOk result (λ is. is.entries ≡ length gained)
gained_entries (Err fault) mine gained later grew h = tt
gained_entries (Ok is) mine gained later grew h = omega (arith, h, ap length grew, length-append mine gained)

pub has_round_at_board : {F : Type 0} {answers : F → List Entry → Ask → Turn → Type 0} {f : F} (plans : Bool) (site : F → Configuration) → AnswersAsBoard plans site answers
    → (work : Work) {v w : Sight Entry} {before now : Option Driving} (result : Result RoundEnd NoMemory) → Part answers f (first_phase work) v w before now (EndsAs work before now result)
    → IfOk result (λ is. length w.mine ≡ length v.mine + is.entries) → HasRoundAtBoard plans (site f) work v w before now result
has_round_at_board {answers} {f} plans site told work {v} {w} {before} {now} result part entries =
    let shifted = shift_walk (answers_of plans) (site f) part.trace v.mine [] v w (sym (append-nil v.mine)) (walk_as answers plans site told f part.trace v w part.walked) in
    let player : Player = record { work = work; driving = before } in
    let end : PlayerEnd = record { player = record { work = work; driving = now }; sight = sight w.seen shifted.0; phase = part.to } in
    let plays : PlaysFrom plans (site f) v.seen player end = record { trace = part.trace; walked = shifted.2; drove = part.drove; led = part.led; work = refl } in
    record {
      gained = shifted.0;
      phase = part.to;
      mine = shifted.1;
      round = at_board plans (site f) v.seen player end plays result part.holds (gained_entries result v.mine shifted.0 w.mine shifted.1 entries);
    }
