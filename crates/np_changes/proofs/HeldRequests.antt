-- who locked a request stays first at it while it exists, if the changes do not take that away
use Rattle.np_changes.proofs.Prelude.{Changes, Configuration, Growth, List, Maker, Option, RequestEntry, RequestId, RequestRecord, RequestsChange, Rises, SessionId, SessionsChange, Some, State, and-apart, ap, arith, changed, edited, false, grown, is_id_before, is_session, is_session_of, is_some, joined, left, map-some, nat_tests, next_id, put_request_queue, remove_request, request-equal, request_holder, request_in, request_queue, requests_changed, requests_left, same_request, some-of, subst, sym, true, ◌<◌, ◌∙◌, ◌≡◌}
use Rattle.np_changes.proofs.Lookups.{request_in-edit, request_in-queue, request_in-left, request_in-insert, request_in-remove, request_in-removed, request_queue-edit, request_queue-queue, request_queue-left, request_queue-insert, request_queue-remove}
use Rattle.np_changes.proofs.HeldNodes.{KeepsRequest, RequestStays, SessionStays, first-in, first-joined, first-left, is_first}

module _ (session : SessionId) (r : RequestId) where
  -- the session is first at the request, if it exists
  pub record IsFirstThere (rows : List RequestEntry) : Type 0 where
    pub first : is_some (request_in r rows) ≡ true → is_session_of session (request_holder r rows) ≡ true

  same-row : (rows later : List RequestEntry) → is_some (request_in r later) ≡ is_some (request_in r rows) → request_queue r later ≡ request_queue r rows → IsFirstThere rows → IsFirstThere later
  same-row rows later there same held = record { first = λ is. first-in session same (held.first (sym there ∙ is)) }

  -- another queue of a request
  queue-put : (q : RequestId) (queue : List SessionId) (rows : List RequestEntry) → (same_request q r ≡ true → is_first session (request_queue r rows) ≡ true → is_first session queue ≡ true) → IsFirstThere rows → IsFirstThere (put_request_queue q queue rows)
  queue-put q queue rows new held = grind (arith, nat_tests, request_in-queue, some-of, first-in, request_queue-queue)

  -- the same for the queue that is found
  at-request : (q : RequestId) (rows : List RequestEntry) → same_request q r ≡ true → is_first session (request_queue r rows) ≡ true → is_first session (request_queue q rows) ≡ true
  at-request q rows is first = subst (λ (x : RequestId). is_first session (request_queue x rows) ≡ true) (sym (request-equal q r is)) first

  removed-first : (q : RequestId) (rows : List RequestEntry) → Rises (λ a b. is_id_before a.id b.id) rows → IsFirstThere rows → IsFirstThere (remove_request q rows)
  removed-first q rows rises held = grind (arith, nat_tests, request_in-removed q r rows rises, request_in-remove q r rows, request_queue-remove q r rows, same-row)

  -- ## by the kind of change

  grown-first : (c : Configuration) (s : State) (maker : Option Maker) (growth : Growth) → r.seq < s.next_request → IsFirstThere s.requests → IsFirstThere (grown c maker growth s).requests
  grown-first c s maker (Growth.Registration p) before held = grind (arith, nat_tests)
  grown-first c s maker (Growth.Request priority asked) before held =
      let other : same_request (next_id priority s) r ≡ false = grind (arith, nat_tests) in
      same-row s.requests _ (ap (λ (o : Option RequestRecord). is_some o) (request_in-insert _ r s.requests other)) (request_queue-insert _ r s.requests other) held
  grown-first c s (Some by) (Growth.JoinRequest q) before held =
      queue-put q (joined by.session (request_queue q s.requests)) s.requests (λ is first. first-joined session by.session (request_queue q s.requests) (at-request q s.requests is first)) held
  grown-first c s maker _ before held = held

  requests-first : (c : Configuration) (s : State) (maker : Option Maker) (growth : Growth) (change : RequestsChange) → Rises (λ a b. is_id_before a.id b.id) s.requests → RequestStays session r maker growth change
      → IsFirstThere (grown c maker growth s).requests → IsFirstThere (requests_changed maker change (grown c maker growth s).requests)
  requests-first c s maker growth (RequestsChange.Edit q change) rises stays held =
      let rows : List RequestEntry = (grown c maker growth s).requests in
      same-row rows _ (ap (λ (o : Option RequestRecord). is_some o) (request_in-edit q r (edited change) rows) ∙ map-some _ (request_in r rows)) (request_queue-edit q r (edited change) rows) held
  requests-first c s maker growth (RequestsChange.Remove q) rises stays held =
      let still : Rises (λ a b. is_id_before a.id b.id) (grown c maker growth s).requests = subst (λ (g : Growth). Rises (λ a b. is_id_before a.id b.id) (grown c maker g s).requests) (sym stays) rises in
      removed-first q (grown c maker growth s).requests still held
  requests-first c s (Some by) growth (RequestsChange.Leave q) rises stays held =
      let rows : List RequestEntry = (grown c (Some by) growth s).requests in
      queue-put q (left by.session (request_queue q rows)) rows
      (λ is first. first-left session by.session (request_queue q rows) (and-apart (is_session by.session session) (same_request q r) stays is) (at-request q rows is first)) held
  requests-first c s maker growth _ rises stays held = held

  left-first : (change : SessionsChange) (rows : List RequestEntry) → SessionStays session change → IsFirstThere rows → IsFirstThere (requests_left change rows)
  left-first (SessionsChange.End other) rows lives held =
      record { first = λ is. first-in session (request_queue-left other r rows) (first-left session other (request_queue r rows) lives (held.first (rw (request_in-left other r rows) at is))) }
  left-first _ rows lives held = held

  -- ## all of it

  pub changed-first : (c : Configuration) (s : State) (ch : Changes) → r.seq < s.next_request → Rises (λ a b. is_id_before a.id b.id) s.requests → KeepsRequest session r ch → IsFirstThere s.requests → IsFirstThere (changed c ch s).requests
  changed-first c s ch before rises keeps held =
      let rows : List RequestEntry = (grown c ch.maker ch.grows s).requests in
      left-first ch.sessions (requests_changed ch.maker ch.requests rows) keeps.lives
      (requests-first c s ch.maker ch.grows ch.requests rises keeps.place (grown-first c s ch.maker ch.grows before held))
