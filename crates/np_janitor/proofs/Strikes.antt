-- what the planned faults do now, and that the reaper has nothing else to do
use Rattle.np_janitor.proofs.Prelude.{Bool, Chooses, ChoosesStrike, Configuration, Event, Fault, FaultKind, IsUseful, List, NamesCurrent, None, Option, Reaper, Role, SessionFacts, SessionId, Some, State, [], all-at, all-filter_to, all-from_at, and_parts, ap, arith, by_bool, current-has, current-names, current_of, due_kind, false, false-apart, filter, first_mute, has_current, has_due, if◌then◌else◌, is_current, is_due, is_expire, is_mute, is_some, is_struck_by, judge, mute_from, nat_tests, next_fault, not, ok-is, on-found, on-need, option_and_then, option_map, option_map_or, or_left, or_right, refl, same-role, same_role, session-at, session_of, slice_get, strike_by, strike_of, strike_on, strikes_of, subst, suc, sym, true, zero, ℕ, ◌&&◌, ◌+◌, ◌-◌, ◌==◌, ◌∙◌, ◌∷◌, ◌≡◌}
use Rattle.np_janitor.proofs.Nodes.{IsOf, is-of}

-- ## whether a fault of such a kind is due

module _ (such : FaultKind → Bool) (c : Configuration) (s : State) where
  due-by : (o : Option Fault) (due : Fault → Bool) → option_map_or (λ f. such f.kind && due f) o false ≡ option_map_or such (option_and_then (λ f. if due f then Some f.kind else None) o) false
  due-by o due = grind (arith, nat_tests)

  due-such : (role : Role) → has_due such c role s ≡ option_map_or such (due_kind c role s) false
  due-such role = due-by (next_fault c role s) (is_due role s)

-- ## a strike is useful

module _ (c : Configuration) (s : State) where
  module _ (role : Role) (session : SessionId) (current : is_current role session s ≡ true) (who : IsOf s role session) where
    struck-by : (such : FaultKind → Bool) (o : Option SessionFacts) → o ≡ Some who.facts → has_due such c role s ≡ true → option_map_or (λ facts. is_current facts.role session s && has_due such c facts.role s) o false ≡ true
    struck-by such o known due = rw known (rw who.same (rw (current, due) refl))

    struck : (such : FaultKind → Bool) → has_due such c role s ≡ true → is_struck_by such c s session ≡ true
    struck such due = struck-by such (session_of session s) who.known due

    expires : has_due is_expire c role s ≡ true → IsUseful c s Reaper (Event.Expire session)
    expires due = record {
      accepted = rw (who.known, who.live) refl;
      maker = refl;
      row = or_right (is_mute session s) (is_struck_by is_expire c s session) (struck is_expire due);
    }

    crashes : has_due (λ kind. not (is_expire kind)) c role s ≡ true → IsUseful c s Reaper (Event.Crash session)
    crashes due = record {
      accepted = rw (who.known, who.live, who.speaks) refl;
      maker = refl;
      row = struck (λ kind. not (is_expire kind)) due;
    }

    due-is : (such : FaultKind → Bool) (kind : FaultKind) → due_kind c role s ≡ Some kind → such kind ≡ true → has_due such c role s ≡ true
    due-is such kind due is = due-such such c s role ∙ rw due is

    on-useful : (kind : FaultKind) → due_kind c role s ≡ Some kind → IsUseful c s Reaper (strike_on kind session)
    on-useful FaultKind.Expire due = expires (due-is is_expire FaultKind.Expire due refl)
    on-useful kind due = crashes (due-is (λ kind. not (is_expire kind)) kind due refl)

  current-is : (role : Role) (session : SessionId) → current_of role s ≡ Some session → is_current role session s ≡ true
  current-is role session is = subst (NamesCurrent role s) is (current-names role s)

  strike-by : (role : Role) (e : Event) (due : Option FaultKind) (current : Option SessionId) → due_kind c role s ≡ due → current_of role s ≡ current → option_and_then (λ kind. option_map (λ session. strike_on kind session) current) due ≡ Some e → IsUseful c s Reaper e
  strike-by role e (Some kind) (Some session) due names is =
      let same : strike_on kind session ≡ e = cc in
      let current = current-is role session names in
      subst (λ (x : Event). IsUseful c s Reaper x) same (on-useful role session current (is-of s role session current) kind due)
  strike-by role e _ _ due names is = absurd cc

  -- what the role's next fault does is useful
  pub strike-useful : (role : Role) (e : Event) → strike_of c s role ≡ Some e → IsUseful c s Reaper e
  strike-useful role e is = strike-by role e (due_kind c role s) (current_of role s) refl refl is

  by-by : (f : Fault) (e : Event) (b : Bool) → (if b then strike_of c s f.role else None) ≡ Some e → IsUseful c s Reaper e
  by-by f e true is = strike-useful f.role e is
  by-by f e false is = absurd cc

  pub found-chooses : (f : Fault) (o : Option Event) → o ≡ strike_by c s f → is_some o ≡ true → ChoosesStrike c s o
  found-chooses f None is some = absurd cc
  found-chooses f (Some e) is some = by-by f e (is_due f.role s f) (sym is)

-- ## if no fault strikes, no role is struck

module _ (c : Configuration) (s : State) where
  module _ (none : (at : ℕ) (f : Fault) → slice_get c.faults at ≡ Some f → strike_by c s f ≡ None) where
    due-none : (role : Role) (f : Fault) → next_fault c role s ≡ Some f → is_due role s f ≡ true → strike_of c s role ≡ None
    due-none role f next due =
        let own =
        all-at (λ (x : Fault). (strike_by c s x ≡ None) × (same_role x.role role ≡ true)) (filter (λ (x : Fault). same_role x.role role) c.faults) (strikes_of role s) f
        (all-filter_to (λ (x : Fault). strike_by c s x ≡ None) (λ x. (strike_by c s x ≡ None) × (same_role x.role role ≡ true)) (λ x. same_role x.role role) c.faults (λ x of_role fails. (fails, of_role)) (all-from_at (λ (x : Fault). strike_by c s x ≡ None) c.faults none)) next in
        let same : f.role ≡ role = same-role f.role role own.1 in
        let here : is_due f.role s f ≡ true = ap (λ (r : Role). is_due r s f) same ∙ due in
        let fails : strike_of c s f.role ≡ None = (let told : strike_by c s f ≡ strike_of c s f.role = rw here refl in sym told ∙ own.0) in
        subst (λ (r : Role). strike_of c s r ≡ None) same fails

    next-by : (role : Role) (o : Option Fault) → next_fault c role s ≡ o → strike_of c s role ≡ None
    next-by role None next = rw next refl
    next-by role (Some f) next = by_bool (λ b. strike_of c s role ≡ None) (is_due role s f) (λ due. due-none role f next due) (λ due. rw (next, due) refl)

    pub none-strikes : (role : Role) → strike_of c s role ≡ None
    none-strikes role = next-by role (next_fault c role s) refl

-- ## if no role is struck, no session is

module _ (c : Configuration) (s : State) (none : (role : Role) → strike_of c s role ≡ None) where
  absent-by : (o : Option SessionId) (kind : FaultKind) → option_map (λ session. strike_on kind session) o ≡ None → o ≡ None
  absent-by o kind is = grind arith

  absent : (role : Role) (kind : FaultKind) → due_kind c role s ≡ Some kind → current_of role s ≡ None
  absent role kind due =
      let told : strike_of c s role ≡ option_map (λ session. strike_on kind session) (current_of role s) = rw due refl in
      absent-by (current_of role s) kind (sym told ∙ none role)

  no-due : (such : FaultKind → Bool) (role : Role) (session : SessionId) → is_current role session s ≡ true → (o : Option FaultKind) → due_kind c role s ≡ o → option_map_or such o false ≡ true → ⊥
  no-due such role session current None due is = absurd cc
  no-due such role session current (Some kind) due is =
      let no : has_current role s ≡ false = subst (NamesCurrent role s) (absent role kind due) (current-names role s) in
      let has : has_current role s ≡ true = current-has role s session current in
      cc

  unstruck-by : (such : FaultKind → Bool) (session : SessionId) (o : Option SessionFacts) → option_map_or (λ facts. is_current facts.role session s && has_due such c facts.role s) o false ≡ true → ⊥
  unstruck-by such session None is = absurd cc
  unstruck-by such session (Some facts) is =
      let parts = and_parts (is_current facts.role session s) (has_due such c facts.role s) is in
      no-due such facts.role session parts.0 (due_kind c facts.role s) refl (sym (due-such such c s facts.role) ∙ parts.1)

  unstruck : (such : FaultKind → Bool) (session : SessionId) → is_struck_by such c s session ≡ true → ⊥
  unstruck such session is = unstruck-by such session (session_of session s) is

-- ## the first session that is mute

-- it is at a place, and live and mute
record MuteAt (number : ℕ) (sessions : List SessionFacts) (x : SessionId) : Type 0 where
  at : ℕ
  named : x.0 ≡ at + number
  facts : SessionFacts
  there : slice_get sessions at ≡ Some facts
  mute : (facts.live && facts.mute) ≡ true

mute-by : (number : ℕ) (facts : SessionFacts) (sessions : List SessionFacts) (x : SessionId) (b : Bool) → (facts.live && facts.mute) ≡ b → (mute_from (suc number) sessions ≡ Some x → MuteAt (suc number) sessions x) → (if b then Some (record { 0 = number }) else mute_from (suc number) sessions) ≡ Some x → MuteAt number (facts ∷ sessions) x
mute-by number facts sessions x true mute later is =
    let same : record { 0 = number } ≡ x = cc in
    let first : x.0 ≡ number = sym (ap (λ (y : SessionId). y.0) same) in
    let named : x.0 ≡ 0 + number = omega (arith, first) in
    record { at = 0; named = named; facts = facts; there = refl; mute = mute }
mute-by number facts sessions x false mute later is =
    let found = later is in
    let named : x.0 ≡ suc found.at + number = omega (arith, found.named) in
    record { at = suc found.at; named = named; facts = found.facts; there = found.there; mute = found.mute }

mute-at : (number : ℕ) (sessions : List SessionFacts) (x : SessionId) → mute_from number sessions ≡ Some x → MuteAt number sessions x
mute-at number [] x is = absurd cc
mute-at number (facts ∷ sessions) x is = mute-by number facts sessions x (facts.live && facts.mute) refl (mute-at (suc number) sessions x) is

none-mute : (number : ℕ) (sessions : List SessionFacts) (i : ℕ) (facts : SessionFacts) → mute_from number sessions ≡ None → slice_get sessions i ≡ Some facts → (facts.live && facts.mute) ≡ false
none-mute number [] i facts none there = absurd cc
none-mute number (first ∷ sessions) zero facts none there = grind (arith, nat_tests, none, there)
none-mute number (first ∷ sessions) (suc i) facts none there = none-mute (suc number) sessions i facts (grind (arith, nat_tests, none)) there

module _ (c : Configuration) (s : State) where
  -- its expiry is useful
  pub mute-useful : (session : SessionId) → first_mute s ≡ Some session → IsUseful c s Reaper (Event.Expire session)
  mute-useful session is =
      let found = mute-at 1 s.sessions session is in
      let begun : (session.0 == 0) ≡ false = grind (arith, nat_tests, found.named) in
      let at : session.0 - 1 ≡ found.at = omega (arith, found.named) in
      let known : session_of session s ≡ Some found.facts = rw (begun, at) found.there in
      let parts = and_parts found.facts.live found.facts.mute found.mute in
      record {
        accepted = rw (known, parts.0) refl;
        maker = refl;
        row = or_left (is_mute session s) (is_struck_by is_expire c s session) (rw known parts.1);
      }

  -- ## the choice

  module _ (none_mute : first_mute s ≡ None) (none_struck : (role : Role) → strike_of c s role ≡ None) where
    -- a session that is live is not mute, and no fault expires it
    no-expire : (session : SessionId) → IsUseful c s Reaper (Event.Expire session) → ⊥
    no-expire session useful =
        let answer = ok-is (judge c s (Event.Expire session)) useful.accepted in
        on-found (session_of session s) _ _ answer.0 answer.1 (λ facts known rest.
        on-need facts.live _ _ answer.0 rest (λ live _.
        let other : (facts.live && facts.mute) ≡ false = none-mute 1 s.sessions (session.0 - 1) facts none_mute (session-at s session.0 facts known) in
        let quiet : is_mute session s ≡ false = rw known (grind (arith, live, other)) in
        unstruck c s none_struck is_expire session (rw quiet at useful.row)))

    useless : (e : Event) → IsUseful c s Reaper e → ⊥
    useless (Event.Expire session) useful = no-expire session useful
    useless (Event.Crash session) useful = unstruck c s none_struck (λ kind. not (is_expire kind)) session useful.row
    useless _ useful = false-apart useful.row

  -- if no session is mute, the faults decide
  pub strikes-choose : first_mute s ≡ None → (o : Option Event) → ChoosesStrike c s o → Chooses c s Reaper o
  strikes-choose mute None strikes = useless mute strikes
  strikes-choose mute (Some e) useful = useful
