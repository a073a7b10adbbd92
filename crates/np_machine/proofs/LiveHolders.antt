-- a live holder, in terms of one entry
use Rattle.np_machine.proofs.Prelude.{AllByRecursion, Bool, Configuration, Done, Entry, Event, HoldsSince, IsLiveHolder, IsLiveRequestHolder, List, LockedSince, NodeId, Refusal, Reply, RequestId, SessionId, State, after, ap, arith, cond, false, holds_after, holds_from, inl, inr, is_done, is_ending, is_holding, is_locking, is_some, is_unlocking, locks_after, locks_from, next, refl, request_in, start, state_after, sym, true, [], ◌&&◌, ◌++◌, ◌∙◌, ◌∷◌, ◌≡◌, ◌⊎◌}

-- ## a flag over a journal: some accepted entries set it, others end it

module _ (c : Configuration) (ends : Event → Bool) (sets : State → Event → Done → Bool) where
  abbrev Stays : List Entry → Type 0
  Stays journal = AllByRecursion (λ (e : Entry). (is_done e.reply && ends e.event) ≡ false) journal

  -- an accepted entry sets it, and none after that ends it
  record SetSince (s : State) (journal : List Entry) : Type 0 where
    before : List Entry
    entry : Entry
    rest : List Entry
    what : Done
    splits : journal ≡ before ++ entry ∷ rest
    accepted : entry.reply ≡ Reply.Done what
    set : sets (state_after c s (before ++ entry ∷ [])) entry.event what ≡ true
    stays : Stays rest

  -- it was set at first and nothing ended that, or an entry sets it
  abbrev IsSet : State → Bool → List Entry → Type 0
  IsSet s held journal = ((held ≡ true) × Stays journal) ⊎ SetSince s journal

  set-by : (s : State) (held : Bool) (e : Entry) (journal : List Entry) (what : Done) → e.reply ≡ Reply.Done what
      → (over : Bool) → ends e.event ≡ over → (set : Bool) → sets (next c s e.event) e.event what ≡ set
      → cond over false (cond set true held) ≡ true → Stays journal → IsSet s held (e ∷ journal)
  set-by s held e journal what says true over set is now on = absurd cc
  set-by s held e journal what says false over true is now on =
      inr (record { before = []; entry = e; rest = journal; what = what; splits = refl; accepted = says; set = is; stays = on })
  set-by s held e journal what says false over false is now on = inl (now, (rw (says, over) refl, on))

  module _ (step : Bool → State → Event → Reply → Bool) (run : State → Bool → List Entry → Bool) (apart : (later : State) (e : Event) (what : Done) → sets later e what ≡ true → ends e ≡ false)
      (refused : (held : Bool) (later : State) (e : Event) (why : Refusal) → step held later e (Reply.Refused why) ≡ held)
      (done : (held : Bool) (later : State) (e : Event) (what : Done) → step held later e (Reply.Done what) ≡ cond (ends e) false (cond (sets later e what) true held))
      (none : (s : State) (held : Bool) → run s held [] ≡ held)
      (more : (s : State) (held : Bool) (e : Entry) (journal : List Entry) → run s held (e ∷ journal) ≡ run (next c s e.event) (step held (next c s e.event) e.event e.reply) journal) where
    set-at : (s : State) (held : Bool) (e : Entry) (journal : List Entry) (r : Reply) → e.reply ≡ r → step held (next c s e.event) e.event r ≡ true → Stays journal → IsSet s held (e ∷ journal)
    set-at s held e journal (Reply.Refused why) says now on = inl (sym (refused held (next c s e.event) e.event why) ∙ now, (rw says refl, on))
    set-at s held e journal (Reply.Done what) says now on =
        set-by s held e journal what says (ends e.event) refl (sets (next c s e.event) e.event what) refl (sym (done held (next c s e.event) e.event what) ∙ now) on

    set-before : (s : State) (held : Bool) (e : Entry) (journal : List Entry) → IsSet (next c s e.event) (step held (next c s e.event) e.event e.reply) journal → IsSet s held (e ∷ journal)
    set-before s held e journal (inl old) = set-at s held e journal e.reply refl old.0 old.1
    set-before s held e journal (inr since) =
        inr (record { before = e ∷ since.before; entry = since.entry; rest = since.rest; what = since.what; splits = ap (λ (t : List Entry). e ∷ t) since.splits; accepted = since.accepted; set = since.set; stays = since.stays })

    set-in : (s : State) (held : Bool) (journal : List Entry) → run s held journal ≡ true → IsSet s held journal
    set-in s held [] is = inl (sym (none s held) ∙ is, tt)
    set-in s held (e ∷ journal) is =
        set-before s held e journal (set-in (next c s e.event) (step held (next c s e.event) e.event e.reply) journal (sym (more s held e journal) ∙ is))

    set-since : (s : State) (journal : List Entry) → IsSet s false journal → SetSince s journal
    set-since s journal (inl old) = let first = old.0 in absurd cc
    set-since s journal (inr since) = since

    kept-at : (held : Bool) (later : State) (e : Event) (r : Reply) → held ≡ true → (is_done r && ends e) ≡ false → step held later e r ≡ true
    kept-at held later e (Reply.Refused why) now stays = refused held later e why ∙ now
    kept-at held later e (Reply.Done what) now stays = rw (done held later e what) (grind arith)

    kept : (s : State) (held : Bool) (journal : List Entry) → held ≡ true → Stays journal → run s held journal ≡ true
    kept s held [] now on = none s held ∙ now
    kept s held (e ∷ journal) now on =
        more s held e journal ∙ kept (next c s e.event) (step held (next c s e.event) e.event e.reply) journal (kept-at held (next c s e.event) e.event e.reply now on.0) on.1

    is-set : (s : State) (held : Bool) (before : List Entry) (e : Entry) (rest : List Entry) (what : Done) → e.reply ≡ Reply.Done what
        → sets (state_after c s (before ++ e ∷ [])) e.event what ≡ true → Stays rest → run s held (before ++ e ∷ rest) ≡ true
    is-set s held [] e rest what says is on =
        let now : sets (next c s e.event) e.event what ≡ true = is in
        more s held e rest ∙ kept (next c s e.event) (step held (next c s e.event) e.event e.reply) rest (rw (says, done held (next c s e.event) e.event what, apart (next c s e.event) e.event what now, now) refl) on
    is-set s held (first ∷ before) e rest what says is on = more s held first (before ++ e ∷ rest)
        ∙ is-set (next c s first.event) (step held (next c s first.event) first.event first.reply) before e rest what says is on

    -- it is set if and only if an entry sets it and none after that ends it
    flag : (s : State) (journal : List Entry) → (run s false journal ≡ true → SetSince s journal) × (SetSince s journal → run s false journal ≡ true)
    flag s journal = (
      (λ is. set-since s journal (set-in s false journal is)),
      (λ since. rw since.splits (is-set s false since.before since.entry since.rest since.what since.accepted since.set since.stays)),
    )

-- ## nodes

module _ (c : Configuration) (session : SessionId) (n : NodeId) where
  -- an entry that makes a session hold a node ends no hold
  holds-on : (later : State) (e : Event) (what : Done) → is_holding session n later e what ≡ true → is_ending session n e ≡ false
  holds-on later (Event.Expire other) what is = absurd cc
  holds-on later (Event.UnlockNode by m) what is = absurd cc
  holds-on later (Event.Gone by m) what is = absurd cc
  holds-on later _ what is = refl

  held : (s : State) (journal : List Entry) → (holds_from c s session n false journal ≡ true → SetSince c (is_ending session n) (is_holding session n) s journal) × (SetSince c (is_ending session n) (is_holding session n) s journal → holds_from c s session n false journal ≡ true)
  held = flag c (is_ending session n) (is_holding session n) (holds_after session n) (λ s held journal. holds_from c s session n held journal) holds-on (λ held later e why. refl) (λ held later e what. refl) (λ s held. refl) (λ s held e journal. refl)

  pub holder-since : (journal : List Entry) → IsLiveHolder c journal session n → HoldsSince c (start c) journal session n
  holder-since journal is = let x = (held (start c) journal).0 is in
      record { before = x.before; entry = x.entry; rest = x.rest; what = x.what; splits = x.splits; accepted = x.accepted; holds = x.set; none_ends = x.stays }

  pub since-holder : (journal : List Entry) → HoldsSince c (start c) journal session n → IsLiveHolder c journal session n
  since-holder journal x = (held (start c) journal).1 (record { before = x.before; entry = x.entry; rest = x.rest; what = x.what; splits = x.splits; accepted = x.accepted; set = x.holds; stays = x.none_ends })

-- ## requests

module _ (c : Configuration) (session : SessionId) (r : RequestId) where
  -- an entry that locks a request ends no lock
  locks-on : (later : State) (e : Event) (what : Done) → is_locking session r e what ≡ true → is_unlocking session r e ≡ false
  locks-on later (Event.Expire other) what is = absurd cc
  locks-on later (Event.UnlockRequest by q) what is = absurd cc
  locks-on later _ what is = refl

  locked : (s : State) (journal : List Entry) → (locks_from session r false journal ≡ true → SetSince c (is_unlocking session r) (λ later. is_locking session r) s journal) × (SetSince c (is_unlocking session r) (λ later. is_locking session r) s journal → locks_from session r false journal ≡ true)
  locked = flag c (is_unlocking session r) (λ later. is_locking session r) (λ held later. locks_after session r held) (λ s. locks_from session r) locks-on (λ held later e why. refl) (λ held later e what. refl) (λ s held. refl) (λ s held e journal. refl)

  pub locker-since : (journal : List Entry) → IsLiveRequestHolder c journal session r → LockedSince journal session r
  locker-since journal is = let x = (locked (start c) journal).0 is.1 in
      record { before = x.before; entry = x.entry; rest = x.rest; what = x.what; splits = x.splits; accepted = x.accepted; locks = x.set; none_ends = x.stays }

  pub since-locker : (journal : List Entry) → LockedSince journal session r → is_some (request_in r (after c journal).requests) ≡ true → IsLiveRequestHolder c journal session r
  since-locker journal x stands =
      (stands, (locked (start c) journal).1 (record { before = x.before; entry = x.entry; rest = x.rest; what = x.what; splits = x.splits; accepted = x.accepted; set = x.locks; stays = x.none_ends }))

pub ruleset holders = (holder-since, since-holder, locker-since, since-locker)
