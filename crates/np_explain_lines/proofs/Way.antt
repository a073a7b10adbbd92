-- one link more
use Rattle.np_explain_lines.proofs.Prelude.{All, All-get_or, All-nil, All-push, Configuration, EachAfter-push, ExplainsAll, Fact, IsDue, IsOnItsWay, IsPending, IsTold, IsTrueOf, IsWaiting, JobId, List, Names, Next, Some, State, Thing, about_of, get_or_from_slice_get, inl, inr, length, named_by, push-places, push_grows, push_told, refl, slice_get, slice_get-middle, slice_get_within, subst, sym, told_later, true, waits, ℕ, [], ⊎_elim, ◌++◌, ◌∙◌, ◌∷◌, ◌≡◌, ◌⊎◌}
use Rattle.np_explain_lines.proofs.Pending.{none_pending, push_pending, push_stays, pushed_alone}

module _ (c : Configuration) (s : State) where
  -- ## the facts that are told

  true_at : (facts : List Fact) (at : ℕ) (f : Fact) → All (IsTrueOf c s) facts → slice_get facts at ≡ Some f → IsTrueOf c s f
  true_at facts at f all stands =
      subst (λ (g : Fact). IsTrueOf c s g) (get_or_from_slice_get facts at f f stands) (All-get_or (IsTrueOf c s) facts at f (slice_get_within facts at f stands) all)

  due_later : (facts : List Fact) (f : Fact) (it : Thing) → IsDue c s facts it → IsDue c s (facts ++ f ∷ []) it
  due_later facts f it (inl waiting) = inl waiting
  due_later facts f it (inr named) =
      inr (record { at = named.at; fact = named.fact; stands = push_grows facts f named.at named.fact named.stands; place = named.place; names = named.names })

  -- what is due was due before, or the new fact names it
  due_split : (facts : List Fact) (f : Fact) (it : Thing) → IsDue c s (facts ++ f ∷ []) it → IsDue c s facts it ⊎ Names c s f it
  due_split facts f it (inl waiting) = inl (inl waiting)
  due_split facts f it (inr named) =
      ⊎_elim (λ (there : slice_get facts named.at ≡ Some named.fact). inl (inr (record { at = named.at; fact = named.fact; stands = there; place = named.place; names = named.names })))
      (λ (here : (named.at ≡ length facts) × (named.fact ≡ f)). inr (named.place, subst (λ (g : Fact). slice_get (named_by c s g) named.place ≡ Some (Some it)) here.1 named.names))
      (push-places facts f named.at named.fact named.stands)

  -- ## the way goes on

  -- what was told or is to be told is so after a fact about what is told next
  settled : (facts : List Fact) (pending later : List Next) (next : Next) (f : Fact) → about_of f ≡ next.thing → ((it : Thing) → IsPending pending it → IsPending later it)
      → (it : Thing) → IsTold facts it ⊎ IsPending (pending ++ next ∷ []) it → IsTold (facts ++ f ∷ []) it ⊎ IsPending later it
  settled facts pending later next f about stay it (inl told) = inl (told_later facts (facts ++ f ∷ []) it (push_grows facts f) told)
  settled facts pending later next f about stay it (inr waits) =
      ⊎_elim (λ (left : IsPending pending it). inr (stay it left)) (λ (same : next.thing ≡ it). inl (push_told facts f it (about ∙ same))) (pushed_alone pending next it waits)

  -- a fact about what is told next; of what it names each thing is told, or is to be told now
  pub more : (facts : List Fact) (pending later : List Next) (next : Next) (f : Fact)
      → IsOnItsWay c s facts (pending ++ next ∷ []) → about_of f ≡ next.thing → IsTrueOf c s f
      → ((it : Thing) → IsPending pending it → IsPending later it)
      → ((it : Thing) → Names c s f it → IsTold (facts ++ f ∷ []) it ⊎ IsPending later it)
      → ((it : Thing) → IsPending later it → IsPending pending it ⊎ Names c s f it)
      → IsOnItsWay c s (facts ++ f ∷ []) later
  more facts pending later next f way about holds stay all alone = record {
    sound = record {
      true = All-push (IsTrueOf c s) facts f way.sound.true holds;
      follow =
          EachAfter-push (λ (earlier : List Fact) (g : Fact). IsDue c s earlier (about_of g)) [] facts f way.sound.follow
          (subst (λ (t : Thing). IsDue c s facts t) (sym about) (way.may next.thing (push_pending pending next next.thing refl)));
    };
    due = λ it is. ⊎_elim (λ (old : IsDue c s facts it). settled facts pending later next f about stay it (way.due it old)) (all it) (due_split facts f it is);
    may = λ it waits. ⊎_elim
        (λ (old : IsPending pending it). due_later facts f it (way.may it (push_stays pending next it old)))
        (λ (names : Names c s f it). inr (record { at = length facts; fact = f; stands = slice_get-middle facts [] f (length facts) refl; place = names.0; names = names.1 }))
        (alone it waits);
  }

  -- what was told is told again
  pub again : (facts : List Fact) (pending : List Next) (next : Next) (f : Fact) (at : ℕ) → slice_get facts at ≡ Some f → about_of f ≡ next.thing
      → IsOnItsWay c s facts (pending ++ next ∷ []) → IsOnItsWay c s (facts ++ f ∷ []) pending
  again facts pending next f at stands about way =
      more facts pending pending next f way about (true_at facts at f way.sound.true stands) (λ it waits. waits)
      (λ it names. settled facts pending pending next f about (λ it waits. waits) it (way.due it (inr (record { at = at; fact = f; stands = stands; place = names.0; names = names.1 }))))
      (λ it waits. inl waits)

  -- ## the begin and the end

  pub begun : (pending : List Next) → ((j : JobId) → waits s j ≡ true → IsPending pending (Thing.Job j)) → ((it : Thing) → IsPending pending it → IsWaiting s it) → IsOnItsWay c s [] pending
  begun pending all alone = record { sound = record { true = All-nil (IsTrueOf c s); follow = tt }; due = due; may = λ it waits. inl (alone it waits) }
    where
      due : (it : Thing) → IsDue c s [] it → IsTold [] it ⊎ IsPending pending it
      due it (inl waiting) = inr (subst (λ (t : Thing). IsPending pending t) (sym waiting.1) (all waiting.0 waiting.2))
      due it (inr named) = absurd (let stands : slice_get [] named.at ≡ Some named.fact = named.stands in cc)

  pub done : (facts : List Fact) (pending : List Next) → pending ≡ [] → IsOnItsWay c s facts pending → ExplainsAll c s facts
  done facts pending none way = record { sound = way.sound; jobs = λ j is. told (Thing.Job j) (inl (j, refl, is)); each = λ it named. told it (inr named) }
    where
      told : (it : Thing) → IsDue c s facts it → IsTold facts it
      told it is = ⊎_elim (λ (there : IsTold facts it). there) (λ (waits : IsPending pending it). absurd (none_pending pending it none waits)) (way.due it is)
