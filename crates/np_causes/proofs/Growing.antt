-- a list of facts that grows
use Rattle.np_causes.proofs.Prelude.{All-nil, All-push, Configuration, EachAfter-push, Explains, Fact, Follows, Grows, IfNamed, IfTold, IsNamed, IsSound, IsTold, IsTrueOf, JobId, List, NamesTold, None, Option, Some, State, Tells, Thing, about_of, arith, cases_lt, get_or, inl, inr, length, named_by, past-end, refl, slice_get, slice_get-get_or, slice_get-left, slice_get-middle, slice_get_within, subst, sym, ℕ, [], ◌++◌, ◌+◌, ◌<◌, ◌∙◌, ◌∷◌, ◌≡◌, ◌≤◌}

-- ## one fact more

pub push_grows : (xs : List Fact) (f : Fact) → Grows xs (xs ++ f ∷ [])
push_grows xs f k y is = slice_get-left xs [] f k (slice_get_within xs k y is) ∙ is

pub push_told : (xs : List Fact) (f : Fact) (it : Thing) → about_of f ≡ it → IsTold (xs ++ f ∷ []) it
push_told xs f it is = record { at = length xs; fact = f; stands = slice_get-middle xs [] f (length xs) refl; about = is }

pub told_later : (xs ys : List Fact) (it : Thing) → Grows xs ys → IsTold xs it → IsTold ys it
told_later xs ys it grows told = record { at = told.at; fact = told.fact; stands = grows told.at told.fact told.stands; about = told.about }

module _ (c : Configuration) (s : State) (j : JobId) where
  pub push_sound : (xs : List Fact) (f : Fact) (it : Thing) → IsSound c s j xs → IsNamed c s xs it → Tells c s it f → IsSound c s j (xs ++ f ∷ [])
  push_sound xs f it sound named tells = record {
    true = All-push (IsTrueOf c s) xs f sound.true tells.true;
    follow = EachAfter-push (Follows c s j) [] xs f sound.follow (inr (subst (λ (t : Thing). IsNamed c s xs t) (sym tells.about) named));
  }

  -- the first fact
  pub first_sound : (xs : List Fact) (f : Fact) → xs ≡ f ∷ [] → Tells c s (Thing.Job j) f → IsSound c s j xs
  first_sound xs f is tells = rw is (record { true = All-push (IsTrueOf c s) [] f (All-nil (IsTrueOf c s)) tells.true; follow = (inl tells.about, tt) })

  pub first_told : (xs : List Fact) (f : Fact) → xs ≡ f ∷ [] → Tells c s (Thing.Job j) f → IsTold xs (Thing.Job j)
  first_told xs f is tells = rw is (record { at = 0; fact = f; stands = refl; about = tells.about })

  -- ## nothing more is named

  -- past the last place of a fact
  pub names_told : (xs : List Fact) (f : Fact) (end : ℕ) → slice_get (named_by c s f) end ≡ None
      → ((place : ℕ) → place < end → (it : Thing) → slice_get (named_by c s f) place ≡ Some (Some it) → IsTold xs it) → NamesTold c s xs f
  names_told xs f end none told place it is =
      let within : place < length (named_by c s f) = slice_get_within (named_by c s f) place (Some it) is in
      let past : length (named_by c s f) ≤ end = past-end (named_by c s f) end none in
      told place (omega arith) it is

  -- past the last fact
  pub all_told : (xs : List Fact) (end : ℕ) → length xs ≤ end → IsSound c s j xs → IsTold xs (Thing.Job j)
      → ((k : ℕ) → k < end → (f : Fact) → slice_get xs k ≡ Some f → NamesTold c s xs f) → Explains c s j xs
  all_told xs end past sound begun told = record {
    sound = sound;
    begun = begun;
    each = λ it named. told named.at (let within : named.at < length xs = slice_get_within xs named.at named.fact named.stands in omega arith) named.fact named.stands named.place it named.names;
  }

-- ## what was told of the facts so far

pub named_if : (c : Configuration) (s : State) (xs : List Fact) (at : ℕ) (f : Fact) (place : ℕ) (found : Option Thing) → slice_get xs at ≡ Some f
    → Some found ≡ slice_get (named_by c s f) place → IfNamed c s xs found
named_if c s xs at f place None stands names = tt
named_if c s xs at f place (Some it) stands names = record { at = at; fact = f; stands = stands; place = place; names = sym names }

module _ (c : Configuration) (s : State) where
  pub told_more : (xs ys : List Fact) (at : ℕ) (fact : Fact) → slice_get xs at ≡ Some fact → Grows xs ys → NamesTold c s ys fact
      → ((k : ℕ) → k < at → (f : Fact) → slice_get xs k ≡ Some f → NamesTold c s xs f)
      → (k : ℕ) → k < at + 1 → (f : Fact) → slice_get ys k ≡ Some f → NamesTold c s ys f
  told_more xs ys at fact stands grows now before k less f is place it names =
      let within = slice_get_within xs at fact stands in
      let got = slice_get-get_or xs k f (omega arith) in
      let later = grows k (get_or xs k f) got in
      let read : slice_get xs k ≡ Some f = cc in
      elim (cases_lt k at) as (λ _. IsTold ys it) [
        | inl low ↦ told_later xs ys it grows (before k low f read place it names)
        | inr high ↦ (let here : k ≡ at = omega arith in let same : f ≡ fact = cc in now place it (rw same at names))
      ]

  pub names_more : (xs ys : List Fact) (f : Fact) (end : ℕ) (found : Option Thing) → Some found ≡ slice_get (named_by c s f) end → Grows xs ys → IfTold ys found
      → ((k : ℕ) → k < end → (it : Thing) → slice_get (named_by c s f) k ≡ Some (Some it) → IsTold xs it)
      → (k : ℕ) → k < end + 1 → (it : Thing) → slice_get (named_by c s f) k ≡ Some (Some it) → IsTold ys it
  names_more xs ys f end found read grows told before k less it names =
      elim (cases_lt k end) as (λ _. IsTold ys it) [
        | inl low ↦ told_later xs ys it grows (before k low it names)
        | inr high ↦ (let here : k ≡ end = omega arith in let same : found ≡ Some it = cc in rw same at told)
      ]

pub told_there : (xs : List Fact) (at : ℕ) (it seen : Thing) (d : Fact) → at < length xs → seen ≡ about_of (get_or xs at d) → seen ≡ it → IsTold xs it
told_there xs at it seen d within reads same = record { at = at; fact = get_or xs at d; stands = slice_get-get_or xs at d within; about = sym reads ∙ same }
