-- the places of what a fact names
use Rattle.np_causes.proofs.Prelude.{Asked, Configuration, List, NodeId, None, Option, Pool, RequestId, Role, Some, State, Thing, a_node, ap, arith, asked_of, get_or-map-range_with_len, if_live, length, length-map-range_with_len, map, nodes_in, offers_for, option_map, range_with_len, refl, request_in, sessions_for, slice_get, slice_get-get_or, slice_get-map, slice_get_past, slice_get_within, suc, zero, ℕ, [], ◌++◌, ◌+◌, ◌-◌, ◌<◌, ◌∙◌, ◌∷◌, ◌≡◌, ◌≤◌}

-- ## one list and then another

pub in_first : {X : Type 0} (xs ys : List X) (at : ℕ) → at < length xs → slice_get (xs ++ ys) at ≡ slice_get xs at
in_first [] ys at less = absurd (omega arith)
in_first (x ∷ xs) ys zero less = refl
in_first (x ∷ xs) ys (suc at) less = in_first xs ys at (omega arith)

pub in_second : {X : Type 0} (xs ys : List X) (at : ℕ) → length xs ≤ at → slice_get (xs ++ ys) at ≡ slice_get ys (at - length xs)
in_second [] ys at past = ap (λ (k : ℕ). slice_get ys k) (omega arith)
in_second (x ∷ xs) ys zero past = absurd (omega arith)
in_second (x ∷ xs) ys (suc at) past = in_second xs ys at (omega arith) ∙ ap (λ (k : ℕ). slice_get ys k) (omega arith)

-- ## rows by their views

pub seen_at : {A B C : Type 0} (view : A → B) (f : A → C) (g : B → C) → ((e : A) → f e ≡ g (view e)) → (xs : List A) (at : ℕ) (o : Option B)
    → o ≡ option_map view (slice_get xs at) → slice_get (map f xs) at ≡ option_map g o
seen_at view f g same xs at o is = grind (arith, slice_get-map f xs at, same)

-- ## numbers from one on

pub range_at : {X : Type 0} (f : ℕ → X) (a n at : ℕ) → at < n → slice_get (map f (range_with_len a n)) at ≡ Some (f (a + at))
range_at f a n at less =
    let within : at < length (map f (range_with_len a n)) = omega (arith, length-map-range_with_len f a n) in
    slice_get-get_or (map f (range_with_len a n)) at (f 0) within ∙ ap Some (get_or-map-range_with_len f a n at (a + at) (f 0) less refl)

pub range_past : {X : Type 0} (f : ℕ → X) (a n at : ℕ) → n ≤ at → slice_get (map f (range_with_len a n)) at ≡ None
range_past f a n at past = slice_get_past (map f (range_with_len a n)) at (omega (arith, length-map-range_with_len f a n))

pub offer_there : (c : Configuration) (r : RequestId) (at : ℕ) (p : Pool) → slice_get c.pools at ≡ Some p
    → slice_get (offers_for c r) at ≡ Some (Some (Thing.Offer r (record { 0 = at })))
offer_there c r at p there =
    let same : 0 + at ≡ at = omega arith in
    range_at (λ (k : ℕ). Some (Thing.Offer r (record { 0 = k }))) 0 (length c.pools) at (slice_get_within c.pools at p there)
    ∙ ap (λ (k : ℕ). Some (Some (Thing.Offer r (record { 0 = k })))) same

pub no_offer : (c : Configuration) (r : RequestId) (at : ℕ) → length c.pools ≤ at → slice_get (offers_for c r) at ≡ None
no_offer c r at past = range_past (λ (k : ℕ). Some (Thing.Offer r (record { 0 = k }))) 0 (length c.pools) at past

pub session_there : (role : Role) (s : State) (at : ℕ) → at < length s.sessions → slice_get (sessions_for role s) at ≡ Some (if_live role s (record { 0 = at + 1 }))
session_there role s at less =
    let same : 1 + at ≡ at + 1 = omega arith in
    range_at (λ (k : ℕ). if_live role s (record { 0 = k })) 1 (length s.sessions) at less
    ∙ ap (λ (k : ℕ). Some (if_live role s (record { 0 = k }))) same

pub no_session : (role : Role) (s : State) (at : ℕ) → length s.sessions ≤ at → slice_get (sessions_for role s) at ≡ None
no_session role s at past = range_past (λ (k : ℕ). if_live role s (record { 0 = k })) 1 (length s.sessions) at past

-- ## the nodes of a request

pub node_there : (r : RequestId) (s : State) (at : ℕ) (a : Asked) (n : NodeId) → Some a ≡ option_map asked_of (request_in r s.requests) → Some n ≡ slice_get a.nodes at
    → Some (Some (Thing.Node n)) ≡ slice_get (map a_node (nodes_in r s)) at
node_there r s at a n asked there = grind (arith, slice_get-map a_node (nodes_in r s) at)
