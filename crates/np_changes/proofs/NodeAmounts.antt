-- sums of amounts: what the nodes take together, also summed over the offers of a pool
use Rattle.np_changes.proofs.Prelude.{Amount, Bool, IsAtMost, IsAtMost-part, IsAtMost-plus, IsAtMost-refl, IsAtMost-trans, Limit, List, None, Option, Some, [], ap, arith, change_first, change_first-absent, cond, drop, false, filter, find, fits, fold, insert_before, map, map-append, nat_tests, nothing, nothing-plus, plus, plus-comm, refl, remove_first, same_amount, slice_get, suc, sym, total, total_push, true, zero, ℕ, ◌++◌, ◌∙◌, ◌∷◌, ◌≡◌, Changes, Configuration, EndsNode, Frees, GivesUp, LabelId, Maker, NodeEntry, NodeId, NodeRecord, NodesChange, NodesPremise, PoolId, Premises, Reports, SessionId, SessionsChange, Starts, State, TenantId, by_maker, changed, freed, freed_from, grown, if◌then◌else◌, in_use, is_request, left, node_entry, node_in, node_left, node_queue, nodes_changed, nodes_left, put_node, put_node_queue, ◌==◌, ◌⊎◌, AllApart, AmountFits, Offer, OffersFit, amount_of, count_by-le-length, get_or, is_kind, length, length-filter, list_any, mul-le, number_of, offers_of, option_map_or, plus-assoc, subst, take, take_all, times, times-suc, ◌*◌, ◌<◌, ◌≤◌}
use Rattle.np_changes.proofs.Lookups.{kept-is}
use Rattle.np_lists.proofs.Plain.{by_bool}

-- # sums of amounts over a list that changes

-- ## amounts

pub at_most-same : (a b : Amount) → a ≡ b → IsAtMost a b
at_most-same a b same = rw same (IsAtMost-refl b)

pub nothing-at_most : (a : Amount) → IsAtMost nothing a
nothing-at_most a = record { instances = omega arith; cores = omega arith; ram = omega arith }

pub part-at_most : (a b : Amount) → IsAtMost b (plus a b)
part-at_most a b = record { instances = omega arith; cores = omega arith; ram = omega arith }

pub plus-nothing : (a : Amount) → plus a nothing ≡ a
plus-nothing a = plus-comm a nothing ∙ nothing-plus a

pub swapped : (a b s : Amount) → plus a (plus b s) ≡ plus b (plus a s)
swapped a b s = same_amount _ _ (omega arith) (omega arith) (omega arith)

-- what one sum gains is what the other loses
pub traded : (a b c d moves : Amount) → IsAtMost a (plus c moves) → IsAtMost (plus b moves) d → IsAtMost (plus a b) (plus c d)
traded a b c d moves more less = record { instances = omega arith; cores = omega arith; ram = omega arith }

-- one of two rises
pub second-rises : (a b c more : Amount) → IsAtMost b (plus c more) → IsAtMost (plus a b) (plus (plus a c) more)
second-rises a b c more rise = record { instances = omega arith; cores = omega arith; ram = omega arith }

-- ## limits

pub fits-nothing : (limit : Limit) → fits nothing limit ≡ true
fits-nothing limit = grind (arith, nat_tests)

-- ## the members that count

-- what a member takes if it counts, and otherwise nothing
abbrev pub counted : {X : Type 0} → (X → Bool) → (X → Amount) → X → Amount
counted test takes x = cond (test x) (takes x) nothing

-- what the members take together
abbrev pub sum_of : {X : Type 0} → (X → Amount) → List X → Amount
sum_of takes xs = total (map takes xs)

module _ {X : Type 0} (test : X → Bool) (takes : X → Amount) where
  pub sum_of-filter : (xs : List X) → sum_of takes (filter test xs) ≡ sum_of (counted test takes) xs
  sum_of-filter [] = refl
  sum_of-filter (x ∷ xs) = grind (arith, nat_tests, sum_of-filter xs, nothing-plus)

module _ {X : Type 0} (takes : X → Amount) where
  -- ## a member more

  pub sum_of-push : (xs : List X) (x : X) → sum_of takes (xs ++ x ∷ []) ≡ plus (sum_of takes xs) (takes x)
  sum_of-push xs x = ap total (map-append takes xs (x ∷ [])) ∙ total_push (map takes xs) (takes x)

  pub sum_of-insert_before : (p : X → Bool) (new : X) (xs : List X) → sum_of takes (insert_before p new xs) ≡ plus (takes new) (sum_of takes xs)
  sum_of-insert_before p new [] = refl
  sum_of-insert_before p new (x ∷ xs) = grind (arith, nat_tests, sum_of-insert_before p new xs, swapped (takes x) (takes new) (sum_of takes xs))

  -- ## a member less

  pub sum_of-remove_first : (p : X → Bool) (xs : List X) → IsAtMost (sum_of takes (remove_first p xs)) (sum_of takes xs)
  sum_of-remove_first p [] = IsAtMost-refl nothing
  sum_of-remove_first p (x ∷ xs) = let rest = sum_of-remove_first p xs in grind (arith, nat_tests, rest.instances, rest.cores, rest.ram)

  -- from a place on
  pub sum_of-drop : (at : ℕ) (xs : List X) → IsAtMost (sum_of takes (drop at xs)) (sum_of takes xs)
  sum_of-drop zero xs = IsAtMost-refl (sum_of takes xs)
  sum_of-drop (suc at) [] = IsAtMost-refl nothing
  sum_of-drop (suc at) (x ∷ xs) = IsAtMost-trans _ _ _ (sum_of-drop at xs) (part-at_most (takes x) (sum_of takes xs))

  -- the member at the place and those after it
  pub sum_of-next : (at : ℕ) (xs : List X) (x : X) → slice_get xs at ≡ Some x → sum_of takes (drop at xs) ≡ plus (takes x) (sum_of takes (drop (suc at) xs))
  sum_of-next at [] x is = absurd cc
  sum_of-next zero (y ∷ xs) x is = let same : y ≡ x = cc in ap (λ (z : X). plus (takes z) (sum_of takes xs)) same
  sum_of-next (suc at) (y ∷ xs) x is = sum_of-next at xs x is

  -- ## each member changed

  pub sum_of-map : (f : X → X) (xs : List X) → ((x : X) → IsAtMost (takes (f x)) (takes x)) → IsAtMost (sum_of takes (map f xs)) (sum_of takes xs)
  sum_of-map f [] each = IsAtMost-refl nothing
  sum_of-map f (x ∷ xs) each = IsAtMost-plus (takes (f x)) (takes x) (sum_of takes (map f xs)) (sum_of takes xs) (each x) (sum_of-map f xs each)

  -- ## the first that passes changed

  sum_of-change : (p : X → Bool) (f : X → X) (xs : List X) (x : X) → find p xs ≡ Some x
      → IsAtMost (plus (sum_of takes (change_first p f xs)) (takes x)) (plus (sum_of takes xs) (takes (f x)))
  sum_of-change p f [] x is = absurd cc
  sum_of-change p f (y ∷ xs) x is = grind (arith, nat_tests, sum_of-change p f xs x)

  -- the sum rises no more than the member
  pub sum_of-rise : (p : X → Bool) (f : X → X) (xs : List X) (more : Amount) → ((x : X) → find p xs ≡ Some x → IsAtMost (takes (f x)) (plus (takes x) more))
      → IsAtMost (sum_of takes (change_first p f xs)) (plus (sum_of takes xs) more)
  sum_of-rise p f xs more each = by (find p xs) refl where
    by : (o : Option X) → find p xs ≡ o → IsAtMost (sum_of takes (change_first p f xs)) (plus (sum_of takes xs) more)
    by None is = rw (change_first-absent p f xs is) (IsAtMost-part (sum_of takes xs) more)
    by (Some x) is = grind (arith, nat_tests, sum_of-change p f xs x is, each x is)

  -- the sum does not rise if the member does not
  pub sum_of-keep : (p : X → Bool) (f : X → X) (xs : List X) → ((x : X) → find p xs ≡ Some x → IsAtMost (takes (f x)) (takes x))
      → IsAtMost (sum_of takes (change_first p f xs)) (sum_of takes xs)
  sum_of-keep p f xs each =
      let rise = sum_of-rise p f xs nothing (λ x is. IsAtMost-trans _ _ _ (each x is) (IsAtMost-part (takes x) nothing)) in
      IsAtMost-trans _ _ _ rise (at_most-same _ _ (plus-nothing (sum_of takes xs)))

  -- the sum falls by as much as the member that is found
  pub sum_of-fall : (p : X → Bool) (f : X → X) (xs : List X) (x : X) (less : Amount) → find p xs ≡ Some x → IsAtMost (plus (takes (f x)) less) (takes x)
      → IsAtMost (plus (sum_of takes (change_first p f xs)) less) (sum_of takes xs)
  sum_of-fall p f xs x less is fall = grind (arith, nat_tests, sum_of-change p f xs x is)

  -- the same change for each of a list
  pub sum_of-fold : {Y : Type 0} (p : Y → X → Bool) (f : X → X) (ys : List Y) (xs : List X) → ((x : X) → IsAtMost (takes (f x)) (takes x))
      → IsAtMost (sum_of takes (fold (λ rows y. change_first (p y) f rows) xs ys)) (sum_of takes xs)
  sum_of-fold p f [] xs each = IsAtMost-refl (sum_of takes xs)
  sum_of-fold p f (y ∷ ys) xs each = IsAtMost-trans _ _ _ (sum_of-fold p f ys (change_first (p y) f xs) each) (sum_of-keep (p y) f xs (λ x _. each x))

-- # what the nodes take together, by the pool, the label and the tenant of each

-- what a node takes
abbrev pub Measure : Type 0
Measure = PoolId → LabelId → Option TenantId → Amount

abbrev pub takes : Measure → NodeEntry → Amount
takes w e = w e.kept.pool e.kept.label e.kept.tenant

-- what the nodes take together
abbrev pub taken : Measure → List NodeEntry → Amount
taken w rows = sum_of (takes w) rows

-- a node of no tenant takes no more than one of a tenant
abbrev pub IsLeastFree : Measure → Type 0
IsLeastFree w = (p : PoolId) (l : LabelId) (t : Option TenantId) → IsAtMost (w p l None) (w p l t)

module _ (w : Measure) where
  -- ## ways that leave the pool, the label and the tenant

  -- the maker's session joins or leaves a queue
  pub queue-keeps : (maker : Option Maker) (change : SessionId → List SessionId → List SessionId) (n : NodeId) (rows : List NodeEntry)
      → IsAtMost (taken w (by_maker maker (λ session old. put_node_queue n (change session (node_queue n old)) old) rows)) (taken w rows)
  queue-keeps None change n rows = IsAtMost-refl (taken w rows)
  queue-keeps (Some maker) change n rows =
      sum_of-keep (takes w) (λ (e : NodeEntry). e.id.0 == n.0) (λ e. record e { queue = change maker.session (node_queue n rows) }) rows (λ e _. IsAtMost-refl (takes w e))

  left-keeps : (change : SessionsChange) (rows : List NodeEntry) → IsAtMost (taken w (nodes_left change rows)) (taken w rows)
  left-keeps (SessionsChange.End session) rows = sum_of-map (takes w) (node_left session) rows (λ e. IsAtMost-refl (takes w e))
  left-keeps _ rows = IsAtMost-refl (taken w rows)

  -- another record that takes no more than the one found
  put-keeps : (n : NodeId) (k kept : NodeRecord) (rows : List NodeEntry) → node_in n rows ≡ Some k → IsAtMost (w kept.pool kept.label kept.tenant) (w k.pool k.label k.tenant)
      → IsAtMost (taken w (put_node n kept rows)) (taken w rows)
  put-keeps n k kept rows has least =
      sum_of-keep (takes w) (λ (e : NodeEntry). e.id.0 == n.0) (λ e. record e { kept = kept }) rows
      (λ e is. let same : e.kept ≡ k = kept-is (λ (x : NodeEntry). x.kept) (node_entry n rows) k e has is in rw same least)

  module _ (least : IsLeastFree w) where
    way-keeps : (c : Configuration) (s : State) (ch : Changes) (n : NodeId) (k kept : NodeRecord)
        → Starts s ch k kept ⊎ (Reports c s ch k kept ⊎ (EndsNode s ch n k kept ⊎ (GivesUp s ch k kept ⊎ Frees s ch k kept)))
        → IsAtMost (w kept.pool kept.label kept.tenant) (w k.pool k.label k.tenant)
    way-keeps c s ch n k kept x6 = grind (arith, nat_tests)

    -- ## what happens to nodes

    change-keeps : (c : Configuration) (s : State) (ch : Changes) (tick : ℕ) (change : NodesChange) → NodesPremise c s ch change
        → IsAtMost (taken w (nodes_changed ch.maker tick change (grown c ch.maker ch.grows s).nodes)) (taken w (grown c ch.maker ch.grows s).nodes)
    change-keeps c s ch tick NodesChange.Same premise = IsAtMost-refl (taken w (grown c ch.maker ch.grows s).nodes)
    change-keeps c s ch tick (NodesChange.Put n kept) premise =
        rw premise.same_size (put-keeps n premise.node kept s.nodes premise.held.stands (way-keeps c s ch n premise.node kept premise.way))
    change-keeps c s ch tick (NodesChange.Remove n) premise = sum_of-remove_first (takes w) (λ (e : NodeEntry). e.id.0 == n.0) (grown c ch.maker ch.grows s).nodes
    change-keeps c s ch tick (NodesChange.Leave n) premise = queue-keeps ch.maker left n (grown c ch.maker ch.grows s).nodes
    change-keeps c s ch tick (NodesChange.FreeAll r) premise =
        sum_of-map (takes w) (freed_from r) (grown c ch.maker ch.grows s).nodes (λ e.
        by_bool (λ b. IsAtMost (takes w (if b then record e { kept = freed e.kept } else e)) (takes w e)) (is_request r e.kept.allocated_to) (λ _. least e.kept.pool e.kept.label e.kept.tenant) (λ _. IsAtMost-refl (takes w e)))
    change-keeps c s ch tick (NodesChange.TakeOver numbers) premise = sum_of-fold (takes w) (λ (n : NodeId) (e : NodeEntry). e.id.0 == n.0) (in_use tick) numbers _ (λ e. IsAtMost-refl (takes w e))

    -- what follows the growth never raises what the nodes take
    pub settled-keeps : (c : Configuration) (s : State) (ch : Changes) → Premises c s ch → IsAtMost (taken w (changed c ch s).nodes) (taken w (grown c ch.maker ch.grows s).nodes)
    settled-keeps c s ch premises = IsAtMost-trans _ _ _ (left-keeps ch.sessions _) (change-keeps c s ch (grown c ch.maker ch.grows s).tick ch.nodes premises.nodes)

-- # what a pool uses, summed over its offers instead of its nodes

-- what a node of the label takes according to these offers
abbrev amount_by : List Offer → LabelId → Amount
amount_by offers l = option_map_or (λ o. o.amount) (find (λ o. o.label.0 == l.0) offers) nothing

-- what the pool's nodes take according to these offers
abbrev used_by : List Offer → PoolId → List NodeEntry → Amount
used_by offers p nodes = total (map (λ e. amount_by offers e.kept.label) (filter (λ e. e.kept.pool.0 == p.0) nodes))

-- `n` times the most that an offer can take
abbrev pub most_of : ℕ → Amount
most_of n = record { instances = n * 1000000; cores = n * 1000000; ram = n * 1000000 }

-- ## numbers

-- the nodes of the pool and the label are at most all nodes
pub number_bound : (p : PoolId) (l : LabelId) (nodes : List NodeEntry) → number_of p l nodes ≤ length nodes
number_bound p l nodes = omega (arith, length-filter (is_kind p l) nodes, count_by-le-length (is_kind p l) nodes)

-- at most the amount for the most nodes, each with the most that an offer can take
times_bound : (n most : ℕ) (a : Amount) → n ≤ most → AmountFits a → IsAtMost (times n a) (most_of most)
times_bound n most a few fits = record {
  instances = mul-le n a.instances most 1000000 few fits.instances;
  cores = mul-le n a.cores most 1000000 few fits.cores;
  ram = mul-le n a.ram most 1000000 few fits.ram;
}

-- ## one offer more

-- a label that no offer has takes nothing
no_offer : (offers : List Offer) (l : ℕ) (k : LabelId) → k.0 ≡ l → list_any (λ o. o.label.0 == l) offers ≡ false → amount_by offers k ≡ nothing
no_offer [] l k same none = refl
no_offer (o ∷ offers) l k same none = grind (arith, nat_tests, no_offer offers l k same)

-- one more node: of the pool and the offer's label, of another label, or of another pool
module _ (o : Offer) (offers : List Offer) (p : PoolId) (alone : list_any (λ x. x.label.0 == o.label.0) offers ≡ false) where
  abbrev Splits : List NodeEntry → Type 0
  Splits nodes = used_by (o ∷ offers) p nodes ≡ plus (times (number_of p o.label nodes) o.amount) (used_by offers p nodes)

  -- what the offers take, what the others take, and how many are of the label, after one more node
  splits-by : (e : NodeEntry) (nodes : List NodeEntry) (first second : Amount) (n : ℕ) → used_by (o ∷ offers) p (e ∷ nodes) ≡ plus first (used_by (o ∷ offers) p nodes) →
      used_by offers p (e ∷ nodes) ≡ plus second (used_by offers p nodes) → number_of p o.label (e ∷ nodes) ≡ n → plus first (times (number_of p o.label nodes) o.amount) ≡ plus (times n o.amount) second →
      Splits nodes → Splits (e ∷ nodes)
  splits-by e nodes first second n all others number both rest =
      let count = number_of p o.label nodes in
      let used = used_by offers p nodes in
      all ∙ ap (plus first) rest ∙ sym (plus-assoc first (times count o.amount) used) ∙ ap (λ (a : Amount). plus a used) both ∙ plus-assoc (times n o.amount) second used
      ∙ ap (plus (times n o.amount)) (sym others) ∙ ap (λ (m : ℕ). plus (times m o.amount) (used_by offers p (e ∷ nodes))) (sym number)

  splits-label : (e : NodeEntry) (nodes : List NodeEntry) (same : Bool) → (e.kept.pool.0 == p.0) ≡ true → (e.kept.label.0 == o.label.0) ≡ same → Splits nodes → Splits (e ∷ nodes)
  splits-label e nodes x2 own is rest = grind (arith, nat_tests, no_offer, splits-by, times-suc, nothing-plus, plus-comm)

  splits : (nodes : List NodeEntry) → Splits nodes
  splits [] = same_amount _ _ (omega arith) (omega arith) (omega arith)
  splits (e ∷ nodes) =
      by_bool (λ _. Splits (e ∷ nodes)) (e.kept.pool.0 == p.0) (λ own. splits-label e nodes (e.kept.label.0 == o.label.0) own refl (splits nodes)) (λ other. rw other (splits nodes))

-- ## all offers

-- nothing is taken if there are no offers
no_offers : (nodes : List NodeEntry) → total (map (λ e. amount_by [] e.kept.label) nodes) ≡ nothing
no_offers [] = refl
no_offers (e ∷ nodes) = nothing-plus _ ∙ no_offers nodes

-- each offer adds what the nodes of its label take
total_by : (offers : List Offer) (p : PoolId) (nodes : List NodeEntry) → AllApart offers → total (map (λ o. times (number_of p o.label nodes) o.amount) offers) ≡ used_by offers p nodes
total_by [] p nodes apart = sym (no_offers (filter (λ e. e.kept.pool.0 == p.0) nodes))
total_by (o ∷ offers) p nodes apart = ap (plus (times (number_of p o.label nodes) o.amount)) (total_by offers p nodes apart.1) ∙ sym (splits o offers p apart.0 nodes)

-- what a pool's nodes take is the sum, over its offers, of the amount for each node of the label;
-- for a loop that has passed all of the offers
pub passed_total : (c : Configuration) (p : PoolId) → OffersFit (offers_of c p) → (nodes : List NodeEntry) (i : ℕ) → length (offers_of c p) ≤ i →
    total (map (λ o. times (number_of p o.label nodes) o.amount) (take i (offers_of c p))) ≡ total (map (λ e. amount_of c p e.kept.label) (filter (λ e. e.kept.pool.0 == p.0) nodes))
passed_total c p fit nodes i all = ap (λ (offers : List Offer). total (map (λ o. times (number_of p o.label nodes) o.amount) offers)) (take_all i (offers_of c p) all) ∙ total_by (offers_of c p) p nodes fit.apart

-- ## bounds

-- an offer at a place has another label, if none has this one
other_at : (l : ℕ) (offers : List Offer) (i : ℕ) (d : Offer) → list_any (λ o. o.label.0 == l) offers ≡ false → i < length offers → (l == (get_or offers i d).label.0) ≡ false
other_at l [] i d none within = absurd (omega arith)
other_at l (o ∷ offers) zero d none within = grind (arith, nat_tests)
other_at l (o ∷ offers) (suc i) d none within = other_at l offers i d (grind (arith, nat_tests)) (omega arith)

-- a node of an offer's label takes the offer's amount
own_by : (offers : List Offer) (i : ℕ) (d : Offer) → AllApart offers → i < length offers → amount_by offers (get_or offers i d).label ≡ (get_or offers i d).amount
own_by [] i d apart within = absurd (omega arith)
own_by (o ∷ offers) zero d apart within = grind (arith, nat_tests)
own_by (o ∷ offers) (suc i) d apart within = rw (other_at o.label.0 offers i d apart.0 (omega arith)) (own_by offers i d apart.1 (omega arith))

-- an offer's amount fits
pub offer_bound : (c : Configuration) (p : PoolId) → ((l : LabelId) → AmountFits (amount_of c p l)) → OffersFit (offers_of c p) → (offers : List Offer) → offers ≡ offers_of c p →
    (i : ℕ) (d : Offer) → i < length offers → AmountFits (get_or offers i d).amount
offer_bound c p small fit offers same i d within =
    let there : i < length (offers_of c p) = rw same at within in
    rw same (subst AmountFits (own_by (offers_of c p) i d fit.apart there) (small (get_or (offers_of c p) i d).label))

-- ## an offer's part of the sum

-- what is added for the offer at this place
pub record IsPart (c : Configuration) (p : PoolId) (nodes : List NodeEntry) (i : ℕ) (d : Offer) (part : Amount) : Type 0 where
  pub there : i < length (offers_of c p)
  pub few : i < 256
  pub same : part ≡ times (number_of p (get_or (offers_of c p) i d).label nodes) (get_or (offers_of c p) i d).amount
  pub instances : part.instances ≤ 262144000000
  pub cores : part.cores ≤ 262144000000
  pub ram : part.ram ≤ 262144000000

-- a loop over the offers adds such a part
pub part_bound : (c : Configuration) (p : PoolId) (nodes : List NodeEntry) → length nodes ≤ 262144 → ((l : LabelId) → AmountFits (amount_of c p l)) → OffersFit (offers_of c p) →
    (offers : List Offer) → offers ≡ offers_of c p → (i : ℕ) (d : Offer) → i < length offers → (number : ℕ) → number ≡ number_of p (get_or offers i d).label nodes →
    (part : Amount) → part ≡ times number (get_or offers i d).amount → IsPart c p nodes i d part
part_bound c p nodes few small fit offers same i d within number counted part is = grind (arith, nat_tests, number_bound, times_bound, offer_bound)
