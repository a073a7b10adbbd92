-- the candidates of pools in order, with their ranks, and the least candidate of all lines
use Rattle.np_index.proofs.Prelude.{AllByRecursion, AreOpen, Bool, Configuration, IfSome, IsLineFrom, IsWalkedPast, List, Member, None, OpenOf, Option, PoolId, Rank, RequestEntry, Rises, Rises-filter, Some, State, all-from_at, all-insert_before, all-weaker, and-first, and-second, ap, arith, candidate_of, candidate_ranks, by_bool, cases_order, comes_before, cond, earlier, earlier_rank, eqb-true, false, filter, find, find-passes, first-line, first_line, first_of, fold, ids-in_order, in_order, inl, inr, insert_before, is_candidate, is_id_before, is_past, is_rank_before, is_requested_at, later-request-apart, least, line_after, line_of, lines_left, list_any, list_any-insert_before, map, may_take_up, nat_tests, next-line, next_among, option_map, option_map_or, past-end, rank_equal, rank_of, rank_one_way, rank_transitive, ranks-are, ranks_of, refl, request-equal, request_entry, rises-insert_before, row-passes, same_rank, same_request, slice_get, slice_get-map, slice_get_past, subst, suc, sym, true, waits-there, ℕ, [], ◌&&◌, ◌-◌, ◌<◌, ◌==◌, ◌^◌, ◌||◌, ◌∙◌, ◌∷◌, ◌≡◌, ◌≤◌, ◌⊎◌}
use Rattle.np_index.proofs.Firsts.{beats, earlier-is, find-always, find-least, find-next, find-none, found-least, found-there, has, is-beaten, none-found, passes, stays-beaten, takes}

-- # the candidates of pools in order, with their ranks, and the least candidate of all lines

-- # a pool's candidates in order, of which the first is the least, and their ranks, which are those of the lines' ranks that the launcher may take up

-- ## entries in order

-- what is true of each entry
each-in_order : (P : RequestEntry → Type 0) (es : List RequestEntry) → AllByRecursion P es → AllByRecursion P (in_order es)
each-in_order P [] all = tt
each-in_order P (e ∷ es) all = all-insert_before P (λ other. comes_before e other) e (in_order es) all.0 (each-in_order P es all.1)

-- the same entries pass a test
any-in_order : (q : RequestEntry → Bool) (es : List RequestEntry) → list_any q (in_order es) ≡ list_any q es
any-in_order q [] = refl
any-in_order q (e ∷ es) = list_any-insert_before q (λ other. comes_before e other) e (in_order es) ∙ ap (λ (b : Bool). q e || b) (any-in_order q es)

-- of two entries with different ids one comes before the other
follows : (a b : RequestEntry) → is_id_before a.id b.id ≡ true → comes_before a b ≡ false → comes_before b a ≡ true
follows a b order past = grind (arith, nat_tests)

abbrev rank : RequestEntry → Rank
rank e = rank_of e.id e.kept

-- of entries with different ids each is before every later one
in_order-rises : (es : List RequestEntry) → Rises (λ a b. is_id_before a.id b.id) es → Rises comes_before (in_order es)
in_order-rises [] rises = tt
in_order-rises (e ∷ es) rises =
    rises-insert_before comes_before (λ a b k. rank_transitive (rank a) (rank b) (rank k)) e (in_order es)
    (each-in_order (λ x. comes_before e x ≡ false → comes_before x e ≡ true) es
    (all-weaker (λ x. is_id_before e.id x.id ≡ true) (λ x. comes_before e x ≡ false → comes_before x e ≡ true) (λ x. follows e x) es rises.0))
    (in_order-rises es rises.1)

-- ## the first of them

leads : (a b : RequestEntry) → is_id_before a.id b.id ≡ true → comes_before b a ≡ false → comes_before a b ≡ true
leads a b order past = grind (arith, nat_tests)

one_way : (a b : RequestEntry) → comes_before a b ≡ true → comes_before b a ≡ false
one_way a b first = rank_one_way (rank a) (rank b) first

-- one entry more is the first if it comes before what was the first
in_order-first : (e : RequestEntry) (es : List RequestEntry) → slice_get (in_order (e ∷ es)) 0 ≡ earlier (slice_get (in_order es) 0) e
in_order-first e es = at (in_order es) where
  at : (rows : List RequestEntry) → slice_get (insert_before (λ other. comes_before e other) e rows) 0 ≡ earlier (slice_get rows 0) e
  at [] = refl
  at (x ∷ xs) = by_bool (λ b. slice_get (cond b (e ∷ x ∷ xs) (x ∷ insert_before (λ other. comes_before e other) e xs)) 0 ≡ cond b (Some e) (Some x)) (comes_before e x) (λ _. refl) (λ _. refl)

-- two entries more, compared in turn with the first of the others
module _ (a e : RequestEntry) (order : is_id_before a.id e.id ≡ true) where
  -- if the second comes before the first, the first changes nothing
  second : comes_before e a ≡ true → (o : Option RequestEntry) → IfSome o (λ x. is_id_before e.id x.id ≡ true) → earlier o e ≡ earlier (earlier o e) a
  second first None after = rw (one_way e a first) refl
  second first (Some x) after = by (comes_before e x) refl where
    by : (b : Bool) → comes_before e x ≡ b → cond b (Some e) (Some x) ≡ earlier (cond b (Some e) (Some x)) a
    by true is = rw (one_way e a first) refl
    by false is = rw (one_way x a (rank_transitive (rank x) (rank e) (rank a) (follows e x after is) first)) refl

  -- if it does not, the second changes nothing
  neither : comes_before e a ≡ false → (o : Option RequestEntry) → earlier o a ≡ earlier (earlier o e) a
  neither past None = rw (leads a e order past) refl
  neither past (Some x) = by (comes_before e x) refl where
    by : (b : Bool) → comes_before e x ≡ b → cond (comes_before a x) (Some a) (Some x) ≡ earlier (cond b (Some e) (Some x)) a
    by true is = rw (leads a e order past, rank_transitive (rank a) (rank e) (rank x) (leads a e order past) is) refl
    by false is = refl

-- the least of an entry and those after it by id
least-from : (a : RequestEntry) (es : List RequestEntry) → AllByRecursion (λ x. is_id_before a.id x.id ≡ true) es → Rises (λ x y. is_id_before x.id y.id) es
    → fold earlier (Some a) es ≡ earlier (slice_get (in_order es) 0) a
least-from a [] all rises = refl
least-from a (e ∷ es) all rises = by (comes_before e a) refl (least-from e es rises.0 rises.1) (least-from a es all.1 rises.1) ∙ sym (ap (λ (o : Option RequestEntry). earlier o a) (in_order-first e es)) where
  after : (rows : List RequestEntry) → AllByRecursion (λ x. is_id_before e.id x.id ≡ true) rows → IfSome (slice_get rows 0) (λ x. is_id_before e.id x.id ≡ true)
  after [] each = tt
  after (x ∷ xs) each = each.0

  by : (b : Bool) → comes_before e a ≡ b → fold earlier (Some e) es ≡ earlier (slice_get (in_order es) 0) e → fold earlier (Some a) es ≡ earlier (slice_get (in_order es) 0) a
      → fold earlier (cond b (Some e) (Some a)) es ≡ earlier (earlier (slice_get (in_order es) 0) e) a
  by true is from_e from_a = from_e ∙ second a e all.0 is (slice_get (in_order es) 0) (after (in_order es) (each-in_order (λ x. is_id_before e.id x.id ≡ true) es rises.0))
  by false is from_e from_a = from_a ∙ neither a e all.0 is (slice_get (in_order es) 0)

-- of entries with different ids the first in order is the least
least-first : (es : List RequestEntry) → Rises (λ a b. is_id_before a.id b.id) es → slice_get (in_order es) 0 ≡ least es
least-first [] rises = refl
least-first (e ∷ es) rises = in_order-first e es ∙ sym (least-from e es rises.0 rises.1)

-- ## their ranks

apart : (a b : Rank) → is_rank_before a b ≡ true → same_rank b a ≡ false
apart a b first = grind (arith, nat_tests)

-- a rank is among those of entries if an entry has it
has-ranks : (x : Rank) (es : List RequestEntry) → has x (map rank es) ≡ list_any (λ e. same_rank (rank e) x) es
has-ranks x [] = refl
has-ranks x (e ∷ es) = ap (λ (b : Bool). same_rank (rank e) x || b) (has-ranks x es)

module _ (test : RequestEntry → Bool) where
  -- the entry passes and has the rank's relative priority
  abbrev fits : Rank → RequestEntry → Bool
  fits x e = test e && (e.kept.relative_priority == x.relative)

  -- the ids of those entries have the rank's
  by-ids : (x : Rank) (es : List RequestEntry) → list_any (λ e. same_rank (rank e) x) (filter test es) ≡ list_any (λ r. same_request r x.request) (map (λ e. e.id) (filter (fits x) es))
  by-ids x [] = refl
  by-ids x (e ∷ es) = grind (arith, by-ids x es)

  module _ (es : List RequestEntry) (once : Rises (λ a b. is_id_before a.id b.id) es) where
    -- the ranks of those that pass, in order
    ranks-rise : Rises is_rank_before (map rank (in_order (filter test es)))
    ranks-rise =
        ids-in_order is_rank_before same_rank rank rank_equal apart (in_order (filter test es))
        (in_order-rises (filter test es) (Rises-filter (λ a b. is_id_before a.id b.id) test es once))

    -- a rank is among them if the entry with its id passes and has its relative priority
    ranks-have : (x : Rank) → has x (map rank (in_order (filter test es))) ≡ option_map_or (fits x) (request_entry x.request es) false
    ranks-have x =
        has-ranks x (in_order (filter test es))
        ∙ any-in_order (λ e. same_rank (rank e) x) (filter test es)
        ∙ by-ids x es
        ∙ row-passes is_id_before same_request (λ (e : RequestEntry). e.id) request-equal later-request-apart (fits x) x.request es once

-- ## the candidates

module _ (c : Configuration) (s : State) (p : PoolId) where
  -- the candidate at a place by its rank
  pub candidate-rank : (at : ℕ) → option_map (λ x. x.request) (slice_get (candidate_ranks c s p) at) ≡ candidate_of c s p at
  candidate-rank at = grind (arith, slice_get-map rank (in_order (filter (is_candidate c s p) s.requests)) at)

  module _ (once : Rises (λ a b. is_id_before a.id b.id) s.requests) where
    -- if no two requests have one id, the first candidate in order is the least
    pub candidate-first : candidate_of c s p 0 ≡ first_of c s p
    candidate-first =
        ap (option_map (λ (e : RequestEntry). e.id))
        (least-first (filter (is_candidate c s p) s.requests) (Rises-filter (λ a b. is_id_before a.id b.id) (is_candidate c s p) s.requests once))

    -- their ranks are in order
    pub candidates-rise : Rises is_rank_before (candidate_ranks c s p)
    candidates-rise = ranks-rise (is_candidate c s p) s.requests once

  module _ (kept : OpenOf) (are : AreOpen c s kept) (x : Rank) where
    -- a rank of a line whose request may be taken up is that of a candidate
    pub line-candidate : (line : ℕ) → has x (ranks_of line kept.members) ≡ true → may_take_up c s p x.request ≡ true → has x (candidate_ranks c s p) ≡ true
    line-candidate line there takes =
        ranks-have (is_candidate c s p) s.requests are.once x
        ∙ by (request_entry x.request s.requests) (sym ((ranks-are c s kept are line).each x) ∙ there) takes
      where
        by : (o : Option RequestEntry) → is_requested_at c kept.lines line x (option_map (λ e. e.kept) o) ≡ true → option_map_or (is_candidate c s p) o false ≡ true → option_map_or (fits (is_candidate c s p) x) o false ≡ true
        by o at passes = grind arith

    -- a candidate's rank is in the line of its request
    pub candidate-line : has x (candidate_ranks c s p) ≡ true → (line : ℕ) × (has x (ranks_of line kept.members) ≡ true) × (may_take_up c s p x.request ≡ true)
    candidate-line there = by (request_entry x.request s.requests) refl (sym (ranks-have (is_candidate c s p) s.requests are.once x) ∙ there) where
      by : (o : Option RequestEntry) → request_entry x.request s.requests ≡ o → option_map_or (fits (is_candidate c s p) x) o false ≡ true
          → (line : ℕ) × (has x (ranks_of line kept.members) ≡ true) × (may_take_up c s p x.request ≡ true)
      by None none all = absurd cc
      by (Some e) found all =
          let takes : is_candidate c s p e ≡ true = and-first (is_candidate c s p e) (e.kept.relative_priority == x.relative) all in
          let same : e.kept.relative_priority ≡ x.relative = eqb-true e.kept.relative_priority x.relative (and-second (is_candidate c s p e) (e.kept.relative_priority == x.relative) all) in (
            line_of c kept.lines e.kept,
            waits-there c s kept are (line_of c kept.lines e.kept) x e.kept (record {
              there = ap (option_map (λ (k : RequestEntry). k.kept)) found;
              requested = grind (arith, takes);
              relative = same;
              of_line = refl;
            }),
            ap (λ (o : Option RequestEntry). option_map_or (is_candidate c s p) o false) found ∙ takes,
          )

-- # the least candidate of all lines, and the candidates one after another

-- ## the least of all lines

-- the best so far passes and is in a line, and none that passes in the lines that were walked beats it
pub record IsBest (test : Rank → Bool) (members : List (Member Rank)) (next : Option ℕ) (best : Option Rank) : Type 0 where
  pub one : (b : Rank) → best ≡ Some b → (line : ℕ) × (has b (ranks_of line members) ≡ true) × (test b ≡ true)
  pub least : (line : ℕ) → IsWalkedPast next line → (x : Rank) → has x (ranks_of line members) ≡ true → test x ≡ true → beats best x ≡ false

-- a line that is left out has no ranks
left-out : (members : List (Member Rank)) (start : ℕ) (next : Option ℕ) → IsLineFrom members start next → (line : ℕ) → start ≤ line → IsWalkedPast next line → ranks_of line members ≡ []
left-out members start None from line low done = from line low
left-out members start (Some next) from line low done = from.none_before line low done

-- so none is there
none-there : (members : List (Member Rank)) (line : ℕ) (x : Rank) → ranks_of line members ≡ [] → has x (ranks_of line members) ≡ true → ⊥
none-there members line x none is = let out : has x [] ≡ true = subst (λ (xs : List Rank). has x xs ≡ true) none is in absurd cc

-- ### line by line

module _ (test : Rank → Bool) (members : List (Member Rank)) where
  begins-so : (next : Option ℕ) → IsLineFrom members 0 next → IsBest test members next None
  begins-so next first = record {
    one = λ b is. absurd cc;
    least = λ line done x is ok. absurd (none-there members line x (left-out members 0 next first line (omega arith) done) is);
  }

  goes-on : (line : ℕ) (next : Option ℕ) (best found : Option Rank) → Rises is_rank_before (ranks_of line members) → found ≡ find test (ranks_of line members)
      → IsLineFrom members (suc line) next → IsBest test members (Some line) best → IsBest test members next (earlier_rank best found)
  goes-on line next best found rises is from was = record {
    one = λ b here. one-of b (earlier-is best found b here);
    least = λ other done x that ok. by other done x that ok (cases_order other line);
  } where
    one-of : (b : Rank) → (best ≡ Some b) ⊎ (found ≡ Some b) → (n : ℕ) × (has b (ranks_of n members) ≡ true) × (test b ≡ true)
    one-of b (inl old) = was.one b old
    one-of b (inr new) =
        let there : find test (ranks_of line members) ≡ Some b = sym is ∙ new in
        (line, found-there test (ranks_of line members) b there, find-passes test (ranks_of line members) b there)

    here : (o : Option Rank) → o ≡ find test (ranks_of line members) → (x : Rank) → has x (ranks_of line members) ≡ true → test x ≡ true → beats (earlier_rank best o) x ≡ false
    here None none x that ok =
        let no : test x ≡ false = none-found test (ranks_of line members) x (sym none) that in
        absurd cc
    here (Some f) some x that ok =
        is-beaten best f x (found-least test (ranks_of line members) f x rises (sym some) that ok)

    by : (other : ℕ) → IsWalkedPast next other → (x : Rank) → has x (ranks_of other members) ≡ true → test x ≡ true → (other ≡ line) ⊎ ((other < line) ⊎ (line < other)) → beats (earlier_rank best found) x ≡ false
    by other done x that ok (inl same) = here found is x (subst (λ (n : ℕ). has x (ranks_of n members) ≡ true) same that) ok
    by other done x that ok (inr (inl less)) = stays-beaten best found x (was.least other less x that ok)
    by other done x that ok (inr (inr more)) = absurd (none-there members other x (left-out members (suc line) next from other (omega (arith, more)) done) that)

-- ## the candidates

module _ (c : Configuration) (s : State) (p : PoolId) (kept : OpenOf) (are : AreOpen c s kept) where
  -- before the first line there is no best
  pub best-begins : (given : Option Rank) (next : Option ℕ) → next ≡ first_line kept.members → IsBest (passes c s p given) kept.members next None
  best-begins given next is = begins-so (passes c s p given) kept.members next (subst (IsLineFrom kept.members 0) (sym is) (first-line c s kept are))

  module _ (line : ℕ) (now next : Option ℕ) (here : now ≡ Some line) (is : next ≡ line_after line kept.members) where
    from : IsLineFrom kept.members (suc line) next
    from = subst (IsLineFrom kept.members (suc line)) (sym is) (next-line c s kept are line)

    -- a line more, and the best is the earlier of the best so far and of what was found there
    pub best-next : (given best found : Option Rank) → found ≡ earlier_rank best (next_among c s p given (ranks_of line kept.members)) → IsBest (passes c s p given) kept.members now best
        → IsBest (passes c s p given) kept.members next found
    best-next given best found earlier was =
        subst (IsBest (passes c s p given) kept.members next) (sym earlier)
        (goes-on (passes c s p given) kept.members line next best (next_among c s p given (ranks_of line kept.members)) (ranks-are c s kept are line).rises refl from
        (subst (λ (o : Option ℕ). IsBest (passes c s p given) kept.members o best) here was))

    -- and the next line is nearer to the greatest number
    pub lines-fall : line < 2 ^ 64 → lines_left next < lines_left now
    lines-fall small = rw here (by next from) where
      by : (o : Option ℕ) → IsLineFrom kept.members (suc line) o → lines_left o < 2 ^ 64 - line
      by None after = omega arith
      by (Some other) after = let above : suc line ≤ other = after.from in omega arith

  -- once all lines were walked, the best is the first candidate that comes after the one that is given
  best-first : (given best : Option Rank) → IsBest (passes c s p given) kept.members None best → best ≡ find (is_past given) (candidate_ranks c s p)
  best-first given None is = sym (find-none (is_past given) (candidate_ranks c s p) none) where
    none : (y : Rank) → has y (candidate_ranks c s p) ≡ true → is_past given y ≡ false
    none y there = by (is_past given y) refl where
      by : (b : Bool) → is_past given y ≡ b → b ≡ false
      by true past =
          let at = candidate-line c s p kept are y there in
          let ok : (is_past given y && takes c s p y) ≡ true = rw (past, at.2) refl in
          let no : true ≡ false = is.least at.0 tt y at.1 ok in
          absurd cc
      by false before = refl
  best-first given (Some b) is =
      let at = is.one b refl in
      sym (find-least (is_past given) (candidate_ranks c s p) b (candidates-rise c s p are.once)
      (line-candidate c s p kept are b at.0 at.1 (and-second (is_past given b) (takes c s p b) at.2))
      (and-first (is_past given b) (takes c s p b) at.2)
      (λ y there past. let other = candidate-line c s p kept are y there in let ok : (is_past given y && takes c s p y) ≡ true = rw (past, other.2) refl in is.least other.0 tt y other.1 ok))

-- the one that is given is the candidate before the place, and none is given at place 0
abbrev pub IsBefore : List Rank → ℕ → Option Rank → Type 0
IsBefore ranks place None = place ≡ 0
IsBefore ranks place (Some x) = (0 < place) × (slice_get ranks (place - 1) ≡ Some x)

module _ (c : Configuration) (s : State) (p : PoolId) where
  -- so the first after it is the one at the place
  first-at : (kept : OpenOf) → AreOpen c s kept → (place : ℕ) (given : Option Rank) → IsBefore (candidate_ranks c s p) place given → find (is_past given) (candidate_ranks c s p) ≡ slice_get (candidate_ranks c s p) place
  first-at kept are place None is = find-always (is_past None) (candidate_ranks c s p) (all-from_at (λ x. is_past None x ≡ true) (candidate_ranks c s p) (λ at x there. refl)) ∙ ap (slice_get (candidate_ranks c s p)) (sym is)
  first-at kept are place (Some x) is =
      let next : suc (place - 1) ≡ place = omega (arith, is.0) in
      find-next (candidate_ranks c s p) (place - 1) x (candidates-rise c s p are.once) is.1
      ∙ ap (slice_get (candidate_ranks c s p)) next

  -- and so is the best of all lines
  pub best-at : (kept : OpenOf) → AreOpen c s kept → (place : ℕ) (given best : Option Rank) (next : Option ℕ) → next ≡ None → IsBefore (candidate_ranks c s p) place given
      → IsBest (passes c s p given) kept.members next best → best ≡ slice_get (candidate_ranks c s p) place
  best-at kept are place given best next end before is =
      best-first c s p kept are given best (subst (λ (o : Option ℕ). IsBest (passes c s p given) kept.members o best) end is) ∙ first-at kept are place given before

-- where there is none, there is none later
pub none-on : {X : Type 0} (xs : List X) (i j : ℕ) → slice_get xs i ≡ None → i ≤ j → slice_get xs j ≡ None
none-on xs i j none low = slice_get_past xs j (omega (arith, past-end xs i none, low))
