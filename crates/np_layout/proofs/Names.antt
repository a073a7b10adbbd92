-- the names and the paths of places: their letters, order and length, and the place above each
use Rattle.np_layout.proofs.Prelude.{Bad, Bool, Err, Handle, HasParts-below, HasText, IsAscii, IsAscii-append, IsAscii-cons, IsAscii-nil, IsGood, JanitorRole, Job, Jobs, Launcher, LauncherRole, Launchers, List, Makes, Node, NodeLock, NodeWait, Nodepool, Nodes, None, Option, Place, Poolsim, Request, RequestId, RequestLock, RequestLocks, RequestWait, RequesterRole, Requests, Roles, Root, Semaphore, Semaphores, Session, Sessions, Some, SweptPairs, Tick, Zuul, [], above, all_ascii_digits, all_ascii_digits-ten, and_from, and_parts, ap, append_assoc, arith, below, bytes_eq, codes, decimal, decimal-short, decimal_digit, decimal_nonempty, decimal_step, decimal_three, digits_decimal, drop, drop-set, drop_at, false, get_or, if◌then◌else◌, is_ascii_alphanumeric, is_dots, is_element, is_path, is_path-below, is_path-no_fault, is_some, length, length-append, length-decimal-le, length-ten, list_all, list_all-append, model, name_of, nat_tests, not, number_of, number_of-decimal, option_map, parent_of, path_fault, path_of, place_name, refl, request_of, request_of-text, request_text_of, root, sequence_of, sequence_of-ten_digits_of, some_injective, subst, suc, sym, take, take_at, ten-le-length, ten_digits_of, true, zero, ℕ, ◌%◌, ◌&&◌, ◌++◌, ◌+◌, ◌-◌, ◌/◌, ◌<◌, ◌==◌, ◌^◌, ◌||◌, ◌∙◌, ◌∷◌, ◌≡◌, ◌≤◌}
use Rattle.np_layout.specs.declared.place.Place.TheVariants.{Swept}
use Rattle.np_path.specs.Grammar.{is_kept}
use Rattle.std.proofs.Common.{set}
use Rattle.np_lists.proofs.Plain.{none-is}

-- # each name but the root's is one or more letters, digits and dashes

-- a letter, a digit or a dash
abbrev pub is_plain : ℕ → Bool
is_plain b = is_ascii_alphanumeric b || (b == 45)

-- one such byte or more
abbrev pub is_plain_name : List ℕ → Bool
is_plain_name [] = false
is_plain_name (b ∷ bs) = is_plain b && list_all is_plain bs

-- ## texts of such bytes

plain-digits : (ds : List ℕ) → all_ascii_digits ds ≡ true → list_all is_plain ds ≡ true
plain-digits [] digits = refl
plain-digits (d ∷ ds) digits = grind (arith, nat_tests, plain-digits ds)

plain_name-some : (bs : List ℕ) → 0 < length bs → list_all is_plain bs ≡ true → is_plain_name bs ≡ true
plain_name-some bs some plain = grind arith

pub plain_name-append : (xs ys : List ℕ) → is_plain_name xs ≡ true → list_all is_plain ys ≡ true → is_plain_name (xs ++ ys) ≡ true
plain_name-append [] ys first second = absurd (cc)
plain_name-append (x ∷ xs) ys first second = list_all-append is_plain (x ∷ xs) ys ∙ and_from _ _ first second

plain-decimal : (n : ℕ) → n < 2 ^ 64 → list_all is_plain (decimal n) ≡ true
plain-decimal n small = plain-digits (decimal n) (digits_decimal model n small)

pub plain_name-decimal : (n : ℕ) → n < 2 ^ 64 → is_plain_name (decimal n) ≡ true
plain_name-decimal n small = plain_name-some (decimal n) (decimal_nonempty n small) (plain-decimal n small)

plain-ten : (n : ℕ) → list_all is_plain (ten_digits_of n) ≡ true
plain-ten n = plain-digits (ten_digits_of n) (all_ascii_digits-ten n)

pub plain_name-ten : (n : ℕ) → is_plain_name (ten_digits_of n) ≡ true
plain_name-ten n = let long = ten-le-length n in plain_name-some (ten_digits_of n) (omega arith) (plain-ten n)

pub plain_name-request : (id : RequestId) → HasText id → is_plain_name (request_text_of id) ≡ true
unfolding request_text_of
plain_name-request id has =
    let most = has.most in
    plain_name-append (decimal id.priority) (45 ∷ ten_digits_of id.seq) (plain_name-decimal id.priority (omega arith)) (plain-ten id.seq)

-- only the root has no such name
pub plain_name-of : (p : Place) → IsGood p → is_plain_name (place_name p) ≡ is_some (above p)
plain_name-of (Request id) good = plain_name-request id good
plain_name-of (Swept n server) good =
    plain_name-append (ten_digits_of n.0 ++ 45 ∷ []) (decimal server) (plain_name-append (ten_digits_of n.0) (45 ∷ []) (plain_name-ten n.0) refl) (plain-decimal server good.1)
plain_name-of p good = search (arith, plain_name-request, plain_name-ten, plain_name-decimal, plain-ten, plain-decimal)

-- ## what such names are

kept-plain : (bs : List ℕ) → list_all is_plain bs ≡ true → list_all is_kept bs ≡ true
kept-plain [] plain = refl
kept-plain (b ∷ bs) plain = grind (arith, nat_tests, kept-plain bs)

not_dots : (bs : List ℕ) → is_plain_name bs ≡ true → not (is_dots bs) ≡ true
not_dots bs plain = grind (arith, nat_tests)

all-plain : (bs : List ℕ) → is_plain_name bs ≡ true → list_all is_plain bs ≡ true
all-plain [] plain = refl
all-plain (b ∷ bs) plain = plain

pub is_element-plain : (bs : List ℕ) → is_plain_name bs ≡ true → is_element bs ≡ true
is_element-plain bs plain = and_from _ _ (not_dots bs plain) (kept-plain bs (all-plain bs plain))

IsAscii-all : (bs : List ℕ) → list_all is_plain bs ≡ true → IsAscii bs
IsAscii-all [] plain = IsAscii-nil
IsAscii-all (b ∷ bs) plain =
    let parts = and_parts (is_plain b) (list_all is_plain bs) plain in
    IsAscii-cons b bs (let is = parts.0 in grind (arith, nat_tests)) (IsAscii-all bs parts.1)

-- # each path is that of the place above it, and the name below it

-- ## joined

-- a name below a place's path, or the root's path if there is no such place
abbrev pub path_below : Option Place → List ℕ → List ℕ
path_below None name = root
path_below (Some dir) name = below (path_of dir) name

one_part : (path name : List ℕ) → path ++ 47 ∷ name ≡ (path ++ 47 ∷ []) ++ name
one_part path name = sym (append_assoc path (47 ∷ []) name)

two_parts : (path front back : List ℕ) → (path ++ 47 ∷ front) ++ back ≡ (path ++ 47 ∷ []) ++ (front ++ back)
two_parts path front back = append_assoc path (47 ∷ front) back ∙ one_part path (front ++ back)

pub path_of-below : (p : Place) → path_of p ≡ path_below (above p) (place_name p)
unfolding path_of
path_of-below (RequestWait id wait) = two_parts (codes "/nodepool/requests-lock/" ++ request_text_of id) (codes "lock-") (ten_digits_of wait)
path_of-below (NodeLock n) = one_part (codes "/nodepool/nodes/" ++ ten_digits_of n.0) (codes "lock")
path_of-below (NodeWait n wait) =
    let path : List ℕ = codes "/nodepool/nodes/" ++ ten_digits_of n.0 in
    ap (λ xs. xs ++ ten_digits_of wait) (sym (append_assoc path (codes "/lock") (codes "/lock-"))) ∙ two_parts (path ++ codes "/lock") (codes "lock-") (ten_digits_of wait)
path_of-below p = refl

pub path_of-joined : (p dir : Place) → above p ≡ Some dir → path_of p ≡ below (path_of dir) (place_name p)
path_of-joined p dir same = path_of-below p ∙ ap (λ at. path_below at (place_name p)) same

-- ## from the root downwards

-- a fact of the place above, if there is one
abbrev pub Above : (Place → Type 0) → Option Place → Type 0
Above P None = Unit {0}
Above P (Some dir) = P dir

pub above-is_good : (p : Place) → IsGood p → Above IsGood (above p)
above-is_good (RequestWait id wait) good = good.0
above-is_good (NodeLock n) good = good
above-is_good (NodeWait n wait) good = good.0
above-is_good (Handle x j) good = good.0
above-is_good p good = tt

pub IsGood-above : (p dir : Place) → IsGood p → above p ≡ Some dir → IsGood dir
IsGood-above p dir good same = subst (Above IsGood) same (above-is_good p good)

shorter : (path name : List ℕ) → is_element name ≡ true → length path < length (below path name)
shorter path name is = grind (arith, length-append)

named : (p dir : Place) → IsGood p → above p ≡ Some dir → is_element (place_name p) ≡ true
named p dir good same = is_element-plain (place_name p) (plain_name-of p good ∙ ap is_some same)

-- a fact that is true of a place if it is true of the one above is true of each place
pub from_above : (P : Place → Type 0) → ((p : Place) → IsGood p → Above P (above p) → P p) → (n : ℕ) (p : Place) → length (path_of p) < n → IsGood p → P p
from_above P step zero p short good = absurd (omega arith)
from_above P step (suc n) p short good =
    step p good (one_above (λ dir less dir_good. from_above P step n dir less dir_good) (above p) refl)
  where
    one_above : ((dir : Place) → length (path_of dir) < n → IsGood dir → P dir) → (o : Option Place) → above p ≡ o → Above P o
    one_above rest None same = tt
    one_above rest (Some dir) same =
        let less = shorter (path_of dir) (place_name p) (named p dir good same) in
        let whole = ap length (path_of-joined p dir same) in
        rest dir (omega arith) (IsGood-above p dir good same)

pub each_place : (P : Place → Type 0) → ((p : Place) → IsGood p → Above P (above p) → P p) → (p : Place) → IsGood p → P p
each_place P step p good = from_above P step (suc (length (path_of p))) p (omega arith) good

-- ## the grammar, and the bytes

pub is_path-of : (p : Place) → IsGood p → is_path (path_of p) ≡ true
is_path-of = each_place (λ p. is_path (path_of p) ≡ true) (λ p good there. ap is_path (path_of-below p) ∙ at p good (above p) refl there)
  where
    at : (p : Place) → IsGood p → (o : Option Place) → above p ≡ o → Above (λ q. is_path (path_of q) ≡ true) o → is_path (path_below o (place_name p)) ≡ true
    at p good None same there = refl
    at p good (Some dir) same there = is_path-below (path_of dir) (place_name p) there (named p dir good same)

parts-below : (p dir : Place) → IsGood p → above p ≡ Some dir → (parent_of (path_of p) ≡ Some (path_of dir)) × (name_of (path_of p) ≡ place_name p)
parts-below p dir good same =
    let whole = path_of-joined p dir same in
    let parts = HasParts-below (path_of dir) (place_name p) (is_path-of dir (IsGood-above p dir good same)) (named p dir good same) in
    (ap parent_of whole ∙ parts.above, ap name_of whole ∙ parts.last)

pub parts-of : (p : Place) → IsGood p → (parent_of (path_of p) ≡ option_map path_of (above p)) × (name_of (path_of p) ≡ place_name p)
unfolding path_of
parts-of Root good = (refl, refl)
parts-of p good = parts-below p _ good refl

IsAscii-slash : IsAscii (47 ∷ [])
IsAscii-slash = IsAscii-cons 47 [] (omega arith) IsAscii-nil

IsAscii-below : (path name : List ℕ) → IsAscii path → IsAscii name → IsAscii (below path name)
IsAscii-below [] name first second = IsAscii-append (47 ∷ []) name IsAscii-slash second
IsAscii-below (b ∷ []) name first second = IsAscii-append (47 ∷ []) name IsAscii-slash second
IsAscii-below (b ∷ c ∷ bs) name first second =
    IsAscii-append ((b ∷ c ∷ bs) ++ 47 ∷ []) name (IsAscii-append (b ∷ c ∷ bs) (47 ∷ []) first IsAscii-slash) second

pub IsAscii-of : (p : Place) → IsGood p → IsAscii (path_of p)
IsAscii-of = each_place (λ p. IsAscii (path_of p)) (λ p good there. subst IsAscii (sym (path_of-below p)) (at p good (above p) refl there))
  where
    at : (p : Place) → IsGood p → (o : Option Place) → above p ≡ o → Above (λ q. IsAscii (path_of q)) o → IsAscii (path_below o (place_name p))
    at p good None same there = IsAscii-slash
    at p good (Some dir) same there = IsAscii-below (path_of dir) (place_name p) there (IsAscii-all (place_name p) (all-plain (place_name p) (plain_name-of p good ∙ ap is_some same)))

-- # a directory and a name in it are those of one place

-- ## the place of a name

-- the largest numbers of two and of four bytes
abbrev two_bytes : ℕ
two_bytes = 65_535

abbrev four_bytes : ℕ
four_bytes = 4_294_967_295

-- the place of a word in a list
abbrev word_in : List (List ℕ × Place) → List ℕ → Option Place
word_in [] name = None
word_in (w ∷ ws) name = if bytes_eq name w.0 then Some w.1 else word_in ws name

abbrev swept_from : Option ℕ → Option ℕ → Option Place
swept_from (Some n) (Some server) = Some (Swept (record { 0 = n }) server)
swept_from (Some n) None = None
swept_from None server = None

-- the role of a name, by its first letter
abbrev role_in : List ℕ → Option Place
role_in name =
    if get_or name 0 0 == 108 then option_map (λ n. LauncherRole (record { 0 = n })) (number_of two_bytes (drop 9 name))
    else (if get_or name 0 0 == 106 then option_map (λ n. JanitorRole (record { 0 = n })) (number_of two_bytes (drop 8 name))
    else option_map (λ n. RequesterRole (record { 0 = n })) (number_of two_bytes (drop 10 name)))

-- the place of a name in a directory
abbrev child_in : Place → List ℕ → Option Place
child_in Root name = word_in ((codes "nodepool", Nodepool) ∷ (codes "zuul", Zuul) ∷ (codes "poolsim", Poolsim) ∷ []) name
child_in Nodepool name = word_in ((codes "requests", Requests) ∷ (codes "requests-lock", RequestLocks) ∷ (codes "nodes", Nodes) ∷ (codes "launchers", Launchers) ∷ []) name
child_in Requests name = option_map Request (request_of name)
child_in RequestLocks name = option_map RequestLock (request_of name)
child_in (RequestLock id) name = option_map (RequestWait id) (sequence_of (drop 5 name))
child_in Nodes name = option_map (λ n. Node (record { 0 = n })) (sequence_of name)
child_in (Node n) name = Some (NodeLock n)
child_in (NodeLock n) name = option_map (NodeWait n) (sequence_of (drop 5 name))
child_in Launchers name = option_map (λ n. Launcher (record { 0 = n })) (number_of two_bytes name)
child_in Zuul name = Some Semaphores
child_in Semaphores name = option_map (λ n. Semaphore (record { 0 = n })) (number_of two_bytes name)
child_in (Semaphore x) name = option_map (λ n. Handle x (record { 0 = n })) (number_of four_bytes name)
child_in Poolsim name = word_in ((codes "jobs", Jobs) ∷ (codes "roles", Roles) ∷ (codes "sessions", Sessions) ∷ (codes "swept", SweptPairs) ∷ (codes "tick", Tick) ∷ []) name
child_in Jobs name = option_map (λ n. Job (record { 0 = n })) (number_of four_bytes name)
child_in Roles name = role_in name
child_in Sessions name = option_map (λ n. Session (record { 0 = n })) (sequence_of name)
child_in SweptPairs name = swept_from (sequence_of (take 10 name)) (number_of 18_446_744_073_709_551_615 (drop 11 name))
child_in other name = None

-- the place with no directory above it is the root
abbrev child_of : Option Place → List ℕ → Option Place
child_of None name = Some Root
child_of (Some dir) name = child_in dir name

two_bytes-decimal : (n : ℕ) → n < 2 ^ 16 → number_of two_bytes (decimal n) ≡ Some n
two_bytes-decimal n small = number_of-decimal two_bytes n (omega arith) (omega arith)

four_bytes-decimal : (n : ℕ) → n < 2 ^ 32 → number_of four_bytes (decimal n) ≡ Some n
four_bytes-decimal n small = number_of-decimal four_bytes n (omega arith) (omega arith)

swept-parts : (n server : ℕ) → n < 2 ^ 32 → server < 2 ^ 64 → child_in SweptPairs ((ten_digits_of n ++ 45 ∷ []) ++ decimal server) ≡ Some (Swept (record { 0 = n }) server)
swept-parts n server n_small server_small =
    let whole = append_assoc (ten_digits_of n) (45 ∷ []) (decimal server) in
    let front : take 10 ((ten_digits_of n ++ 45 ∷ []) ++ decimal server) ≡ ten_digits_of n =
    ap (take 10) whole ∙ take_at (ten_digits_of n) (45 ∷ decimal server) 10 (length-ten n n_small) in
    let back : drop 11 ((ten_digits_of n ++ 45 ∷ []) ++ decimal server) ≡ decimal server =
    drop_at (ten_digits_of n ++ 45 ∷ []) (decimal server) 11 (let ten = length-ten n n_small in simp length-append (omega arith)) in
    rw (front, back, sequence_of-ten_digits_of n n_small, number_of-decimal 18_446_744_073_709_551_615 server (omega arith) (omega arith)) refl

-- a place is that of its name in the directory above it
child_of-name : (p : Place) → IsGood p → child_of (above p) (place_name p) ≡ Some p
child_of-name (Swept n server) good = swept-parts n.0 server good.0 good.1
child_of-name p good = grind (arith, request_of-text, sequence_of-ten_digits_of, two_bytes-decimal, four_bytes-decimal)

pub same_names : (p q : Place) → IsGood p → IsGood q → above p ≡ above q → place_name p ≡ place_name q → p ≡ q
same_names p q p_good q_good same_above same_name =
    some_injective p q (
    sym (child_of-name p p_good)
    ∙ ap (λ o. child_of o (place_name p)) same_above
    ∙ ap (child_of (above q)) same_name
    ∙ child_of-name q q_good
    )

-- ## paths

-- no other place has the path
abbrev IsAlone : Place → Type 0
IsAlone p = (q : Place) → IsGood q → path_of p ≡ path_of q → p ≡ q

same_above : (o r : Option Place) → Above IsAlone o → Above IsGood r → option_map path_of o ≡ option_map path_of r → o ≡ r
same_above None None alone good same = refl
same_above (Some d) (Some e) alone good same = ap Some (alone e good (some_injective (path_of d) (path_of e) same))
same_above _ _ alone good same = absurd (cc)

pub same_paths : (p q : Place) → IsGood p → IsGood q → path_of p ≡ path_of q → p ≡ q
same_paths p q p_good = each_place IsAlone one p p_good q
  where
    one : (d : Place) → IsGood d → Above IsAlone (above d) → IsAlone d
    one d d_good alone e e_good same =
        let d_parts = parts-of d d_good in
        let e_parts = parts-of e e_good in
        same_names d e d_good e_good
        (same_above (above d) (above e) alone (above-is_good e e_good) (sym d_parts.0 ∙ ap parent_of same ∙ e_parts.0))
        (sym d_parts.1 ∙ ap name_of same ∙ e_parts.1)

-- # how long paths are

pub length-request : (id : RequestId) → HasText id → length (request_text_of id) ≡ 14
unfolding request_text_of
length-request id has =
    let three = ap length (decimal_three id.priority has.least has.most) in
    let ten = length-ten id.seq has.sequence in
    simp length-append (omega arith)

pub length-two : (n : ℕ) → n < 2 ^ 16 → length (decimal n) ≤ 5
length-two n small = length-decimal-le 5 n (omega arith) (omega arith) (omega arith)

pub length-four : (n : ℕ) → n < 2 ^ 32 → length (decimal n) ≤ 10
length-four n small = length-decimal-le 10 n (omega arith) (omega arith) (omega arith)

pub length-longest : (id : RequestId) (wait : ℕ) → HasText id → wait < 2 ^ 32 → length (path_of (RequestWait id wait)) ≡ 54
unfolding path_of
length-longest id wait has small =
    let request = length-request id has in
    let ten = length-ten wait small in
    simp length-append (omega arith)

pub length-most : (p : Place) → IsGood p → length (path_of p) ≤ 54
unfolding path_of
length-most (RequestWait id wait) good = let all = length-longest id wait good.0 good.1 in omega arith
length-most p good = grind (arith, length-append, length-request, length-ten, length-two, length-four, decimal-short)

pub ruleset short_numbers = (length-two)

-- # a place's path has no fault

pub never_bad : (p : Place) (text : List ℕ) (at : ℕ) → IsGood p → text ≡ path_of p → Makes (path_fault text) text (Err (Bad at)) → ⊥
never_bad p text at good same told =
    let none = none-is (path_fault (path_of p)) (sym (is_path-no_fault (path_of p)) ∙ is_path-of p good) in
    subst (λ fault. Makes fault text (Err (Bad at))) (ap path_fault same ∙ none) told

-- # digits that are written from the right

-- the last digit in front of those that are there
pub decimal-more : (n at : ℕ) (out : List ℕ) → 10 ≤ n → n < 2 ^ 64 → at < length out
    → decimal n ++ drop (at + 1) out ≡ decimal (n / 10) ++ drop at (set out at (48 + n % 10))
decimal-more n at out many small within =
    ap (λ ds. ds ++ drop (at + 1) out) (decimal_step n many small)
    ∙ append_assoc (decimal (n / 10)) ((48 + n % 10) ∷ []) (drop (at + 1) out)
    ∙ ap (λ rest. decimal (n / 10) ++ rest) (sym (drop-set out at (48 + n % 10) within))

-- there is a place in front of it
pub fits-more : (n at : ℕ) → 10 ≤ n → n < 10 ^ (at + 1) → n / 10 < 10 ^ (at - 1 + 1)
fits-more n zero many fits = absurd (omega arith)
fits-more n (suc k) many fits =
    let front : suc k - 1 + 1 ≡ suc k = omega arith in
    let all : suc k + 1 ≡ suc (suc k) = omega arith in
    let more : n < 10 ^ suc (suc k) = rw all at fits in
    rw front (fewer n k more)
  where
    fewer : (m j : ℕ) → m < 10 ^ suc (suc j) → m / 10 < 10 ^ suc j
    fewer m j fits_all = grind arith

pub place-more : (n at : ℕ) → 10 ≤ n → n < 10 ^ (at + 1) → at - 1 + 1 ≡ at
place-more n zero many fits = absurd (omega arith)
place-more n (suc k) many fits = omega arith

-- and the first one
pub decimal-last : (n at : ℕ) (out : List ℕ) → n < 10 → at < length out → decimal n ++ drop (at + 1) out ≡ drop at (set out at (48 + n))
decimal-last n at out one within =
    ap (λ ds. ds ++ drop (at + 1) out) (decimal_digit n one) ∙ sym (drop-set out at (48 + n) within)
