-- readers of a text: how they are chained, choose between words, read lists, and read just what is spelled
use Rattle.np_spelling.proofs.Prelude.{AllByRecursion, BadRecord, Begins, Bool, Err, IfSome, IsTrue, List, None, Ok, OnTrue, Option, Reader, Some, StopsAt, [], after, answer, ap, append-nil, append_assoc, arith, begins, chosen, close, codes, digits, drop, drop_all, drop_more, eq-eqb, eqb-true, false, first_byte, fixed, flag_by, flag_text, fork, get_or, gives, if◌then◌else◌, inl, inr, is_ascii_digit, lead, length, length-append, list_in, list_text, nat_le, nat_tests, option_map, priority_limits, refl, rest_in, rest_text, sequence_limits, subst, suc, sym, take, take_at, true, with_front, zero, ℕ, ◌&&◌, ◌*◌, ◌++◌, ◌+◌, ◌-◌, ◌<◌, ◌==◌, ◌>>=◌, ◌↔◌, ◌∙◌, ◌∷◌, ◌≡◌, ◌≤◌, ◌⊎◌}

-- # Readers with their laws, put together from parts.

-- ## What may follow

abbrev pub Any : List ℕ → Type 0
Any s = Unit {0}

abbrev pub NoDigit : List ℕ → Type 0
NoDigit [] = Unit {0}
NoDigit (c ∷ cs) = is_ascii_digit c ≡ false

-- ## Readers with their laws

-- x continues with the same byte
abbrev pub Agree : List ℕ → List ℕ → Type 0
Agree [] x = ⊥
Agree (c ∷ cs) x = (xs : List ℕ) × (x ≡ c ∷ xs)

-- what the bytes that were passed say: a text of the value, or the beginning of one of some value
abbrev pub Says : {T B : Type 0} → (T → List ℕ) → (T → B) → Option B → List ℕ → Type 0
Says {T} text value (Some b) front = (t : T) × (value t ≡ b) × (text t ≡ front)
Says {T} text value None front = (t : T) × (rest : List ℕ) × (text t ≡ front ++ rest)

-- what an answer on s says, with the bytes that were left: it is the same whatever follows the
-- first of these
abbrev pub Told : {T B : Type 0} → Reader B → (T → List ℕ) → (T → B) → List ℕ → Option B → List ℕ → Type 0
Told run text value s o left = (front : List ℕ) × (s ≡ front ++ left) × Says text value o front × ((x : List ℕ) → Agree left x → run (front ++ x) ≡ (o, x))

pub record Read (Follows : List ℕ → Type 0) (B : Type 0) : Type 1 where
  pub run : Reader B
  -- the ways to spell a value
  pub Tree : Type 0
  pub text : Tree → List ℕ
  pub value : Tree → B
  pub some : Tree
  pub told : (s : List ℕ) → Told run text value s (run s).0 (run s).1
  pub complete : (t : Tree) (x : List ℕ) → Follows x → run (text t ++ x) ≡ (Some (value t), x)

-- ## One after the other

pub agree_front : (g s left x : List ℕ) → s ≡ g ++ left → Agree left x → Agree s (g ++ x)
agree_front [] s left x e agree = subst (λ l. Agree l x) (sym e) agree
agree_front (d ∷ g) s left x e agree = subst (λ l. Agree l (d ∷ (g ++ x))) (sym e) (g ++ x, refl)

says_by : {T U B : Type 0} (text : T → List ℕ) (value : T → B) (text' : U → List ℕ) (value' : U → B) (to : T → U) (c : List ℕ)
    → ((t : T) → value' (to t) ≡ value t) → ((t : T) → text' (to t) ≡ c ++ text t) → (o : Option B) (f : List ℕ) → Says text value o f → Says text' value' o (c ++ f)
says_by text value text' value' to c same more (Some b) f says = (to says.0, same says.0 ∙ says.1, more says.0 ∙ ap (λ x. c ++ x) says.2)
says_by text value text' value' to c same more None f says = (to says.0, says.1, more says.0 ∙ ap (λ x. c ++ x) says.2 ∙ sym (append_assoc c f says.1))

-- a reader that passes the bytes c and then does what another one does: its trees are made from the
-- other's
pub told_by : {T U B : Type 0} (run : Reader B) (text : T → List ℕ) (value : T → B) (run' : Reader B) (text' : U → List ℕ) (value' : U → B) (to : T → U) (c : List ℕ)
    → ((t : T) → value' (to t) ≡ value t) → ((t : T) → text' (to t) ≡ c ++ text t) → (s : List ℕ) → ((x : List ℕ) → Agree s x → run' (c ++ x) ≡ run x)
    → (o : Option B) (left : List ℕ) → Told run text value s o left → Told run' text' value' (c ++ s) o left
told_by run text value run' text' value' to c same more s runs o left told = (
  c ++ told.0,
  ap (λ x. c ++ x) told.1 ∙ sym (append_assoc c told.0 left),
  says_by text value text' value' to c same more o told.0 told.2,
  λ x agree. ap run' (append_assoc c told.0 x) ∙ runs (told.0 ++ x) (agree_front told.0 s left x told.1 agree) ∙ told.3 x agree,
)

abbrev ThenTree : {F G : List ℕ → Type 0} {A B : Type 0} → Read F A → (A → Read G B) → Type 0
ThenTree first next = (t : first.Tree) × (next (first.value t)).Tree

abbrev then_text : {F G : List ℕ → Type 0} {A B : Type 0} (first : Read F A) (next : A → Read G B) → ThenTree first next → List ℕ
then_text first next t = first.text t.0 ++ (next (first.value t.0)).text t.1

abbrev then_value : {F G : List ℕ → Type 0} {A B : Type 0} (first : Read F A) (next : A → Read G B) → ThenTree first next → B
then_value first next t = (next (first.value t.0)).value t.1

abbrev then_run : {F G : List ℕ → Type 0} {A B : Type 0} → Read F A → (A → Read G B) → Reader B
then_run first next = first.run >>= (λ a. (next a).run)

abbrev ThenTold : {F G : List ℕ → Type 0} {A B : Type 0} → Read F A → (A → Read G B) → List ℕ → Option B → List ℕ → Type 0
ThenTold first next s o left = Told (then_run first next) (then_text first next) (then_value first next) s o left

found : {F G : List ℕ → Type 0} {A B : Type 0} (first : Read F A) (next : A → Read G B) (t : first.Tree) (a : A) → first.value t ≡ a → (f s1 : List ℕ) → first.text t ≡ f
    → ((x : List ℕ) → Agree s1 x → first.run (f ++ x) ≡ (Some a, x)) → ThenTold first next (f ++ s1) ((next a).run s1).0 ((next a).run s1).1
found {A = A} first next t a is f s1 spelled =
    subst (λ b. ((x : List ℕ) → Agree s1 x → first.run (f ++ x) ≡ (Some b, x)) → ThenTold first next (f ++ s1) ((next b).run s1).0 ((next b).run s1).1) is
    (λ same. let later = next (first.value t) in told_by later.run later.text later.value (then_run first next) (then_text first next) (then_value first next) (λ u. (t, u)) f (λ u. refl) (λ u. ap (λ x. x ++ later.text u) spelled)
    s1 (λ x agree. ap (λ (p : Option A × List ℕ). after p.0 p.1 (λ a. (next a).run)) (same x agree)) (later.run s1).0 (later.run s1).1 (later.told s1))

pub then_told : {F G : List ℕ → Type 0} {A B : Type 0} (first : Read F A) (next : A → Read G B) (s : List ℕ) (o : Option A) (s1 : List ℕ)
    → Told first.run first.text first.value s o s1 → ThenTold first next s (after o s1 (λ a. (next a).run)).0 (after o s1 (λ a. (next a).run)).1
then_told first next s (Some a) s1 told =
    subst (λ z. ThenTold first next z ((next a).run s1).0 ((next a).run s1).1) (sym told.1) (found first next told.2.0 a told.2.1 told.0 s1 told.2.2 told.3)
then_told {A = A} first next s None s1 told =
    let t = told.2.0 in
    let later = (next (first.value t)).text (next (first.value t)).some in (
      told.0,
      told.1,
      ((t, (next (first.value t)).some), told.2.1 ++ later, ap (λ x. x ++ later) told.2.2 ∙ append_assoc told.0 told.2.1 later),
      λ x agree. ap (λ (p : Option A × List ℕ). after p.0 p.1 (λ a. (next a).run)) (told.3 x agree),
    )

pub then_complete : {F G : List ℕ → Type 0} {A B : Type 0} (first : Read F A) (next : A → Read G B)
    → ((t : first.Tree) (u : (next (first.value t)).Tree) (x : List ℕ) → G x → F ((next (first.value t)).text u ++ x))
    → (t : ThenTree first next) (x : List ℕ) → G x → then_run first next (then_text first next t ++ x) ≡ (Some (then_value first next t), x)
then_complete {A = A} first next fits t x follows =
    let front = first.text t.0 in
    let back = (next (first.value t.0)).text t.1 in
    ap (then_run first next) (append_assoc front back x)
    ∙ ap (λ (p : Option A × List ℕ). after p.0 p.1 (λ a. (next a).run)) (first.complete t.0 (back ++ x) (fits t.0 t.1 x follows))
    ∙ (next (first.value t.0)).complete t.1 x follows

abbrev pub chain : {F G : List ℕ → Type 0} {A B : Type 0} (first : Read F A) (next : A → Read G B)
    → ((t : first.Tree) (u : (next (first.value t)).Tree) (x : List ℕ) → G x → F ((next (first.value t)).text u ++ x)) → Read G B
chain first next fits = record {
  run = then_run first next;
  Tree = ThenTree first next;
  text = then_text first next;
  value = then_value first next;
  some = (first.some, (next (first.value first.some)).some);
  told = λ s. then_told first next s (first.run s).0 (first.run s).1 (first.told s);
  complete = then_complete first next fits;
}

-- after a reader that anything may follow
abbrev pub behind : {G : List ℕ → Type 0} {A B : Type 0} (first : Read Any A) (next : A → Read G B) → Read G B
behind first next = chain first next (λ t u x follows. tt)

-- ## A value, and fixed bytes

pub gives_told : {B : Type 0} (b : B) (s : List ℕ) → Told (gives b) (λ (t : Unit {0}). []) (λ (t : Unit {0}). b) s (Some b) s
gives_told b s = ([], refl, (tt, refl, refl), λ x agree. refl)

abbrev pub giving : {B : Type 0} → B → Read Any B
giving b = record {
  run = gives b;
  Tree = Unit {0};
  text = λ t. [];
  value = λ t. b;
  some = tt;
  told = gives_told b;
  complete = λ t x follows. refl;
}

lead_told_at : (cs : List ℕ) (c b : ℕ) (bs : List ℕ) (v : Bool) → (b == c) ≡ v → Told (lead cs) (λ (t : Unit {0}). cs) (λ (t : Unit {0}). tt) bs (lead cs bs).0 (lead cs bs).1
    → Told (lead (c ∷ cs)) (λ (t : Unit {0}). c ∷ cs) (λ (t : Unit {0}). tt) (b ∷ bs) (lead (c ∷ cs) (b ∷ bs)).0 (lead (c ∷ cs) (b ∷ bs)).1
unfolding lead
lead_told_at cs c b bs true same told =
    rw same (told_by (lead cs) (λ (t : Unit {0}). cs) (λ (t : Unit {0}). tt) (lead (c ∷ cs)) (λ (t : Unit {0}). c ∷ cs) (λ (t : Unit {0}). tt) (λ (t : Unit {0}). t) (b ∷ []) (λ t. refl) (λ t. ap (λ d. d ∷ cs) (sym (eqb-true b c same)))
    bs (λ x agree. rw same refl) (lead cs bs).0 (lead cs bs).1 told)
lead_told_at cs c b bs false other told = rw other ([], refl, (tt, c ∷ cs, refl), λ x agree. rw agree.1 (rw other refl))

pub lead_told : (l s : List ℕ) → Told (lead l) (λ (t : Unit {0}). l) (λ (t : Unit {0}). tt) s (lead l s).0 (lead l s).1
unfolding lead
lead_told [] s = ([], refl, (tt, refl, refl), λ x agree. refl)
lead_told (c ∷ cs) [] = ([], refl, (tt, c ∷ cs, refl), λ x agree. absurd agree)
lead_told (c ∷ cs) (b ∷ bs) = lead_told_at cs c b bs (b == c) refl (lead_told cs bs)

pub lead_complete : (l x : List ℕ) → lead l (l ++ x) ≡ (Some tt, x)
unfolding lead
lead_complete [] x = refl
lead_complete (c ∷ cs) x = let same = eq-eqb c c refl in rw same (lead_complete cs x)

abbrev pub leading : List ℕ → Read Any (Unit {0})
leading l = record {
  run = lead l;
  Tree = Unit {0};
  text = λ t. l;
  value = λ t. tt;
  some = tt;
  told = lead_told l;
  complete = λ t x follows. lead_complete l x;
}

-- ## A choice by the next byte

pub begins_same : (c : ℕ) (s x : List ℕ) → Agree s x → begins c x ≡ begins c s
begins_same c [] x agree = absurd agree
begins_same c (b ∷ bs) x agree = ap (begins c) agree.1

abbrev fork_text : {F : List ℕ → Type 0} {B : Type 0} (one other : Read F B) → one.Tree ⊎ other.Tree → List ℕ
fork_text one other (inl t) = one.text t
fork_text one other (inr t) = other.text t

abbrev fork_value : {F : List ℕ → Type 0} {B : Type 0} (one other : Read F B) → one.Tree ⊎ other.Tree → B
fork_value one other (inl t) = one.value t
fork_value one other (inr t) = other.value t

pub fork_told : {F : List ℕ → Type 0} {B : Type 0} (c : ℕ) (one other : Read F B) (s : List ℕ) (v : Bool) → begins c s ≡ v
    → Told (fork c one.run other.run) (fork_text one other) (fork_value one other) s (if v then one.run s else other.run s).0 (if v then one.run s else other.run s).1
fork_told c one other s true is =
    told_by one.run one.text one.value (fork c one.run other.run) (fork_text one other) (fork_value one other) (λ t. inl t) [] (λ t. refl) (λ t. refl) s
    (λ x agree. let first = begins_same c s x agree ∙ is in rw first refl) (one.run s).0 (one.run s).1 (one.told s)
fork_told c one other s false is =
    told_by other.run other.text other.value (fork c one.run other.run) (fork_text one other) (fork_value one other) (λ t. inr t) [] (λ t. refl) (λ t. refl) s
    (λ x agree. let first = begins_same c s x agree ∙ is in rw first refl) (other.run s).0 (other.run s).1 (other.told s)

pub fork_complete : {F : List ℕ → Type 0} {B : Type 0} (c : ℕ) (one other : Read F B)
    → ((t : one.Tree) (x : List ℕ) → begins c (one.text t ++ x) ≡ true) → ((t : other.Tree) (x : List ℕ) → F x → begins c (other.text t ++ x) ≡ false)
    → (t : one.Tree ⊎ other.Tree) (x : List ℕ) → F x → fork c one.run other.run (fork_text one other t ++ x) ≡ (Some (fork_value one other t), x)
fork_complete c one other with_c with_other (inl t) x follows = let first = with_c t x in rw first (one.complete t x follows)
fork_complete c one other with_c with_other (inr t) x follows = let first = with_other t x follows in rw first (other.complete t x follows)

-- one if the byte c comes next, and otherwise the other
abbrev pub forking : {F : List ℕ → Type 0} {B : Type 0} (c : ℕ) (one other : Read F B)
    → ((t : one.Tree) (x : List ℕ) → begins c (one.text t ++ x) ≡ true) → ((t : other.Tree) (x : List ℕ) → F x → begins c (other.text t ++ x) ≡ false) → Read F B
forking c one other with_c with_other = record {
  run = fork c one.run other.run;
  Tree = one.Tree ⊎ other.Tree;
  text = fork_text one other;
  value = fork_value one other;
  some = inl one.some;
  told = λ s. fork_told c one other s (begins c s) refl;
  complete = fork_complete c one other with_c with_other;
}

-- ## The same reader under another name

pub rerun : {F : List ℕ → Type 0} {B : Type 0} (R : Read F B) (run : Reader B) → R.run ≡ run → (s : List ℕ) → Told run R.text R.value s (run s).0 (run s).1
rerun {F} {B} R run is = subst (λ (r : Reader B). (s : List ℕ) → Told r R.text R.value s (r s).0 (r s).1) is R.told

abbrev pub renamed : {F : List ℕ → Type 0} {B : Type 0} (R : Read F B) (run : Reader B) → R.run ≡ run → Read F B
renamed {F} {B} R run is = record {
  run = run;
  Tree = R.Tree;
  text = R.text;
  value = R.value;
  some = R.some;
  told = rerun R run is;
  complete = λ t x follows. ap (λ (r : Reader B). r (R.text t ++ x)) (sym is) ∙ R.complete t x follows;
}

-- a reader with the condition that no digit follows it, though any byte may follow
abbrev pub loosely : {B : Type 0} → Read Any B → Read NoDigit B
loosely R = record {
  run = R.run;
  Tree = R.Tree;
  text = R.text;
  value = R.value;
  some = R.some;
  told = R.told;
  complete = λ t x follows. R.complete t x tt;
}

abbrev pub giving_open : {B : Type 0} → B → Read NoDigit B
giving_open b = loosely (giving b)

-- # Readers of words, with their laws.

-- ## Values as trees

-- a reader whose values have one text each
pub record Valued {F : List ℕ → Type 0} {B : Type 0} (R : Read F B) (Good : B → Type 0) (text : B → List ℕ) : Type 0 where
  pub to : (t : R.Tree) → Good (R.value t) × (text (R.value t) ≡ R.text t)
  pub back : (b : B) → Good b → (t : R.Tree) × (R.value t ≡ b) × (R.text t ≡ text b)

abbrev Value : {B : Type 0} → (B → Type 0) → Type 0
Value {B} Good = (b : B) × Good b

abbrev value_text : {B : Type 0} (Good : B → Type 0) (text : B → List ℕ) → Value Good → List ℕ
value_text Good text t = text t.0

abbrev value_of : {B : Type 0} (Good : B → Type 0) → Value Good → B
value_of Good t = t.0

pub value_told : {F : List ℕ → Type 0} {B : Type 0} (R : Read F B) (Good : B → Type 0) (text : B → List ℕ) → Valued R Good text → (s : List ℕ)
    → Told R.run (value_text Good text) (value_of Good) s (R.run s).0 (R.run s).1
value_told R Good text V s =
    told_by R.run R.text R.value R.run (value_text Good text) (value_of Good) (λ t. (R.value t, (V.to t).0)) [] (λ t. refl) (λ t. (V.to t).1) s (λ x agree. refl) (R.run s).0 (R.run s).1 (R.told s)

pub value_complete : {F : List ℕ → Type 0} {B : Type 0} (R : Read F B) (Good : B → Type 0) (text : B → List ℕ) → Valued R Good text → (t : Value Good) (x : List ℕ) → F x
    → R.run (text t.0 ++ x) ≡ (Some t.0, x)
value_complete R Good text V t x follows =
    let back = V.back t.0 t.1 in
    ap (λ b. R.run (b ++ x)) (sym back.2) ∙ R.complete back.0 x follows ∙ ap (λ v. (Some v, x)) back.1

abbrev pub valued : {F : List ℕ → Type 0} {B : Type 0} (R : Read F B) (Good : B → Type 0) (text : B → List ℕ) → Valued R Good text → Read F B
valued R Good text V = record {
  run = R.run;
  Tree = Value Good;
  text = value_text Good text;
  value = value_of Good;
  some = (R.value R.some, (V.to R.some).0);
  told = value_told R Good text V;
  complete = value_complete R Good text V;
}

-- ## Words that their first bytes determine

-- each value's word begins with a byte that determines it
abbrev pub Tells : {A : Type 0} → (ℕ → A) → (A → List ℕ) → Type 0
Tells {A} by word = (a : A) → (c : ℕ) × (cs : List ℕ) × (word a ≡ c ∷ cs) × (by c ≡ a)

same_first : (s x : List ℕ) → Agree s x → first_byte x ≡ first_byte s
same_first [] x agree = absurd agree
same_first (b ∷ bs) x agree = ap first_byte agree.1

pub choice_told : {A : Type 0} (by : ℕ → A) (word : A → List ℕ) (s : List ℕ) → Told (chosen by word) word (λ (a : A). a) s (chosen by word s).0 (chosen by word s).1
unfolding chosen
choice_told {A} by word s =
    let a = by (first_byte s) in
    let read = behind (leading (word a)) (λ _. giving a) in
    told_by read.run read.text read.value (chosen by word) word (λ (b : A). b) (λ t. a) [] (λ t. refl) (λ t. sym (append-nil (word a))) s
    (λ x agree. let first = same_first s x agree in rw first refl) (chosen by word s).0 (chosen by word s).1 (read.told s)

pub choice_complete : {A : Type 0} (by : ℕ → A) (word : A → List ℕ) → Tells by word → (a : A) (x : List ℕ) → chosen by word (word a ++ x) ≡ (Some a, x)
unfolding chosen
choice_complete by word tells a x =
    let told = tells a in
    let same = ap by (ap (λ w. first_byte (w ++ x)) told.2) ∙ told.3 in
    rw (same, lead_complete (word a) x) refl

abbrev pub choosing : {A : Type 0} (by : ℕ → A) (word : A → List ℕ) → Tells by word → A → Read Any A
choosing {A} by word tells a = record {
  run = chosen by word;
  Tree = A;
  text = word;
  value = λ (b : A). b;
  some = a;
  told = choice_told by word;
  complete = λ b x follows. choice_complete by word tells b x;
}

pub flag_tells : Tells flag_by flag_text
flag_tells true = (116, codes "rue", refl, refl)
flag_tells false = (102, codes "alse", refl, refl)

abbrev pub flag : Read Any Bool
flag = choosing flag_by flag_text flag_tells true

-- # Readers of what may be absent

-- these bytes; then, if the byte c comes next, what one reads, and otherwise the bytes of nothing
module _ {B : Type 0} (front : List ℕ) (c : ℕ) (one : Read Any (Option B)) (nothing : List ℕ)
    (with_c : (t : one.Tree) (x : List ℕ) → begins c (one.text t ++ x) ≡ true) (with_other : (x : List ℕ) → begins c ((nothing ++ []) ++ x) ≡ false)
    (Good : B → Type 0) (text : Option B → List ℕ) (absent : text None ≡ front ++ (nothing ++ []))
    (to : (t : one.Tree) → IfSome (one.value t) Good × (text (one.value t) ≡ front ++ one.text t))
    (back : (b : B) → Good b → (t : one.Tree) × (one.value t ≡ Some b) × (front ++ one.text t ≡ text (Some b))) where
  abbrev option_parts : Read Any (Option B)
  option_parts = behind (leading front) (λ _. forking c one (behind (leading nothing) (λ _. giving None)) with_c (λ t x f. with_other x))

  pub option_valued : Valued option_parts (λ o. IfSome o Good) text
  option_valued = record { to = λ t. from t.1; back = onto }
    where
      from : (t : one.Tree ⊎ (Unit {0} × Unit {0})) → IfSome (option_parts.value (tt, t)) Good × (text (option_parts.value (tt, t)) ≡ option_parts.text (tt, t))
      from (inl t) = to t
      from (inr t) = (tt, absent)

      onto : (o : Option B) → IfSome o Good → (t : option_parts.Tree) × (option_parts.value t ≡ o) × (option_parts.text t ≡ text o)
      onto (Some b) good = let t = back b good in ((tt, inl t.0), t.1, t.2)
      onto None good = ((tt, inr (tt, tt)), refl, sym absent)

  abbrev pub optional : Read Any (Option B)
  optional = valued option_parts (λ o. IfSome o Good) text option_valued

-- # Readers of lists, with their laws.

-- at most `room` items, and each has this
abbrev pub Few : {A : Type 0} → (A → Type 0) → ℕ → List A → Type 0
Few P room xs = (length xs ≤ room) × AllByRecursion P xs

-- an item's text does not begin with the closing bracket
abbrev pub Opens : {A : Type 0} → (A → Type 0) → (A → List ℕ) → Type 0
Opens {A} P text = (a : A) → P a → (x : List ℕ) → begins 93 (text a ++ x) ≡ false

abbrev pub closing : (A : Type 0) → Read Any (List A)
closing A = behind (leading (codes "]")) (λ _. giving (let none : List A = [] in none))

module _ {A : Type 0} (R : Read NoDigit A) (P : A → Type 0) (text : A → List ℕ) (V : Valued R P text) where
  -- what a reader of the rest of a list has to prove
  abbrev RestLaws : ℕ → Type 0
  RestLaws room = ((s : List ℕ) → Told (rest_in R.run room) (value_text (Few P room) (rest_text text)) (value_of (Few P room)) s (rest_in R.run room s).0 (rest_in R.run room s).1)
      × ((t : Value (Few P room)) (x : List ℕ) → Any x → rest_in R.run room (rest_text text t.0 ++ x) ≡ (Some t.0, x))

  abbrev rest_read : (room : ℕ) → RestLaws room → Read Any (List A)
  rest_read room laws = record {
    run = rest_in R.run room;
    Tree = Value (Few P room);
    text = value_text (Few P room) (rest_text text);
    value = value_of (Few P room);
    some = ([], (omega arith, tt));
    told = laws.0;
    complete = laws.1;
  }

  pub rest_fits : (xs : List A) (x : List ℕ) → NoDigit ((rest_text text xs ++ []) ++ x)
  rest_fits [] x = refl
  rest_fits (y ∷ xs) x = refl

  -- an item, and the rest of the list
  abbrev item_and : (room : ℕ) → RestLaws room → Read Any (List A)
  item_and room laws = chain (valued R P text V) (λ x. behind (rest_read room laws) (λ xs. giving (x ∷ xs))) (λ t u x follows. rest_fits u.0.0 x)

  abbrev rest_parts : (room : ℕ) → RestLaws room → Read Any (List A)
  rest_parts room laws = forking 93 (closing A) (behind (leading (codes ",")) (λ _. item_and room laws)) (λ t x. refl) (λ t x f. refl)

  none_valued : Valued (closing A) (Few P 0) (rest_text text)
  none_valued = record { to = λ t. ((omega arith, tt), refl); back = onto }
    where
      onto : (xs : List A) → Few P 0 xs → (t : (closing A).Tree) × ((closing A).value t ≡ xs) × ((closing A).text t ≡ rest_text text xs)
      onto [] few = ((tt, tt), refl, refl)
      onto (x ∷ xs) few = absurd (omega (arith, few.0))

  rest_valued : (room : ℕ) (laws : RestLaws room) → Valued (rest_parts room laws) (Few P (suc room)) (rest_text text)
  rest_valued room laws = record { to = from; back = onto }
    where
      from : (t : (rest_parts room laws).Tree) → Few P (suc room) ((rest_parts room laws).value t) × (rest_text text ((rest_parts room laws).value t) ≡ (rest_parts room laws).text t)
      from (inl t) = ((omega arith, tt), refl)
      from (inr t) = ((omega (arith, t.1.1.0.1.0), (t.1.0.1, t.1.1.0.1.1)), refl)

      onto : (xs : List A) → Few P (suc room) xs → (t : (rest_parts room laws).Tree) × ((rest_parts room laws).value t ≡ xs) × ((rest_parts room laws).text t ≡ rest_text text xs)
      onto [] few = (inl (tt, tt), refl, refl)
      onto (x ∷ xs) few = (inr (tt, ((x, few.1.0), ((xs, (omega (arith, few.0), few.1.1)), tt))), refl, refl)

  pub rest_laws : (room : ℕ) → RestLaws room
  unfolding rest_in
  rest_laws zero = let read = valued (closing A) (Few P 0) (rest_text text) none_valued in (read.told, read.complete)
  rest_laws (suc room) =
      let laws = rest_laws room in
      let read = valued (rest_parts room laws) (Few P (suc room)) (rest_text text) (rest_valued room laws) in (read.told, read.complete)

  -- ## Whole lists

  module _ (opens : Opens P text) (room : ℕ) where
    abbrev pub list_parts : Read Any (List A)
    list_parts =
        behind (leading (codes "[")) (λ _.
        forking 93 (closing A) (item_and room (rest_laws room)) (λ t x. refl)
        (λ t x f. ap (begins 93) (append_assoc (text t.0.0) (rest_text text t.1.0.0 ++ []) x) ∙ opens t.0.0 t.0.1 ((rest_text text t.1.0.0 ++ []) ++ x)))

    pub list_valued : Valued list_parts (Few P (suc room)) (list_text text)
    list_valued = record { to = λ t. from t.1; back = onto }
      where
        from : (t : (closing A).Tree ⊎ (item_and room (rest_laws room)).Tree) → Few P (suc room) (list_parts.value (tt, t)) × (list_text text (list_parts.value (tt, t)) ≡ list_parts.text (tt, t))
        from (inl t) = ((omega arith, tt), refl)
        from (inr t) = ((omega (arith, t.1.0.1.0), (t.0.1, t.1.0.1.1)), refl)

        onto : (xs : List A) → Few P (suc room) xs → (t : list_parts.Tree) × (list_parts.value t ≡ xs) × (list_parts.text t ≡ list_text text xs)
        onto [] few = ((tt, inl (tt, tt)), refl, refl)
        onto (x ∷ xs) few = ((tt, inr ((x, few.1.0), ((xs, (omega (arith, few.0), few.1.1)), tt))), refl, refl)

    -- a list of at most one more item than room
    abbrev pub listing : Read Any (List A)
    listing = valued list_parts (Few P (suc room)) (list_text text) list_valued

-- # What a reader that has to pass all bytes returns, by its laws.

-- a relation between values and bytes is what a reader's trees say
pub record Means {V : Type 0} (R : Read Any V) (Spells : V → List ℕ → Type 0) : Type 0 where
  pub to : (t : R.Tree) → Spells (R.value t) (R.text t)
  pub back : (v : V) (bytes : List ℕ) → Spells v bytes → (t : R.Tree) × (R.value t ≡ v) × (R.text t ≡ bytes)

further : (front : List ℕ) (c : ℕ) (cs : List ℕ) (longer : ℕ) → length front < longer → (more : List ℕ) × (take longer (front ++ c ∷ cs) ≡ front ++ c ∷ more)
further [] c cs zero long = absurd (omega arith)
further [] c cs (suc k) long = (take k cs, refl)
further (d ∷ front) c cs zero long = absurd (omega arith)
further (d ∷ front) c cs (suc k) long = let more = further front c cs k (omega arith) in (more.0, ap (λ x. d ∷ x) more.1)

ends : {A : Type 0} (p q : A × List ℕ) → p ≡ q → q.1 ≡ [] → p.1 ≡ []
ends p q same empty = ap (λ r. r.1) same ∙ empty

-- a reader leaves an end of what it was given
pub left_of : {F : List ℕ → Type 0} {V : Type 0} (R : Read F V) (s left : List ℕ) (o : Option V) → R.run s ≡ (o, left) → length left ≤ length s
left_of {V = V} R s left o is =
    let told = R.told s in
    let long = ap length told.1 ∙ length-append told.0 (R.run s).1 in
    let same = ap (λ (p : Option V × List ℕ). length p.1) is in
    omega arith

some_of : {V : Type 0} (a b : V) → ◌≡◌ {A = Option V × List ℕ} (Some a, []) (Some b, []) → a ≡ b
some_of {V} a b same = let one : Some a ≡ Some b = ap (λ (p : Option V × List ℕ). p.0) same in cc

module _ {V : Type 0} (R : Read Any V) (Spells : V → List ℕ → Type 0) (means : Means R Spells) where
  spells_tree : (t : R.Tree) (v : V) (bytes : List ℕ) → R.value t ≡ v → R.text t ≡ bytes → Spells v bytes
  spells_tree t v bytes is_value is_text = subst (λ w. Spells w bytes) is_value (subst (λ b. Spells (R.value t) b) is_text (means.to t))

  run_of : (v : V) (bytes : List ℕ) → Spells v bytes → R.run bytes ≡ (Some v, [])
  run_of v bytes spelled =
      let back = means.back v bytes spelled in
      ap R.run (sym (append-nil bytes)) ∙ ap (λ b. R.run (b ++ [])) (sym back.2) ∙ R.complete back.0 [] tt ∙ ap (λ w. (Some w, [])) back.1

  ok_told : (n : ℕ) (s : List ℕ) (o : Option V) (left : List ℕ) (v : V) → Told R.run R.text R.value s o left → answer n o left ≡ Ok v → Spells v s
  ok_told n s (Some a) [] v told is =
      let same : a ≡ v = cc in
      spells_tree told.2.0 v s (told.2.1 ∙ same) (told.2.2 ∙ sym (append-nil told.0) ∙ sym told.1)
  ok_told n s o left v told is = absurd (cc)

  -- what is read is spelled
  pub read_spells : (s : List ℕ) (v : V) → answer (length s) (R.run s).0 (R.run s).1 ≡ Ok v → Spells v s
  read_spells s v is = ok_told (length s) s (R.run s).0 (R.run s).1 v (R.told s) is

  -- what is spelled is read
  pub spelled_reads : (s : List ℕ) (v : V) → Spells v s → answer (length s) (R.run s).0 (R.run s).1 ≡ Ok v
  spelled_reads s v spelled = ap (λ (p : Option V × List ℕ). answer (length s) p.0 p.1) (run_of v s spelled)

  -- ## Where reading stops

  not_further : (s : List ℕ) (o : Option V) (front left : List ℕ) → s ≡ front ++ left → ((x : List ℕ) → Agree left x → R.run (front ++ x) ≡ (o, x))
      → (longer : ℕ) → length front < longer → longer ≤ length s → Begins Spells (take longer s) → ⊥
  not_further s o front [] split same longer above within begins =
      let short = ap length split ∙ length-append front [] in absurd (omega arith)
  not_further s o front (c ∷ cs) split same longer above within begins =
      let more = further front c cs longer above in
      let cut = ap (take longer) split ∙ more.1 in
      let bytes = ap (λ b. b ++ begins.1) cut ∙ append_assoc front (c ∷ more.0) begins.1 in
      let is_read = run_of begins.0 (take longer s ++ begins.1) begins.2 in
      let stops = same (c ∷ (more.0 ++ begins.1)) (more.0 ++ begins.1, refl) in
      let none : c ∷ (more.0 ++ begins.1) ≡ [] = ends (o, c ∷ (more.0 ++ begins.1)) (Some begins.0, []) (sym stops ∙ sym (ap R.run bytes) ∙ is_read) refl in
      absurd (cc)

  begun : (o : Option V) (front : List ℕ) → Says R.text R.value o front → Begins Spells front
  begun (Some v) front says =
      (v, [], spells_tree says.0 v (front ++ []) says.1 (says.2 ∙ sym (append-nil front)))
  begun None front says =
      (R.value says.0, says.1, spells_tree says.0 (R.value says.0) (front ++ says.1) refl says.2)

  stops_told : (s : List ℕ) (o : Option V) (left : List ℕ) → Told R.run R.text R.value s o left → StopsAt Spells s (length s - length left)
  stops_told s o left told =
      let long = ap length told.1 ∙ length-append told.0 left in
      let place : length told.0 ≡ length s - length left = omega arith in
      let cut = ap (take (length told.0)) told.1 ∙ take_at told.0 left (length told.0) refl in
      subst (λ n. StopsAt Spells s n) place (record {
        within = omega arith;
        begins = subst (λ b. Begins Spells b) (sym cut) (begun o told.0 told.2);
        no_further = not_further s o told.0 left told.1 told.3;
      })

  err_told : (s : List ℕ) (o : Option V) (left : List ℕ) (bad : BadRecord) → Told R.run R.text R.value s o left → answer (length s) o left ≡ Err bad → StopsAt Spells s bad.place
  err_told s (Some a) [] bad told is = absurd (cc)
  err_told s o left bad told is =
      let same : record { place = length s - length left } ≡ bad = cc in
      subst (λ (b : BadRecord). StopsAt Spells s b.place) same (stops_told s o left told)

  -- a refusal has its place
  pub refused_stops : (s : List ℕ) (bad : BadRecord) → answer (length s) (R.run s).0 (R.run s).1 ≡ Err bad → StopsAt Spells s bad.place
  refused_stops s bad is = err_told s (R.run s).0 (R.run s).1 bad (R.told s) is

  -- bytes spell at most one value
  pub one_value : (a b : V) (bytes : List ℕ) → Spells a bytes → Spells b bytes → a ≡ b
  one_value a b bytes first second = some_of a b (sym (run_of a bytes first) ∙ run_of b bytes second)

-- # Steps of the cursor.

pub lead_passed : (text s t : List ℕ) (i : ℕ) → i < length text → s ≡ get_or text i 0 ∷ t → lead (drop i text) s ≡ lead (drop (i + 1) text) t
unfolding lead
lead_passed text s t i within is =
    let same = eq-eqb (get_or text i 0) (get_or text i 0) refl in
    rw (drop_more text i 0 within, is) (rw same refl)

pub lead_other : (text s : List ℕ) (i : ℕ) → i < length text → begins (get_or text i 0) s ≡ false → lead (drop i text) s ≡ (None, s)
unfolding lead
lead_other text [] i within other = rw (drop_more text i 0 within) refl
lead_other text (b ∷ bs) i within other = rw (drop_more text i 0 within, other) refl

pub lead_end : (text s : List ℕ) (i : ℕ) → length text ≤ i → lead (drop i text) s ≡ (Some tt, s)
unfolding lead
lead_end text s i ends = rw (drop_all i text ends) refl

pub ruleset leads = (lead_passed, lead_other, lead_end)

pub digits_step : (max n i : ℕ) (text : List ℕ) → i < length text → (is_ascii_digit (get_or text i 0) && nat_le (n * 10 + (get_or text i 0 - 48)) max) ≡ true
    → digits max n (drop i text) ≡ digits max (n * 10 + (get_or text i 0 - 48)) (drop (i + 1) text)
unfolding digits
digits_step max n i text within fits = rw (drop_more text i 0 within, fits) refl

pub digits_other : (max n i : ℕ) (text : List ℕ) → i < length text → (is_ascii_digit (get_or text i 0) && nat_le (n * 10 + (get_or text i 0 - 48)) max) ≡ false
    → digits max n (drop i text) ≡ (Some n, drop i text)
unfolding digits
digits_other max n i text within other = rw (drop_more text i 0 within, other) refl

pub digits_over : (max n i : ℕ) (text : List ℕ) → length text ≤ i → digits max n (drop i text) ≡ (Some n, drop i text)
unfolding digits
digits_over max n i text ends = rw (drop_all i text ends) refl

pub ruleset counting = (digits_step, digits_other, digits_over)

never : (s t : List ℕ) (m : ℕ) → ◌≡◌ {A = Option ℕ × List ℕ} (None, s) (Some m, t) → ⊥
never s t m is = let one : None ≡ Some m = ap (λ (p : Option ℕ × List ℕ). p.0) is in absurd (cc)

abbrev get_or_zero : Option ℕ → ℕ
get_or_zero (Some n) = n
get_or_zero None = 0

fixed_after : (limit : ℕ) (limits s t : List ℕ) (n m : ℕ) → fixed (limit ∷ []) n s ≡ (Some m, t) → fixed (limit ∷ limits) n s ≡ fixed limits m t
unfolding fixed
fixed_after limit limits [] t n m is = absurd (never [] t m is)
fixed_after limit limits (c ∷ cs) t n m is =
    let value = ap (λ (p : Option ℕ × List ℕ). p.0) is in
    let left = ap (λ (p : Option ℕ × List ℕ). p.1) is in
    grind arith

fixed_stopped : (limit : ℕ) (limits s t : List ℕ) (n : ℕ) → fixed (limit ∷ []) n s ≡ (None, t) → fixed (limit ∷ limits) n s ≡ (None, t)
unfolding fixed
fixed_stopped limit limits [] t n is = is
fixed_stopped limit limits (c ∷ cs) t n is =
    let value = ap (λ (p : Option ℕ × List ℕ). p.0) is in
    let left = ap (λ (p : Option ℕ × List ℕ). p.1) is in
    grind arith

pub fixed_step : (limits s t : List ℕ) (n i m : ℕ) → i < length limits → fixed (get_or limits i 0 ∷ []) n s ≡ (Some m, t) → fixed (drop i limits) n s ≡ fixed (drop (i + 1) limits) m t
fixed_step limits s t n i m within is =
    ap (λ ls. fixed ls n s) (drop_more limits i 0 within) ∙ fixed_after (get_or limits i 0) (drop (i + 1) limits) s t n m is

pub fixed_other : (limits s t : List ℕ) (n i : ℕ) → i < length limits → fixed (get_or limits i 0 ∷ []) n s ≡ (None, t) → fixed (drop i limits) n s ≡ (None, t)
fixed_other limits s t n i within is =
    ap (λ ls. fixed ls n s) (drop_more limits i 0 within) ∙ fixed_stopped (get_or limits i 0) (drop (i + 1) limits) s t n is

pub fixed_end : (limits s : List ℕ) (n i : ℕ) → length limits ≤ i → fixed (drop i limits) n s ≡ (Some n, s)
unfolding fixed
fixed_end limits s n i ends = rw (drop_all i limits ends) refl

pub ruleset fixing = (fixed_step, fixed_other, fixed_end)

last_limit : ℕ → List ℕ → ℕ
last_limit limit [] = limit
last_limit limit (next ∷ limits) = last_limit next limits

fixed_most : (limits : List ℕ) (l n : ℕ) (s : List ℕ) (m : ℕ) (left : List ℕ) → n ≤ l → fixed limits n s ≡ (Some m, left) → m ≤ last_limit l limits
unfolding fixed last_limit
fixed_most [] l n s m left within is = let same : n ≡ m = ap (λ (p : Option ℕ × List ℕ). get_or_zero p.0) is in omega arith
fixed_most (limit ∷ limits) l n [] m left within is = absurd (never [] left m is)
fixed_most (limit ∷ limits) l n (c ∷ cs) m left within is =
    let value = ap (λ (p : Option ℕ × List ℕ). p.0) is in
    grind (arith, nat_tests, fixed_most limits limit (n * 10 + (c - 48)) cs m left)

pub priority_most : (s left : List ℕ) (n : ℕ) → fixed priority_limits 0 s ≡ (Some n, left) → n ≤ 999
unfolding last_limit
priority_most s left n is = fixed_most priority_limits 0 0 s n left (omega arith) is

pub sequence_most : (s left : List ℕ) (n : ℕ) → fixed sequence_limits 0 s ≡ (Some n, left) → n ≤ 4294967295
unfolding last_limit
sequence_most s left n is = fixed_most sequence_limits 0 0 s n left (omega arith) is

-- # Steps of a list that is read.

shut : {A : Type 0} (xs : List A) (o : Option (Unit {0})) (left : List ℕ)
    → with_front xs (after o left (λ u. gives [])) ≡ (option_map (λ u. xs) o, left)
shut xs (Some u) left = ap (λ ys. (Some ys, left)) (append-nil xs)
shut xs None left = refl

close_shut : {A : Type 0} (xs : List A) (s left : List ℕ) (o : Option (Unit {0})) → lead (93 ∷ []) s ≡ (o, left) → with_front xs (close s) ≡ (option_map (λ u. xs) o, left)
close_shut xs s left o is = ap (λ (p : Option (Unit {0}) × List ℕ). with_front xs (after p.0 p.1 (λ u. gives []))) is ∙ shut xs o left

pub rest_last : {A : Type 0} (r : Reader A) (xs : List A) (room at : ℕ) (s left : List ℕ) (o : Option (Unit {0})) → room ≤ at → lead (93 ∷ []) s ≡ (o, left)
    → with_front xs (rest_in r (room - at) s) ≡ (option_map (λ u. xs) o, left)
unfolding rest_in
rest_last r xs room at s left o most is = let none : room - at ≡ 0 = omega arith in ap (λ k. with_front xs (rest_in r k s)) none ∙ close_shut xs s left o is

one_more : (room at : ℕ) → at < room → room - at ≡ suc (room - (at + 1))
one_more room at more = omega arith

pub rest_shut : {A : Type 0} (r : Reader A) (xs : List A) (room at : ℕ) (s left : List ℕ) (o : Option (Unit {0})) → at < room → begins 93 s ≡ true → lead (93 ∷ []) s ≡ (o, left)
    → with_front xs (rest_in r (room - at) s) ≡ (option_map (λ u. xs) o, left)
unfolding rest_in
rest_shut r xs room at s left o more first is = ap (λ k. with_front xs (rest_in r k s)) (one_more room at more) ∙ rw first (close_shut xs s left o is)

pub rest_no_comma : {A : Type 0} (r : Reader A) (xs : List A) (room at : ℕ) (s left : List ℕ) → at < room → begins 93 s ≡ false → lead (44 ∷ []) s ≡ (None, left)
    → with_front xs (rest_in r (room - at) s) ≡ (None, left)
unfolding rest_in
rest_no_comma r xs room at s left more first is = ap (λ k. with_front xs (rest_in r k s)) (one_more room at more) ∙ rw (first, is) refl

pub rest_no_item : {A : Type 0} (r : Reader A) (xs : List A) (room at : ℕ) (s t left : List ℕ) → at < room → begins 93 s ≡ false → lead (44 ∷ []) s ≡ (Some tt, t) → r t ≡ (None, left)
    → with_front xs (rest_in r (room - at) s) ≡ (None, left)
unfolding rest_in
rest_no_item r xs room at s t left more first comma is = ap (λ k. with_front xs (rest_in r k s)) (one_more room at more) ∙ rw (first, comma, is) refl

longer : {A : Type 0} (xs : List A) (x : A) (o : Option (List A)) (left : List ℕ)
    → with_front xs (after o left (λ ys. gives (x ∷ ys))) ≡ with_front (xs ++ x ∷ []) (o, left)
longer xs x (Some ys) left = ap (λ zs. (Some zs, left)) (sym (append_assoc xs (x ∷ []) ys))
longer xs x None left = refl

pub rest_item : {A : Type 0} (r : Reader A) (xs : List A) (room at : ℕ) (s t u : List ℕ) (x : A) → at < room → begins 93 s ≡ false → lead (44 ∷ []) s ≡ (Some tt, t) → r t ≡ (Some x, u)
    → with_front xs (rest_in r (room - at) s) ≡ with_front (xs ++ x ∷ []) (rest_in r (room - (at + 1)) u)
unfolding rest_in
rest_item r xs room at s t u x more first comma is =
    ap (λ k. with_front xs (rest_in r k s)) (one_more room at more) ∙ rw (first, comma, is) (longer xs x (rest_in r (room - (at + 1)) u).0 (rest_in r (room - (at + 1)) u).1)

-- what a push leaves if there is room
pub pushed_row : {A : Type 0} (b : Bool) (n : ℕ) (old new : List A) (x : A) → (IsTrue b ↔ (length old < n)) → OnTrue b (new ≡ old ++ x ∷ []) → length old < n → new ≡ old ++ x ∷ []
pushed_row true n old new x room pushed below = pushed
pushed_row false n old new x room pushed below = absurd (let held : false ≡ true = room.1 below in cc)

-- ## Whole lists

fronted : {A : Type 0} (x : A) (o : Option (List A)) (left : List ℕ) → after o left (λ ys. gives (x ∷ ys)) ≡ with_front (x ∷ []) (o, left)
fronted x (Some ys) left = refl
fronted x None left = refl

pub list_items : {A : Type 0} (r : Reader A) (k : ℕ) (s t u : List ℕ) (x : A) → lead (91 ∷ []) s ≡ (Some tt, t) → begins 93 t ≡ false → r t ≡ (Some x, u)
    → list_in r k s ≡ with_front (x ∷ []) (rest_in r k u)
unfolding list_in
list_items r k s t u x opened first is = rw (opened, first, is) (fronted x (rest_in r k u).0 (rest_in r k u).1)

-- ## Writing

pub rest_text-more : {A : Type 0} (text : A → List ℕ) (xs : List A) (i : ℕ) (d : A) → i < length xs
    → rest_text text (drop i xs) ≡ 44 ∷ (text (get_or xs i d) ++ (rest_text text (drop (i + 1) xs) ++ []))
rest_text-more text xs i d within = ap (rest_text text) (drop_more xs i d within)

pub rest_text-end : {A : Type 0} (text : A → List ℕ) (xs : List A) (i : ℕ) → length xs ≤ i → rest_text text (drop i xs) ≡ 93 ∷ []
rest_text-end text xs i ends = ap (rest_text text) (drop_all i xs ends)

pub ruleset writing = (rest_text-more, rest_text-end)
