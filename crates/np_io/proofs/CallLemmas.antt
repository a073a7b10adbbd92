-- The record of calls with one call more, and an image after them.
use Rattle.np_io.proofs.Prelude.{AfterTornWrite, Call, Elapses, IsImageAt, LeftSince, List, None, Only, Option, Settles, Some, Tears, TornWrite, Written, ap, arith, cases_lt, facts_of, images_after, images_then, inl, inr, length, length-append, now_at, refl, subst, suc, sym, take, take-append-le, take_all, zero, ℕ, [], ⊎_elim, ◌++◌, ◌+◌, ◌∙◌, ◌∷◌, ◌≡◌, ◌≤◌, ◌⊎◌}

-- ## Images

-- more images before a call are more images after it
then-more : (P Q : List ℕ → Type 0) (before : List ℕ) (write : Option Written)
    → ((d : List ℕ) → P d → Q d) → (c : List ℕ)
    → images_then P before write c → images_then Q before write c
then-more P Q before None more c left = left
then-more P Q before (Some w) more c left = (left.0, more left.0 left.1, left.2)

-- more images before the calls are more images after them
after-more : (P Q : List ℕ → Type 0) (calls : List Call)
    → ((d : List ℕ) → P d → Q d) → (c : List ℕ) → images_after P calls c → images_after Q calls c
after-more P Q [] more c left = more c left
after-more P Q (call ∷ calls) more c left =
    after-more (images_then P call.before.items call.write)
    (images_then Q call.before.items call.write) calls
    (then-more P Q call.before.items call.write more) c left

-- the last call
after-last : (images : List ℕ → Type 0) (calls : List Call) (call : Call) (c : List ℕ)
    → images_after images (calls ++ call ∷ []) c
    → images_then (images_after images calls) call.before.items call.write c
after-last images [] call c left = left
after-last images (x ∷ calls) call c left =
    after-last (images_then images x.before.items x.write) calls call c left

now_at-more : (calls : List Call) (call : Call) (old new : List ℕ) (k : ℕ)
    → call.before.items ≡ old → k ≤ length calls
    → now_at (calls ++ call ∷ []) new k ≡ now_at calls old k
now_at-more [] call old new zero is le = is
now_at-more [] call old new (suc k) is le = absurd (omega arith)
now_at-more (x ∷ calls) call old new zero is le = refl
now_at-more (x ∷ calls) call old new (suc k) is le = now_at-more calls call old new k is (omega arith)

now_at-end : (calls : List Call) (bytes : List ℕ) → now_at calls bytes (length calls) ≡ bytes
now_at-end [] bytes = refl
now_at-end (call ∷ calls) bytes = now_at-end calls bytes

-- ## One call more, which found `old`, and after which reads give `new`

module _ (calls : List Call) (call : Call) (old new : List ℕ) (is : call.before.items ≡ old) where
  abbrev all : List Call
  all = calls ++ call ∷ []

  one_more : length all ≡ length calls + 1
  one_more = length-append calls (call ∷ [])

  same_start : now_at all new 0 ≡ now_at calls old 0
  same_start = now_at-more calls call old new 0 is (omega arith)

  -- the images of an earlier moment stay
  image_stays : (k : ℕ) (c : List ℕ) → k ≤ length calls → IsImageAt calls old k c → IsImageAt all new k c
  image_stays k c le (inl now) = inl (now ∙ sym (now_at-more calls call old new k is le))
  image_stays k c le (inr left) = inr
      (subst (λ (start : List ℕ). images_after (λ d. d ≡ start) (take k all) c) (sym same_start)
      (subst (λ (l : List Call). images_after (λ d. d ≡ now_at calls old 0) l c)
      (sym (take-append-le k calls (call ∷ []) le)) left))

  image_was : (k : ℕ) (c : List ℕ) → k ≤ length calls → IsImageAt all new k c → IsImageAt calls old k c
  image_was k c le (inl now) = inl (now ∙ now_at-more calls call old new k is le)
  image_was k c le (inr left) = inr
      (subst (λ (l : List Call). images_after (λ d. d ≡ now_at calls old 0) l c)
      (take-append-le k calls (call ∷ []) le)
      (subst (λ (start : List ℕ). images_after (λ d. d ≡ start) (take k all) c) same_start left))

  at_moment : (t k : ℕ) (c : List ℕ) → t ≤ k → k ≤ length all → IsImageAt all new k c
      → LeftSince calls old t c ⊎ IsImageAt all new (length all) c
  at_moment t k c since most image = ⊎_elim
      (λ past. let last : k ≡ length all = omega (arith, past, most, one_more) in
      inr (subst (λ (n : ℕ). IsImageAt all new n c) last image))
      (λ le. inl (k, since, le, image_was k c le image))
      (cases_lt (length calls) k)

  elapses : (m n : ℕ) → Elapses (facts_of calls old m) (facts_of all new n)
  elapses m n = record {
    later = omega (arith, one_more);
    keeps = λ t c le left.
        (left.0, left.1, omega (arith, left.2, one_more), image_stays left.0 c left.2 left.3);
    nothing_else = λ t c le left. at_moment t left.0 c left.1 left.2 left.3;
  }

  -- the images now: what reads give, and what the call leaves of those before
  images_now : (c : List ℕ) → IsImageAt all new (length all) c
      → (c ≡ new) ⊎ images_then (images_after (λ d. d ≡ now_at calls old 0) calls) old call.write c
  images_now c (inl now) = inl (now ∙ now_at-end all new)
  images_now c (inr left) =
      let whole = subst (λ (l : List Call). images_after (λ d. d ≡ now_at all new 0) l c)
      (take_all (length all) all (omega arith)) left in
      let started = subst (λ (start : List ℕ). images_after (λ d. d ≡ start) all c) same_start whole in
      inr (subst
      (λ (b : List ℕ). images_then (images_after (λ d. d ≡ now_at calls old 0) calls) b call.write c) is
      (after-last (λ d. d ≡ now_at calls old 0) calls call c started))

  before_call : (d : List ℕ) → images_after (λ d. d ≡ now_at calls old 0) calls d
      → IsImageAt calls old (length calls) d
  before_call d left = inr (subst (λ (l : List Call). images_after (λ d. d ≡ now_at calls old 0) l d)
      (sym (take_all (length calls) calls (omega arith))) left)

  tears : (w : Written) (m n : ℕ) → call.write ≡ Some w
      → TornWrite w.at (length w.bytes.items) old new
      → Tears w.at (length w.bytes.items) (facts_of calls old m) (facts_of all new n)
  tears w m n write torn =
      let images = images_after (λ d. d ≡ now_at calls old 0) calls in
      record {
        images = λ c left. ⊎_elim
            (λ now. (
              old,
              inl (sym (now_at-end calls old)),
              subst (TornWrite w.at (length w.bytes.items) old) (sym now) torn,
            ))
            (λ then.
            let t : AfterTornWrite images w.at (length w.bytes.items) c =
            subst (λ x. images_then images old x c) write then in
            (t.0, before_call t.0 t.1, t.2))
            (images_now c left);
        time = elapses m n;
      }

  only : call.write ≡ None → new ≡ old → Only old (IsImageAt all new (length all))
  only write same c left = ⊎_elim
      (λ now. now ∙ same)
      (λ then. subst (λ x. images_then (images_after (λ d. d ≡ now_at calls old 0) calls) old x c) write then)
      (images_now c left)

  settles : (m n : ℕ) → call.write ≡ None → new ≡ old → Settles (facts_of calls old m) (facts_of all new n)
  settles m n write same = record {
    bytes = ap Some same;
    images = λ c left. inl (only write same c left ∙ sym (now_at-end calls old));
    time = elapses m n;
  }

-- ## The same of a list of calls that has one more

-- a write
pub tears_kept : (calls more : List Call) (call : Call) (w : Written) (old new : List ℕ) (at size m n : ℕ)
    → call.before.items ≡ old → call.write ≡ Some w → w.at ≡ at → length w.bytes.items ≡ size
    → more ≡ calls ++ call ∷ [] → TornWrite at size old new
    → Tears at size (facts_of calls old m) (facts_of more new n)
tears_kept calls more call w old new at size m n is write place long kept torn =
    let here : TornWrite w.at (length w.bytes.items) old new =
    subst (λ (k : ℕ). TornWrite k (length w.bytes.items) old new) (sym place)
    (subst (λ (k : ℕ). TornWrite at k old new) (sym long) torn) in
    subst (λ (l : List Call). Tears at size (facts_of calls old m) (facts_of l new n)) (sym kept)
    (subst (λ (k : ℕ). Tears at k (facts_of calls old m) (facts_of (calls ++ call ∷ []) new n)) long
    (subst (λ (k : ℕ). Tears k (length w.bytes.items) (facts_of calls old m)
    (facts_of (calls ++ call ∷ []) new n)) place
    (tears calls call old new is w m n write here)))

-- a sync
pub settles_kept : (calls more : List Call) (call : Call) (old : List ℕ) (m n : ℕ)
    → call.before.items ≡ old → call.write ≡ None → more ≡ calls ++ call ∷ []
    → Settles (facts_of calls old m) (facts_of more old n)
settles_kept calls more call old m n is write kept =
    subst (λ (l : List Call). Settles (facts_of calls old m) (facts_of l old n)) (sym kept)
    (settles calls call old old is m n write refl)

pub only_kept : (calls more : List Call) (call : Call) (old : List ℕ)
    → call.before.items ≡ old → call.write ≡ None → more ≡ calls ++ call ∷ []
    → Only old (IsImageAt more old (length more))
only_kept calls more call old is write kept =
    subst (λ (l : List Call). Only old (IsImageAt l old (length l))) (sym kept)
    (only calls call old old is write refl)

-- ## A walk over the calls

-- an image after one more call leads to no more images than the call itself
pub after-next : (image next : List ℕ) (call : Call) (calls : List Call)
    → images_then (λ d. d ≡ image) call.before.items call.write next
    → (c : List ℕ) → images_after (λ d. d ≡ next) calls c
    → images_after (λ d. d ≡ image) (call ∷ calls) c
after-next image next call calls one c left =
    let images = images_then (λ d. d ≡ image) call.before.items call.write in
    after-more (λ d. d ≡ next) images calls (λ d is. subst images (sym is) one) c left

-- what the calls leave of the file before the first is an image now
pub image-now : (calls : List Call) (bytes c : List ℕ)
    → images_after (λ d. d ≡ now_at calls bytes 0) calls c → IsImageAt calls bytes (length calls) c
image-now calls bytes c left =
    inr (subst (λ (l : List Call). images_after (λ d. d ≡ now_at calls bytes 0) l c)
    (sym (take_all (length calls) calls (omega arith))) left)
