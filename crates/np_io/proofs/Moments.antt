-- How a run of calls goes on, and what it leaves.
use Rattle.np_io.proofs.Prelude.{DiskFacts, Elapses, IsDisk, LeavesOnly, List, Stays, TornWrite, arith, inl, inr, refl, ℕ, ⊎_elim, ◌∙◌}

-- a write that changes no byte is a torn one too
pub torn_same : (at n : ℕ) (c : List ℕ) → TornWrite at n c c
torn_same at n c =
    record { before = refl; after = refl; no_shorter = omega arith; no_longer = omega arith }

-- two calls, neither of which changes the bytes or the images
pub Stays-then : (a b c : DiskFacts) → Stays a b → Stays b c → Stays a c
Stays-then a b c first second = record {
  bytes = second.bytes ∙ first.bytes;
  images = λ x. (
    λ now. (first.images x).0 ((second.images x).0 now),
    λ was. (second.images x).1 ((first.images x).1 was),
  );
  time = record {
    later = omega (arith, first.time.later, second.time.later);
    keeps = λ t x le was. second.time.keeps t x (omega (arith, le, first.time.later))
        (first.time.keeps t x le was);
    nothing_else = λ t x le now. ⊎_elim
        (λ mid. ⊎_elim
        (λ was. inl was)
        (λ here. inr ((second.images x).1 here))
        (first.time.nothing_else t x le mid))
        (λ here. inr here)
        (second.time.nothing_else t x (omega (arith, le, first.time.later)) now);
  };
}

-- ## What every moment leaves

-- before the first call
pub LeavesOnly-start : (a : DiskFacts) (P : List ℕ → Type 0) → IsDisk a
    → ((c : List ℕ) → a.may_leave c → P c) → LeavesOnly a a P
LeavesOnly-start a P lawful here = record {
  later = omega arith;
  each = λ c left. here c (lawful.only_now c left);
  before = λ t c le left. inl left;
}

-- one call more, after which each image has P
pub LeavesOnly-call : (a b c : DiskFacts) (P : List ℕ → Type 0) → LeavesOnly a b P → Elapses b c
    → ((x : List ℕ) → c.may_leave x → P x) → LeavesOnly a c P
LeavesOnly-call a b c P so_far time here = record {
  later = omega (arith, so_far.later, time.later);
  each = λ x left. ⊎_elim (so_far.each x) (here x)
      (time.nothing_else a.moment x so_far.later left);
  before = λ t x le left. ⊎_elim (so_far.before t x le) (λ now. inr (here x now))
      (time.nothing_else t x (omega (arith, le, so_far.later)) left);
}

-- two runs, of which both leave what has R
pub LeavesOnly-then : (a b c : DiskFacts) (P Q R : List ℕ → Type 0)
    → LeavesOnly a b P → LeavesOnly b c Q
    → ((x : List ℕ) → P x → R x) → ((x : List ℕ) → Q x → R x) → LeavesOnly a c R
LeavesOnly-then a b c P Q R first second p q = record {
  later = omega (arith, first.later, second.later);
  each = λ x left. ⊎_elim (λ was. p x (first.each x was)) (q x)
      (second.before a.moment x first.later left);
  before = λ t x le left. ⊎_elim
      (λ mid. ⊎_elim (λ was. inl was) (λ here. inr (p x here)) (first.before t x le mid))
      (λ here. inr (q x here))
      (second.before t x (omega (arith, le, first.later)) left);
}

-- a run that leaves what has P, where all that has P has Q
pub LeavesOnly-weaker : (a b : DiskFacts) (P Q : List ℕ → Type 0) → LeavesOnly a b P
    → ((x : List ℕ) → P x → Q x) → LeavesOnly a b Q
LeavesOnly-weaker a b P Q run p = record {
  later = run.later;
  each = λ x left. p x (run.each x left);
  before = λ t x le left. ⊎_elim (λ was. inl was) (λ here. inr (p x here)) (run.before t x le left);
}

-- calls that change no image leave what was there
pub LeavesOnly-stays : (a b : DiskFacts) (P : List ℕ → Type 0) → IsDisk a → Stays a b
    → ((c : List ℕ) → a.may_leave c → P c) → LeavesOnly a b P
LeavesOnly-stays a b P lawful stays here =
    LeavesOnly-call a a b P (LeavesOnly-start a P lawful here) stays.time
    (λ x now. here x ((stays.images x).0 now))
