-- Writes of which a crash leaves a part.
use Rattle.np_io.proofs.Prelude.{List, TornWrite, ap, append_assoc, arith, drop, drop-drop, drop_at, length, length-append, length-drop, length-take-le, put_at, sym, take, take_at, ℕ, ◌++◌, ◌+◌, ◌-◌, ◌∙◌, ◌≡◌, ◌≤◌}

-- fewer bytes than a write of n bytes was to write, whichever they are
pub torn_by_part : (at n : ℕ) (bytes old : List ℕ) → at ≤ length old → length bytes ≤ n
    → TornWrite at n old (put_at at bytes old)
torn_by_part at n bytes old within few =
    let front = length-take-le at old within in
    let put = length-append (take at old) bytes in
    let rest = drop (at + length bytes) old in
    let long = length-append (take at old ++ bytes) rest in
    let left = length-drop (at + length bytes) old in
    let more : ℕ = n - length bytes in
    let all : at + n ≡ (at + length bytes) + more = omega arith in
    record {
      before = ap (take at) (append_assoc (take at old) bytes rest)
          ∙ take_at (take at old) (bytes ++ rest) at front;
      after = ap (λ (k : ℕ). drop k (put_at at bytes old)) all
          ∙ sym (drop-drop more (at + length bytes) (put_at at bytes old))
          ∙ ap (drop more)
          (drop_at (take at old ++ bytes) rest (at + length bytes) (omega (arith, front, put)))
          ∙ drop-drop more (at + length bytes) old
          ∙ ap (λ (k : ℕ). drop k old) (sym all);
      no_shorter = omega (arith, front, long, put, left);
      no_longer = omega (arith, front, long, put, left);
    }
