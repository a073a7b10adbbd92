-- A buffer that is filled piece by piece.
use Rattle.np_io.proofs.Prelude.{IfSome, List, None, Option, Reads, Some, ap, arith, drop, drop-drop, drop_at, length, length-drop, length-take-le, put_mid, refl, sym, take, take-add, take-put_mid, take-take, take_all, take_at, ℕ, ◌++◌, ◌+◌, ◌-◌, ◌∙◌, ◌≡◌, ◌≤◌}

-- the buffer's front, after one more piece of `rest`
filled : (done count : ℕ) (buf new rest : List ℕ) → done ≤ length buf → count ≤ length new
    → take done buf ≡ take done rest → take count new ≡ take count (drop done rest)
    → take (done + count) (put_mid done (length buf - done) buf new) ≡ take (done + count) rest
filled done count buf new rest within few so_far next =
    let front = take done buf in
    let whole = put_mid done (length buf - done) buf new in
    let long = length-take-le done buf within in
    sym (take-take (done + count) (done + length new) whole (omega arith))
    ∙ ap (take (done + count))
    (take-put_mid done (length buf - done) buf new (done + length new) refl within)
    ∙ take-add done count (front ++ new)
    ∙ (λ i. take_at front new done long i ++ take count (drop_at front new done long i))
    ∙ (λ i. so_far i ++ next i)
    ∙ sym (take-add done count rest)

-- one read more
pub fills : (before mid : Option (List ℕ)) (at done count : ℕ) (buf new : List ℕ)
    → mid ≡ before → done ≤ length buf → count ≤ length new
    → IfSome before (λ file. take done buf ≡ take done (drop at file))
    → IfSome mid (λ file. Reads file (at + done) count (take count new))
    → IfSome before (λ file. take (done + count) (put_mid done (length buf - done) buf new)
    ≡ take (done + count) (drop at file))
fills None mid at done count buf new same within few so_far read = tt
fills (Some file) None at done count buf new same within few so_far read = absurd (cc)
fills (Some file) (Some other) at done count buf new same within few so_far read =
    let is : other ≡ file = cc in
    filled done count buf new (drop at file) within few so_far
    (read.bytes_are
    ∙ ap (λ (f : List ℕ). take count (drop (at + done) f)) is
    ∙ ap (take count) (sym (drop-drop done at file)))

-- the file ended
pub ends : (before mid : Option (List ℕ)) (at done n : ℕ) (buf bytes : List ℕ)
    → mid ≡ before → done ≤ n
    → IfSome before (λ file. take done buf ≡ take done (drop at file))
    → IfSome mid (λ file. Reads file (at + done) 0 bytes)
    → IfSome before (λ file. take done buf ≡ take n (drop at file))
ends None mid at done n buf bytes same within so_far read = tt
ends (Some file) None at done n buf bytes same within so_far read = absurd (cc)
ends (Some file) (Some other) at done n buf bytes same within so_far read =
    let is : other ≡ file = cc in
    let short : length (drop at file) ≤ done =
    omega (arith, length-drop at file, ap length is, read.end.0 refl) in
    so_far ∙ take_all done (drop at file) short
    ∙ sym (take_all n (drop at file) (omega (arith, short)))
