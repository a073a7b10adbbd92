-- the places of a request, one after another
use Rattle.np_decision.proofs.Prelude.{LabelId, List, NodeEntry, NodeId, None, PoolId, RequestId, SessionId, arith, drop, lack_at, length, refl, slice_get, suc, unfilled, zero, ℕ, [], ◌+◌, ◌<◌, ◌∷◌, ◌≡◌}

unfilled-none : (p : PoolId) (session : SessionId) (r : RequestId) (nodes : List NodeEntry) (labels : List LabelId) (i : ℕ) → i < length labels →
    unfilled p session r nodes (drop i labels) [] ≡ lack_at p session r nodes (slice_get labels i) None + unfilled p session r nodes (drop (suc i) labels) []
unfilled-none p session r nodes [] i within = absurd (omega arith)
unfilled-none p session r nodes (l ∷ labels) zero within = refl
unfilled-none p session r nodes (l ∷ labels) (suc i) within = unfilled-none p session r nodes labels i (omega arith)

pub unfilled-more : (p : PoolId) (session : SessionId) (r : RequestId) (nodes : List NodeEntry) (labels : List LabelId) (numbers : List NodeId) (i : ℕ) → i < length labels →
    unfilled p session r nodes (drop i labels) (drop i numbers) ≡ lack_at p session r nodes (slice_get labels i) (slice_get numbers i) + unfilled p session r nodes (drop (suc i) labels) (drop (suc i) numbers)
unfilled-more p session r nodes [] numbers i within = absurd (omega arith)
unfilled-more p session r nodes (l ∷ labels) [] zero within = refl
unfilled-more p session r nodes (l ∷ labels) (n ∷ numbers) zero within = refl
unfilled-more p session r nodes (l ∷ labels) [] (suc i) within = unfilled-none p session r nodes labels i (omega arith)
unfilled-more p session r nodes (l ∷ labels) (n ∷ numbers) (suc i) within = unfilled-more p session r nodes labels numbers i (omega arith)
