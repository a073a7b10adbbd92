-- the owner of a node, by its place among the jobs
use Rattle.np_decision.proofs.Prelude.{Bool, Job, JobId, JobRecord, List, NodeId, None, Option, Some, false, if◌then◌else◌, is_marked, option_and_then, option_map, owner_from, owner_of, position, position-here, position-later, refl, slice_get, suc, sym, true, ℕ, [], ◌∙◌, ◌∷◌, ◌≡◌}

nowhere : (o : Option ℕ) → option_and_then (λ (i : ℕ). slice_get {X = Job} [] i) o ≡ None
nowhere None = refl
nowhere (Some i) = refl

one_later : (job : Job) (jobs : List Job) (o : Option ℕ) → option_and_then (λ (i : ℕ). slice_get (job ∷ jobs) i) (option_map (λ (i : ℕ). suc i) o) ≡ option_and_then (λ (i : ℕ). slice_get jobs i) o
one_later job jobs None = refl
one_later job jobs (Some i) = refl

owner_by : (n : NodeId) (k : JobRecord) (records : List JobRecord) (job : Job) (jobs : List Job) (b : Bool) → is_marked n k ≡ b → owner_from n records jobs ≡ option_and_then (λ (i : ℕ). slice_get jobs i) (position (is_marked n) records) → (if b then Some job else owner_from n records jobs) ≡ option_and_then (λ (i : ℕ). slice_get (job ∷ jobs) i) (position (is_marked n) (k ∷ records))
owner_by n k records job jobs true is later = rw (position-here (is_marked n) k records is) refl
owner_by n k records job jobs false is later = rw (position-later (is_marked n) k records is) (later ∙ sym (one_later job jobs (position (is_marked n) records)))

owner_place : (n : NodeId) (records : List JobRecord) (jobs : List Job) → owner_from n records jobs ≡ option_and_then (λ (i : ℕ). slice_get jobs i) (position (is_marked n) records)
owner_place n [] jobs = refl
owner_place n (k ∷ records) [] = sym (nowhere (position (is_marked n) (k ∷ records)))
owner_place n (k ∷ records) (job ∷ jobs) = owner_by n k records job jobs (is_marked n k) refl (owner_place n records jobs)

as_job : (jobs : List Job) (o : Option ℕ) → option_and_then (λ (i : ℕ). slice_get jobs i) o ≡ option_and_then (λ (j : JobId). slice_get jobs j.0) (option_map (λ (i : ℕ). record { 0 = i }) o)
as_job jobs None = refl
as_job jobs (Some i) = refl

pub owner_at : (n : NodeId) (records : List JobRecord) (jobs : List Job) → owner_from n records jobs ≡ option_and_then (λ j. slice_get jobs j.0) (owner_of n records)
owner_at n records jobs = owner_place n records jobs ∙ as_job jobs (position (is_marked n) records)
