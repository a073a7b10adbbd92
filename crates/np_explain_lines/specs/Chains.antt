-- which lists of facts lead from the jobs that wait to what they wait for
use Rattle.std.specs.Prelude.{◌≡◌, ◌⊎◌, ℕ, List, [], true, Some, map, slice_get, All}
use Rattle.np_explain_lines.specs.declared.chain.Link.{Link}
use Rattle.np_explain_lines.specs.declared.chain.Next.{Next}
use Rattle.np_explain_lines.specs.Lower.{Configuration, EachAfter, Fact, IsNamed, IsTold, IsTrueOf, JobId, State, Thing, about_of, named_by, waits}

-- the thing is a job that waits
abbrev pub IsWaiting : State → Thing → Type 0
IsWaiting s it = (j : JobId) × (it ≡ Thing.Job j) × (waits s j ≡ true)

-- the thing is a job that waits, or one of the facts names it
abbrev pub IsDue : Configuration → State → List Fact → Thing → Type 0
IsDue c s facts it = IsWaiting s it ⊎ IsNamed c s facts it

-- each fact is true, and is about a job that waits or about a thing that one before it names
pub record IsSoundFrom (c : Configuration) (s : State) (facts : List Fact) : Type 0 where
  pub true : All (IsTrueOf c s) facts
  pub follow : EachAfter (λ earlier f. IsDue c s earlier (about_of f)) [] facts

-- and one of them is about each job that waits, and one about each thing that one of them names
pub record ExplainsAll (c : Configuration) (s : State) (facts : List Fact) : Type 0 where
  pub sound : IsSoundFrom c s facts
  pub jobs : (j : JobId) → waits s j ≡ true → IsTold facts (Thing.Job j)
  pub each : (it : Thing) → IsNamed c s facts it → IsTold facts it

-- the facts of a chain
abbrev pub facts_of : List Link → List Fact
facts_of links = map (λ link. link.fact) links

-- the fact names the thing
abbrev pub Names : Configuration → State → Fact → Thing → Type 0
Names c s f it = (place : ℕ) × (slice_get (named_by c s f) place ≡ Some (Some it))

-- ## while a list grows

-- the thing is to be told
pub record IsPending (pending : List Next) (it : Thing) : Type 0 where
  pub at : ℕ
  pub next : Next
  pub stands : slice_get pending at ≡ Some next
  pub about : next.thing ≡ it

-- what is due has been told, or is to be told; and what is to be told is due
pub record IsOnItsWay (c : Configuration) (s : State) (facts : List Fact) (pending : List Next) : Type 0 where
  pub sound : IsSoundFrom c s facts
  pub due : (it : Thing) → IsDue c s facts it → IsTold facts it ⊎ IsPending pending it
  pub may : (it : Thing) → IsPending pending it → IsDue c s facts it
