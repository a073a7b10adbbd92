-- the explanation of a state with its status, and the machine that plays a run
use Rattle.std.specs.Prelude.{ℕ, Bool, true, false, List, [], ◌++◌, codes, Option, Some, None, if◌then◌else◌, length, slice_get, ◌≡◌, ◌*◌, ◌||◌, ◌∷◌, not, take, min}
use Rattle.np_explain.specs.Lower.{Configuration, Counted, Declined, Ending, Entry, ExplainsAll, JobId, JobRecord, Link, RequestId, RequestRecord, Running, State, counted, facts_of, flat_map, is_over, job_words, line_of, list_any, places, pool_words, reason_words, request_in, request_words, summary_of}

-- why the requests of jobs failed, as it is printed

abbrev pub is_failed : Option Ending → Bool
is_failed None = false
is_failed (Some Ending.Served) = false
is_failed (Some Ending.Lost) = false
is_failed (Some Ending.Failed) = true
is_failed (Some Ending.Withdrawn) = false

-- why a pool declined the request
unfoldable pub declined_line : Configuration → RequestId → Declined → List ℕ
declined_line c r declined = codes "  " ++ request_words r ++ codes " at " ++ pool_words c declined.pool ++ codes ": the pool declined: " ++ reason_words c declined.reason ++ codes "\n"

abbrev pub record_lines : Configuration → RequestId → Option RequestRecord → List ℕ
record_lines c r None = codes "  its request is gone\n"
record_lines c r (Some kept) = flat_map (declined_line c r) kept.declined

-- each decline of the job's request
abbrev pub declined_lines : Configuration → State → Option RequestId → List ℕ
declined_lines c s None = codes "  it has no request\n"
declined_lines c s (Some r) = record_lines c r (request_in r s.requests)

-- the lines of a job whose request failed
unfoldable pub failed_lines : Configuration → State → JobId → JobRecord → List ℕ
failed_lines c s j kept = job_words c j ++ codes ": its request failed\n" ++ declined_lines c s kept.request

-- the lines of a job: none if its request didn't fail
abbrev pub lines_of_job : Configuration → State → ℕ → Option JobRecord → List ℕ
lines_of_job c s n None = []
lines_of_job c s n (Some kept) = if is_failed kept.ending then failed_lines c s (record { 0 = n }) kept else []

-- of all jobs, in their order
abbrev pub failure_lines : Configuration → State → List ℕ
failure_lines c s = places (λ n. lines_of_job c s n (slice_get s.jobs n)) (length s.jobs)

-- the explanation of a state, and its status

-- ## the lines of the facts

-- two spaces for each step from the job, and at most sixty
abbrev pub indent : ℕ → List ℕ
indent depth = take (2 * min depth 30) (codes "                                                            ")

-- told before
abbrev pub mark : Bool → List ℕ
mark true = codes " (above)"
mark false = codes ""

unfoldable pub link_line : Configuration → Link → List ℕ
link_line c link = indent link.depth ++ line_of c link.fact ++ mark link.again ++ codes "\n"

abbrev pub link_lines : Configuration → List Link → List ℕ
link_lines c links = flat_map (link_line c) links

-- ## the explanation

-- lines with an empty line after them, or nothing if there are none
abbrev pub part : List ℕ → List ℕ
part [] = []
part (x ∷ xs) = (x ∷ xs) ++ codes "\n"

-- the lines of facts that lead from each job that waits to what it waits for (own)
pub record AreChains (c : Configuration) (s : State) (lines : List ℕ) : Type 0 where
  pub links : List Link
  pub explains : ExplainsAll c s (facts_of links)
  pub is : lines ≡ link_lines c links

-- first these lines, then why the requests of jobs failed, and what the run took (own)
pub record IsExplanation (c : Configuration) (journal : List Entry) (s : State) (text : List ℕ) : Type 0 where
  pub waits : List ℕ
  pub chains : AreChains c s waits
  pub is : text ≡ part waits ++ part (failure_lines c s) ++ summary_of c journal

-- ## the status

-- the job is not over, or it failed
abbrev pub is_open : JobRecord → Bool
is_open kept = not (is_over kept.phase) || is_failed kept.ending

-- 1 if there is such a job
abbrev pub status_of : State → ℕ
status_of s = if list_any is_open s.jobs then 1 else 0

-- a machine that plays a run, and what it took

-- the machine began before the first event, and this was counted of its journal
pub record IsPlayed {S : Type 0} (m : Running S) (tally : Counted) : Type 0 where
  pub first : m.earlier ≡ 0
  pub counts : tally ≡ counted m.configuration m.journal

-- the later machine has the earlier one's journal and so many more entries behind it, over the same configuration
pub record GoesOn {S : Type 0} (before later : Running S) (many : ℕ) : Type 0 where
  pub configuration : later.configuration ≡ before.configuration
  pub more : List Entry
  pub journal : later.journal ≡ before.journal ++ more
  pub count : length more ≡ many
