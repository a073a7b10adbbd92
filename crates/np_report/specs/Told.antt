-- the printed text of a run, what it shows, and which replies have a line
use Rattle.std.specs.Prelude.{ℕ, ◌+◌, List, [], ◌∷◌, ◌++◌, codes, decimal, Option, Some, None, slice_get, ◌≡◌, nat_le, Bool, true, false, ◌&&◌, Result, Ok, Err}
use Rattle.np_report.specs.Lower.{AfterEveryStep, AllByRecursion, Caused, Configuration, Declined, Done, Ending, Entry, Fate, Fenced, HasEventLine, IsSound, Job, Kept, NodeId, PoolId, Refusal, Reply, RequestId, Runs, Safe, State, after, bar, canonical, entry_line, fates, flat_map, line, option_map_or, phase_word, reason_text_of}
use Rattle.np_machine.specs.Fates as fate

-- the whole printed text of a run

-- a pool's decline, after a space
abbrev pub decline_text : Declined → List ℕ
decline_text d = codes " p" ++ decimal d.pool.0 ++ codes ":" ++ reason_text_of d.reason

-- a node, after a space
abbrev pub node_text : NodeId → List ℕ
node_text n = codes " n" ++ decimal n.0

-- a pool, after a space
abbrev pub pool_text : Option PoolId → List ℕ
pool_text None = []
pool_text (Some p) = codes " p" ++ decimal p.0

abbrev pub fate_text : Fate → List ℕ
fate_text (fate.served p nodes) = codes "served" ++ pool_text p ++ flat_map node_text nodes
fate_text (fate.failed declined) = codes "failed" ++ flat_map decline_text declined
fate_text fate.lost = codes "lost"
fate_text fate.withdrawn = codes "withdrawn"
fate_text (fate.waiting p) = codes "waiting " ++ phase_word p

-- the name of the job's requester
abbrev pub requester_name : Configuration → Job → List ℕ
requester_name c job = option_map_or (λ q. q.name) (slice_get c.requesters job.requester.0) []

-- who the job is: its number, requester and name
unfoldable pub job_text : Configuration → ℕ → Job → List ℕ
job_text c n job = codes "j" ++ decimal n ++ codes " " ++ requester_name c job ++ codes "/" ++ job.name ++ codes " "

-- one line for each job, in job order, from this number on
abbrev pub fate_lines : Configuration → ℕ → List Job → List Fate → List ℕ
fate_lines c n [] ends = []
fate_lines c n (job ∷ jobs) [] = []
fate_lines c n (job ∷ jobs) (end ∷ ends) = line (job_text c n job ++ fate_text end) ++ fate_lines c (n + 1) jobs ends

-- the entries' lines, refused ones too
abbrev pub entry_lines : List Entry → List ℕ
entry_lines journal = flat_map (λ entry. line (entry_line entry)) journal

-- the whole Text of a run: the canonical configuration, a bar, the entries, a bar, and what became of each job
unfoldable pub text_of : Configuration → List Entry → List ℕ
text_of c journal = line (canonical c) ++ line bar ++ entry_lines journal ++ line bar ++ fate_lines c 0 c.jobs (fates (after c journal))

-- what the printed text of a run shows

-- after every step of the journal: no node and no request has two live holders, no pool, tenant or semaphore passes its limit, a fulfilled request owns its labels in order from one pool; a request failed only with its cause; no crash and no expiry lost a record; each node was changed by its holder alone
pub record HoldsThroughout (c : Configuration) (journal : List Entry) : Type 0 where
  pub safe : AfterEveryStep (Safe c) journal
  pub caused : AfterEveryStep (Caused c) journal
  pub kept : AfterEveryStep (Kept c) journal
  pub fenced : AfterEveryStep (Fenced c) journal

-- the text is that of a journal over a sound configuration: a run of the machine, in which each
-- event has a line, and of which all the above is true after every step
pub record IsPrinted (c : Configuration) (journal : List Entry) (text : List ℕ) : Type 0 where
  pub is : text ≡ text_of c journal
  pub sound : IsSound c
  pub state : State
  pub runs : Runs c journal state
  pub lines : AllByRecursion (λ e. HasEventLine e.event) journal
  pub throughout : HoldsThroughout c journal

-- which replies have a line, if their numbers are within their types

-- the request's priority has three digits (Nodepool developer guide: `200-0000000000`)
abbrev pub has_digits : RequestId → Bool
has_digits r = nat_le 100 r.priority && nat_le r.priority 999

-- a reply reports no withdrawn job
abbrev pub is_told_ending : Ending → Bool
is_told_ending Ending.Withdrawn = false
is_told_ending _ = true

abbrev pub is_told_done : Done → Bool
is_told_done (Done.Request r) = has_digits r
is_told_done (Done.Ended e) = is_told_ending e
is_told_done _ = true

-- no entry is refused for lack of room in the journal, since it would have none
abbrev pub is_told_refusal : Refusal → Bool
is_told_refusal (Refusal.NotFirst r) = has_digits r
is_told_refusal (Refusal.Allocated r) = has_digits r
is_told_refusal Refusal.Full = false
is_told_refusal _ = true

-- a reply can be printed: the requests that it names have three digits, it reports no withdrawn
-- job, and the journal had room
abbrev pub is_told : Reply → Bool
is_told (Reply.Done d) = is_told_done d
is_told (Reply.Refused r) = is_told_refusal r

-- the answer to an event can be printed
abbrev pub is_told_answer : Result Done Refusal → Bool
is_told_answer (Ok d) = is_told_done d
is_told_answer (Err r) = is_told_refusal r

-- an entry that has a line, if its numbers are within their types
pub record IsToldEntry (e : Entry) : Type 0 where
  pub event : HasEventLine e.event
  pub reply : is_told e.reply ≡ true
