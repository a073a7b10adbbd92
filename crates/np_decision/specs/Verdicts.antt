-- what a verdict answers, and the places of a request
use Rattle.std.specs.Prelude.{ℕ, List, Option, Some, None, if◌then◌else◌, Result, Ok, Err, not, slice_get}
use Rattle.std.specs.Borrow.{Bor}
use Rattle.np_changes.specs.Prelude.{◌>>=◌}
use Rattle.np_decision.specs.declared.verdict.Verdict.{Verdict}
use Rattle.np_decision.specs.Lower.{Answer, Asked, Check, Configuration, Job, JobRecord, LabelId, NodeEntry, NodeId, PoolId, Refusal, RequestId, RequestRecord, SessionId, State, asked_of, count_of, found, is_filled, is_short, need, node_entry, quota_short}

-- the places of a request, one by one

-- 1 if there is a label and no node as fulfil needs it
abbrev pub lack_at : PoolId → SessionId → RequestId → List NodeEntry → Option LabelId → Option NodeId → ℕ
lack_at p session r nodes None number = 0
lack_at p session r nodes (Some l) None = 1
lack_at p session r nodes (Some l) (Some n) = if is_filled p session r l (node_entry n nodes) then 0 else 1

-- what a verdict answers

abbrev pub answer_of : Result Verdict Refusal → Answer
answer_of (Ok v) = Ok v.done
answer_of (Err refusal) = Err refusal

-- the request as it was found, without its declines
abbrev pub without_declines : Result RequestRecord Refusal → Result Asked Refusal
without_declines (Ok request) = Ok (asked_of request)
without_declines (Err refusal) = Err refusal

-- the row behind the reference
abbrev pub row_of_job : Result (Bor Job) Refusal → Result Job Refusal
row_of_job (Ok row) = Ok row.now
row_of_job (Err refusal) = Err refusal

-- the pool has room for one more node of the label
abbrev pub has_room : Configuration → State → PoolId → LabelId → Check
has_room c s p l = need (not (is_short c s p l)) (quota_short (count_of c s p))

-- how many free ready nodes of the label are kept
abbrev pub min_ready_of : Configuration → LabelId → Result ℕ Refusal
min_ready_of c l = do
  label ← found (slice_get c.labels l.0) (Refusal.NoLabel l)
  Ok label.min_ready

-- the request of the job
abbrev pub asked_request : JobRecord → Result RequestId Refusal
asked_request kept = found kept.request Refusal.NoRequest
