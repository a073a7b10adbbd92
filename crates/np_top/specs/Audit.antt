-- what the command `audit` does
use Rattle.std.specs.Prelude.{◌≡◌, ◌⊎◌, ℕ, Bool, true, false, List, ◌++◌, codes, decimal, IfSome, length, nat_lt, ◌<◌, ◌^◌}
use Rattle.np_top.specs.Lower.{Ending, EndsSo, Event, IsAText, IsInput, IsNoText, IsTold, IsWritten, Outcome, Reason, Role, Rose, SessionId, ShowsFailures, SinkFacts, SourceFacts, Stops, line, most}

-- ## the lines

-- what is printed for the Text of a run
abbrev pub yes_line : List ℕ
yes_line = line (codes "yes")

-- the line for an input that is no such Text, with the number of the first of its lines that shows it
unfoldable pub no_line : ℕ → List ℕ
no_line n = line (codes "poolsim: audit: line " ++ decimal n)

-- ## how an audit may end

-- the input is the Text of a run
pub record InputIsText (source source_now : SourceFacts) : Type 0 where
  pub came : List ℕ
  pub input : IsInput source source_now came
  pub text : IsAText came

-- the input is no such Text, and the line names the first of its lines that shows it
pub record InputIsNoText (source source_now : SourceFacts) (line : List ℕ) : Type 0 where
  pub came : List ℕ
  pub number : ℕ
  pub input : IsInput source source_now came
  pub none : IsNoText came number
  pub told : line ≡ no_line number

-- how an audit may end, by what came from the source
abbrev pub EndsAudit : SourceFacts → SourceFacts → Ending → Type 0
EndsAudit source source_now (Ending.Prints text status) = (status ≡ 0) × (text.items ≡ yes_line) × InputIsText source source_now
EndsAudit source source_now (Ending.Says line status) = (status ≡ 8) × InputIsNoText source source_now line.items
EndsAudit source source_now Ending.ReadFault = Stops source source_now Ending.ReadFault
EndsAudit source source_now Ending.TooLong = Stops source source_now Ending.TooLong
EndsAudit source source_now Ending.NoMemory = Unit {0}
EndsAudit source source_now _ = ⊥

-- ## the status that belongs to an input

-- 0 if it is the Text of a run, otherwise 8
abbrev pub IsAuditStatus : List ℕ → ℕ → Type 0
IsAuditStatus came status =
    ((status ≡ 0) × IsAText came) ⊎ ((status ≡ 8) × ((n : ℕ) × IsNoText came n))

-- 5 if it is too long, otherwise by the Text
abbrev pub IsAuditStatusIf : Bool → List ℕ → ℕ → Type 0
IsAuditStatusIf true came status = status ≡ 5
IsAuditStatusIf false came status = IsAuditStatus came status

abbrev pub IsAuditStatusOf : List ℕ → ℕ → Type 0
IsAuditStatusOf came status = IsAuditStatusIf (nat_lt most (length came)) came status

-- ## what the streams and the status show

pub record Audits {S K E : Type 0} (s : S → SourceFacts) (k : K → SinkFacts) (e : E → SinkFacts) (source source_now : S) (out out_now : K) (err err_now : E) (status : ℕ) : Type 0 where
  -- the audit ended so, and out, err and the status show it
  pub ending : Ending
  pub ends : EndsAudit (s source) (s source_now) ending
  pub told : IsTold k e out out_now err err_now ending status
  -- status 0: the input is the Text of a run, `yes` is on out, and nothing on err
  pub yes : status ≡ 0 → InputIsText (s source) (s source_now) × IsWritten (k out) (k out_now) yes_line × (err_now ≡ err)
  -- status 8: the input is no such Text, the number of its first line at fault is on err, and nothing on out
  pub no : status ≡ 8 → (line : List ℕ) × InputIsNoText (s source) (s source_now) line × IsWritten (e err) (e err_now) line × (out_now ≡ out)
  -- `read`, `write` and `memory`: statuses 5, 6 and 7
  pub failures : ShowsFailures s k e source source_now out out_now err err_now status
  -- the status is the input's, unless a stream failed or memory ran out
  pub complete : IfSome (s source).left (λ left. EndsSo (IsAuditStatusOf left status) status
      (Rose (s source).faults (s source_now).faults)
      (Rose (k out).faults (k out_now).faults ⊎ Rose (e err).faults (e err_now).faults))

-- which numbers an event may name, since they are within their types

-- a number of 32 bits (own)
abbrev pub IsSession : SessionId → Type 0
IsSession s = s.0 < 2 ^ 32

-- each number that the event names is within its type, but for a priority (own)
abbrev pub IsTyped : Event → Type 0
IsTyped Event.Tick = Unit {0}
IsTyped (Event.OpenSession (Role.Launcher p)) = p.0 < 2 ^ 16
IsTyped (Event.OpenSession (Role.Janitor p)) = p.0 < 2 ^ 16
IsTyped (Event.OpenSession (Role.Requester q)) = q.0 < 2 ^ 16
IsTyped (Event.OpenSession Role.Reaper) = Unit {0}
IsTyped (Event.Crash s) = IsSession s
IsTyped (Event.Expire s) = IsSession s
IsTyped (Event.Register s) = IsSession s
IsTyped (Event.Submit s j) = IsSession s × (j.0 < 2 ^ 32)
IsTyped (Event.Revise s j relative) = IsSession s × (j.0 < 2 ^ 32)
IsTyped (Event.MinReady s l) = IsSession s × (l.0 < 2 ^ 16)
IsTyped (Event.LockRequest s r) = IsSession s × (r.seq < 2 ^ 32)
IsTyped (Event.UnlockRequest s r) = IsSession s × (r.seq < 2 ^ 32)
IsTyped (Event.Accept s r) = IsSession s × (r.seq < 2 ^ 32)
IsTyped (Event.Decline s r (Reason.NoLabel l)) = IsSession s × (r.seq < 2 ^ 32) × (l.0 < 2 ^ 16)
IsTyped (Event.Decline s r Reason.NeverFits) = IsSession s × (r.seq < 2 ^ 32)
IsTyped (Event.Decline s r Reason.TenantNeverFits) = IsSession s × (r.seq < 2 ^ 32)
IsTyped (Event.Decline s r (Reason.Spent n)) = IsSession s × (r.seq < 2 ^ 32) × (n.0 < 2 ^ 32)
IsTyped (Event.TakeReady s r n) = IsSession s × (r.seq < 2 ^ 32) × (n.0 < 2 ^ 32)
IsTyped (Event.Create s r) = IsSession s × (r.seq < 2 ^ 32)
IsTyped (Event.Start s n) = IsSession s × (n.0 < 2 ^ 32)
IsTyped (Event.Done s n attempt (Outcome.Launched x)) = IsSession s × (n.0 < 2 ^ 32) × (attempt < 2 ^ 8) × (x < 2 ^ 64)
IsTyped (Event.Done s n attempt Outcome.Failed) = IsSession s × (n.0 < 2 ^ 32) × (attempt < 2 ^ 8)
IsTyped (Event.Fulfil s r) = IsSession s × (r.seq < 2 ^ 32)
IsTyped (Event.LockNode s n) = IsSession s × (n.0 < 2 ^ 32)
IsTyped (Event.UnlockNode s n) = IsSession s × (n.0 < 2 ^ 32)
IsTyped (Event.Acquire s j) = IsSession s × (j.0 < 2 ^ 32)
IsTyped (Event.Take s j) = IsSession s × (j.0 < 2 ^ 32)
IsTyped (Event.EndNode s n e) = IsSession s × (n.0 < 2 ^ 32)
IsTyped (Event.Finish s j) = IsSession s × (j.0 < 2 ^ 32)
IsTyped (Event.Withdraw s j) = IsSession s × (j.0 < 2 ^ 32)
IsTyped (Event.Release s j) = IsSession s × (j.0 < 2 ^ 32)
IsTyped (Event.MarkDeleting s n) = IsSession s × (n.0 < 2 ^ 32)
IsTyped (Event.Gone s n) = IsSession s × (n.0 < 2 ^ 32)
IsTyped (Event.Reset s r) = IsSession s × (r.seq < 2 ^ 32)
IsTyped (Event.FreeNode s n) = IsSession s × (n.0 < 2 ^ 32)
IsTyped (Event.FailDeclined s r) = IsSession s × (r.seq < 2 ^ 32)
IsTyped (Event.Sweep s n x) = IsSession s × (n.0 < 2 ^ 32) × (x < 2 ^ 64)

-- what the program shows of words that are no command

-- err says that they are none, or that memory ran out while they were read
abbrev pub IsNoCommand : {K E : Type 0} → (K → SinkFacts) → (E → SinkFacts) → K → K → E → E → ℕ → Type 0
IsNoCommand k e out out_now err err_now status =
    IsTold k e out out_now err err_now Ending.NoCommand status ⊎ IsTold k e out out_now err err_now Ending.NoMemory status
