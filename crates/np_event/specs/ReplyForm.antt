-- what a form of a line is, and the forms of replies
use Rattle.std.specs.Prelude.{ℕ, List, Option, Some, None, [], ◌∷◌, codes}
use Rattle.np_event.specs.declared.kind.Fields.{Fields}
use Rattle.np_event.specs.declared.kind.Kind.{Kind}
use Rattle.np_event.specs.declared.reply.Found.{Found}
use Rattle.np_event.specs.Lower.{EndAs, Ending, RequestState, NodeState}
use Rattle.np_event.specs.declared.reply.Done.{Done}
use Rattle.np_event.specs.declared.reply.Refusal.{Refusal}
use Rattle.np_event.specs.declared.reply_form.TheConstants.{DONE_FORMS, REFUSAL_FORMS}

-- A form of a line: its first word, and what follows it.

-- a row of a table of forms
pub record Row : Type 0 where
  pub head : List ℕ
  pub kinds : List Kind
  -- which of the words after the first chooses among the forms of this first word, if these have
  -- different counts of words
  pub decided_at : Option ℕ

-- the row of a first word and of kinds, which no later word chooses
abbrev pub row : List ℕ → List Kind → Row
row head kinds = record { head = head; kinds = kinds; decided_at = None }

-- the row of a first word and of kinds, which the word at this place chooses
abbrev pub decided : ℕ → List ℕ → List Kind → Row
decided place head kinds = record { head = head; kinds = kinds; decided_at = Some place }

-- the fields before any word is read
abbrev pub blank : Fields
blank = record {
  session = record { 0 = 0 };
  request = record { priority = 0; seq = 0 };
  node = record { 0 = 0 };
  job = record { 0 = 0 };
  label = record { 0 = 0 };
  pool = record { 0 = 0 };
  requester = record { 0 = 0 };
  semaphore = record { 0 = 0 };
  attempt = 0;
  number = 0;
  relative = 0;
  server = 0;
  instances = 0;
  cores = 0;
  ram = 0;
  end = EndAs.Used;
  ending = Ending.Served;
  found = Found.Request RequestState.Requested;
}

-- The forms of replies, one row for each. A refusal's row comes after the word `refused` (own).
-- A reply also represents its form: its values do not count there.

-- ## Done

-- the first word, and what follows it
abbrev pub done_row : Done → Row
done_row Done.Plain = row (codes "ok") []
done_row (Done.Session s) = row (codes "session") (Kind.Session ∷ [])
done_row (Done.Request r) = row (codes "request") (Kind.Request ∷ [])
done_row (Done.Node n) = row (codes "node") (Kind.Node ∷ [])
done_row (Done.Started k n) = row (codes "started") (Kind.Attempt ∷ Kind.Number ∷ [])
done_row Done.Held = row (codes "held") []
done_row (Done.Queued n) = row (codes "queued") (Kind.Number ∷ [])
done_row Done.Keep = row (codes "keep") []
done_row Done.Remove = row (codes "remove") []
done_row (Done.Ended e) = row (codes "ended") (Kind.Ending ∷ [])

-- the reply of the same form with these fields
abbrev pub done_of : Done → Fields → Done
done_of (Done.Session s) f = Done.Session f.session
done_of (Done.Request r) f = Done.Request f.request
done_of (Done.Node n) f = Done.Node f.node
done_of (Done.Started k n) f = Done.Started f.attempt f.number
done_of (Done.Queued n) f = Done.Queued f.number
done_of (Done.Ended e) f = Done.Ended f.ending
done_of form f = form

-- what a reply says
abbrev pub done_fields : Done → Fields
done_fields (Done.Session s) = record blank { session = s }
done_fields (Done.Request r) = record blank { request = r }
done_fields (Done.Node n) = record blank { node = n }
done_fields (Done.Started k n) = record blank { attempt = k; number = n }
done_fields (Done.Queued n) = record blank { number = n }
done_fields (Done.Ended e) = record blank { ending = e }
done_fields form = blank

-- a reply of each form
unfoldable pub done_forms : List Done
done_forms = DONE_FORMS

-- ## Refused

-- the first word after `refused`, and what follows it
abbrev pub refusal_row : Refusal → Row
refusal_row Refusal.NoSession = row (codes "no-session") []
refusal_row Refusal.Expired = row (codes "expired") []
refusal_row Refusal.Crashed = row (codes "crashed") []
refusal_row Refusal.WrongRole = row (codes "wrong-role") []
refusal_row Refusal.NoRequest = row (codes "no-request") []
refusal_row Refusal.NoNode = row (codes "no-node") []
refusal_row Refusal.NoJob = row (codes "no-job") []
refusal_row Refusal.NotOwner = row (codes "not-owner") []
refusal_row Refusal.NotRegistered = row (codes "not-registered") []
refusal_row (Refusal.Taken s) = row (codes "taken") (Kind.Session ∷ [])
refusal_row (Refusal.Busy s) = row (codes "busy") (Kind.Session ∷ [])
refusal_row Refusal.NotHeld = row (codes "not-held") []
refusal_row (Refusal.WrongState w) = row (codes "wrong-state") (Kind.Found ∷ [])
refusal_row Refusal.Declined = row (codes "declined") []
refusal_row (Refusal.NotFirst r) = row (codes "not-first") (Kind.Request ∷ [])
refusal_row Refusal.FalseReason = row (codes "false-reason") []
refusal_row (Refusal.NoLabel l) = row (codes "no-label") (Kind.Label ∷ [])
refusal_row Refusal.NeverFits = row (codes "never-fits") []
refusal_row (Refusal.QuotaShort i c m) = row (codes "quota-short") (Kind.Instances ∷ Kind.Cores ∷ Kind.Ram ∷ [])
refusal_row (Refusal.Allocated r) = row (codes "allocated") (Kind.Request ∷ [])
refusal_row (Refusal.WrongAttempt k) = row (codes "wrong-attempt") (Kind.Attempt ∷ [])
refusal_row (Refusal.NotAll n) = row (codes "not-all") (Kind.Number ∷ [])
refusal_row (Refusal.SemaphoreFull x) = row (codes "semaphore-full") (Kind.Semaphore ∷ [])
refusal_row (Refusal.NotDue n) = row (codes "not-due") (Kind.Number ∷ [])
refusal_row (Refusal.Enough n) = row (codes "enough") (Kind.Number ∷ [])
refusal_row Refusal.Spent = row (codes "spent") []
refusal_row Refusal.Full = row (codes "full") []
refusal_row (Refusal.TenantShort i c m) = row (codes "tenant-short") (Kind.Instances ∷ Kind.Cores ∷ Kind.Ram ∷ [])
refusal_row Refusal.TenantNeverFits = row (codes "tenant-never-fits") []

-- the refusal of the same form with these fields
abbrev pub refusal_of : Refusal → Fields → Refusal
refusal_of (Refusal.Taken s) f = Refusal.Taken f.session
refusal_of (Refusal.Busy s) f = Refusal.Busy f.session
refusal_of (Refusal.WrongState w) f = Refusal.WrongState f.found
refusal_of (Refusal.NotFirst r) f = Refusal.NotFirst f.request
refusal_of (Refusal.NoLabel l) f = Refusal.NoLabel f.label
refusal_of (Refusal.QuotaShort i c m) f = Refusal.QuotaShort f.instances f.cores f.ram
refusal_of (Refusal.Allocated r) f = Refusal.Allocated f.request
refusal_of (Refusal.WrongAttempt k) f = Refusal.WrongAttempt f.attempt
refusal_of (Refusal.NotAll n) f = Refusal.NotAll f.number
refusal_of (Refusal.SemaphoreFull x) f = Refusal.SemaphoreFull f.semaphore
refusal_of (Refusal.NotDue n) f = Refusal.NotDue f.number
refusal_of (Refusal.Enough n) f = Refusal.Enough f.number
refusal_of (Refusal.TenantShort i c m) f = Refusal.TenantShort f.instances f.cores f.ram
refusal_of form f = form

-- what a refusal says
abbrev pub refusal_fields : Refusal → Fields
refusal_fields (Refusal.Taken s) = record blank { session = s }
refusal_fields (Refusal.Busy s) = record blank { session = s }
refusal_fields (Refusal.WrongState w) = record blank { found = w }
refusal_fields (Refusal.NotFirst r) = record blank { request = r }
refusal_fields (Refusal.NoLabel l) = record blank { label = l }
refusal_fields (Refusal.QuotaShort i c m) = record blank { instances = i; cores = c; ram = m }
refusal_fields (Refusal.Allocated r) = record blank { request = r }
refusal_fields (Refusal.WrongAttempt k) = record blank { attempt = k }
refusal_fields (Refusal.NotAll n) = record blank { number = n }
refusal_fields (Refusal.SemaphoreFull x) = record blank { semaphore = x }
refusal_fields (Refusal.NotDue n) = record blank { number = n }
refusal_fields (Refusal.Enough n) = record blank { number = n }
refusal_fields (Refusal.TenantShort i c m) = record blank { instances = i; cores = c; ram = m }
refusal_fields form = blank

-- a refusal of each form
unfoldable pub refusal_forms : List Refusal
refusal_forms = REFUSAL_FORMS

-- ## What a line says

-- a failed node and a failed request share one word, which is read as the request's
abbrev pub told_found : Found → Found
told_found (Found.Node NodeState.Failed) = Found.Request RequestState.Failed
told_found found = found
