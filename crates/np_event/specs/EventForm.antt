-- The forms of event lines, one row for each (own).
use Rattle.std.specs.Prelude.{List, [], ◌∷◌, codes}
use Rattle.np_event.specs.declared.event.Event.{Event}
use Rattle.np_event.specs.declared.event_form.EventForm.{EventForm}
use Rattle.np_event.specs.declared.event_form.TheConstants.{EVENT_FORMS}
use Rattle.np_event.specs.declared.kind.Fields.{Fields}
use Rattle.np_event.specs.ReplyForm.{Row, row, decided, blank}
use Rattle.np_event.specs.declared.event.Outcome.{Outcome}
use Rattle.np_event.specs.declared.kind.Fixed.{Fixed}
use Rattle.np_event.specs.declared.kind.Kind.{Kind}
use Rattle.np_event.specs.Lower.{Reason, ReasonKind, Role, RoleKind}

-- the first word, and what follows it
abbrev pub event_row : EventForm → Row
event_row EventForm.Tick = row (codes "tick") []
event_row EventForm.OpenLauncher = row (codes "open") (Kind.Fixed (Fixed.Role RoleKind.Launcher) ∷ Kind.Pool ∷ [])
event_row EventForm.OpenJanitor = row (codes "open") (Kind.Fixed (Fixed.Role RoleKind.Janitor) ∷ Kind.Pool ∷ [])
event_row EventForm.OpenRequester = row (codes "open") (Kind.Fixed (Fixed.Role RoleKind.Requester) ∷ Kind.Requester ∷ [])
event_row EventForm.Crash = row (codes "crash") (Kind.Session ∷ [])
event_row EventForm.Expire = row (codes "expire") (Kind.Session ∷ [])
event_row EventForm.Register = row (codes "register") (Kind.Session ∷ [])
event_row EventForm.Submit = row (codes "submit") (Kind.Session ∷ Kind.Job ∷ [])
event_row EventForm.Revise = row (codes "revise") (Kind.Session ∷ Kind.Job ∷ Kind.Relative ∷ [])
event_row EventForm.MinReady = row (codes "min-ready") (Kind.Session ∷ Kind.Label ∷ [])
event_row EventForm.LockRequest = row (codes "lock-request") (Kind.Session ∷ Kind.Request ∷ [])
event_row EventForm.UnlockRequest = row (codes "unlock-request") (Kind.Session ∷ Kind.Request ∷ [])
event_row EventForm.Accept = row (codes "accept") (Kind.Session ∷ Kind.Request ∷ [])
event_row EventForm.DeclineNoLabel = decided 3 (codes "decline") (Kind.Session ∷ Kind.Request ∷ Kind.Fixed (Fixed.Reason ReasonKind.NoLabel) ∷ Kind.Label ∷ [])
event_row EventForm.DeclineNeverFits = decided 3 (codes "decline") (Kind.Session ∷ Kind.Request ∷ Kind.Fixed (Fixed.Reason ReasonKind.NeverFits) ∷ [])
event_row EventForm.DeclineTenantNeverFits = decided 3 (codes "decline") (Kind.Session ∷ Kind.Request ∷ Kind.Fixed (Fixed.Reason ReasonKind.TenantNeverFits) ∷ [])
event_row EventForm.DeclineSpent = decided 3 (codes "decline") (Kind.Session ∷ Kind.Request ∷ Kind.Fixed (Fixed.Reason ReasonKind.Spent) ∷ Kind.Node ∷ [])
event_row EventForm.TakeReady = row (codes "take-ready") (Kind.Session ∷ Kind.Request ∷ Kind.Node ∷ [])
event_row EventForm.Create = row (codes "create") (Kind.Session ∷ Kind.Request ∷ [])
event_row EventForm.Start = row (codes "start") (Kind.Session ∷ Kind.Node ∷ [])
event_row EventForm.DoneOk = decided 4 (codes "done") (Kind.Session ∷ Kind.Node ∷ Kind.Attempt ∷ Kind.Fixed Fixed.Ok ∷ Kind.Server ∷ [])
event_row EventForm.DoneFailed = decided 4 (codes "done") (Kind.Session ∷ Kind.Node ∷ Kind.Attempt ∷ Kind.Fixed Fixed.Failed ∷ [])
event_row EventForm.Fulfil = row (codes "fulfil") (Kind.Session ∷ Kind.Request ∷ [])
event_row EventForm.LockNode = row (codes "lock-node") (Kind.Session ∷ Kind.Node ∷ [])
event_row EventForm.UnlockNode = row (codes "unlock-node") (Kind.Session ∷ Kind.Node ∷ [])
event_row EventForm.Acquire = row (codes "acquire") (Kind.Session ∷ Kind.Job ∷ [])
event_row EventForm.Take = row (codes "take") (Kind.Session ∷ Kind.Job ∷ [])
event_row EventForm.EndNode = row (codes "end-node") (Kind.Session ∷ Kind.Node ∷ Kind.End ∷ [])
event_row EventForm.Finish = row (codes "finish") (Kind.Session ∷ Kind.Job ∷ [])
event_row EventForm.Withdraw = row (codes "withdraw") (Kind.Session ∷ Kind.Job ∷ [])
event_row EventForm.Release = row (codes "release") (Kind.Session ∷ Kind.Job ∷ [])
event_row EventForm.MarkDeleting = row (codes "mark-deleting") (Kind.Session ∷ Kind.Node ∷ [])
event_row EventForm.Gone = row (codes "gone") (Kind.Session ∷ Kind.Node ∷ [])
event_row EventForm.Reset = row (codes "reset") (Kind.Session ∷ Kind.Request ∷ [])
event_row EventForm.FreeNode = row (codes "free-node") (Kind.Session ∷ Kind.Node ∷ [])
event_row EventForm.FailDeclined = row (codes "fail-declined") (Kind.Session ∷ Kind.Request ∷ [])
event_row EventForm.Sweep = row (codes "sweep") (Kind.Session ∷ Kind.Node ∷ Kind.Server ∷ [])

-- the event of a form with these fields
abbrev pub event_of : EventForm → Fields → Event
event_of EventForm.Tick f = Event.Tick
event_of EventForm.OpenLauncher f = Event.OpenSession (Role.Launcher f.pool)
event_of EventForm.OpenJanitor f = Event.OpenSession (Role.Janitor f.pool)
event_of EventForm.OpenRequester f = Event.OpenSession (Role.Requester f.requester)
event_of EventForm.Crash f = Event.Crash f.session
event_of EventForm.Expire f = Event.Expire f.session
event_of EventForm.Register f = Event.Register f.session
event_of EventForm.Submit f = Event.Submit f.session f.job
event_of EventForm.Revise f = Event.Revise f.session f.job f.relative
event_of EventForm.MinReady f = Event.MinReady f.session f.label
event_of EventForm.LockRequest f = Event.LockRequest f.session f.request
event_of EventForm.UnlockRequest f = Event.UnlockRequest f.session f.request
event_of EventForm.Accept f = Event.Accept f.session f.request
event_of EventForm.DeclineNoLabel f = Event.Decline f.session f.request (Reason.NoLabel f.label)
event_of EventForm.DeclineNeverFits f = Event.Decline f.session f.request Reason.NeverFits
event_of EventForm.DeclineTenantNeverFits f = Event.Decline f.session f.request Reason.TenantNeverFits
event_of EventForm.DeclineSpent f = Event.Decline f.session f.request (Reason.Spent f.node)
event_of EventForm.TakeReady f = Event.TakeReady f.session f.request f.node
event_of EventForm.Create f = Event.Create f.session f.request
event_of EventForm.Start f = Event.Start f.session f.node
event_of EventForm.DoneOk f = Event.Done f.session f.node f.attempt (Outcome.Launched f.server)
event_of EventForm.DoneFailed f = Event.Done f.session f.node f.attempt Outcome.Failed
event_of EventForm.Fulfil f = Event.Fulfil f.session f.request
event_of EventForm.LockNode f = Event.LockNode f.session f.node
event_of EventForm.UnlockNode f = Event.UnlockNode f.session f.node
event_of EventForm.Acquire f = Event.Acquire f.session f.job
event_of EventForm.Take f = Event.Take f.session f.job
event_of EventForm.EndNode f = Event.EndNode f.session f.node f.end
event_of EventForm.Finish f = Event.Finish f.session f.job
event_of EventForm.Withdraw f = Event.Withdraw f.session f.job
event_of EventForm.Release f = Event.Release f.session f.job
event_of EventForm.MarkDeleting f = Event.MarkDeleting f.session f.node
event_of EventForm.Gone f = Event.Gone f.session f.node
event_of EventForm.Reset f = Event.Reset f.session f.request
event_of EventForm.FreeNode f = Event.FreeNode f.session f.node
event_of EventForm.FailDeclined f = Event.FailDeclined f.session f.request
event_of EventForm.Sweep f = Event.Sweep f.session f.node f.server

-- an event's form and fields; no line opens a reaper's session
abbrev pub event_parts : Event → EventForm × Fields
event_parts Event.Tick = (EventForm.Tick, blank)
event_parts (Event.OpenSession (Role.Launcher p)) = (EventForm.OpenLauncher, record blank { pool = p })
event_parts (Event.OpenSession (Role.Janitor p)) = (EventForm.OpenJanitor, record blank { pool = p })
event_parts (Event.OpenSession (Role.Requester q)) = (EventForm.OpenRequester, record blank { requester = q })
event_parts (Event.Crash s) = (EventForm.Crash, record blank { session = s })
event_parts (Event.Expire s) = (EventForm.Expire, record blank { session = s })
event_parts (Event.Register s) = (EventForm.Register, record blank { session = s })
event_parts (Event.Submit s j) = (EventForm.Submit, record blank { session = s; job = j })
event_parts (Event.Revise s j v) = (EventForm.Revise, record blank { session = s; job = j; relative = v })
event_parts (Event.MinReady s l) = (EventForm.MinReady, record blank { session = s; label = l })
event_parts (Event.LockRequest s r) = (EventForm.LockRequest, record blank { session = s; request = r })
event_parts (Event.UnlockRequest s r) = (EventForm.UnlockRequest, record blank { session = s; request = r })
event_parts (Event.Accept s r) = (EventForm.Accept, record blank { session = s; request = r })
event_parts (Event.Decline s r (Reason.NoLabel l)) = (EventForm.DeclineNoLabel, record blank { session = s; request = r; label = l })
event_parts (Event.Decline s r Reason.NeverFits) = (EventForm.DeclineNeverFits, record blank { session = s; request = r })
event_parts (Event.Decline s r Reason.TenantNeverFits) = (EventForm.DeclineTenantNeverFits, record blank { session = s; request = r })
event_parts (Event.Decline s r (Reason.Spent n)) = (EventForm.DeclineSpent, record blank { session = s; request = r; node = n })
event_parts (Event.TakeReady s r n) = (EventForm.TakeReady, record blank { session = s; request = r; node = n })
event_parts (Event.Create s r) = (EventForm.Create, record blank { session = s; request = r })
event_parts (Event.Start s n) = (EventForm.Start, record blank { session = s; node = n })
event_parts (Event.Done s n k (Outcome.Launched x)) = (EventForm.DoneOk, record blank { session = s; node = n; attempt = k; server = x })
event_parts (Event.Done s n k Outcome.Failed) = (EventForm.DoneFailed, record blank { session = s; node = n; attempt = k })
event_parts (Event.Fulfil s r) = (EventForm.Fulfil, record blank { session = s; request = r })
event_parts (Event.LockNode s n) = (EventForm.LockNode, record blank { session = s; node = n })
event_parts (Event.UnlockNode s n) = (EventForm.UnlockNode, record blank { session = s; node = n })
event_parts (Event.Acquire s j) = (EventForm.Acquire, record blank { session = s; job = j })
event_parts (Event.Take s j) = (EventForm.Take, record blank { session = s; job = j })
event_parts (Event.EndNode s n e) = (EventForm.EndNode, record blank { session = s; node = n; end = e })
event_parts (Event.Finish s j) = (EventForm.Finish, record blank { session = s; job = j })
event_parts (Event.Withdraw s j) = (EventForm.Withdraw, record blank { session = s; job = j })
event_parts (Event.Release s j) = (EventForm.Release, record blank { session = s; job = j })
event_parts (Event.MarkDeleting s n) = (EventForm.MarkDeleting, record blank { session = s; node = n })
event_parts (Event.Gone s n) = (EventForm.Gone, record blank { session = s; node = n })
event_parts (Event.Reset s r) = (EventForm.Reset, record blank { session = s; request = r })
event_parts (Event.FreeNode s n) = (EventForm.FreeNode, record blank { session = s; node = n })
event_parts (Event.FailDeclined s r) = (EventForm.FailDeclined, record blank { session = s; request = r })
event_parts (Event.Sweep s n x) = (EventForm.Sweep, record blank { session = s; node = n; server = x })
event_parts (Event.OpenSession Role.Reaper) = (EventForm.Tick, blank)

-- all forms; if no form with a line's first word agrees with it, the first of them is taken
unfoldable pub event_forms : List EventForm
event_forms = EVENT_FORMS
