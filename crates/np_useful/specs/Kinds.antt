-- the events of each kind that names a request, a node or a job
use Rattle.np_useful.specs.declared.kind.RequestKind.{RequestKind}
use Rattle.np_useful.specs.declared.kind.NodeKind.{NodeKind}
use Rattle.np_useful.specs.declared.kind.JobKind.{JobKind}
use Rattle.np_useful.specs.Lower.{Event, JobId, NodeId, RequestId, SessionId}

abbrev pub request_event : RequestKind → SessionId → RequestId → Event
request_event RequestKind.Lock session r = Event.LockRequest session r
request_event RequestKind.Unlock session r = Event.UnlockRequest session r
request_event RequestKind.Accept session r = Event.Accept session r
request_event RequestKind.Create session r = Event.Create session r
request_event RequestKind.Fulfil session r = Event.Fulfil session r
request_event RequestKind.Reset session r = Event.Reset session r
request_event RequestKind.FailDeclined session r = Event.FailDeclined session r

abbrev pub node_event : NodeKind → SessionId → NodeId → Event
node_event NodeKind.Lock session n = Event.LockNode session n
node_event NodeKind.Unlock session n = Event.UnlockNode session n
node_event NodeKind.Start session n = Event.Start session n
node_event (NodeKind.End as_what) session n = Event.EndNode session n as_what
node_event NodeKind.MarkDeleting session n = Event.MarkDeleting session n
node_event NodeKind.Gone session n = Event.Gone session n
node_event NodeKind.Free session n = Event.FreeNode session n

abbrev pub job_event : JobKind → SessionId → JobId → Event
job_event JobKind.Acquire session j = Event.Acquire session j
job_event JobKind.Submit session j = Event.Submit session j
job_event JobKind.Take session j = Event.Take session j
job_event JobKind.Finish session j = Event.Finish session j
job_event JobKind.Release session j = Event.Release session j
