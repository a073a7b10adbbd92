-- which events are those of requests
use Rattle.std.specs.Prelude.{Bool, true, false}
use Rattle.np_event.specs.declared.event.Event.{Event}

-- register, submit, revise, min-ready, lock-request, unlock-request, accept, decline, fulfil, reset
-- and fail-declined
abbrev pub is_request_event : Event → Bool
is_request_event (Event.Register session) = true
is_request_event (Event.Submit session j) = true
is_request_event (Event.Revise session j relative) = true
is_request_event (Event.MinReady session l) = true
is_request_event (Event.LockRequest session r) = true
is_request_event (Event.UnlockRequest session r) = true
is_request_event (Event.Accept session r) = true
is_request_event (Event.Decline session r why) = true
is_request_event (Event.Fulfil session r) = true
is_request_event (Event.Reset session r) = true
is_request_event (Event.FailDeclined session r) = true
is_request_event other = false
