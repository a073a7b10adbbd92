-- which events are those of semaphores, and the groups of all events
use Rattle.std.specs.Prelude.{Bool, true, false, ℕ, ◌+◌, cond}
use Rattle.np_event.specs.declared.event.Event.{Event}
use Rattle.np_reqstep.specs.Requests.{is_request_event}
use Rattle.np_nodestep.specs.Nodes.{is_node_event}

-- which events are those of semaphores

-- acquire, take, finish, withdraw and release
abbrev pub is_semaphore_event : Event → Bool
is_semaphore_event (Event.Acquire session j) = true
is_semaphore_event (Event.Take session j) = true
is_semaphore_event (Event.Finish session j) = true
is_semaphore_event (Event.Withdraw session j) = true
is_semaphore_event (Event.Release session j) = true
is_semaphore_event other = false

-- the groups of all events

-- a tick, and the events that begin, stop or end a session
abbrev pub is_session_event : Event → Bool
is_session_event Event.Tick = true
is_session_event (Event.OpenSession role) = true
is_session_event (Event.Crash session) = true
is_session_event (Event.Expire session) = true
is_session_event other = false

-- in how many of the four groups the event is
abbrev pub groups_with : Event → ℕ
groups_with e = cond (is_request_event e) 1 0 + cond (is_node_event e) 1 0 + cond (is_semaphore_event e) 1 0 + cond (is_session_event e) 1 0
