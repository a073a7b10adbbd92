-- what is not safe, and what was not driven: journals, states and turns
use Rattle.std.specs.Prelude.{List, [], ◌∷◌, codes, ◌≡◌, ◌⊎◌, ℕ, true, false}
use Rattle.np_worked.specs.Parts.{session, job, request, requester, accepted, site, node, refused, allocated, held_node, whole, turn_to}
use Rattle.np_worked.specs.Lower.{Configuration, Done, Entry, Event, Janitor, NodeId, NodeState, Outcome, Says, SessionId, State, Turn, start}

-- # journals with ticks where none may be, and with two holders of a request

abbrev pub tick : Entry
tick = accepted Event.Tick Done.Plain

-- the requester opens its session
abbrev pub opening : Entry
opening = accepted (Event.OpenSession requester) (Done.Session (session 1))

-- the clouds may answer anything (own)
abbrev pub any_answer : Says
any_answer pool n attempt start o = Unit {0}

-- a tick is the first entry
abbrev pub first_tick : List Entry
first_tick = tick ∷ []

-- a tick follows a tick
abbrev pub two_ticks : List Entry
two_ticks = opening ∷ tick ∷ tick ∷ []

-- one tick, after something else
abbrev pub one_tick : List Entry
one_tick = opening ∷ tick ∷ []

-- job 0 asks for its nodes, and two sessions get the reply that they hold its request
abbrev pub two_holders : List Entry
two_holders =
    opening
    ∷ accepted (Event.Submit (session 1) (job 0)) (Done.Request (request 0))
    ∷ accepted (Event.LockRequest (session 1) (request 0)) Done.Held
    ∷ accepted (Event.LockRequest (session 2) (request 0)) Done.Held
    ∷ []

-- # states with more handles of a semaphore than may be

-- jobs 0 and 1 have handles of the semaphore, of which the site gives one
abbrev pub two_handles : State
two_handles = record (start site) { handles = (job 0 ∷ job 1 ∷ []) ∷ [] }

-- the site, but two jobs may have handles of its semaphore
abbrev pub roomy_site : Configuration
roomy_site = record site { semaphores = record { name = codes "x"; max = 2 } ∷ [] }

-- job 0 has a handle of the semaphore twice
abbrev pub same_handle_twice : State
same_handle_twice = record (start site) { handles = (job 0 ∷ job 0 ∷ []) ∷ [] }

-- # turns that are no sweep of a server, and turns that are no report of a launch

-- ## sweeps

-- session 1 is of the first pool's janitor
abbrev pub with_janitor : State
with_janitor = record (start site) { sessions = record { role = Janitor (record { 0 = 0 }); live = true; mute = false } ∷ [] }

-- the same, and it is mute
abbrev pub with_mute_janitor : State
with_mute_janitor = record (start site) { sessions = record { role = Janitor (record { 0 = 0 }); live = true; mute = true } ∷ [] }

-- the same as the first, and server 7 was swept for node 0
abbrev pub with_swept_server : State
with_swept_server = record with_janitor { swept = record { node = node 0; server = 7 } ∷ [] }

-- a report, which was refused, named this server for the node
abbrev pub naming : NodeId → ℕ → Turn
naming n server = turn_to whole (refused (Event.Done (session 2) n 1 (Outcome.Launched server)))

-- in this state, session 1 sweeps server 7 of node 0, and gets this answer
abbrev pub sweeping : State → Done → Turn
sweeping before what = record { before = before; entry = accepted (Event.Sweep (session 1) (node 0) 7) what; later = before }

-- ## reports

-- nodes 0 and 1 are building
abbrev pub with_two_nodes : State
with_two_nodes = record whole {
  nodes = held_node (node 0) (allocated NodeState.Building) ∷ held_node (node 1) (allocated NodeState.Building) ∷ [];
}

-- this entry, which leaves the two nodes as they are
abbrev pub beside_two_nodes : Entry → Turn
beside_two_nodes entry = record { before = with_two_nodes; entry = entry; later = with_two_nodes }

-- a session starts a launch of the node, which is its attempt of this number and start 1 of its pool
abbrev pub starting : SessionId → NodeId → ℕ → Turn
starting by n attempt = beside_two_nodes (accepted (Event.Start by n) (Done.Started attempt 1))

-- the start of the launch was refused
abbrev pub refused_start : Turn
refused_start = beside_two_nodes (refused (Event.Start (session 1) (node 0)))

-- session 1 reports that attempt 1 of node 0 failed
abbrev pub reporting : Turn
reporting = beside_two_nodes (accepted (Event.Done (session 1) (node 0) 1 Outcome.Failed) Done.Plain)

-- start 2 may be answered by anything, and so may each start of the second pool, and no other (own)
abbrev pub answers_elsewhere : Says
answers_elsewhere pool n attempt m o = (m ≡ 2) ⊎ (pool.0 ≡ 1)
