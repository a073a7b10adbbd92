-- which events are those of nodes
use Rattle.std.specs.Prelude.{Bool, true, false}
use Rattle.np_event.specs.declared.event.Event.{Event}

-- take-ready, create, start, done, lock-node, unlock-node, end-node, mark-deleting, gone, free-node
-- and sweep
abbrev pub is_node_event : Event → Bool
is_node_event (Event.TakeReady session r n) = true
is_node_event (Event.Create session r) = true
is_node_event (Event.Start session n) = true
is_node_event (Event.Done session n attempt o) = true
is_node_event (Event.LockNode session n) = true
is_node_event (Event.UnlockNode session n) = true
is_node_event (Event.EndNode session n as_what) = true
is_node_event (Event.MarkDeleting session n) = true
is_node_event (Event.Gone session n) = true
is_node_event (Event.FreeNode session n) = true
is_node_event (Event.Sweep session n x) = true
is_node_event other = false
