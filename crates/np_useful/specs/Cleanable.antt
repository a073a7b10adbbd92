-- which nodes a janitor removes or frees
use Rattle.std.specs.Prelude.{Bool, true, ◌&&◌, ◌||◌, is_some, is_none}
use Rattle.np_useful.specs.Lower.{Configuration, NodeRecord, NodeState, State, is_old_hold, is_old_ready, is_paused, standing}

-- allocated to a request that no longer exists (own)
abbrev pub is_left_over : State → NodeRecord → Bool
is_left_over s k = is_some k.allocated_to && is_none (standing s k.allocated_to)

-- allocated to no request, and old or in a paused pool (Nodepool: max-ready-age, and a pool at its quota)
abbrev pub is_to_go : Configuration → State → NodeRecord → Bool
is_to_go c s k = is_none k.allocated_to && (is_old_ready c s k || is_paused c s k.pool)

-- by the node's state (Nodepool: cleanup of lost, used, failed and aged nodes)
abbrev pub is_cleanable_as : Configuration → State → NodeRecord → NodeState → Bool
is_cleanable_as c s k NodeState.Building = true
is_cleanable_as c s k NodeState.Ready = is_left_over s k || is_to_go c s k
is_cleanable_as c s k NodeState.InUse = true
is_cleanable_as c s k NodeState.Used = true
is_cleanable_as c s k NodeState.Hold = is_old_hold c s k
is_cleanable_as c s k NodeState.Deleting = true
is_cleanable_as c s k NodeState.Failed = true

-- a node that a janitor may remove or free if nobody holds it (Nodepool: cleanup)
abbrev pub is_cleanable : Configuration → State → NodeRecord → Bool
is_cleanable c s k = is_cleanable_as c s k k.state
