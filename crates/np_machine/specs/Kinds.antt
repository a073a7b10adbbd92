-- which state, which phase: a test for each that a row needs
use Rattle.std.specs.Prelude.{Bool, true, false}
use Rattle.np_machine.specs.Lower.{NodeState, Phase, RequestState}

abbrev pub is_requested : RequestState → Bool
is_requested RequestState.Requested = true
is_requested _ = false

abbrev pub is_pending : RequestState → Bool
is_pending RequestState.Pending = true
is_pending _ = false

abbrev pub is_fulfilled : RequestState → Bool
is_fulfilled RequestState.Fulfilled = true
is_fulfilled _ = false

abbrev pub is_failed : RequestState → Bool
is_failed RequestState.Failed = true
is_failed _ = false

abbrev pub is_building : NodeState → Bool
is_building NodeState.Building = true
is_building _ = false

abbrev pub is_ready : NodeState → Bool
is_ready NodeState.Ready = true
is_ready _ = false

abbrev pub is_in_use : NodeState → Bool
is_in_use NodeState.InUse = true
is_in_use _ = false

abbrev pub is_deleting : NodeState → Bool
is_deleting NodeState.Deleting = true
is_deleting _ = false

abbrev pub is_failed_node : NodeState → Bool
is_failed_node NodeState.Failed = true
is_failed_node _ = false

abbrev pub is_new : Phase → Bool
is_new Phase.New = true
is_new _ = false

abbrev pub is_asked : Phase → Bool
is_asked Phase.Asked = true
is_asked _ = false

abbrev pub is_using : Phase → Bool
is_using Phase.Using = true
is_using _ = false

abbrev pub is_over : Phase → Bool
is_over Phase.Over = true
is_over _ = false
