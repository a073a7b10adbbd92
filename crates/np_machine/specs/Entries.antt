-- rows of the state under a lock
use Rattle.np_machine.specs.declared.state.Locked.{Locked}
use Rattle.np_machine.specs.Lower.{NodeId, NodeRecord, RequestId, RequestRecord}

-- a request with its id, its record and its lock's queue
abbrev pub RequestEntry : Type 0
RequestEntry = Locked RequestId RequestRecord

-- a node with its id, its record and its lock's queue
abbrev pub NodeEntry : Type 0
NodeEntry = Locked NodeId NodeRecord
