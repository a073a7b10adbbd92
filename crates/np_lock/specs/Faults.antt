-- the tree's faults as those of a lock
use Rattle.np_tree_nodes.specs.declared.refusal.TreeFault.{TreeFault}
use Rattle.np_lock.specs.declared.answer.LockFault.{LockFault}

abbrev pub fault_of : TreeFault → LockFault
fault_of (TreeFault.Refused refusal) = LockFault.Refused refusal
fault_of TreeFault.NoMemory = LockFault.NoMemory

abbrev pub no_memory : LockFault
no_memory = LockFault.NoMemory
