-- refusals in ZooKeeper's numbers
use Rattle.std.specs.Prelude.{ℤ, negsuc, Option, Some, None}
use Rattle.np_tree_nodes.specs.declared.refusal.TreeRefusal.{TreeRefusal}

-- ZooKeeper's code of a refusal, if it has one (`KeeperException.Code`); `negsuc 100` is -101
abbrev pub code_of : TreeRefusal → Option ℤ
code_of TreeRefusal.SessionExpired = Some (negsuc 111)
code_of TreeRefusal.NoNode = Some (negsuc 100)
code_of TreeRefusal.NoChildrenForEphemerals = Some (negsuc 107)
code_of TreeRefusal.NodeExists = Some (negsuc 109)
code_of (TreeRefusal.BadVersion kept) = Some (negsuc 102)
code_of (TreeRefusal.NotEmpty children) = Some (negsuc 110)
code_of TreeRefusal.SequenceSpent = None
code_of TreeRefusal.TooLarge = None
code_of TreeRefusal.ChangesSpent = None
code_of TreeRefusal.RootKept = None
