-- what happens to the record of each of several nodes
use Rattle.std.specs.Prelude.{if◌then◌else◌, List, [], ◌∷◌, ◌++◌}
use Rattle.np_steps.specs.declared.nodes.NodeEdit.{NodeEdit}
use Rattle.np_steps.specs.Lower.{Handle, InUse, IsNode, JobId, NodeEntry, NodeRecord, Op, SemId, delete, freed, freed_from, has_handle, in_use, is_request}

-- the node, edited
abbrev pub edited_entry : NodeEdit → NodeEntry → NodeEntry
edited_entry (NodeEdit.Free r) = freed_from r
edited_entry (NodeEdit.TakeOver tick) = in_use tick

-- the record, edited
abbrev pub edited_record : NodeEdit → NodeRecord → NodeRecord
edited_record (NodeEdit.Free r) k = if is_request r k.allocated_to then freed k else k
edited_record (NodeEdit.TakeOver tick) k = record k { since = tick; state = InUse }

-- a record that can be spelled can be spelled when it is edited
abbrev pub KeepsNodes : NodeEdit → Type 0
KeepsNodes what = (e : NodeEntry) → IsNode e.kept → IsNode (edited_entry what e).kept

-- the handles that go when a job gives them back, each read from the state before

-- the job's handle of the semaphore goes, if it has one (own)
abbrev pub released : JobId → SemId → List (List JobId) → List Op
released j x handles = if has_handle j handles x then delete (Handle x j) ∷ [] else []

-- so of each of the semaphores
abbrev pub each_released : JobId → List SemId → List (List JobId) → List Op
each_released j [] handles = []
each_released j (x ∷ semaphores) handles = released j x handles ++ each_released j semaphores handles
