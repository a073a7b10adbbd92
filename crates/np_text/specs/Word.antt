-- The words of states, phases, endings, reasons and roles: one for each value.
use Rattle.std.specs.Prelude.{◌≡◌, ℕ, List, ◌++◌, codes, Option, Some}
use Rattle.std.specs.Fmt.{decimal}
use Rattle.std.specs.List.{find}
use Rattle.std.specs.Str.{bytes_eq}
use Rattle.np_text.specs.declared.word.EndAs.{EndAs}
use Rattle.np_text.specs.declared.word.Ending.{Ending}
use Rattle.np_text.specs.declared.word.NodeState.{NodeState}
use Rattle.np_text.specs.declared.word.Phase.{Phase}
use Rattle.np_text.specs.declared.word.Reason.{Reason}
use Rattle.np_text.specs.declared.word.ReasonKind.{ReasonKind}
use Rattle.np_text.specs.declared.word.RequestState.{RequestState}
use Rattle.np_text.specs.declared.word.RoleKind.{RoleKind}
use Rattle.np_text.specs.declared.word.TheConstants.EndAs.{ALL as ends}
use Rattle.np_text.specs.declared.word.TheConstants.Ending.{ALL as endings}
use Rattle.np_text.specs.declared.word.TheConstants.NodeState.{ALL as node_states}
use Rattle.np_text.specs.declared.word.TheConstants.Phase.{ALL as phases}
use Rattle.np_text.specs.declared.word.TheConstants.RequestState.{ALL as request_states}
use Rattle.np_text.specs.declared.word.TheConstants.RoleKind.{ALL as role_kinds}

-- the state of a node request (Nodepool developer guide)
abbrev pub request_state_word : RequestState → List ℕ
request_state_word RequestState.Requested = codes "requested"
request_state_word RequestState.Pending = codes "pending"
request_state_word RequestState.Fulfilled = codes "fulfilled"
request_state_word RequestState.Failed = codes "failed"

-- the state of a node (Nodepool developer guide)
abbrev pub node_state_word : NodeState → List ℕ
node_state_word NodeState.Building = codes "building"
node_state_word NodeState.Ready = codes "ready"
node_state_word NodeState.InUse = codes "in-use"
node_state_word NodeState.Used = codes "used"
node_state_word NodeState.Hold = codes "hold"
node_state_word NodeState.Deleting = codes "deleting"
node_state_word NodeState.Failed = codes "failed"

-- what a requester leaves a node as (Nodepool's states)
abbrev pub end_as_word : EndAs → List ℕ
end_as_word EndAs.Used = codes "used"
end_as_word EndAs.Hold = codes "hold"

-- how far a job has come (own)
abbrev pub phase_word : Phase → List ℕ
phase_word Phase.New = codes "new"
phase_word Phase.Asked = codes "asked"
phase_word Phase.Using = codes "using"
phase_word Phase.Over = codes "over"

-- how a job ended (own)
abbrev pub ending_word : Ending → List ℕ
ending_word Ending.Served = codes "served"
ending_word Ending.Lost = codes "lost"
ending_word Ending.Failed = codes "failed"
ending_word Ending.Withdrawn = codes "withdrawn"

-- the kind of reason for which a pool declines (own)
abbrev pub reason_kind_word : ReasonKind → List ℕ
reason_kind_word ReasonKind.NoLabel = codes "no-label"
reason_kind_word ReasonKind.NeverFits = codes "never-fits"
reason_kind_word ReasonKind.TenantNeverFits = codes "tenant-never-fits"
reason_kind_word ReasonKind.Spent = codes "spent"

-- the kind of role (own)
abbrev pub role_kind_word : RoleKind → List ℕ
role_kind_word RoleKind.Launcher = codes "launcher"
role_kind_word RoleKind.Janitor = codes "janitor"
role_kind_word RoleKind.Requester = codes "requester"

-- a reason in one word: the kind, and behind it the label or the node (own)
abbrev pub reason_text_of : Reason → List ℕ
reason_text_of (Reason.NoLabel l) = reason_kind_word ReasonKind.NoLabel ++ codes "-l" ++ decimal l.0
reason_text_of Reason.NeverFits = reason_kind_word ReasonKind.NeverFits
reason_text_of Reason.TenantNeverFits = reason_kind_word ReasonKind.TenantNeverFits
reason_text_of (Reason.Spent n) = reason_kind_word ReasonKind.Spent ++ codes "-n" ++ decimal n.0

-- ## The value of a word, if it is the word of one

abbrev pub request_state_of : List ℕ → Option RequestState
request_state_of text = find (λ state. bytes_eq text (request_state_word state)) request_states

abbrev pub node_state_of : List ℕ → Option NodeState
node_state_of text = find (λ state. bytes_eq text (node_state_word state)) node_states

abbrev pub end_as_of : List ℕ → Option EndAs
end_as_of text = find (λ end. bytes_eq text (end_as_word end)) ends

abbrev pub phase_of : List ℕ → Option Phase
phase_of text = find (λ phase. bytes_eq text (phase_word phase)) phases

abbrev pub ending_of : List ℕ → Option Ending
ending_of text = find (λ ending. bytes_eq text (ending_word ending)) endings

abbrev pub role_kind_of : List ℕ → Option RoleKind
role_kind_of text = find (λ kind. bytes_eq text (role_kind_word kind)) role_kinds

-- a word for each value, and a value for each such word
pub record AreWords {X : Type 0} (word : X → List ℕ) (read : List ℕ → Option X) : Type 0 where
  pub reads_back : (x : X) → read (word x) ≡ Some x
  pub spelled : (x : X) (text : List ℕ) → read text ≡ Some x → word x ≡ text
