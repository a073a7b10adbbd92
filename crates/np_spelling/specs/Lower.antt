-- What the definitions take from the crates below, passed on from one place. Declares nothing.
pub use Rattle.np_record.specs.declared.record.Declined.{Declined}
pub use Rattle.np_record.specs.declared.record.JobRecord.{JobRecord}
pub use Rattle.np_record.specs.declared.record.Marked.{Marked}
pub use Rattle.np_record.specs.declared.record.NodeRecord.{NodeRecord}
pub use Rattle.np_record.specs.declared.record.RequestRecord.{RequestRecord}
pub use Rattle.np_record.specs.declared.record.RoleRecord.{RoleRecord}
pub use Rattle.np_record.specs.declared.record.SessionRecord.{SessionRecord}
pub use Rattle.np_text.specs.Request.{HasText, request_text_of}
pub use Rattle.np_text.specs.Word.{ending_word, node_state_word, phase_word, reason_text_of, request_state_word, role_kind_word}
pub use Rattle.np_text.specs.declared.id.JobId.{JobId}
pub use Rattle.np_text.specs.declared.id.LabelId.{LabelId}
pub use Rattle.np_text.specs.declared.id.NodeId.{NodeId}
pub use Rattle.np_text.specs.declared.id.PoolId.{PoolId}
pub use Rattle.np_text.specs.declared.id.RequestId.{RequestId}
pub use Rattle.np_text.specs.declared.id.Role.{Role}
pub use Rattle.np_text.specs.declared.id.TenantId.{TenantId}
pub use Rattle.np_text.specs.declared.limit.TheConstants.{JOB_LABELS, POOLS}
pub use Rattle.np_text.specs.declared.word.Ending.{Ending}
pub use Rattle.np_text.specs.declared.word.NodeState.{NodeState}
pub use Rattle.np_text.specs.declared.word.Phase.{Phase}
pub use Rattle.np_text.specs.declared.word.Reason.{Reason}
pub use Rattle.np_text.specs.declared.word.RequestState.{RequestState}
pub use Rattle.np_text.specs.declared.word.RoleKind.{RoleKind}
