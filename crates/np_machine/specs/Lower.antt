-- What the definitions take from the crates below, passed on from one place. Declares nothing.
pub use Rattle.np_amount.specs.Amounts.{IsAtMost, fits, minus, no_limit, nothing, plus, times, total}
pub use Rattle.np_amount.specs.declared.amount.Amount.{Amount}
pub use Rattle.np_amount.specs.declared.amount.Limit.{Limit}
pub use Rattle.np_config.specs.Configuration.{Configuration, tenant_of, IsJob, IsOffer, IsPool, IsPriority, IsSound, IsTaken, IsWanted, StandsByOwner}
pub use Rattle.np_config.specs.declared.row.Fault.{Fault}
pub use Rattle.np_config.specs.declared.row.FaultKind.{FaultKind}
pub use Rattle.np_config.specs.declared.row.Job.{Job}
pub use Rattle.np_config.specs.declared.row.Label.{Label}
pub use Rattle.np_config.specs.declared.row.Offer.{Offer}
pub use Rattle.np_config.specs.declared.row.Pool.{Pool}
pub use Rattle.np_config.specs.declared.row.Sem.{Sem}
pub use Rattle.np_config.specs.declared.row.Tenant.{Tenant}
pub use Rattle.np_event.specs.declared.entry.Entry.{Entry}
pub use Rattle.np_event.specs.declared.event.Event.{Event}
pub use Rattle.np_event.specs.declared.event.Outcome.{Outcome}
pub use Rattle.np_event.specs.declared.reply.Done.{Done}
pub use Rattle.np_event.specs.declared.reply.Found.{Found}
pub use Rattle.np_event.specs.declared.reply.Refusal.{Refusal}
pub use Rattle.np_event.specs.declared.reply.Reply.{Reply}
pub use Rattle.np_lists.specs.Change.{change_at, change_first, insert_before, remove_first}
pub use Rattle.np_lists.specs.EachAfter.{EachAfter}
pub use Rattle.np_lists.specs.Refusals.{found, need, vacant}
pub use Rattle.np_lists.specs.Rising.{NonePass, Rises}
pub use Rattle.np_record.specs.declared.record.Declined.{Declined}
pub use Rattle.np_record.specs.declared.record.JobRecord.{JobRecord}
pub use Rattle.np_record.specs.declared.record.Marked.{Marked}
pub use Rattle.np_record.specs.declared.record.NodeRecord.{NodeRecord}
pub use Rattle.np_record.specs.declared.record.RequestRecord.{RequestRecord}
pub use Rattle.np_record.specs.declared.record.RoleRecord.{RoleRecord}
pub use Rattle.np_record.specs.declared.record.SessionRecord.{SessionRecord}
pub use Rattle.np_text.specs.Lines.{is_line, line, lines_of}
pub use Rattle.np_text.specs.Number.{number_of, ten_digits_of}
pub use Rattle.np_text.specs.Request.{HasText, request_of, request_text_of, sequence_of}
pub use Rattle.np_text.specs.Sections.{bar}
pub use Rattle.np_text.specs.declared.id.JobId.{JobId}
pub use Rattle.np_text.specs.declared.id.LabelId.{LabelId}
pub use Rattle.np_text.specs.declared.id.NodeId.{NodeId}
pub use Rattle.np_text.specs.declared.id.PoolId.{PoolId}
pub use Rattle.np_text.specs.declared.id.RequestId.{RequestId}
pub use Rattle.np_text.specs.declared.id.RequesterId.{RequesterId}
pub use Rattle.np_text.specs.declared.id.Role.{Role}
pub use Rattle.np_text.specs.declared.id.Role.TheVariants.{Janitor, Launcher, Reaper, Requester}
pub use Rattle.np_text.specs.declared.id.SemId.{SemId}
pub use Rattle.np_text.specs.declared.id.SessionId.{SessionId}
pub use Rattle.np_text.specs.declared.id.TenantId.{TenantId}
pub use Rattle.np_text.specs.declared.limit.TheConstants.{REQUESTERS}
pub use Rattle.np_text.specs.declared.memory.NoMemory.{NoMemory}
pub use Rattle.np_text.specs.declared.word.EndAs.{EndAs}
pub use Rattle.np_text.specs.declared.word.Ending.{Ending}
pub use Rattle.np_text.specs.declared.word.NodeState.{NodeState}
pub use Rattle.np_text.specs.declared.word.Phase.{Phase}
pub use Rattle.np_text.specs.declared.word.Reason.{Reason}
pub use Rattle.np_text.specs.declared.word.Reason.TheVariants.{NeverFits, NoLabel, Spent, TenantNeverFits}
pub use Rattle.np_text.specs.declared.word.RequestState.{RequestState}
