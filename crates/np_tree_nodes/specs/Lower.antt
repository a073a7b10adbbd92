-- What the definitions take from the crates below, passed on from one place. Declares nothing.
pub use Rattle.np_lists.specs.Change.{change_at, change_first, insert_before, remove_first}
pub use Rattle.np_lists.specs.Refusals.{found, need}
pub use Rattle.np_lists.specs.Rising.{FirstAt, IsSplit, NonePass, Rises}
pub use Rattle.np_path.specs.Grammar.{is_element, is_kept, is_path, is_slash, below, name_of, or_root, parent_of, root, slashed}
pub use Rattle.np_session.specs.Known.{is_in, without}
pub use Rattle.np_text.specs.Number.{number_of, ten_digits_of}
pub use Rattle.np_text.specs.Request.{request_of, request_text_of, sequence_of}
pub use Rattle.np_text.specs.declared.id.JobId.{JobId}
pub use Rattle.np_text.specs.declared.id.NodeId.{NodeId}
pub use Rattle.np_text.specs.declared.id.RequestId.{RequestId}
pub use Rattle.np_text.specs.declared.id.SessionId.{SessionId}
pub use Rattle.np_text.specs.declared.memory.NoMemory.{NoMemory}
