-- What the definitions take from the crates below, passed on from one place. Declares nothing.
pub use Rattle.np_text.specs.Lines.{is_line}
pub use Rattle.np_text.specs.Number.{number_of, ten_digits_of}
pub use Rattle.np_text.specs.Request.{HasText, request_of, request_text_of}
pub use Rattle.np_text.specs.Sections.{bar, behind}
pub use Rattle.np_text.specs.Word.{end_as_of, end_as_word, ending_of, ending_word, node_state_of, node_state_word, phase_of, phase_word, reason_kind_word, request_state_of, request_state_word, role_kind_word}
pub use Rattle.np_text.specs.declared.id.Role.{Role}
pub use Rattle.np_text.specs.declared.limit.TheConstants.{RELATIVE_PRIORITY}
pub use Rattle.np_text.specs.declared.word.EndAs.{EndAs}
pub use Rattle.np_text.specs.declared.word.Ending.{Ending}
pub use Rattle.np_text.specs.declared.word.NodeState.{NodeState}
pub use Rattle.np_text.specs.declared.word.Reason.{Reason}
pub use Rattle.np_text.specs.declared.word.ReasonKind.{ReasonKind}
pub use Rattle.np_text.specs.declared.word.RequestState.{RequestState}
pub use Rattle.np_text.specs.declared.word.RoleKind.{RoleKind}
