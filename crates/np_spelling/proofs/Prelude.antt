-- The names from elsewhere that the proofs cite, passed on from one place. Declares nothing.
pub use Rattle.np_spelling.specs.Lower.{Declined, Ending, HasText, JobId, JobRecord, LabelId, Marked, NodeId, NodeRecord, NodeState, Phase, PoolId, Reason, RequestId, RequestRecord, RequestState, Role, RoleKind, RoleRecord, SessionRecord, TenantId, ending_word, node_state_word, phase_word, reason_text_of, request_state_word, role_kind_word}
pub use Rattle.np_spelling.specs.Reading.{Reader, after, answer, begins, close, ending_by, first_byte, flag_by, fork, gives, job_end_in, node_state_by, nonzero, priority_limits, request_state_in, role_kind_by, role_of, sequence_limits, with_front, ◌>>=◌}
unfoldable pub use Rattle.np_spelling.specs.Reading.{asked_end_in, chosen, declined_in, digits, fixed, job_front_in, job_in, label_in, lead, list_in, marked_in, no_end_in, node_age_in, node_front_in, node_head_in, node_id_in, node_in, node_place_in, node_server_in, node_state_in, node_tenant_in, number, numbered, open_phase_in, other_state_in, over_end_in, phase_in, priority_in, reason_in, request_in, request_job_in, request_pinned_in, request_pool_in, request_record_in, rest_in, role_in, role_name_in, served_state_in, session_in, using_end_in}
pub use Rattle.np_spelling.specs.Spelling.{Begins, EndsIn, HasParts, IsAsked, IsDeclined, IsLabel, IsMarked, IsNode, IsNodeId, IsReason, IsRequest, IsServed, IsSessionRole, SpellsJob, SpellsNode, SpellsRequest, SpellsRole, SpellsSession, StopsAt, declined_text, default_tenant, flag_text, job_end, job_front, job_text, joined, label_text, list_text, marked_text, node_front, node_id_text, node_server, node_tenant, node_text_to, request_job, request_pinned, request_pool, request_record_text, rest_text, role_name}
pub use Rattle.np_spelling.specs.declared.fault.BadRecord.{BadRecord}
pub use Rattle.np_text.proofs.NumberLemmas.{digit_value_digit}
pub use Rattle.np_text.proofs.OrderLemmas.{all_ascii_digits-ten}
pub use Rattle.np_text.proofs.RequestLemmas.{decimal_three}
pub use Rattle.np_text.proofs.SpellingLemmas.{digits_value-zeros, length-padded, model, padded-digits_value}
pub use Rattle.np_text.specs.Number.{padded}
unfoldable pub use Rattle.np_text.specs.Number.{ten_digits_of}
unfoldable pub use Rattle.np_text.specs.Request.{request_text_of}
pub use Rattle.std.proofs.Common.{Bool, Err, List, None, Ok, Option, Some, ap, append_assoc, arith, false, get_or, inl, inr, length, length-append, refl, subst, suc, sym, take, true, zero, ℕ, [], ◌%◌, ◌&&◌, ◌*◌, ◌++◌, ◌+◌, ◌-◌, ◌/◌, ◌<◌, ◌^◌, ◌∙◌, ◌∷◌, ◌≡◌, ◌≢◌, ◌≤◌, ◌⊎◌}
pub use Rattle.std.proofs.lemmas.Bool.{and_parts, cases_eq, eq-eqb, eqb-true}
pub use Rattle.std.proofs.lemmas.Bool.Decides.{nat_tests}
pub use Rattle.std.proofs.lemmas.Fmt.{decimal-digits_value, decimal_digit, decimal_injective, decimal_nonempty, decimal_step, digits_decimal, digits_value-decimal, first_decimal, length-decimal-le}
pub use Rattle.std.proofs.lemmas.List.{append-nil, drop_all, drop_more, take_at}
pub use Rattle.std.specs.Bool.{OnTrue}
pub use Rattle.std.specs.Char.{digit_value, is_ascii_digit}
pub use Rattle.std.specs.Fmt.{decimal}
pub use Rattle.std.specs.List.{AllByRecursion}
pub use Rattle.std.specs.Option.{option_map}
pub use Rattle.std.specs.Prelude.{IfSome, IsTrue, codes, drop, if◌then◌else◌, nat_le, ◌==◌, ◌↔◌}
pub use Rattle.std.specs.Str.{all_ascii_digits}
pub use Rattle.std.specs.Str.Parse.{digits_value, digits_value_after}
