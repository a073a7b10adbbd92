use Rattle.np_text.proofs.WordLemmas.{end_as_words, ending_words, node_state_words, phase_words, request_state_words, role_kind_words}
use Rattle.np_text.proofs.law.a_value_has_one_word.Goals as goal

pub returns : goal.returns
returns c = record { request_states = request_state_words; node_states = node_state_words; end_as = end_as_words; phases = phase_words; endings = ending_words; role_kinds = role_kind_words }
