use Rattle.np_text.proofs.RequestLemmas.{request_of-text, request_of-spelled, request_text_of-injective}
use Rattle.np_text.proofs.law.a_request_has_one_spelling.Goals as goal

pub returns : goal.returns
returns c = record { reads_back = request_of-text; spelled = request_of-spelled; apart = request_text_of-injective }
