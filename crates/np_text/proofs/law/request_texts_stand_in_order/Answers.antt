use Rattle.np_text.proofs.Prelude.{refl}
use Rattle.np_text.proofs.OrderLemmas.{slice_cmp-request_text}
use Rattle.np_text.proofs.law.request_texts_stand_in_order.Goals as goal

pub returns : goal.returns
returns c = record { texts = slice_cmp-request_text; own = λ a b. refl }
