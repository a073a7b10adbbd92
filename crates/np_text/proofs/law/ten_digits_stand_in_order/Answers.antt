use Rattle.np_text.proofs.OrderLemmas.{slice_cmp-ten}
use Rattle.np_text.proofs.law.ten_digits_stand_in_order.Goals as goal

pub returns : goal.returns
returns c = slice_cmp-ten
