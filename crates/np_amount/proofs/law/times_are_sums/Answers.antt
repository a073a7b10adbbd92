use Rattle.np_amount.proofs.Sums.{times-total, times_more, IsAtMost-times}
use Rattle.np_amount.proofs.law.times_are_sums.Goals as goal

pub returns : goal.returns
returns c = record { sum = times-total; more = times_more; most = IsAtMost-times }
