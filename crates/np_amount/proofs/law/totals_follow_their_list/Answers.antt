use Rattle.np_amount.proofs.Sums.{total-append, total_push, total-remove, total-insert, total-set, total-at_most}
use Rattle.np_amount.proofs.law.totals_follow_their_list.Goals as goal

pub returns-clause-append : goal.returns-clause-append
returns-clause-append c = total-append

pub returns-clause-push : goal.returns-clause-push
returns-clause-push c = total_push

pub returns-clause-remove : goal.returns-clause-remove
returns-clause-remove c = total-remove

pub returns-clause-insert : goal.returns-clause-insert
returns-clause-insert c = total-insert

pub returns-clause-replace : goal.returns-clause-replace
returns-clause-replace c = total-set

pub returns-clause-bound : goal.returns-clause-bound
returns-clause-bound c = total-at_most
