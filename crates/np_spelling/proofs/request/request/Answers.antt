use Rattle.np_spelling.proofs.Prelude.{ap, refl, request_record_in, sym}
use Rattle.np_spelling.proofs.request.request.Goals as goal

pub returns-in_err-labels : goal.returns-in_err-labels
unfolding request_record_in
returns-in_err-labels c = rw (c.in_ok-lead.ensures, c.in_ok-declined.ensures, c.in_ok-job.ensures, c.in_err-labels.ensures) (ap (λ o. (o, c.row-2.new.cursor)) (sym c.from_residual-in_err-labels.ensures))

pub returns-in_err-lead-2 : goal.returns-in_err-lead-2
unfolding request_record_in
returns-in_err-lead-2 c = rw (c.in_ok-lead.ensures, c.in_ok-declined.ensures, c.in_ok-job.ensures, c.in_ok-labels.ensures, c.in_err-lead-2.ensures) (ap (λ o. (o, c.lead-2.new.self)) (sym c.from_residual-in_err-lead-2.ensures))

pub returns-in_err-nodes : goal.returns-in_err-nodes
unfolding request_record_in
returns-in_err-nodes c = rw (c.in_ok-lead.ensures, c.in_ok-declined.ensures, c.in_ok-job.ensures, c.in_ok-labels.ensures, c.in_ok-lead-2.ensures, c.in_err-nodes.ensures) (ap (λ o. (o, c.row-3.new.cursor)) (sym c.from_residual-in_err-nodes.ensures))

pub returns-in_err-pinned : goal.returns-in_err-pinned
unfolding request_record_in
returns-in_err-pinned c = rw (c.in_ok-lead.ensures, c.in_ok-declined.ensures, c.in_ok-job.ensures, c.in_ok-labels.ensures, c.in_ok-lead-2.ensures, c.in_ok-nodes.ensures, c.in_err-pinned.ensures) (ap (λ o. (o, c.pinned.new.cursor)) (sym c.from_residual-in_err-pinned.ensures))

pub returns-in_err-pool : goal.returns-in_err-pool
unfolding request_record_in
returns-in_err-pool c = rw (c.in_ok-lead.ensures, c.in_ok-declined.ensures, c.in_ok-job.ensures, c.in_ok-labels.ensures, c.in_ok-lead-2.ensures, c.in_ok-nodes.ensures, c.in_ok-pinned.ensures, c.in_err-pool.ensures) (ap (λ o. (o, c.pool.new.cursor)) (sym c.from_residual-in_err-pool.ensures))

pub returns-in_err-relative_priority : goal.returns-in_err-relative_priority
unfolding request_record_in
returns-in_err-relative_priority c = rw (c.in_ok-lead.ensures, c.in_ok-declined.ensures, c.in_ok-job.ensures, c.in_ok-labels.ensures, c.in_ok-lead-2.ensures, c.in_ok-nodes.ensures, c.in_ok-pinned.ensures, c.in_ok-pool.ensures, c.in_err-relative_priority.ensures) (ap (λ o. (o, c.u32.new.self)) (sym c.from_residual-in_err-relative_priority.ensures))

pub returns-in_err-lead-3 : goal.returns-in_err-lead-3
unfolding request_record_in
returns-in_err-lead-3 c = rw (c.in_ok-lead.ensures, c.in_ok-declined.ensures, c.in_ok-job.ensures, c.in_ok-labels.ensures, c.in_ok-lead-2.ensures, c.in_ok-nodes.ensures, c.in_ok-pinned.ensures, c.in_ok-pool.ensures, c.in_ok-relative_priority.ensures, c.in_err-lead-3.ensures) (ap (λ o. (o, c.lead-3.new.self)) (sym c.from_residual-in_err-lead-3.ensures))

pub returns-in_err-state : goal.returns-in_err-state
unfolding request_record_in
returns-in_err-state c = rw (c.in_ok-lead.ensures, c.in_ok-declined.ensures, c.in_ok-job.ensures, c.in_ok-labels.ensures, c.in_ok-lead-2.ensures, c.in_ok-nodes.ensures, c.in_ok-pinned.ensures, c.in_ok-pool.ensures, c.in_ok-relative_priority.ensures, c.in_ok-lead-3.ensures, c.in_err-state.ensures) (ap (λ o. (o, c.state.new.cursor)) (sym c.from_residual-in_err-state.ensures))

pub returns : goal.returns
unfolding request_record_in
returns c = rw (c.in_ok-lead.ensures, c.in_ok-declined.ensures, c.in_ok-job.ensures, c.in_ok-labels.ensures, c.in_ok-lead-2.ensures, c.in_ok-nodes.ensures, c.in_ok-pinned.ensures, c.in_ok-pool.ensures, c.in_ok-relative_priority.ensures, c.in_ok-lead-3.ensures, c.in_ok-state.ensures) refl
