use Rattle.np_tables.proofs.Prelude.{List, RequestId, ap, at_drop_all, drop, same_request, sym, ◌∙◌, ◌≡◌}
use Rattle.np_tables.proofs.TableLemmas.{each_left, requests-left}
use Rattle.np_tables.proofs.ends.leave_requests.Goals as goal

pub returns : goal.returns
returns c =
    let left_by = λ (ids : List RequestId). each_left same_request c.args.session ids c.loop-request.requests.rows in
    let all : left_by (drop c.loop-request.request-index c.args.ids.now) ≡ c.loop-request.requests.rows = at_drop_all left_by c.args.ids.now c.loop-request.request-index c.loop-request-test.false in
    sym all
    ∙ c.loop-request.invariant
    ∙ ap (λ (ids : List RequestId). each_left same_request c.args.session ids c.args.requests.now.rows) c.requires.ids
    ∙ requests-left c.args.session c.args.requests.now.rows c.requires.rise
