use Rattle.np_keeper.proofs.Prelude.{RequestId, ap, arith, option_map, sym, ◌∙◌}
use Rattle.np_keeper.proofs.Queued.{ten_none, ten_told}
use Rattle.np_keeper.proofs.names.read_ten.Goals as goal

pub returns-in_default : goal.returns-in_default
returns-in_default c = ten_none c.args.digits.now (λ is. omega (arith, is, c.in_default.len_below))

pub returns-in_default-2 : goal.returns-in_default-2
returns-in_default-2 c = ten_none c.args.digits.now (λ is. omega (arith, is, c.in_default.len_at_least))

pub returns-in_err-request : goal.returns-in_err-request
returns-in_err-request c =
    c.from_residual.ensures
    ∙ ap (option_map (λ (r : RequestId). r.seq)) (sym c.in_err-request.was)
    ∙ ten_told c.args.digits.now c.read_request.result (omega (arith, c.in-len10.len_at_least, c.in-len10.len_below)) c.read_request.ensures

pub returns : goal.returns
returns c =
    ap (option_map (λ (r : RequestId). r.seq)) (sym c.in_ok-request.was)
    ∙ ten_told c.args.digits.now c.read_request.result (omega (arith, c.in-len10.len_at_least, c.in-len10.len_below)) c.read_request.ensures
