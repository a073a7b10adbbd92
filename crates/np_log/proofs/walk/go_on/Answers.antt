use Rattle.np_log.proofs.Prelude.{ap, arith, err_from_is_err_and, go_on, length, sym, walk_view, ℕ, ◌∙◌, ◌∷◌}
use Rattle.np_log.proofs.Walks.{fails_past, gate-open, gate-shut, go_on-closed, go_on-none, go_on-open, go_on-short, shorter}
use Rattle.np_log.proofs.walk.go_on.Goals as goal

pub returns-in_default-clause-walks : goal.returns-in_default-clause-walks
returns-in_default-clause-walks c =
    c.records.invariant.same ∙ ap (go_on (walk_view c.records.walk)) c.in_default.ensures.none ∙ go_on-none (walk_view c.records.walk)

pub returns-then-not-is_open-clause-walks : goal.returns-then-not-is_open-clause-walks
returns-then-not-is_open-clause-walks c =
    c.records.invariant.same ∙ ap (go_on (walk_view c.records.walk)) c.in-Some.ensures.found ∙ go_on-closed (walk_view c.records.walk) c.in-Some.gate c.in-Some.body.now (gate-shut c.in-Some.gate c.is_open.result c.is_open.ensures c.if-not-is_open.true)

pub returns-in_default-record_in-clause-walks : goal.returns-in_default-record_in-clause-walks
returns-in_default-record_in-clause-walks c =
    let open_gate = gate-open c.in-Some.gate c.is_open.result c.is_open.ensures c.if-not-is_open.false in
    c.records.invariant.same ∙ ap (go_on (walk_view c.records.walk)) (c.in-Some.ensures.found ∙ ap (λ (g : ℕ). g ∷ c.in-Some.body.now) open_gate)
    ∙ go_on-short (walk_view c.records.walk) c.in-Some.body.now (sym c.in_default-record_in.ensures.parts)

pub returns-in_err-go_past-clause-walks : goal.returns-in_err-go_past-clause-walks
returns-in_err-go_past-clause-walks c =
    let open_gate = gate-open c.in-Some.gate c.is_open.result c.is_open.ensures c.if-not-is_open.false in
    let here = c.records.invariant.same ∙ ap (go_on (walk_view c.records.walk)) (c.in-Some.ensures.found ∙ ap (λ (g : ℕ). g ∷ c.in-Some.body.now) open_gate) in
    let p = err_from_is_err_and c.from_residual.result c.from_residual.ensures.1 in
    rw (p.1, p.2) (fails_past c.in_err-go_past.field-0.0 (walk_view c.records.walk) c.in-Some.body.now c.in-Some-record_in.payload.now c.in-Some-record_in.more.now (go_on (walk_view c.args.start) c.args.bytes.now) (sym c.in-Some-record_in.ensures.parts) here c.in_err-go_past.ensures.err)

pub records-smaller : goal.records-smaller
records-smaller c =
    omega (arith, ap length c.in-Some.ensures.found, shorter c.in-Some.body.now c.in-Some-record_in.payload.now c.in-Some-record_in.more.now (sym c.in-Some-record_in.ensures.parts))

pub records-preserved : goal.records-preserved
records-preserved c =
    let open_gate = gate-open c.in-Some.gate c.is_open.result c.is_open.ensures c.if-not-is_open.false in
    let here = c.records.invariant.same ∙ ap (go_on (walk_view c.records.walk)) (c.in-Some.ensures.found ∙ ap (λ (g : ℕ). g ∷ c.in-Some.body.now) open_gate) in
    record {
      same = here ∙ go_on-open (walk_view c.records.walk) (walk_view c.go_past.new.walk) c.in-Some.body.now c.in-Some-record_in.payload.now c.in-Some-record_in.more.now (sym c.in-Some-record_in.ensures.parts) c.in_ok-go_past.ensures.ok;
      near = c.in_ok-go_past.ensures.near;
    }
