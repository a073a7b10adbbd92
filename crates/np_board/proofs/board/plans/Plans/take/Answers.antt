use Rattle.np_board.proofs.Prelude.{List, None, Option, Outstanding, Some, ap, arith, change_at-past, change_at-set, length, plan_in, plan_of, slice_get, slice_get-get_or, slice_set, subst, sym, with_plan, ◌<◌, ◌∙◌, ◌≡◌}
use Rattle.np_board.proofs.board.plans.Plans.take.Goals as goal

pub returns-then-at-len-clause-rest : goal.returns-then-at-len-clause-rest
returns-then-at-len-clause-rest c =
    subst (λ (plans : List (Option Outstanding)). plans ≡ with_plan c.args.pool None plans) c.self.view_is
    (sym (change_at-past c.args.pool.0 (λ (_ : Option Outstanding). None) c.self.inside.places.items (omega (arith, c.len.ensures, c.if-at-len.true))))

pub returns-clause-plan : goal.returns-clause-plan
returns-clause-plan c =
    let within : c.args.pool.0 < length c.self.inside.places.items = omega (arith, c.len.ensures, c.if-at-len.false) in
    let there : slice_get c.self.inside.places.items c.args.pool.0 ≡ Some c.index_mut-place.result.now =
    slice_get-get_or c.self.inside.places.items c.args.pool.0 c.index_mut-place.result.now within ∙ ap (λ (x : Option Outstanding). Some x) (sym c.index_mut-place.ensures.value) in
    subst (λ (plans : List (Option Outstanding)). c.take.result ≡ plan_of c.args.pool plans) c.self.view_is (c.take.ensures.value ∙ sym (ap plan_in there))

pub returns-clause-rest : goal.returns-clause-rest
returns-clause-rest c =
    let within : c.args.pool.0 < length c.self.inside.places.items = omega (arith, c.len.ensures, c.if-at-len.false) in
    subst (λ (plans : List (Option Outstanding)). slice_set c.self.inside.places.items c.args.pool.0 c.take.new.self ≡ with_plan c.args.pool None plans) c.self.view_is
    (ap (λ (x : Option Outstanding). slice_set c.self.inside.places.items c.args.pool.0 x) c.take.ensures.after
    ∙ sym (change_at-set c.args.pool.0 (λ (_ : Option Outstanding). None) c.self.inside.places.items None within))
