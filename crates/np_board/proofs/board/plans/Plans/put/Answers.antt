use Rattle.np_board.proofs.Prelude.{List, None, Option, Outstanding, arith, change_at-past, change_at-set, length, slice_set, subst, sym, with_plan, ◌<◌, ◌≡◌}
use Rattle.np_board.proofs.board.plans.Plans.put.Goals as goal

pub returns-then-at-len : goal.returns-then-at-len
returns-then-at-len c =
    subst (λ (plans : List (Option Outstanding)). plans ≡ with_plan c.args.pool c.args.plan plans) c.self.view_is
    (sym (change_at-past c.args.pool.0 (λ (_ : Option Outstanding). c.args.plan) c.self.inside.places.items (omega (arith, c.len.ensures, c.if-at-len.true))))

pub returns : goal.returns
returns c =
    let within : c.args.pool.0 < length c.self.inside.places.items = omega (arith, c.len.ensures, c.if-at-len.false) in
    subst (λ (plans : List (Option Outstanding)). slice_set c.self.inside.places.items c.args.pool.0 c.args.plan ≡ with_plan c.args.pool c.args.plan plans) c.self.view_is
    (sym (change_at-set c.args.pool.0 (λ (_ : Option Outstanding). c.args.plan) c.self.inside.places.items None within))
