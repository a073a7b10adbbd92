use Rattle.np_session.proofs.Prelude.{Over, after_end, ap, arith, is_live, known_of, length-set, life_of, refl, set, true, vec_capacity, ◌-◌, ◌∙◌, ◌≡◌}
use Rattle.np_session.proofs.NumbersLemmas.{HasPlace-passes, known_of-over, length-over}
use Rattle.np_session.proofs.sessions.Sessions.end.Goals as goal

pub overflow_sub-self : goal.overflow_sub-self
overflow_sub-self c =
    let live : is_live (life_of c.self.inside.lives.items c.args.id) ≡ true = cc in
    let there = HasPlace-passes is_live refl c.self.inside.lives.items c.args.id live in
    omega (arith, length-over is_live refl 1 c.self.inside.lives.items (c.args.id - 1) there.passes, c.self.invariant.1)

pub invariant_of-self : goal.invariant_of-self
invariant_of-self c =
    let live : is_live (life_of c.self.inside.lives.items c.args.id) ≡ true = cc in
    let there = HasPlace-passes is_live refl c.self.inside.lives.items c.args.id live in
    let fewer = length-over is_live refl 1 c.self.inside.lives.items (c.args.id - 1) there.passes in
    let long = length-set c.self.inside.lives.items (c.args.id - 1) Over in
    (omega (arith, c.self.invariant.0), omega (arith, c.self.invariant.1))

pub returns-clause-yes : goal.returns-clause-yes
returns-clause-yes c =
    let live : is_live (life_of c.self.inside.lives.items c.args.id) ≡ true = cc in
    ap (λ n. known_of (set c.self.inside.lives.items (c.args.id - 1) Over) (vec_capacity c.self.inside.lives - n)) (length-set c.self.inside.lives.items (c.args.id - 1) Over)
    ∙ known_of-over c.self.inside.lives.items _ c.args.id live ∙ ap (λ known. after_end known c.args.id) c.self.view_is
