use Rattle.np_session.proofs.Prelude.{Live, after_begin, ap, arith, is_live, known_of, length, length_push, vec_capacity, with_spare, [], ◌++◌, ◌-◌, ◌∙◌, ◌∷◌}
use Rattle.np_session.proofs.NumbersLemmas.{known_of-push, length-numbers, length-push_live}
use Rattle.np_session.proofs.sessions.Sessions.begin.Goals as goal

pub overflow_add-self : goal.overflow_add-self
overflow_add-self c = omega (arith, length-numbers is_live 1 c.self.inside.lives.items, c.self.invariant.1, c.self.inside.lives.ok.0)

pub invariant_of-self-2 : goal.invariant_of-self-2
invariant_of-self-2 c =
    let items = c.in_ok-push.ensures.items ∙ ap (λ lives. lives ++ Live ∷ []) c.in_ok-reserve.ensures.items in
    rw items (
      omega (arith, length_push c.self.inside.lives.items Live, c.self.invariant.0, c.self.inside.lives.ok.0),
      omega (arith, length-push_live c.self.inside.lives.items, c.self.invariant.1),
    )

pub returns-clause-ok : goal.returns-clause-ok
returns-clause-ok c =
    let items = c.in_ok-push.ensures.items ∙ ap (λ lives. lives ++ Live ∷ []) c.in_ok-reserve.ensures.items in
    let spare = vec_capacity c.push.new.self - length c.push.new.self.items in
    ap (λ lives. known_of lives spare) items
    ∙ known_of-push c.self.inside.lives.items (vec_capacity c.self.inside.lives - length c.self.inside.lives.items) spare
    ∙ ap (λ known. with_spare (after_begin known) spare) c.self.view_is
