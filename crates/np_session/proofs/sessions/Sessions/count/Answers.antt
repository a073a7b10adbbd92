use Rattle.np_session.proofs.Prelude.{IsKnown, Known, length, subst, vec_capacity, ◌-◌}
use Rattle.np_session.proofs.NumbersLemmas.{IsKnown-known_of}
use Rattle.np_session.proofs.sessions.Sessions.count.Goals as goal

pub returns-clause-known : goal.returns-clause-known
returns-clause-known c =
    subst (λ (known : Known). IsKnown known) c.self.view_is (IsKnown-known_of c.self.inside.lives.items (vec_capacity c.self.inside.lives - length c.self.inside.lives.items))
