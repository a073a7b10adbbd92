use Rattle.np_session.proofs.Prelude.{Mute, after_mute, ap, arith, is_live, known_of, length, length-set, life_of, refl, set, sym, true, vec_capacity, ◌-◌, ◌∙◌, ◌≡◌}
use Rattle.np_session.proofs.NumbersLemmas.{HasPlace-passes, known_of-mute, numbers-mute}
use Rattle.np_session.proofs.sessions.Sessions.mute.Goals as goal

pub invariant_of-self : goal.invariant_of-self
invariant_of-self c =
    let live : is_live (life_of c.self.inside.lives.items c.args.id) ≡ true = cc in
    let there = HasPlace-passes is_live refl c.self.inside.lives.items c.args.id live in
    let long = length-set c.self.inside.lives.items (c.args.id - 1) Mute in
    (omega (arith, c.self.invariant.0), c.self.invariant.1 ∙ sym (ap length (numbers-mute 1 c.self.inside.lives.items (c.args.id - 1) there.passes)))

pub returns-clause-yes : goal.returns-clause-yes
returns-clause-yes c =
    let live : is_live (life_of c.self.inside.lives.items c.args.id) ≡ true = cc in
    ap (λ n. known_of (set c.self.inside.lives.items (c.args.id - 1) Mute) (vec_capacity c.self.inside.lives - n)) (length-set c.self.inside.lives.items (c.args.id - 1) Mute)
    ∙ known_of-mute c.self.inside.lives.items _ c.args.id live
    ∙ ap (λ known. after_mute known c.args.id) c.self.view_is
