use Rattle.np_json.proofs.Prelude.{bytes_eq, ◌∙◌}
use Rattle.np_json.proofs.Lists.{position-same}
use Rattle.np_json.proofs.named.Table.place.Goals as goal

pub returns-clause-place : goal.returns-clause-place
returns-clause-place g c = c.in_ok-place.ensures.index ∙ position-same (bytes_eq c.args.name.now) (λ k. k.items) g.T.Named.name _ _ _ c.self.invariant.0 c.self.view_is

pub returns-in_err-place-clause-place : goal.returns-in_err-place-clause-place
returns-in_err-place-clause-place g c =
    c.from_residual.ensures ∙ c.in_err-place.ensures.index ∙ position-same (bytes_eq c.args.name.now) (λ k. k.items) g.T.Named.name _ _ _ c.self.invariant.0 c.self.view_is
