use Rattle.np_json.proofs.Prelude.{bytes_eq, ◌∙◌}
use Rattle.np_json.proofs.Lists.{list_any-same}
use Rattle.np_json.proofs.named.Table.has.Goals as goal

pub returns : goal.returns
returns g c = c.contains.ensures ∙ list_any-same (bytes_eq c.args.name.now) (λ k. k.items) g.T.Named.name _ _ _ c.self.invariant.0 c.self.view_is
