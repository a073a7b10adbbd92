use Rattle.np_config_read.proofs.Prelude.{bytes_eq, position-map, sym, ◌∙◌}
use Rattle.np_config_read.proofs.faults.pool_place.Goals as goal

pub returns : goal.returns
returns c = c.place.ensures.place ∙ sym (position-map (bytes_eq c.args.name.now) (λ n. n.text) c.args.roles.now.pools)
