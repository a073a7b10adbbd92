use Rattle.np_launch.proofs.Prelude.{NodeId, Option, ap, is_some, sym, ◌∙◌}
use Rattle.np_launch.proofs.Finds.{may-take}
use Rattle.np_launch.proofs.computed.may_take_ready.Goals as goal

pub returns : goal.returns
returns g c =
    c.is_some.ensures
    ∙ ap (λ (o : Option NodeId). is_some o) c.first_takable.ensures
    ∙ sym (may-take (g.L.Look.site c.args.look.now) (g.L.Look.state c.args.look.now) c.args.session c.args.request c.requires.reached)
