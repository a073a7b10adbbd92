use Rattle.np_jobs.proofs.Prelude.{false, takes_part, ◌≡◌}
use Rattle.np_jobs.proofs.Settles.{outside-idle}
use Rattle.np_jobs.proofs.choice.choose.Goals as goal

pub returns-then-not-takes_part : goal.returns-then-not-takes_part
returns-then-not-takes_part g c =
    let outside : takes_part (g.L.Look.site c.args.look.now) c.args.role ≡ false = cc in
    outside-idle (g.L.Look.site c.args.look.now) (g.L.Look.state c.args.look.now) c.args.role c.requires.reached outside
