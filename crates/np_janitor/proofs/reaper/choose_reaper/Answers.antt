use Rattle.np_janitor.proofs.Prelude.{sym}
use Rattle.np_janitor.proofs.Strikes.{mute-useful, strikes-choose}
use Rattle.np_janitor.proofs.reaper.choose_reaper.Goals as goal

pub returns-in-Some : goal.returns-in-Some
returns-in-Some g c = mute-useful (g.L.Look.site c.args.look.now) (g.L.Look.state c.args.look.now) c.in-Some.session (sym c.in-Some.ensures)

pub returns-in-None : goal.returns-in-None
returns-in-None g c =
    strikes-choose (g.L.Look.site c.args.look.now) (g.L.Look.state c.args.look.now) (sym c.in-None.ensures) c.first_strike.result c.first_strike.ensures
