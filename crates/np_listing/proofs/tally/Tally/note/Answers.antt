use Rattle.np_listing.proofs.Prelude.{ap, noted, ◌∙◌}
use Rattle.np_listing.proofs.Counting.{noted-counted}
use Rattle.np_listing.proofs.tally.Tally.note.Goals as goal

pub returns : goal.returns
returns g c = λ journal runs before.
    c.take_in.ensures
    ∙ ap (noted (g.L.Look.site c.args.look.now) (g.L.Look.state c.args.look.now) c.args.entry.now) before
    ∙ noted-counted (g.L.Look.site c.args.look.now) journal c.args.entry.now (g.L.Look.state c.args.look.now) runs
