use Rattle.np_look.proofs.Prelude.{add-one, sym, ◌∙◌}
use Rattle.np_look.proofs.Looks.{mute-here, mute-later, session-there}
use Rattle.np_look.proofs.scan.ScanLook.first_mute.Goals as goal

pub returns-then-is_mute : goal.returns-then-is_mute
returns-then-is_mute g c =
    rw add-one (sym (mute-here (g.R.Rows.state c.args.self.now.rows.now).sessions c.loop-at.at c.in-Some.facts (session-there (g.R.Rows.state c.args.self.now.rows.now) c.loop-at.at c.in-Some.facts (sym c.in-Some.ensures)) (cc)) ∙ c.loop-at.invariant)

pub loop-at-preserved : goal.loop-at-preserved
loop-at-preserved g c =
    rw add-one (sym (mute-later (g.R.Rows.state c.args.self.now.rows.now).sessions c.loop-at.at c.in-Some.facts (session-there (g.R.Rows.state c.args.self.now.rows.now) c.loop-at.at c.in-Some.facts (sym c.in-Some.ensures)) (cc)) ∙ c.loop-at.invariant)
