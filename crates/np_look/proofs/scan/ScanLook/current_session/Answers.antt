use Rattle.np_look.proofs.Prelude.{arith, sym}
use Rattle.np_look.proofs.Looks.{session-at, speaker-here, speaker-not}
use Rattle.np_look.proofs.scan.ScanLook.current_session.Goals as goal

pub returns-then-speaks_for : goal.returns-then-speaks_for
returns-then-speaks_for g c =
    sym (speaker-here c.args.role (g.R.Rows.state c.args.self.now.rows.now).sessions c.loop-left.left c.in-Some.facts c.loop-left-test.true (session-at (g.R.Rows.state c.args.self.now.rows.now) c.loop-left.left c.in-Some.facts (sym c.in-Some.ensures)) (sym c.if-speaks_for.ensures) c.loop-left.invariant.none)

pub loop-left-preserved : goal.loop-left-preserved
loop-left-preserved g c =
    record {
      within = omega (arith, c.loop-left.invariant.within);
      none = speaker-not c.args.role (g.R.Rows.state c.args.self.now.rows.now).sessions c.loop-left.left c.in-Some.facts c.loop-left-test.true (session-at (g.R.Rows.state c.args.self.now.rows.now) c.loop-left.left c.in-Some.facts (sym c.in-Some.ensures)) (sym c.if-speaks_for.ensures) c.loop-left.invariant.none;
    }
