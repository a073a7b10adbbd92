use Rattle.np_explain.proofs.Prelude.{false, is_open, sym, true, ◌≡◌}
use Rattle.np_explain.proofs.Open.{any-here, any-later}
use Rattle.np_explain.proofs.status.has_open.Goals as goal

pub returns-then-is_open : goal.returns-then-is_open
returns-then-is_open g c =
    let is : is_open c.in-Some.kept ≡ true = cc in
    any-here is_open (g.R.Rows.state c.args.rows.now).jobs c.loop-at.at c.in-Some.kept _ (sym c.in-Some.ensures) c.loop-at.invariant is

pub loop-at-preserved : goal.loop-at-preserved
loop-at-preserved g c =
    let is : is_open c.in-Some.kept ≡ false = cc in
    any-later is_open (g.R.Rows.state c.args.rows.now).jobs c.loop-at.at c.in-Some.kept _ (sym c.in-Some.ensures) c.loop-at.invariant is
