use Rattle.np_explain_lines.proofs.Way.{begun}
use Rattle.np_explain_lines.proofs.walk.chains.Goals as goal

pub tell_all-requires-clause-way : goal.tell_all-requires-clause-way
tell_all-requires-clause-way g c =
    rw c.new-links.ensures.items
    (begun (g.L.Look.site c.args.look.now) (g.L.Look.state c.args.look.now) c.in_ok-pending.pending.items (rw c.rows.ensures.state at c.in_ok-pending.ensures.all) (rw c.rows.ensures.state at c.in_ok-pending.ensures.alone))
