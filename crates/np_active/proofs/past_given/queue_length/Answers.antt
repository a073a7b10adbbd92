use Rattle.np_active.proofs.Prelude.{arith, length, node_queue, past-end, queue-fits, slice_get_within, sym, ◌<◌, ◌≡◌, ◌≤◌}
use Rattle.np_active.proofs.past_given.queue_length.Goals as goal

pub overflow_add-count : goal.overflow_add-count
overflow_add-count g c =
    let within : c.loop-count.count < length (node_queue c.args.node (g.R.Rows.state c.args.rows.now).nodes) = slice_get_within _ c.loop-count.count c.in-Some.field-0 (sym c.in-Some.ensures) in
    omega (arith, within, queue-fits (g.R.Rows.site c.args.rows.now) (g.R.Rows.state c.args.rows.now) c.args.node c.requires)

pub loop-count-smaller : goal.loop-count-smaller
loop-count-smaller g c =
    let within : c.loop-count.count < length (node_queue c.args.node (g.R.Rows.state c.args.rows.now).nodes) = slice_get_within _ c.loop-count.count c.in-Some.field-0 (sym c.in-Some.ensures) in
    omega (arith, within)

pub loop-count-preserved : goal.loop-count-preserved
loop-count-preserved g c =
    let within : c.loop-count.count < length (node_queue c.args.node (g.R.Rows.state c.args.rows.now).nodes) = slice_get_within _ c.loop-count.count c.in-Some.field-0 (sym c.in-Some.ensures) in
    omega (arith, within)

pub returns : goal.returns
returns g c =
    let past : length (node_queue c.args.node (g.R.Rows.state c.args.rows.now).nodes) ≤ c.loop-count.count = past-end _ c.loop-count.count (sym c.in_default.ensures) in
    let all : c.loop-count.count ≡ length (node_queue c.args.node (g.R.Rows.state c.args.rows.now).nodes) = omega (arith, past, c.loop-count.invariant) in
    record {
      count = all;
      few = omega (arith, all, queue-fits (g.R.Rows.site c.args.rows.now) (g.R.Rows.state c.args.rows.now) c.args.node c.requires);
    }
