use Rattle.np_index.proofs.Prelude.{Group, ap, arith, count_by, ids_in, is_coming, is_free_ready, length, ◌∙◌, ◌≡◌, ◌≤◌}
use Rattle.np_index.proofs.Nodes.{few-nodes, few-requests, free-number, coming-number}
use Rattle.np_index.proofs.label.ready_count.Goals as goal

pub overflow_add-result : goal.overflow_add-result
overflow_add-result g c =
    let free : c.nodes_in-free.result ≤ 262144 = omega (arith, c.nodes_in-free.ensures, few-nodes (g.R.Rows.site c.args.rows.now) (g.R.Rows.state c.args.rows.now) c.args.classes.now c.requires.classes c.free_group.result, c.requires.fits.nodes) in
    let coming : c.requests_in-coming.result ≤ 262144 = omega (arith, c.requests_in-coming.ensures, few-requests (g.R.Rows.site c.args.rows.now) (g.R.Rows.state c.args.rows.now) c.args.classes.now c.requires.classes c.coming_group.result, c.requires.fits.requests) in
    omega (arith, free, coming)

pub overflow_cast-result : goal.overflow_cast-result
overflow_cast-result g c =
    let free : c.nodes_in-free.result ≤ 262144 = omega (arith, c.nodes_in-free.ensures, few-nodes (g.R.Rows.site c.args.rows.now) (g.R.Rows.state c.args.rows.now) c.args.classes.now c.requires.classes c.free_group.result, c.requires.fits.nodes) in
    let coming : c.requests_in-coming.result ≤ 262144 = omega (arith, c.requests_in-coming.ensures, few-requests (g.R.Rows.site c.args.rows.now) (g.R.Rows.state c.args.rows.now) c.args.classes.now c.requires.classes c.coming_group.result, c.requires.fits.requests) in
    omega (arith, free, coming)

pub returns : goal.returns
returns g c =
    let free : c.nodes_in-free.result ≡ count_by (is_free_ready c.args.label) (g.R.Rows.state c.args.rows.now).nodes =
    c.nodes_in-free.ensures ∙ ap (λ (x : Group). length (ids_in x c.args.classes.now.nodes)) c.free_group.ensures
    ∙ free-number (g.R.Rows.site c.args.rows.now) (g.R.Rows.state c.args.rows.now) c.args.classes.now c.requires.classes c.args.label in
    let coming : c.requests_in-coming.result ≡ count_by (is_coming c.args.label) (g.R.Rows.state c.args.rows.now).requests =
    c.requests_in-coming.ensures ∙ ap (λ (x : Group). length (ids_in x c.args.classes.now.requests)) c.coming_group.ensures
    ∙ coming-number (g.R.Rows.site c.args.rows.now) (g.R.Rows.state c.args.rows.now) c.args.classes.now c.requires.classes c.args.label in
    omega (arith, free, coming)
