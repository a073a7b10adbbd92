use Rattle.np_launch.proofs.Prelude.{RequestEntry, RequestRecord, RequestView, add-one, any_found, any_later, false, has_failed_node, is_listed, is_pending_by, not, refl, request_view, sym, true, ◌&&◌, ◌∙◌, ◌≡◌}
use Rattle.np_launch.proofs.requests.has_pending_with.Goals as goal

pub returns-then-needs_launch : goal.returns-then-needs_launch
returns-then-needs_launch g c =
    let needs = λ (q : RequestRecord). is_pending_by c.args.pool q && is_listed c.args.node q && not (has_failed_node (g.R.Rows.state c.args.rows.now) q) in
    let passes : needs c.in-Some.view.kept ≡ true = cc in
    sym (any_found (λ (v : RequestView). needs v.kept) request_view (λ (e : RequestEntry). needs e.kept) (λ e. refl) (g.R.Rows.state c.args.rows.now).requests c.loop-at.at c.in-Some.view (sym c.in-Some.ensures) passes)
    ∙ c.loop-at.invariant

pub loop-at-preserved : goal.loop-at-preserved
loop-at-preserved g c =
    let needs = λ (q : RequestRecord). is_pending_by c.args.pool q && is_listed c.args.node q && not (has_failed_node (g.R.Rows.state c.args.rows.now) q) in
    let fails : needs c.in-Some.view.kept ≡ false = cc in
    rw add-one (sym (any_later (λ (v : RequestView). needs v.kept) request_view (λ (e : RequestEntry). needs e.kept) (λ e. refl) (g.R.Rows.state c.args.rows.now).requests c.loop-at.at c.in-Some.view (sym c.in-Some.ensures) fails) ∙ c.loop-at.invariant)
