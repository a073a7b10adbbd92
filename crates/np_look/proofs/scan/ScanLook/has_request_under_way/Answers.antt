use Rattle.np_look.proofs.Prelude.{RequestEntry, RequestView, add-one, is_under_way_by, refl, request_view, sym, ◌∙◌}
use Rattle.np_look.proofs.Looks.{any_later}
use Rattle.np_look.proofs.scan.ScanLook.has_request_under_way.Goals as goal

pub loop-at-preserved : goal.loop-at-preserved
loop-at-preserved g c =
    rw add-one (sym (any_later (λ (v : RequestView). is_under_way_by c.args.pool v.kept) request_view (λ (e : RequestEntry). is_under_way_by c.args.pool e.kept) (λ e. refl) (g.R.Rows.state c.args.self.now.rows.now).requests c.loop-at.at c.in-Some.view (sym c.in-Some.ensures) (cc)) ∙ c.loop-at.invariant)
