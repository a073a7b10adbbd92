use Rattle.np_causes.proofs.Prelude.{Option, RequestEntry, RequestView, Some, Thing, ap, if_pending_of, refl, request_seen, request_view, sym, ◌∙◌}
use Rattle.np_causes.proofs.Places.{seen_at}
use Rattle.np_causes.proofs.names.request_of_tenant.Goals as goal

pub returns-in-Some : goal.returns-in-Some
returns-in-Some g c =
    ap (λ (o : Option Thing). Some o) (rw c.config.ensures at c.if_pending_of.ensures)
    ∙ sym (seen_at request_view (if_pending_of (g.R.Rows.site c.args.rows.now) c.args.tenant)
    (λ (v : RequestView). if_pending_of (g.R.Rows.site c.args.rows.now) c.args.tenant (request_seen v)) (λ (e : RequestEntry). refl)
    (g.R.Rows.state c.args.rows.now).requests c.args.at (Some c.in-Some.view) c.in-Some.ensures)
