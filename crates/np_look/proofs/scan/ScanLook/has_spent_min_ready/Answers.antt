use Rattle.np_look.proofs.Prelude.{add-one, is_spent_min_ready, refl, request_seen, request_view, sym, ◌∙◌}
use Rattle.np_look.proofs.Looks.{any_later}
use Rattle.np_look.proofs.scan.ScanLook.has_spent_min_ready.Goals as goal

pub loop-at-preserved : goal.loop-at-preserved
loop-at-preserved g c =
    rw add-one (sym (any_later (λ v. is_spent_min_ready c.args.pool c.args.label (request_seen v)) request_view (is_spent_min_ready c.args.pool c.args.label) (λ e. refl) (g.R.Rows.state c.args.self.now.rows.now).requests c.loop-at.at c.in-Some.view (sym c.in-Some.ensures) (cc)) ∙ c.loop-at.invariant)
