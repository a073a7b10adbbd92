use Rattle.np_look.proofs.Prelude.{RequestView, add-one, is_unheld_pending, request_seen, request_view, sym, ◌∙◌}
use Rattle.np_look.proofs.Looks.{found_later, unheld-pending-seen}
use Rattle.np_look.proofs.scan.ScanLook.first_unheld_pending.Goals as goal

pub loop-at-preserved : goal.loop-at-preserved
loop-at-preserved g c =
    rw add-one (sym (found_later (λ (v : RequestView). is_unheld_pending c.args.pool (request_seen v)) request_view (is_unheld_pending c.args.pool) (unheld-pending-seen c.args.pool) (g.R.Rows.state c.args.self.now.rows.now).requests c.loop-at.at c.in_ok-view.view (sym c.in_ok-view.ensures) (cc)) ∙ c.loop-at.invariant)
