use Rattle.np_look.proofs.Prelude.{add-one, is_spare, node_seen, node_view, sym, ◌∙◌}
use Rattle.np_look.proofs.Looks.{any_later, spare-seen}
use Rattle.np_look.proofs.scan.ScanLook.has_spare.Goals as goal

pub loop-at-preserved : goal.loop-at-preserved
loop-at-preserved g c =
    rw add-one (sym (any_later (λ v. is_spare c.args.pool c.args.label (node_seen v)) node_view (is_spare c.args.pool c.args.label) (spare-seen c.args.pool c.args.label) (g.R.Rows.state c.args.self.now.rows.now).nodes c.loop-at.at c.in-Some.view (sym c.in-Some.ensures) (cc)) ∙ c.loop-at.invariant)
