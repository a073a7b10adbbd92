use Rattle.np_look.proofs.Prelude.{add-one, ap, is_spare, node_seen, node_view, option_map, refl, sym, ◌∙◌}
use Rattle.np_look.proofs.Looks.{shown, passed_here, passed_later, passed_over, spare-seen}
use Rattle.np_look.proofs.scan.ScanLook.free_ready.Goals as goal

pub returns-then-left-eq0 : goal.returns-then-left-eq0
returns-then-left-eq0 g c =
    let here = passed_here (λ v. is_spare c.args.pool c.args.label (node_seen v)) node_view (is_spare c.args.pool c.args.label) (spare-seen c.args.pool c.args.label) (g.R.Rows.state c.args.self.now.rows.now).nodes c.loop-place.place c.in-Some.view (sym c.in-Some.ensures) (cc) in
    sym (shown node_view (λ v. v.id) _ c.in-Some.view (ap (option_map node_view) (sym c.loop-place.invariant ∙ rw c.if-left-eq0.true refl) ∙ here))

pub loop-place-preserved : goal.loop-place-preserved
loop-place-preserved g c =
    rw add-one (sym (passed_later (λ v. is_spare c.args.pool c.args.label (node_seen v)) node_view (is_spare c.args.pool c.args.label) (spare-seen c.args.pool c.args.label) (g.R.Rows.state c.args.self.now.rows.now).nodes c.loop-place.place c.in-Some.view c.loop-place.left (sym c.in-Some.ensures) (cc) c.if-left-eq0.false) ∙ c.loop-place.invariant)

pub loop-place-preserved-then-not-is_spare : goal.loop-place-preserved-then-not-is_spare
loop-place-preserved-then-not-is_spare g c =
    rw add-one (sym (passed_over (λ v. is_spare c.args.pool c.args.label (node_seen v)) node_view (is_spare c.args.pool c.args.label) (spare-seen c.args.pool c.args.label) (g.R.Rows.state c.args.self.now.rows.now).nodes c.loop-place.place c.in-Some.view c.loop-place.left (sym c.in-Some.ensures) (cc)) ∙ c.loop-place.invariant)
