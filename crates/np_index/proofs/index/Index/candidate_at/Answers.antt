use Rattle.np_index.proofs.Prelude.{AreOpen, Rank, ap, arith, candidate_ranks, option_map, slice_get, subst, sym, ◌+◌, ◌-◌, ◌∙◌, ◌≡◌}
use Rattle.np_index.proofs.CandidateLemmas.{best-at, best-begins, best-next, candidate-rank, lines-fall, none-on}
use Rattle.np_index.proofs.index.Index.candidate_at.Goals.{else-loop-place-test, then-loop-place-test+in_default+in_ok-found+else-place-at}
use Rattle.np_index.proofs.index.Index.candidate_at.Goals as goal

pub loop-next-init : goal.loop-next-init
loop-next-init g c =
    let are : AreOpen _ _ c.self.inside.requested = subst (λ index. AreOpen (g.R.Rows.site c.args.rows.now) (g.R.Rows.state c.args.rows.now) index.requested) (sym c.self.view_is) c.requires.index.requested in
    best-begins _ _ c.args.pool _ are c.loop-place.after c.first_line-next.result c.first_line-next.ensures

pub loop-next-smaller : goal.loop-next-smaller
loop-next-smaller g c =
    let are : AreOpen _ _ c.self.inside.requested = subst (λ index. AreOpen (g.R.Rows.site c.args.rows.now) (g.R.Rows.state c.args.rows.now) index.requested) (sym c.self.view_is) c.requires.index.requested in
    lines-fall _ _ c.args.pool _ are c.in-Some.line c.loop-next.next c.line_after-next.result c.in-Some.is c.line_after-next.ensures (omega arith)

pub loop-next-preserved : goal.loop-next-preserved
loop-next-preserved g c =
    let are : AreOpen _ _ c.self.inside.requested = subst (λ index. AreOpen (g.R.Rows.site c.args.rows.now) (g.R.Rows.state c.args.rows.now) index.requested) (sym c.self.view_is) c.requires.index.requested in
    best-next _ _ c.args.pool _ are c.in-Some.line c.loop-next.next c.line_after-next.result c.in-Some.is c.line_after-next.ensures
    c.loop-place.after c.loop-next.best c.earlier_in_line-best.result c.earlier_in_line-best.ensures c.loop-next.invariant

pub returns-in_err-found : goal.returns-in_err-found
returns-in_err-found g c =
    let are : AreOpen _ _ c.self.inside.requested = subst (λ index. AreOpen (g.R.Rows.site c.args.rows.now) (g.R.Rows.state c.args.rows.now) index.requested) (sym c.self.view_is) c.requires.index.requested in
    let is : c.loop-next.best ≡ slice_get (candidate_ranks (g.R.Rows.site c.args.rows.now) (g.R.Rows.state c.args.rows.now) c.args.pool) c.loop-place._place =
    best-at _ _ c.args.pool _ are c.loop-place._place c.loop-place.after c.loop-next.best c.loop-next.next c.in_default.is c.loop-place.invariant c.loop-next.invariant in
    c.from_residual.ensures
    ∙ ap (option_map (λ (x : Rank). x.request)) (sym (none-on (candidate_ranks (g.R.Rows.site c.args.rows.now) (g.R.Rows.state c.args.rows.now) c.args.pool) c.loop-place._place c.args.at (sym is ∙ c.in_err-found.was) (omega arith)))
    ∙ candidate-rank (g.R.Rows.site c.args.rows.now) (g.R.Rows.state c.args.rows.now) c.args.pool c.args.at

pub loop-place-preserved : goal.loop-place-preserved
loop-place-preserved g c =
    let are : AreOpen _ _ c.self.inside.requested = subst (λ index. AreOpen (g.R.Rows.site c.args.rows.now) (g.R.Rows.state c.args.rows.now) index.requested) (sym c.self.view_is) c.requires.index.requested in
    let is : c.loop-next.best ≡ slice_get (candidate_ranks (g.R.Rows.site c.args.rows.now) (g.R.Rows.state c.args.rows.now) c.args.pool) c.loop-place._place =
    best-at _ _ c.args.pool _ are c.loop-place._place c.loop-place.after c.loop-next.best c.loop-next.next c.in_default.is c.loop-place.invariant c.loop-next.invariant in
    let back : c.loop-place._place + 1 - 1 ≡ c.loop-place._place = omega arith in
    (omega arith, ap (slice_get (candidate_ranks (g.R.Rows.site c.args.rows.now) (g.R.Rows.state c.args.rows.now) c.args.pool)) back ∙ sym is ∙ c.in_ok-found.was)

pub returns : goal.returns
returns g c =
    let are : AreOpen _ _ c.self.inside.requested = subst (λ index. AreOpen (g.R.Rows.site c.args.rows.now) (g.R.Rows.state c.args.rows.now) index.requested) (sym c.self.view_is) c.requires.index.requested in
    let last : c.loop-place-test.after ≡ slice_get (candidate_ranks (g.R.Rows.site c.args.rows.now) (g.R.Rows.state c.args.rows.now) c.args.pool) c.args.at = elim c.loop-place-test.branch [
      | else-loop-place-test w ↦ absurd (omega arith)
      | then-loop-place-test+in_default+in_ok-found+else-place-at w ↦
          let is : w.loop-next.best ≡ slice_get (candidate_ranks (g.R.Rows.site c.args.rows.now) (g.R.Rows.state c.args.rows.now) c.args.pool) c.loop-place._place =
          best-at _ _ c.args.pool _ are c.loop-place._place c.loop-place.after w.loop-next.best w.loop-next.next w.in_default.is c.loop-place.invariant w.loop-next.invariant in
          let end : c.loop-place._place ≡ c.args.at = omega arith in
          w.after-is ∙ sym w.in_ok-found.was ∙ is ∙ ap (slice_get (candidate_ranks (g.R.Rows.site c.args.rows.now) (g.R.Rows.state c.args.rows.now) c.args.pool)) end
    ] in
    ap (option_map (λ (x : Rank). x.request)) (sym c.in_ok-after.was ∙ last) ∙ candidate-rank (g.R.Rows.site c.args.rows.now) (g.R.Rows.state c.args.rows.now) c.args.pool c.args.at
