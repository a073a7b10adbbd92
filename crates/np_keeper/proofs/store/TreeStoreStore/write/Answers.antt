use Rattle.np_keeper.proofs.Prelude.{Holds, IsCarried, IsSound, on_err_weaker, subst, sym}
use Rattle.np_keeper.proofs.Enacted.{holds-spared, may-change}
use Rattle.np_keeper.proofs.store.TreeStoreStore.write.Goals as goal

pub write-requires-clause-ready : goal.write-requires-clause-ready
write-requires-clause-ready g c =
    let site = g.R.Rows.site c.args.rows.now in
    let s = g.R.Rows.state c.args.rows.now in
    may-change site s c.args.changes.now (subst IsSound c.config.ensures c.know_soundness.ensures) (subst (IsCarried site) c.requires.holds.state c.requires.holds.held.stored.carried) c.requires.reached c.requires.fits c.requires.planned c.changes_are_in_range.ensures

pub returns-clause-err : goal.returns-clause-err
returns-clause-err g c =
    let site = g.R.Rows.site c.args.rows.now in
    let s = g.R.Rows.state c.args.rows.now in
    let holds = subst (Holds site s) (sym c.self.view_is) c.requires.holds in
    on_err_weaker c.write.result (λ is. holds-spared site s c.self.inside.tree c.write.new.tree is holds) c.write.ensures.err
