use Rattle.np_index.proofs.Prelude.{AreGiven, AreLookupsOf, subst, sym}
use Rattle.np_index.proofs.index.Index.node_to_leave.Goals as goal

pub returns : goal.returns
returns c config s is =
    let lookups = subst (λ index. AreLookupsOf config s index.lookups) (sym c.self.view_is) is.lookups in
    c.node_to_leave.ensures config s (subst (λ index. AreGiven config s index.given) (sym c.self.view_is) is.given) (c.nodes_of-queued.ensures config s lookups)
