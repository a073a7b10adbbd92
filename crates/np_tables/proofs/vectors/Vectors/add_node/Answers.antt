use Rattle.np_tables.proofs.Prelude.{NodeEntry, insert_before, nat_lt, refl, [], ◌++◌, ◌∷◌, ◌≡◌}
use Rattle.np_tables.proofs.TableLemmas.{fresh-node, joined-none, last-node}
use Rattle.np_tables.proofs.vectors.Vectors.add_node.Goals as goal

pub insert-requires-clause-none : goal.insert-requires-clause-none
insert-requires-clause-none c = rw (← c.self.view_is) at (fresh-node c.args.self.now.state.next_node c.args.self.now.state.nodes c.requires.takes.fresh)

pub returns : goal.returns
returns c =
    let last : (new : NodeEntry) → insert_before (λ e. nat_lt c.self.inside.next_node e.id.0) new c.self.inside.nodes.rows ≡ c.self.inside.nodes.rows ++ new ∷ [] = λ new. (rw (← c.self.view_is) at (last-node c.args.self.now.state.next_node new c.args.self.now.state.nodes c.requires.takes.fresh)) in
    rw (← c.self.view_is, c.insert.ensures, last, c.requires.queue, joined-none c.args.maker) refl
