use Rattle.np_tables.proofs.TableLemmas.{fresh-request}
use Rattle.np_tables.proofs.vectors.Vectors.add_request.Goals as goal

pub insert-requires-clause-none : goal.insert-requires-clause-none
insert-requires-clause-none c =
    let fresh = rw (← c.self.view_is) at (fresh-request c.args.self.now.state.next_request c.args.priority c.args.self.now.state.requests c.requires.takes.fresh) in
    rw c.new_request.ensures fresh
