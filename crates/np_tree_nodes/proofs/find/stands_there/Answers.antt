use Rattle.np_tree_nodes.proofs.Prelude.{before_of, bytes_eq, is_eq-slice_cmp, name_of, sym, true, ◌++◌, ◌≡◌}
use Rattle.np_tree_nodes.proofs.find.stands_there.Goals as goal

pub returns-then-eq : goal.returns-then-eq
returns-then-eq c =
    let path = c.args.node.now.path in
    let before : bytes_eq (before_of path) c.args.before.now ≡ true = rw c.halves.ensures.before at (sym c.if-eq.ensures) in
    let name = is_eq-slice_cmp (name_of path) (c.args.name.now ++ c.args.digits.now) in
    rw (c.is_eq.ensures, c.name_cmp.ensures, c.halves.ensures.name, before) name
