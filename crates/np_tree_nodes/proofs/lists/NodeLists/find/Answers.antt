use Rattle.np_tree_nodes.proofs.Prelude.{None, Some, ap, before_of, false, false_from_ne_true, is_at, is_slash, list_any, name_of, place_of, slice_get, slice_get_within, sym, true, [], ◌++◌, ◌∙◌, ◌≡◌}
use Rattle.np_tree_nodes.proofs.PlaceLemmas.{IsSplit-halves, at_path-no_slash, at_path-other, at_path-past, at_path-there, false-not, place_of-halves, true-not}
use Rattle.np_tree_nodes.proofs.lists.NodeLists.find.Goals as goal

pub returns-in_err-before : goal.returns-in_err-before
returns-in_err-before c =
    let path = c.args.path.now in
    let none : list_any is_slash path ≡ false =
    rw c.as_bytes.ensures.value at (false_from_ne_true (list_any is_slash c.as_bytes.result.now) (λ any. let this = c.in_err-before.ensures.none.1 any in cc)) in
    rw c.from_residual.ensures (at_path-no_slash path c.args.self.now.nodes none c.requires.paths)

pub place-place-requires : goal.place-place-requires
place-place-requires c =
    record { split = IsSplit-halves c.in_ok-before.before.now (c.in_ok-before.name.now ++ []) c.args.self.now.nodes c.requires.sorted }

pub returns-in_err-node : goal.returns-in_err-node
returns-in_err-node c =
    let path = c.args.path.now in
    let nodes = c.args.self.now.nodes in
    let before : c.in_ok-before.before.now ≡ before_of path = c.in_ok-before.ensures.before ∙ ap before_of c.as_bytes.ensures.value in
    let name : c.in_ok-before.name.now ≡ name_of path = c.in_ok-before.ensures.name ∙ ap name_of c.as_bytes.ensures.value in
    let place = place_of-halves path c.in_ok-before.before.now c.in_ok-before.name.now nodes c.place-place.result c.place-place.ensures before name in
    let past : slice_get nodes (place_of path nodes) ≡ None = rw (← place) (sym c.in_err-node.ensures) in
    rw c.from_residual-in_err-node.ensures (at_path-past path nodes c.requires.sorted past)

pub returns-then-ne : goal.returns-then-ne
returns-then-ne c =
    let path = c.args.path.now in
    let nodes = c.args.self.now.nodes in
    let node = c.in_ok-node.node.now in
    let before : c.in_ok-before.before.now ≡ before_of path = c.in_ok-before.ensures.before ∙ ap before_of c.as_bytes.ensures.value in
    let name : c.in_ok-before.name.now ≡ name_of path = c.in_ok-before.ensures.name ∙ ap name_of c.as_bytes.ensures.value in
    let place = place_of-halves path c.in_ok-before.before.now c.in_ok-before.name.now nodes c.place-place.result c.place-place.ensures before name in
    let there : slice_get nodes (place_of path nodes) ≡ Some node = rw (← place) (sym c.in_ok-node.ensures) in
    let other : is_at path node ≡ false = rw c.text.ensures.text at (true-not _ c.if-ne.ensures) in
    at_path-other path nodes node c.requires.sorted there other

pub returns : goal.returns
returns c =
    let nodes = c.args.self.now.nodes in
    let node = c.in_ok-node.node.now in
    let there : slice_get nodes c.place-place.result ≡ Some node = sym c.in_ok-node.ensures in
    let same : is_at c.args.path.now node ≡ true = rw c.text.ensures.text at (false-not _ c.if-ne.ensures) in
    record { within = slice_get_within nodes c.place-place.result node there; item = there; at = same; found = at_path-there c.args.path.now nodes c.place-place.result node c.requires.sorted there same }
