use Rattle.np_tree_nodes.proofs.Prelude.{root, sym, [], ◌≡◌}
use Rattle.np_tree_nodes.proofs.PlaceLemmas.{IsKey-itself, IsKey-root, IsStretch-empty, IsStretch-key, bytes_eq-from, bytes_eq-is, empty-is, empty-not}
use Rattle.np_tree_nodes.proofs.lists.NodeLists.children.Goals as goal

pub returns-then-is_empty : goal.returns-then-is_empty
returns-then-is_empty c = IsStretch-empty c.args.path.now c.args.self.now.nodes (empty-is c.args.path.now c.if-is_empty.ensures)

pub returns-then-eq : goal.returns-then-eq
returns-then-eq c =
    let same = bytes_eq-is c.args.path.now root (sym c.if-eq.ensures) in
    rw (c.below.ensures.from, c.below.ensures.to, same) (IsStretch-key [] root c.args.self.now.nodes IsKey-root c.requires.sorted c.requires.paths)

pub returns : goal.returns
returns c =
    let path = c.args.path.now in
    let other : path ≡ root → ⊥ = λ same. let is = bytes_eq-from path root same in let not = c.if-eq.ensures in cc in
    let stretch = IsStretch-key path path c.args.self.now.nodes (IsKey-itself path (empty-not path c.if-is_empty.ensures) other) c.requires.sorted c.requires.paths in
    rw (c.below-2.ensures.from, c.below-2.ensures.to, c.as_bytes.ensures.value) stretch
