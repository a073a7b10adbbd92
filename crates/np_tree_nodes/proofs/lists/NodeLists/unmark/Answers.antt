use Rattle.np_tree_nodes.proofs.Prelude.{List, ap, mark_place, ℕ, ◌∙◌, ◌≡◌}
use Rattle.np_tree_nodes.proofs.KeptLemmas.{IsSplit-mark, owned-mark}
use Rattle.np_tree_nodes.proofs.lists.NodeLists.unmark.Goals as goal

pub place-requires : goal.place-requires
place-requires c = record { split = IsSplit-mark c.in-Some.session c.as_bytes-path.result.now c.args.self.now.marks c.requires.kept.ranked }

pub returns : goal.returns
returns c =
    let node = c.args.found.node.now in
    let marks = c.args.self.now.marks in
    let place : c.place.result ≡ mark_place c.in-Some.session node.path marks =
    c.place.ensures ∙ ap (λ (path : List ℕ). mark_place c.in-Some.session path marks) (c.as_bytes-path.ensures.value ∙ c.text.ensures.text) in (
      c.in-Some.session,
      c.in-Some.is,
      rw place (owned-mark c.in-Some.session c.args.found.place node c.args.self.now.nodes marks c.requires.kept.sorted c.requires.kept.ranked c.requires.there c.in-Some.is c.requires.kept.marked),
    )
