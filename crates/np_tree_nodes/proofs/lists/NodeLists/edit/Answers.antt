use Rattle.np_tree_nodes.proofs.Prelude.{ap, refl, [], ◌++◌, ◌∙◌, ◌∷◌, ◌≡◌}
use Rattle.np_tree_nodes.proofs.PlanLemmas.{CanUndo-push, marks_before-push, nodes_before-push}
use Rattle.np_tree_nodes.proofs.lists.NodeLists.edit.Goals as goal

pub returns-clause-start : goal.returns-clause-start
returns-clause-start c =
    let edits = c.args.self.now.undo.items in
    let back = c.make-back.result in
    let kept = ap (λ v. v.items) c.make-back.ensures.undo ∙ c.reserve.ensures.items in
    let undo : c.push.new.self.items ≡ edits ++ back ∷ [] = c.in_ok-push.ensures.items ∙ ap (λ items. items ++ back ∷ []) kept in
    record {
      nodes = rw (undo, nodes_before-push edits back c.make-back.new.self.nodes, c.make-back.ensures.nodes_back) refl;
      marks = rw (undo, marks_before-push edits back c.make-back.new.self.marks, c.make-back.ensures.marks_back) refl;
      can = λ can. rw undo (CanUndo-push edits back c.make-back.new.self.nodes c.make-back.new.self.marks c.make-back.ensures.can
          (rw (c.make-back.ensures.nodes_back, c.make-back.ensures.marks_back) can));
    }
