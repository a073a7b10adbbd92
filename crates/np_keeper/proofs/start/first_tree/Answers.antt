use Rattle.np_keeper.proofs.Prelude.{Goes, List, Op, TreeState, after_parts, ap, arith, first_parts, is_numbered, length, list_all, subst, sym, ◌∙◌, ◌≡◌}
use Rattle.np_keeper.proofs.Enacted.{first-few, first-goes-spared, first-numbered, holds-first}
use Rattle.np_keeper.proofs.start.first_tree.Goals as goal

pub call-requires-clause-few : goal.call-requires-clause-few
call-requires-clause-few c = omega (arith, ap length (c.as_slice.ensures.value ∙ c.in_ok-ops.ensures), first-few c.args.config.now c.requires)

pub call-requires-clause-numbered : goal.call-requires-clause-numbered
call-requires-clause-numbered c = ap (λ (list : List Op). list_all is_numbered list) (c.as_slice.ensures.value ∙ c.in_ok-ops.ensures) ∙ first-numbered c.args.config.now

pub call-requires-clause-goes : goal.call-requires-clause-goes
call-requires-clause-goes c =
    let ops : c.as_slice.result.now ≡ first_parts c.args.config.now = c.as_slice.ensures.value ∙ c.in_ok-ops.ensures in
    subst (λ (list : List Op). Goes c.in_ok-tree.tree 1 list (after_parts c.in_ok-tree.tree 1 list)) (sym ops)
    (subst (λ (t : TreeState). Goes t 1 (first_parts c.args.config.now) (after_parts t 1 (first_parts c.args.config.now))) (sym c.in_ok-tree.ensures)
    (first-goes-spared c.args.config.now c.requires c.in_ok-tree.tree.spare))

pub returns-clause-held : goal.returns-clause-held
returns-clause-held c = (holds-first c.args.config.now c.requires c.in_ok-tree.tree c.call.new.tree c.as_slice.result.now c.changes.ensures.tree.whole (c.as_slice.ensures.value ∙ c.in_ok-ops.ensures) c.in_ok-tree.ensures c.in_ok-call.ensures.ok).held

pub returns-clause-state : goal.returns-clause-state
returns-clause-state c = (holds-first c.args.config.now c.requires c.in_ok-tree.tree c.call.new.tree c.as_slice.result.now c.changes.ensures.tree.whole (c.as_slice.ensures.value ∙ c.in_ok-ops.ensures) c.in_ok-tree.ensures c.in_ok-call.ensures.ok).state
