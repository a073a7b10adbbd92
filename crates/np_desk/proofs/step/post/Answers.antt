use Rattle.np_desk.proofs.Prelude.{arith, rules, ◌%◌, ◌+◌, ◌∙◌}
use Rattle.np_desk.proofs.DeskRule.{posts, rings}
use Rattle.np_desk.proofs.step.post.Goals as goal

pub store-requires : goal.store-requires
store-requires g c = let h = c.requires.object in
    (search rules, search rules, posts _ _ _ _ _ _ _ c.args.ticket _ h.0 h.3.0 h.1 (omega arith) c.requires.view.1 h.3.1 h.2.0 h.2.1 c.requires.view.2)

pub store-requires-2 : goal.store-requires-2
store-requires-2 g c = (search rules, search rules, rings _ _ _ _ _ _ _ _ ((c.args.ticket + 1) % 64) _ (omega (arith, c.bell.ensures.word)))

pub returns-clause-view : goal.returns-clause-view
returns-clause-view g c = let h = c.requires.object in let done = c.store.ensures.2 h.0 h.1 in (h.0, h.1, h.2, (c.store-2.ensures.2 ∙ done.0, done.1))
