use Rattle.np_keeper.proofs.Prelude.{TreeState, after_multi, ap, made, with_begin, with_end, with_spare, writer, ℕ, ◌∙◌, ◌≡◌}
use Rattle.np_keeper.proofs.Enacted.{end-spared, later-same, made-later, own-spare}
use Rattle.np_keeper.proofs.change.make.Goals as goal

pub call-requires-clause-goes : goal.call-requires-clause-goes
call-requires-clause-goes c = rw c.writer_of.ensures c.requires.can.goes

pub returns-in_err-call-clause-later : goal.returns-in_err-call-clause-later
returns-in_err-call-clause-later c = later-same c.args.tree.now c.call.new.tree c.in_err-call.ensures.err

pub begin-requires : goal.begin-requires
begin-requires c = rw (c.in_ok-call.ensures.ok, c.writer_of.ensures) c.requires.can.begins

pub end-requires : goal.end-requires
end-requires c = rw (c.begin.ensures, c.in_ok-call.ensures.ok, c.writer_of.ensures) (c.requires.can.ends c.begin.new.tree.spare)

pub returns-clause-ok : goal.returns-clause-ok
returns-clause-ok c =
    let multi : c.call.new.tree ≡ after_multi c.args.tree.now (writer c.args.changes.now.maker) c.args.ops.now = c.in_ok-call.ensures.ok ∙ ap (λ (w : ℕ). after_multi c.args.tree.now w c.args.ops.now) c.writer_of.ensures in
    let begun = c.begin.ensures ∙ ap (λ (u : TreeState). with_spare (with_begin c.args.changes.now.grows u) c.begin.new.tree.spare) multi in
    own-spare c.end.new.tree (made c.args.changes.now c.args.ops.now c.args.tree.now) c.begin.new.tree.spare
    (c.end.ensures
    ∙ ap (with_end c.args.changes.now.sessions) begun
    ∙ end-spared c.args.changes.now.sessions (with_begin c.args.changes.now.grows (after_multi c.args.tree.now (writer c.args.changes.now.maker) c.args.ops.now)) c.begin.new.tree.spare)

pub returns-clause-later : goal.returns-clause-later
returns-clause-later c =
    let multi : c.call.new.tree ≡ after_multi c.args.tree.now (writer c.args.changes.now.maker) c.args.ops.now = c.in_ok-call.ensures.ok ∙ ap (λ (w : ℕ). after_multi c.args.tree.now w c.args.ops.now) c.writer_of.ensures in
    made-later c.args.tree.now c.call.new.tree c.begin.new.tree c.end.new.tree (writer c.args.changes.now.maker) c.begin.new.tree.spare c.args.ops.now c.args.changes.now.grows c.args.changes.now.sessions
    c.changes.ensures.tree.whole c.parts_are_proper.ensures c.requires.can.number c.requires.can.goes multi c.changes-2.ensures.tree.whole c.requires.can.next c.begin.ensures c.end.ensures
