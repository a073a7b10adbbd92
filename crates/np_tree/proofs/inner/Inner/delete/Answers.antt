use Rattle.np_tree.proofs.Prelude.{Ok, Op, OpDone, Result, TreeRefusal, ap, refl, with_next_number, ◌>>◌, ◌∙◌}
use Rattle.np_tree.proofs.CallLemmas.{Holds-call}
use Rattle.np_tree.proofs.inner.Inner.delete.Goals as goal

pub returns-clause-holds : goal.returns-clause-holds
returns-clause-holds c =
    let part = Op.Delete c.args.path.now c.args.expect in
    let then : Result (Unit {0}) TreeRefusal → Result OpDone TreeRefusal = λ r. r >> Ok OpDone.Deleted in
    Holds-call c.args.self.now c.settle.new.self c.args.session part OpDone.Deleted c.requires
    (record { path = c.in_ok-delete_part.ensures.path; numbered = refl }) (ap then c.in_ok-delete_part.ensures.answer) c.settle.ensures.kept (c.settle.ensures.state ∙ ap with_next_number c.in_ok-delete_part.ensures.ok) c.settle.ensures.undo
