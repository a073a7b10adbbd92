use Rattle.np_tree.proofs.Prelude.{List, Ok, Op, OpDone, Result, TreeRefusal, ap, with_next_number, ℕ, ◌>>=◌, ◌∙◌}
use Rattle.np_tree.proofs.CallLemmas.{Holds-call}
use Rattle.np_tree.proofs.inner.Inner.create_under.Goals as goal

pub returns-clause-holds : goal.returns-clause-holds
returns-clause-holds c =
    let part = Op.CreateUnder c.args.parent.now c.args.bytes.now c.args.mode in
    let then : Result (List ℕ) TreeRefusal → Result OpDone TreeRefusal = λ r. r >>= (λ made. Ok (OpDone.Created made)) in
    Holds-call c.args.self.now c.settle.new.self c.args.session part (OpDone.Created c.in_ok-made.made) c.requires.holds
    (record { path = c.in_ok-made.ensures.path; numbered = c.requires.sequential }) (ap then c.in_ok-made.ensures.answer) c.settle.ensures.kept (c.settle.ensures.state ∙ ap with_next_number c.in_ok-made.ensures.ok) c.settle.ensures.undo
