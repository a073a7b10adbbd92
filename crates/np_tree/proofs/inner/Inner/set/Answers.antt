use Rattle.np_tree.proofs.Prelude.{Ok, Op, OpDone, Result, TreeRefusal, ap, refl, with_next_number, ℕ, ◌>>=◌, ◌∙◌}
use Rattle.np_tree.proofs.CallLemmas.{Holds-call}
use Rattle.np_tree.proofs.inner.Inner.set.Goals as goal

pub returns-clause-holds : goal.returns-clause-holds
returns-clause-holds c =
    let part = Op.Set c.args.path.now c.args.bytes.now c.args.expect in
    let then : Result ℕ TreeRefusal → Result OpDone TreeRefusal = λ r. r >>= (λ version. Ok (OpDone.Set version)) in
    Holds-call c.args.self.now c.settle.new.self c.args.session part (OpDone.Set c.in_ok-version.version) c.requires
    (record { path = c.in_ok-version.ensures.path; numbered = refl }) (ap then c.in_ok-version.ensures.answer) c.settle.ensures.kept (c.settle.ensures.state ∙ ap with_next_number c.in_ok-version.ensures.ok) c.settle.ensures.undo
