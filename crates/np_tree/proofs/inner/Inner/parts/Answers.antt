use Rattle.np_tree.proofs.Prelude.{refl, [], ◌++◌, ◌+◌, ◌∷◌, ◌≡◌}
use Rattle.np_tree.proofs.CallLemmas.{DoesPart, SoFar-all, SoFar-more, SoFar-refused, SoFar-rest, SoFar-stopped}
use Rattle.np_tree.proofs.inner.Inner.parts.Goals as goal

pub returns-then-is_err-clause-answer : goal.returns-then-is_err-clause-answer
returns-then-is_err-clause-answer c =
    SoFar-stopped c.args.self.now c.loop-index.self c.args.session c.args.ops.now c.loop-index.index c.index-ops-index.result c.loop-index.done.items c.loop-index.invariant c.loop-index-test.true c.index-ops-index.is
    (rw c.in-Ok.ensures.answer refl)

pub returns-then-is_err-clause-rest : goal.returns-then-is_err-clause-rest
returns-then-is_err-clause-rest c =
    let does : DoesPart c.loop-index.self c.part.new.self c.args.session c.args.ops.now c.loop-index.index c.index-ops-index.result =
    record { within = c.loop-index-test.true; is = c.index-ops-index.is; state = c.in-Ok.ensures.ok; kept = c.in-Ok.ensures.kept; began = c.in-Ok.ensures.start; proper = c.in-Ok.ensures.proper } in
    let more = SoFar-more c.args.self.now c.loop-index.self c.part.new.self c.args.session c.args.ops.now c.loop-index.index c.index-ops-index.result c.loop-index.done.items c.in-Ok.did c.loop-index.invariant does c.in-Ok.ensures.answer in
    SoFar-rest c.args.self.now c.part.new.self c.part.new.self c.args.session c.args.ops.now (c.loop-index.index + 1) (c.loop-index.done.items ++ c.in-Ok.did ∷ []) more refl

pub returns-in-Err-Refused-clause-answer : goal.returns-in-Err-Refused-clause-answer
returns-in-Err-Refused-clause-answer c =
    rw c.in-Err-Refused.field-0-is (SoFar-refused c.args.self.now c.loop-index.self c.args.session c.args.ops.now c.loop-index.index c.index-ops-index.result c.loop-index.done.items _ c.loop-index.invariant c.loop-index-test.true c.index-ops-index.is (rw c.in-Err-Refused.field-0-is at c.in-Err-Refused.ensures.answer))

pub returns-in-Err-Refused-clause-rest : goal.returns-in-Err-Refused-clause-rest
returns-in-Err-Refused-clause-rest c =
    SoFar-rest c.args.self.now c.loop-index.self c.part.new.self c.args.session c.args.ops.now c.loop-index.index c.loop-index.done.items c.loop-index.invariant c.in-Err-Refused.ensures.err

pub returns-in-Err-NoMemory-clause-answer : goal.returns-in-Err-NoMemory-clause-answer
returns-in-Err-NoMemory-clause-answer c =
    SoFar-stopped c.args.self.now c.loop-index.self c.args.session c.args.ops.now c.loop-index.index c.index-ops-index.result c.loop-index.done.items c.loop-index.invariant c.loop-index-test.true c.index-ops-index.is (rw c.in-Err-NoMemory.field-0-is at c.in-Err-NoMemory.ensures.answer)

pub returns-in-Err-NoMemory-clause-rest : goal.returns-in-Err-NoMemory-clause-rest
returns-in-Err-NoMemory-clause-rest c =
    SoFar-rest c.args.self.now c.loop-index.self c.part.new.self c.args.session c.args.ops.now c.loop-index.index c.loop-index.done.items c.loop-index.invariant c.in-Err-NoMemory.ensures.err

pub loop-index-preserved : goal.loop-index-preserved
loop-index-preserved c =
    let does : DoesPart c.loop-index.self c.part.new.self c.args.session c.args.ops.now c.loop-index.index c.index-ops-index.result =
    record { within = c.loop-index-test.true; is = c.index-ops-index.is; state = c.in-Ok.ensures.ok; kept = c.in-Ok.ensures.kept; began = c.in-Ok.ensures.start; proper = c.in-Ok.ensures.proper } in
    let items : c.push.new.self.items ≡ c.loop-index.done.items ++ c.in-Ok.did ∷ [] = rw c.if-is_err.ensures.negation at c.push.ensures.items in
    rw items (SoFar-more c.args.self.now c.loop-index.self c.part.new.self c.args.session c.args.ops.now c.loop-index.index c.index-ops-index.result c.loop-index.done.items c.in-Ok.did c.loop-index.invariant does c.in-Ok.ensures.answer)

pub returns-clause-rest : goal.returns-clause-rest
returns-clause-rest c =
    SoFar-rest c.args.self.now c.loop-index.self c.loop-index.self c.args.session c.args.ops.now c.loop-index.index c.loop-index.done.items c.loop-index.invariant refl

pub returns-clause-answer : goal.returns-clause-answer
returns-clause-answer c =
    (SoFar-all c.args.self.now c.loop-index.self c.args.session c.args.ops.now c.loop-index.index c.loop-index.done.items c.loop-index.invariant c.loop-index-test.false).0

pub returns-clause-ok : goal.returns-clause-ok
returns-clause-ok c =
    (SoFar-all c.args.self.now c.loop-index.self c.args.session c.args.ops.now c.loop-index.index c.loop-index.done.items c.loop-index.invariant c.loop-index-test.false).1

pub returns-clause-proper : goal.returns-clause-proper
returns-clause-proper c =
    (SoFar-all c.args.self.now c.loop-index.self c.args.session c.args.ops.now c.loop-index.index c.loop-index.done.items c.loop-index.invariant c.loop-index-test.false).2
