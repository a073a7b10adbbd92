use Rattle.np_board.proofs.Prelude.{Entry, FreshAreAccepted, IsCommitted, IsMayDo, Planning, Runs, answer-first, applied-first, planning_of, refl, subst, sym, ◌+◌, ◌∙◌}
use Rattle.np_board.specs.Outstanding.{ran_of}
use Rattle.np_board.proofs.BoardTurns.{committed, planning-committed, planning-same}
use Rattle.np_board.proofs.board.Board.record.Goals.{After-put}
use Rattle.np_board.proofs.board.Board.record.Goals as goal

pub invariant_of-self : goal.invariant_of-self
invariant_of-self c = (
  c.in_err-reply.ensures.earlier ∙ c.self.invariant.0,
  planning-same (planning_of c.self.inside.machine c.self.inside.commits c.self.inside.plans) (planning_of c.apply.new.self c.self.inside.commits c.self.inside.plans) c.self.invariant.1 c.apply.ensures.later c.in_err-reply.ensures.err refl refl,
)

did : (c : After-put) → IsCommitted (planning_of c.self.inside.machine c.self.inside.commits c.self.inside.plans) c.args.pool (record { event = c.args.event; reply = c.in_ok-reply.reply }) (planning_of c.apply.new.self (c.self.inside.commits + 1) c.put.new.self)
did c =
    let old : Planning = planning_of c.self.inside.machine c.self.inside.commits c.self.inside.plans in
    let new : Planning = planning_of c.apply.new.self (c.self.inside.commits + 1) c.put.new.self in
    let accept : FreshAreAccepted old = subst (λ (k : Planning). FreshAreAccepted k) (sym c.self.view_is) c.know_soundness.ensures.plans in
    let runs : Runs old.configuration old.journal old.state = subst (λ (k : Planning). Runs k.configuration k.journal k.state) (sym c.self.view_is) c.know_soundness.ensures.runs in
    let may : IsMayDo old c.args.pool c.args.event = subst (λ (k : Planning). IsMayDo k c.args.pool c.args.event) (sym c.self.view_is) c.requires in
    committed old new c.args.pool c.args.event c.in_ok-reply.reply accept c.self.invariant.1 runs may (c.in_ok-reply.ensures.reply ∙ answer-first c.self.inside.machine.earlier (ran_of old) c.args.event c.self.invariant.0) (c.in_ok-reply.ensures.ok ∙ applied-first c.self.inside.machine.earlier (ran_of old) c.args.event c.self.invariant.0) c.put.ensures refl c.in_ok-reply.ensures.later

pub invariant_of-self-2 : goal.invariant_of-self-2
invariant_of-self-2 c = (
  c.in_ok-reply.ensures.earlier ∙ c.self.invariant.0,
  let old : Planning = planning_of c.self.inside.machine c.self.inside.commits c.self.inside.plans in
      let new : Planning = planning_of c.apply.new.self (c.self.inside.commits + 1) c.put.new.self in
      let done = did c in
      planning-committed old new c.self.invariant.1 c.in_ok-reply.ensures.later c.args.pool (record { event = c.args.event; reply = c.in_ok-reply.reply }) done.configuration done.journal done.plans done.commits,
)

pub returns-clause-did : goal.returns-clause-did
returns-clause-did c =
    let e : Entry = record { event = c.args.event; reply = c.in_ok-reply.reply } in
    let new : Planning = planning_of c.apply.new.self (c.self.inside.commits + 1) c.put.new.self in
    subst (λ (k : Planning). IsCommitted k c.args.pool e new) c.self.view_is (did c)
