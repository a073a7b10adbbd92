use Rattle.np_desk.proofs.Prelude.{AnsweredAtOnce, arith, err_from_is_err_and, grown, inl, inr, refl, subst, sym, true, ◌∙◌, ◌≡◌}
use Rattle.np_desk.proofs.HistoryLemmas.{begins_on, none-went, starts_same, took_so, went_on}
use Rattle.np_desk.proofs.row.take_turns.Goals as goal

pub loop-turn-init : goal.loop-turn-init
loop-turn-init g c = record {
  fixed = refl;
  legal = c.requires.legal;
  begins = starts_same (g.M.SeqObject.history c.args.object.now);
  went = λ mine. none-went (AnsweredAtOnce g.M.SeqObject.answers g.M.SeqObject.recorded (g.M.SeqObject.fixed c.args.object.now)) g.S.Series.asks g.S.Series.hears (grown mine (g.M.SeqObject.history c.args.object.now) (g.M.SeqObject.history c.args.object.now)) c.args.series.now;
}

pub loop-turn-preserved : goal.loop-turn-preserved
loop-turn-preserved g c = let i = c.loop-turn.invariant in
    let h = c.in_ok-turn-in-Some.ensures.history in
    record {
      fixed = c.turn.ensures.fixed ∙ i.fixed;
      legal = subst (λ (f : g.row.M-Fixed.Denot). g.M.SeqObject.legal f (g.M.SeqObject.history c.turn.new.self) ≡ true) i.fixed c.turn.ensures.legal;
      begins = begins_on (g.M.SeqObject.history c.args.object.now) (g.M.SeqObject.history c.loop-turn.object) (g.M.SeqObject.history c.turn.new.self) _ i.begins h;
      went = λ mine. went_on g.M.SeqObject.answers g.M.SeqObject.recorded g.S.Series.asks g.S.Series.hears (g.M.SeqObject.fixed c.args.object.now) mine (g.M.SeqObject.history c.args.object.now) (g.M.SeqObject.history c.loop-turn.object) (g.M.SeqObject.history c.turn.new.self) c.args.series.now c.loop-turn.series c.hear.new.self c.loop-turn._turn c.in-Some.ask c.in_ok-turn-in-Some.turn (i.went mine) (sym c.ask.ensures ∙ c.in-Some.is) c.hear.ensures i.begins (subst (λ (f : g.row.M-Fixed.Denot). g.M.SeqObject.answers f (g.M.SeqObject.history c.loop-turn.object) c.in-Some.ask c.in_ok-turn-in-Some.turn) i.fixed c.in_ok-turn-in-Some.ensures.answer) h;
    }

pub returns-in-None-clause-turns : goal.returns-in-None-clause-turns
returns-in-None-clause-turns g c = λ mine. took_so g.M.SeqObject.answers g.M.SeqObject.recorded g.S.Series.asks g.S.Series.hears _ _ _ _ _ _ _ _ (c.loop-turn.invariant.went mine) (omega (arith, c.loop-turn.auto._turn-end)) (inl (sym c.ask.ensures ∙ c.in-None.is))

pub returns-clause-turns : goal.returns-clause-turns
returns-clause-turns g c =
    let all : c.loop-turn._turn ≡ c.args.most = omega (arith, c.loop-turn.auto._turn-end, c.loop-turn-test.false) in
    λ mine. took_so g.M.SeqObject.answers g.M.SeqObject.recorded g.S.Series.asks g.S.Series.hears _ _ _ _ _ _ _ _ (c.loop-turn.invariant.went mine) (omega (arith, all)) (inr all)

pub returns-in_err-turn-in-Some-clause-turns : goal.returns-in_err-turn-in-Some-clause-turns
returns-in_err-turn-in-Some-clause-turns g c mine = let failed = (err_from_is_err_and c.from_residual.result c.from_residual.ensures.1).1 in
    rw (failed, c.in_err-turn-in-Some.ensures.history) (took_so g.M.SeqObject.answers g.M.SeqObject.recorded g.S.Series.asks g.S.Series.hears _ _ _ _ _ _ _ _ (c.loop-turn.invariant.went mine) (omega (arith, c.loop-turn.auto._turn-end)) tt)
