use Rattle.np_rounds.proofs.Prelude.{AreBack, CrewEnd, List, Seat, ap, append-nil, append_assoc, arith, length, length-append, second_half, subst, suc, sym, zeros, ℕ, [], ◌++◌, ◌+◌, ◌∙◌, ◌∷◌, ◌≡◌}
use Rattle.np_rounds.proofs.Players.{back_less}
use Rattle.np_rounds.proofs.OneRound.{took_none, took_more}
use Rattle.np_rounds.proofs.round.take_back.Goals as goal

pub loop-last-init : goal.loop-last-init
loop-last-init g c = record {
  own = c.requires.own;
  part = c.requires.part;
  back = c.requires.back;
  came = [];
  all = sym (append-nil c.args.ends.items);
  took = took_none g.D.Driver.facts g.D.Driver.plan g.D.Driver.sound g.D.Driver.room c.args.pass.now c.args.workers.now.items;
}

pub loop-last-preserved : goal.loop-last-preserved
loop-last-preserved g c =
    let before = c.loop-last.invariant in let desk = c.args.desk.now in
    let ends = c.loop-last.ends.items in let rest = c.pop.new.self.items in let last = c.in-Some.last in
    let is : ends ≡ rest ++ last ∷ [] = c.in-Some.ensures.items in
    let cut = back_less desk 0 rest last (subst (AreBack desk 0) is before.back) in
    let count : length ends ≡ suc (length rest) = omega (arith, ap length is, length-append rest (last ∷ [])) in
    let join = c.join.ensures in let old = c.loop-last.pass in let new = c.join.new.self in
    let same : 0 + length rest ≡ length rest = omega arith in record {
      own = join.own;
      part = join.back (zeros (length rest)) (before.part ∙ ap (λ (n : ℕ). zeros n ∷ []) count) (cut.1.part ∙ ap (λ (n : ℕ). second_half (zeros n ∷ [])) same);
      back = cut.0;
      came = last ∷ before.came;
      all = before.all ∙ (ap (λ (l : List (CrewEnd g.row.D.Denot Seat)). l ++ before.came) is ∙ append_assoc rest (last ∷ []) before.came);
      took = took_more g.D.Driver.facts g.D.Driver.plan g.D.Driver.sound g.D.Driver.room desk (0 + length rest) c.args.pass.now old new c.args.workers.now.items c.loop-last.workers.items c.push.new.self.items
          c.loop-last.sum c.in_ok-sum.sum before.came last before.took cut.1 join.seen join.told join.mine c.in_ok-sum.ensures c.in_ok-push.ensures.items;
    }

pub join-requires-clause-other : goal.join-requires-clause-other
join-requires-clause-other g c = (back_less c.args.desk.now 0 c.pop.new.self.items c.in-Some.last (subst (AreBack c.args.desk.now 0) c.in-Some.ensures.items c.loop-last.invariant.back)).1.own
