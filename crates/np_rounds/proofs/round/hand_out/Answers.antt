use Rattle.np_rounds.proofs.Prelude.{AreGiven, Configuration, Crew, Entry, PassView, Seat, ap, arith, first_half, given_pass, length, length-append, second_half, split_pass, subst, suc, sym, ℕ, [], ◌++◌, ◌∙◌, ◌∷◌, ◌≡◌}
use Rattle.np_rounds.proofs.Players.{given_more, handed}
use Rattle.np_rounds.proofs.round.hand_out.Goals as goal

pub loop-worker-preserved : goal.loop-worker-preserved
loop-worker-preserved g c =
    let before = c.loop-worker.invariant in let p = c.args.pass.now in
    let crews = c.loop-worker.crews.items in let n = length crews in
    let crew : Crew g.row.D.Denot Seat = record { worker = c.in-Some.worker; pass = c.split-given.result } in
    let more : c.push.new.self.items ≡ crews ++ crew ∷ [] = c.in_ok-push.ensures.items in
    let count : length c.push.new.self.items ≡ suc n = omega (arith, ap length more, length-append crews (crew ∷ [])) in
    let kept = c.split-given.ensures.kept in
    let given : c.split-given.result ≡ given_pass n p = c.split-given.ensures.given ∙ ap (λ (q : PassView Configuration Entry). record q { mine = []; part = second_half q.part }) before.pass in record {
      own = (ap (λ q. q.table) kept ∙ before.own.0, ap (λ q. q.origin) kept ∙ before.own.1);
      pass = kept ∙ (ap (λ (q : PassView Configuration Entry). record q { part = first_half q.part }) before.pass ∙ ap (λ (k : ℕ). split_pass k p) (sym count));
      given = subst (AreGiven p 0) (sym more) (given_more p 0 crews crew before.given (given ∙ ap (λ (k : ℕ). given_pass k p) (omega arith)));
      players = handed g.D.Driver.facts g.D.Driver.plan g.D.Driver.sound g.D.Driver.room crews c.push.new.self.items crew c.loop-worker.workers.items c.pop.new.self.items more c.in-Some.ensures.items ∙ before.players;
    }
