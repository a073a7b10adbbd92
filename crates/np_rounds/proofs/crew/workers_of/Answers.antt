use Rattle.np_rounds.proofs.Prelude.{ap, arith, length, length-append, rules, [], ◌∙◌, ◌∷◌, ◌≡◌}
use Rattle.np_rounds.proofs.Players.{requester_more, placed, numbered}
use Rattle.np_rounds.proofs.crew.workers_of.Goals as goal

pub loop-id-preserved : goal.loop-id-preserved
loop-id-preserved g c = requester_more g.D.Driver.facts g.D.Driver.plan g.D.Driver.sound g.D.Driver.room c.loop-id.workers.items c.push-in-loop-id.new.self.items (record { 0 = c.loop-id.id }) c.in_ok-push-2.ensures.items c.loop-id.invariant

pub loop-driver-preserved : goal.loop-driver-preserved
loop-driver-preserved g c =
    let before = c.loop-driver.invariant in let less = c.in-Some.ensures.items in
    let number : c.len.result ≡ length c.pop.new.self.items = search rules in record {
      few = omega (arith, before.few, ap length less, length-append c.pop.new.self.items (c.in-Some.driver ∷ []));
      numbered = numbered g.D.Driver.facts g.D.Driver.plan g.D.Driver.sound g.D.Driver.room c.loop-driver.drivers.items c.pop.new.self.items c.in-Some.driver _ c.loop-driver.workers.items c.push-in-Some.new.self.items less c.in_ok-push-3.ensures.items number before.numbered;
      drivings = placed g.D.Driver.facts g.D.Driver.plan g.D.Driver.sound g.D.Driver.room c.loop-driver.drivers.items c.pop.new.self.items c.in-Some.driver _ c.loop-driver.workers.items c.push-in-Some.new.self.items less c.in_ok-push-3.ensures.items ∙ before.drivings;
    }
