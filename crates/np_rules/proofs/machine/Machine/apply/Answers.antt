-- one more entry with the machine's reply
use Rattle.np_rules.proofs.Prelude.{Entry, List, Running, ap, arith, has_room_after, length, nat_tests, ran_of, subst, sym, true, [], ◌++◌, ◌+◌, ◌<◌, ◌∙◌, ◌∷◌, ◌≡◌}
use Rattle.np_rules.proofs.RunLemmas.{RunsOn-reached, RunsOn-fits, RunsOn-next}
use Rattle.np_rules.proofs.machine.Machine.apply.Goals as goal

pub decide-decided-requires : goal.decide-decided-requires
decide-decided-requires g c = RunsOn-fits _ _ _ _ c.know_soundness.ensures.site c.know_soundness.ensures.runs

pub step-requires-clause-reached : goal.step-requires-clause-reached
step-requires-clause-reached g c = RunsOn-reached _ _ _ _ c.self.invariant.runs

pub step-requires-clause-fits : goal.step-requires-clause-fits
step-requires-clause-fits g c = RunsOn-fits _ _ _ _ c.self.invariant.site c.self.invariant.runs

pub invariant_of-self-2 : goal.invariant_of-self-2
invariant_of-self-2 g c =
    let entry : Entry = record { event = c.args.event; reply = c.in_ok-reply.reply } in
    let journal : c.push_reserved.new.self.items ≡ c.self.inside.journal.items ++ entry ∷ [] = c.push_reserved.ensures.items ∙ ap (λ (xs : List Entry). xs ++ entry ∷ []) c.in_ok-reserve.ensures.items in
    let told = subst (λ (m : Running _). c.has_room.result ≡ has_room_after m.earlier (ran_of m)) (sym c.self.view_is) c.has_room.ensures in
    let roomy : c.has_room.result ≡ true = cc in
    let room : c.self.inside.earlier + length c.self.inside.journal.items < 262144 = grind (arith, nat_tests, told, roomy) in
    record {
      site = rw c.in_ok-reply.ensures.configuration c.self.invariant.site;
      runs = rw (journal, c.in_ok-reply.ensures.ok, c.in_ok-reply.ensures.configuration)
          (RunsOn-next _ _ _ _ entry c.self.invariant.runs room c.in_ok-reply.ensures.reply);
      index = c.in_ok-reply.ensures.index;
      held = c.in_ok-reply.ensures.held;
    }

pub returns-clause-runs : goal.returns-clause-runs
returns-clause-runs g c = (invariant_of-self-2 g c).runs
