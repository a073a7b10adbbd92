use Rattle.np_rounds.proofs.Prelude.{Configuration, CrewPlays, Entry, PassView, ap, is_legal, length, subst, sym, true, zeros, ℕ, [], ◌<◌, ◌∙◌, ◌∷◌, ◌≡◌}
use Rattle.np_rounds.proofs.OneRound.{are_back, is_round, moved_on, of_desk, round_knows, still_seen}
use Rattle.np_rounds.proofs.Players.{given_own, pairwise_len}
use Rattle.np_rounds.proofs.round.play_round.Goals as goal

pub play_all-requires-clause-own : goal.play_all-requires-clause-own
play_all-requires-clause-own g c κs within = given_own c.args.pass.now c.args.desk.now 0 c.in_ok-crews.crews.items c.requires.own c.in_ok-crews.ensures.given

pub take_back-requires-clause-part : goal.take_back-requires-clause-part
take_back-requires-clause-part g c = ap (λ q. q.part) c.in_ok-crews.ensures.pass
    ∙ ap (λ (n : ℕ). zeros n ∷ []) (sym (pairwise_len (CrewPlays c.args.plans g.D.Driver.facts g.D.Driver.plan g.D.Driver.sound g.D.Driver.room c.args.desk.now) c.in_ok-crews.crews.items c.in_ok-ends.ends.items c.in_ok-ends.ensures))

pub take_back-requires-clause-back : goal.take_back-requires-clause-back
take_back-requires-clause-back g c = are_back c.args.plans g.D.Driver.facts g.D.Driver.plan g.D.Driver.sound g.D.Driver.room c.args.desk.now c.args.pass.now 0 c.in_ok-crews.crews.items c.in_ok-ends.ends.items c.in_ok-crews.ensures.given c.in_ok-ends.ensures

pub returns-clause-still : goal.returns-clause-still
returns-clause-still g c = λ still. still_seen c.args.desk.now c.args.pass.now c.take_back.new.pass
    (round_knows c.args.desk.now (length c.in_ok-crews.crews.items) c.args.pass.now c.hand_out.new.pass c.take_back.new.pass
    c.requires.own c.in_ok-together.ensures.own c.know.ensures.rising c.know.ensures.begins (c.know.ensures.whole c.requires.whole)
    (c.know-2.ensures.whole c.in_ok-together.ensures.whole) c.in_ok-crews.ensures.pass c.in_ok-together.ensures.took.seen)
    (c.in_ok-together.ensures.took.still still ∙ ap (λ q. q.mine) c.in_ok-crews.ensures.pass)

pub returns-clause-moved : goal.returns-clause-moved
returns-clause-moved g c = λ moved. moved_on c.args.desk.now c.args.pass.now c.take_back.new.pass
    (round_knows c.args.desk.now (length c.in_ok-crews.crews.items) c.args.pass.now c.hand_out.new.pass c.take_back.new.pass
    c.requires.own c.in_ok-together.ensures.own c.know.ensures.rising c.know.ensures.begins (c.know.ensures.whole c.requires.whole)
    (c.know-2.ensures.whole c.in_ok-together.ensures.whole) c.in_ok-crews.ensures.pass c.in_ok-together.ensures.took.seen)
    (subst (λ (q : PassView Configuration Entry). length q.mine < length c.take_back.new.pass.mine) c.in_ok-crews.ensures.pass (c.in_ok-together.ensures.took.moved moved))

pub returns-clause-legal : goal.returns-clause-legal
returns-clause-legal g c = of_desk (λ o. is_legal o.fixed c.take_back.new.pass.seen ≡ true) c.args.desk.now c.take_back.new.pass c.in_ok-together.ensures.own c.know-2.ensures.legal

pub returns-clause-round : goal.returns-clause-round
returns-clause-round g c = is_round c.args.plans g.D.Driver.facts g.D.Driver.plan g.D.Driver.sound g.D.Driver.room c.args.desk.now (length c.in_ok-crews.crews.items) c.args.pass.now c.hand_out.new.pass c.take_back.new.pass
    c.in_ok-crews.crews.items c.in_ok-ends.ends.items c.args.workers.now.items c.hand_out.new.workers.items c.take_back.new.workers.items c.in_ok-together.together
    (round_knows c.args.desk.now (length c.in_ok-crews.crews.items) c.args.pass.now c.hand_out.new.pass c.take_back.new.pass
    c.requires.own c.in_ok-together.ensures.own c.know.ensures.rising c.know.ensures.begins (c.know.ensures.whole c.requires.whole)
    (c.know-2.ensures.whole c.in_ok-together.ensures.whole) c.in_ok-crews.ensures.pass c.in_ok-together.ensures.took.seen)
    c.in_ok-crews.ensures.pass c.in_ok-crews.ensures.given c.in_ok-ends.ensures c.in_ok-together.ensures.took c.in_ok-crews.ensures.players c.in_ok-crews.ensures.all
