use Rattle.np_rounds.proofs.Prelude.{CrewPlays, length, rules, slice_index_or, subst, sym, ◌≡◌}
use Rattle.np_rounds.proofs.Players.{pairwise_from}
use Rattle.np_rounds.proofs.round.play_all.Goals as goal

pub returns : goal.returns
returns g c = let R = CrewPlays c.args.plans g.D.Driver.facts g.D.Driver.plan g.D.Driver.sound g.D.Driver.room c.args.desk.now in
    let len : length c.in_ok-ends.ends.items ≡ length c.args.crews.items = search rules in
    pairwise_from R c.args.crews.items c.in_ok-ends.ends.items len
    (λ i x y lt. let job = (c.in_ok-ends.ensures.each i y lt).1 in
    let call = job.call.met in
    let plays : R job.job (slice_index_or c.in_ok-ends.ends.items i y) = first_of (assumption call, search rules, cc) in
    subst (λ z. R z (slice_index_or c.in_ok-ends.ends.items i y)) (sym (job.job_is x)) plays)

-- what a crew ends with may go to another thread, since its worker and its pass may
pub map_vec-requires-send-X : goal.map_vec-requires-send-X
map_vec-requires-send-X g c κs within = record {
  owned = λ x vs parts. (tt, ((λ inner. (tt, (c.sends.ensures.owned x.crew.worker inner.0, (c.sends-2.ensures.owned x.crew.pass inner.1.0, tt)))), (search rules, tt)));
  leaving = search rules;
}
