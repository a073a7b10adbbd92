use Rattle.np_worker.proofs.Prelude.{entries_of}
use Rattle.np_worker.proofs.Walks.{walk_gains, gains_counted}
use Rattle.np_worker.proofs.moves.turns_gain_their_entries.Goals as goal

pub returns : goal.returns
returns g c = record {
  gained = λ f trace v w h. walk_gains g.T.Turns.answers f trace v w h;
  counted = λ f trace v w h. gains_counted v (entries_of trace) w (walk_gains g.T.Turns.answers f trace v w h);
}
