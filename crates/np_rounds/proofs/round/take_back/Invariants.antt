use Rattle.np_rounds.proofs.Prelude.{AreBack, CrewEnd, IsOf, List, Seat, TookBack, length, zeros, [], ◌++◌, ◌∷◌, ◌≡◌}
use Rattle.np_rounds.proofs.round.take_back.Given as goal

abbrev pub invariant-loop-last : goal.invariant-loop-last
invariant-loop-last g l = record {
  own : IsOf l.pass l.desk;
  part : l.pass.part ≡ zeros (length l.ends.items) ∷ [];
  back : AreBack l.desk 0 l.ends.items;
  came : List (CrewEnd g.row.D.Denot Seat);
  all : l.fn.ends.items ≡ l.ends.items ++ came;
  took : TookBack g.D.Driver.facts g.D.Driver.plan g.D.Driver.sound g.D.Driver.room l.initial.pass l.pass l.initial.workers.items l.workers.items l.sum came;
}

abbrev pub decreases-loop-last : goal.decreases-loop-last
decreases-loop-last g l = length l.ends.items
