use Rattle.np_gen.proofs.Prelude.{after_draws, drawn_labels, ◌≡◌}
use Rattle.np_gen.proofs.job.drawn_labels.Given as goal

abbrev pub invariant-loop : goal.invariant-loop
invariant-loop l = record { labels : l.labels ≡ drawn_labels l.counter l.state; current : l.current ≡ after_draws l.counter l.state }
