use Rattle.np_event.proofs.Prelude.{HaveWords, drop, ◌↔◌}
use Rattle.np_event.proofs.row.have_words.Given as goal

abbrev pub invariant-loop-kind : goal.invariant-loop-kind
invariant-loop-kind l = HaveWords (drop l.kind-index l.kinds) l.fields ↔ HaveWords l.kinds l.fields
