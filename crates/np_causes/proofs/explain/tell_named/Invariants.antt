use Rattle.np_causes.proofs.Prelude.{Grows, IsSound, IsTold, Some, Thing, named_by, slice_get, ℕ, ◌<◌, ◌≡◌}
use Rattle.np_causes.proofs.explain.tell_named.Given as goal

abbrev pub invariant-loop-at_place : goal.invariant-loop-at_place
invariant-loop-at_place g l = record {
  sound : IsSound (g.L.Look.site l.look) (g.L.Look.state l.look) l.job l.facts.items;
  grows : Grows l.initial.facts.items l.facts.items;
  told : (k : ℕ) → k < l.at_place → (it : Thing) → slice_get (named_by (g.L.Look.site l.look) (g.L.Look.state l.look) l.fact) k ≡ Some (Some it) → IsTold l.facts.items it;
}
