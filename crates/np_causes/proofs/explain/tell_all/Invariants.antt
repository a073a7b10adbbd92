use Rattle.np_causes.proofs.Prelude.{Fact, IsSound, IsTold, NamesTold, Some, Thing, slice_get, ℕ, ◌<◌, ◌≡◌}
use Rattle.np_causes.proofs.explain.tell_all.Given as goal

abbrev pub invariant-loop-at : goal.invariant-loop-at
invariant-loop-at g l = record {
  sound : IsSound (g.L.Look.site l.look) (g.L.Look.state l.look) l.job l.facts.items;
  begun : IsTold l.facts.items (Thing.Job l.job);
  told : (k : ℕ) → k < l.at → (f : Fact) → slice_get l.facts.items k ≡ Some f → NamesTold (g.L.Look.site l.look) (g.L.Look.state l.look) l.facts.items f;
}
