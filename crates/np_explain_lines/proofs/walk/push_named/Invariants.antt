use Rattle.np_explain_lines.proofs.Prelude.{IsPending, Names, Some, Thing, named_by, slice_get, ℕ, ◌≡◌, ◌≤◌, ◌⊎◌}
use Rattle.np_explain_lines.proofs.walk.push_named.Given as goal

abbrev pub invariant-loop-left : goal.invariant-loop-left
invariant-loop-left g l = record {
  stay : (it : Thing) → IsPending l.initial.pending.items it → IsPending l.pending.items it;
  all : (place : ℕ) (it : Thing) → l.left ≤ place → slice_get (named_by (g.L.Look.site l.look) (g.L.Look.state l.look) l.fact) place ≡ Some (Some it) → IsPending l.pending.items it;
  alone : (it : Thing) → IsPending l.pending.items it → IsPending l.initial.pending.items it ⊎ Names (g.L.Look.site l.look) (g.L.Look.state l.look) l.fact it;
}

abbrev pub decreases-loop-left : goal.decreases-loop-left
decreases-loop-left g l = l.left
