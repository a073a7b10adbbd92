use Rattle.np_janitor.proofs.Prelude.{Fault, None, Some, length, slice_get, strike_by, ℕ, ◌-◌, ◌<◌, ◌≡◌}
use Rattle.np_janitor.proofs.reaper.first_strike.Given as goal

abbrev pub invariant-loop-fault : goal.invariant-loop-fault
invariant-loop-fault g l =
    (k : ℕ) → k < l.at → (f : Fault) → slice_get l.config.faults k ≡ Some f → strike_by (g.L.Look.site l.look) (g.L.Look.state l.look) f ≡ None

abbrev pub decreases-loop-fault : goal.decreases-loop-fault
decreases-loop-fault g l = length l.config.faults - l.at
