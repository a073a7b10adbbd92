use Rattle.np_causes.proofs.Prelude.{None, Some, Thing, past-end, slice_get, sym, ◌≡◌}
use Rattle.np_causes.proofs.Growing.{all_told, told_later, told_more}
use Rattle.np_causes.proofs.explain.tell_all.Goals as goal

pub returns-in_default : goal.returns-in_default
returns-in_default g c =
    let none : slice_get c.loop-at.facts.items c.loop-at.at ≡ None = rw c.as_slice.ensures.value at (sym c.in_default.ensures) in
    all_told (g.L.Look.site c.args.look.now) (g.L.Look.state c.args.look.now) c.args.job c.loop-at.facts.items c.loop-at.at (past-end c.loop-at.facts.items c.loop-at.at none)
    c.loop-at.invariant.sound c.loop-at.invariant.begun c.loop-at.invariant.told

pub tell_named-requires-clause-stands : goal.tell_named-requires-clause-stands
tell_named-requires-clause-stands g c = rw c.as_slice.ensures.value at (sym c.in-Some.ensures)

pub loop-at-preserved : goal.loop-at-preserved
loop-at-preserved g c =
    let stands : slice_get c.loop-at.facts.items c.loop-at.at ≡ Some c.in-Some.fact = rw c.as_slice.ensures.value at (sym c.in-Some.ensures) in
    record {
      sound = c.in_ok-tell_named.ensures.sound;
      begun = told_later c.loop-at.facts.items c.tell_named.new.facts.items (Thing.Job c.args.job) c.in_ok-tell_named.ensures.grows c.loop-at.invariant.begun;
      told =
          told_more (g.L.Look.site c.args.look.now) (g.L.Look.state c.args.look.now) c.loop-at.facts.items c.tell_named.new.facts.items c.loop-at.at c.in-Some.fact stands
          c.in_ok-tell_named.ensures.grows c.in_ok-tell_named.ensures.told c.loop-at.invariant.told;
    }
