use Rattle.np_explain_lines.proofs.Prelude.{IsPending, Some, Thing, arith, inl, inr, named_by, past-end, slice_get, slice_get_within, ℕ, ⊎_elim, ◌-◌, ◌∙◌, ◌≡◌}
use Rattle.np_explain_lines.proofs.Pending.{from_more}
use Rattle.np_explain_lines.proofs.walk.push_named.Goals as goal

pub loop-left-init : goal.loop-left-init
loop-left-init g c = record {
  stay = λ it has. has;
  all = λ place it past names.
      let places = named_by (g.L.Look.site c.args.look.now) (g.L.Look.state c.args.look.now) c.args.fact.now in
      absurd (omega (arith, past, slice_get_within places place (Some it) names, past-end places c.in_ok-left.left c.in_ok-left.ensures));
  alone = λ it has. inl has;
}

pub loop-left-preserved : goal.loop-left-preserved
loop-left-preserved g c =
    let site = g.L.Look.site c.args.look.now in
    let state = g.L.Look.state c.args.look.now in
    record {
      stay = λ it has. c.in_ok-push_place.ensures.stay it (c.loop-left.invariant.stay it has);
      all = λ place it past names.
          from_more (λ (k : ℕ). (t : Thing) → slice_get (named_by site state c.args.fact.now) k ≡ Some (Some t) → IsPending c.push_place.new.pending.items t) c.loop-left.left
          (omega (arith, c.loop-left-test.true)) (λ t is. c.in_ok-push_place.ensures.told t (c.named.ensures ∙ is))
          (λ k more t is. c.in_ok-push_place.ensures.stay t (c.loop-left.invariant.all k t more is)) place past it names;
      alone = λ it has.
          ⊎_elim (c.loop-left.invariant.alone it) (λ (new : slice_get (named_by site state c.args.fact.now) (c.loop-left.left - 1) ≡ Some (Some it)). inr (c.loop-left.left - 1, new))
          (rw c.named.ensures at (c.in_ok-push_place.ensures.alone it has));
    }

pub returns-clause-all : goal.returns-clause-all
returns-clause-all g c = λ it names. c.loop-left.invariant.all names.0 it (omega (arith, c.loop-left-test.false)) names.1
