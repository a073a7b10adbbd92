use Rattle.np_planned.proofs.Prelude.{IsFreshPath, List, all-from_at, ap, arith, below_more, is_fresh, is_stale, length, not, slice_get_within, subst, test-says-fresh, there-at, true, ◌<◌, ◌∙◌, ◌≡◌, ◌≤◌}
use Rattle.np_planned.proofs.Fresh.{first-at, fresh-none, item-at, stale-later, stale-some}
use Rattle.np_planned.proofs.stale.first_stale.Goals as goal

pub returns-in-Some-clause-answer : goal.returns-in-Some-clause-answer
returns-in-Some-clause-answer g c =
    let told = rw c.loop-place.invariant.tree at c.in-Some.ensures.answer in
    let stale = stale-some (g.R.StatRead.tree c.args.stats.now) c.args.at c.index-paths-place.result c.in-Some.change told in
    let within : c.loop-place.place < length c.args.paths.now = omega arith in
    let there = there-at c.args.paths.now c.loop-place.place c.index-paths-place.result within c.index-paths-place.is in
    record {
      path = c.index-paths-place.result;
      there = there;
      first = first-at (is_stale (g.R.StatRead.tree c.args.stats.now) c.args.at) c.args.paths.now c.loop-place.place c.index-paths-place.result there stale.0 (λ k path less is. ap not (c.loop-place.invariant.fresh k less path is));
      last = stale.1;
    }

pub returns-in-Some-clause-later : goal.returns-in-Some-clause-later
returns-in-Some-clause-later g c =
    let told = rw c.loop-place.invariant.tree at c.in-Some.ensures.answer in
    let stale = stale-some (g.R.StatRead.tree c.args.stats.now) c.args.at c.index-paths-place.result c.in-Some.change told in
    let within : c.loop-place.place < length c.args.paths.now = omega arith in
    let there = there-at c.args.paths.now c.loop-place.place c.index-paths-place.result within c.index-paths-place.is in
    let first = first-at (is_stale (g.R.StatRead.tree c.args.stats.now) c.args.at) c.args.paths.now c.loop-place.place c.index-paths-place.result there stale.0 (λ k path less is. ap not (c.loop-place.invariant.fresh k less path is)) in
    let stands = c.requires.parent c.loop-place.place c.index-paths-place.result first there in
    rw stale.1 (stale-later (g.R.StatRead.tree c.args.stats.now) c.args.at c.index-paths-place.result stands stale.0)

pub loop-place-preserved : goal.loop-place-preserved
loop-place-preserved g c =
    let told = rw c.loop-place.invariant.tree at c.in_default.ensures.answer in
    let fresh = fresh-none (g.R.StatRead.tree c.args.stats.now) c.args.at c.index-paths-place.result told in
    record {
      tree = c.in_default.ensures.tree ∙ c.loop-place.invariant.tree;
      fresh = below_more _ _ c.loop-place.invariant.fresh (λ path is.
          subst (λ (other : List _). is_fresh (g.R.StatRead.tree c.args.stats.now) c.args.at other ≡ true) (item-at c.args.paths.now c.loop-place.place path c.index-paths-place.result is c.index-paths-place.is) fresh);
      reads = omega (arith, c.in_default.ensures.reads, c.loop-place.invariant.reads);
    }

pub returns-clause-answer : goal.returns-clause-answer
returns-clause-answer g c =
    let end : length c.args.paths.now ≤ c.loop-place.place = omega arith in
    all-from_at (IsFreshPath c.args.at (g.R.StatRead.tree c.args.stats.now)) c.args.paths.now
    (λ k path is. (test-says-fresh (g.R.StatRead.tree c.args.stats.now) c.args.at path).0 (c.loop-place.invariant.fresh k (let less = slice_get_within c.args.paths.now k path is in omega arith) path is))
