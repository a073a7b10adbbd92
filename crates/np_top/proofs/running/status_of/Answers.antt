use Rattle.np_top.proofs.Prelude.{Bool, Some, add-one, ap, arith, fate_of, if◌then◌else◌, is_waiting, length, slice_get, slice_get_within, sym, ◌<◌, ◌∙◌, ◌≡◌}
use Rattle.np_top.proofs.Sites.{any-end, any-next, such-first, such-later}
use Rattle.np_top.proofs.running.status_of.Goals as goal

pub loop-job-preserved : goal.loop-job-preserved
loop-job-preserved g c =
    let f = fate_of (g.R.Rows.state c.args.rows.now) in
    let jobs = (g.R.Rows.state c.args.rows.now).jobs in
    let at = c.loop-job.at in
    let found : slice_get jobs at ≡ Some c.in-Some.job = sym c.job.ensures ∙ c.in-Some.is in
    let within : at < length jobs = slice_get_within jobs at c.in-Some.job found in
    record {
      within = omega arith;
      few = c.loop-job.invariant.few;
      left = rw add-one (sym (such-later _ _ _ (any-next is_waiting f jobs at c.in-Some.job found) (sym c.is_waiting.ensures ∙ c.if-is_waiting.false)) ∙ c.loop-job.invariant.left);
    }

pub returns-then-is_waiting : goal.returns-then-is_waiting
returns-then-is_waiting g c =
    let f = fate_of (g.R.Rows.state c.args.rows.now) in
    let jobs = (g.R.Rows.state c.args.rows.now).jobs in
    let at = c.loop-job.at in
    let found : slice_get jobs at ≡ Some c.in-Some.job = sym c.job.ensures ∙ c.in-Some.is in
    let some = such-first _ _ _ (any-next is_waiting f jobs at c.in-Some.job found) (sym c.is_waiting.ensures ∙ c.if-is_waiting.true) in
    ap (λ (b : Bool). if b then 1 else 0) (sym some ∙ c.loop-job.invariant.left)

pub returns : goal.returns
returns g c =
    let none = any-end is_waiting (fate_of (g.R.Rows.state c.args.rows.now)) (g.R.Rows.state c.args.rows.now).jobs c.loop-job.at (sym c.job.ensures ∙ c.in_default.is) in
    ap (λ (b : Bool). if b then 1 else 0) (sym none ∙ c.loop-job.invariant.left)
