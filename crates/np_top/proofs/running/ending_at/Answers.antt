use Rattle.np_top.proofs.Prelude.{Runs-first, State, ap, false, fates, jobs-Runs, ran_of, refl, status_of_fates, true, ◌∙◌}
use Rattle.np_top.proofs.Sites.{played_to, status_then, ended_is, rows_runs, rows_printed, rows_jobs, rows_state}
use Rattle.np_top.proofs.running.ending_at.Goals as goal

pub text-requires-clause-runs : goal.text-requires-clause-runs
text-requires-clause-runs g c =
    let m = c.args.machine.now in
    rows_runs (ran_of m) (ran_of m) refl _ _ c.rows-rows.ensures.site c.rows-rows.ensures.state c.journal.result.now c.journal.ensures
    (Runs-first m.configuration m.earlier m.journal m.state c.requires.first c.know_soundness.ensures.runs)

pub status_of-requires : goal.status_of-requires
status_of-requires g c =
    let m = c.args.machine.now in
    let printed = rows_printed (ran_of m) (ran_of m) refl _ _ c.rows-rows.ensures.site c.rows-rows.ensures.state
    c.journal.result.now c.in_ok-text.text.items c.journal.ensures c.in_ok-text.ensures in
    record {
      jobs = rows_jobs (ran_of m) (ran_of m) refl _ _ c.rows-rows.ensures.site c.rows-rows.ensures.state
          (jobs-Runs m.configuration m.journal m.state printed.sound (Runs-first m.configuration m.earlier m.journal m.state c.requires.first c.know_soundness.ensures.runs));
    }

pub returns-then-full : goal.returns-then-full
returns-then-full g c = λ plans ended.
    let m = c.args.machine.now in let text = c.in_ok-text.text.items in
    let printed = rows_printed (ran_of m) (ran_of m) refl _ _ c.rows-rows.ensures.site c.rows-rows.ensures.state c.journal.result.now text c.journal.ensures c.in_ok-text.ensures in
    played_to m.configuration m.configuration m.journal m.state refl (Runs-first m.configuration m.earlier m.journal m.state c.requires.first c.know_soundness.ensures.runs) plans text true
    printed (ended_is plans m.configuration m.journal c.args.full true c.if-full.true ended)

pub returns : goal.returns
returns g c = λ plans ended.
    let m = c.args.machine.now in let text = c.in_ok-text.text.items in
    let runs = Runs-first m.configuration m.earlier m.journal m.state c.requires.first c.know_soundness.ensures.runs in
    let printed = rows_printed (ran_of m) (ran_of m) refl _ _ c.rows-rows.ensures.site c.rows-rows.ensures.state c.journal.result.now text c.journal.ensures c.in_ok-text.ensures in
    let state = rows_state (ran_of m) (ran_of m) refl _ _ c.rows-rows.ensures.site c.rows-rows.ensures.state in (
      played_to m.configuration m.configuration m.journal m.state refl runs plans text false printed (ended_is plans m.configuration m.journal c.args.full false c.if-full.false ended),
      status_then m.configuration m.configuration m.journal m.state refl runs c.status_of.result (c.status_of.ensures ∙ ap (λ (s : State). status_of_fates (fates s)) state),
    )
