use Rattle.np_explain.proofs.Prelude.{Runs-first, ◌≡◌}
use Rattle.np_explain.proofs.text.text_of.Goals as goal

pub text-requires-clause-runs : goal.text-requires-clause-runs
text-requires-clause-runs c =
    let m = c.args.machine.now in
    rw (c.rows.ensures.site, c.rows.ensures.state, c.journal-journal.ensures) (Runs-first m.configuration m.earlier m.journal m.state c.requires c.know_soundness.ensures.runs)

pub text-requires-clause-lines : goal.text-requires-clause-lines
text-requires-clause-lines c = c.have_lines.ensures c.if-have_lines.true

pub returns-then-have_lines : goal.returns-then-have_lines
returns-then-have_lines c =
    let m = c.args.machine.now in
    record {
      printed = rw (c.rows.ensures.site, c.journal-journal.ensures) at c.in_ok-made.ensures;
      runs = Runs-first m.configuration m.earlier m.journal m.state c.requires c.know_soundness.ensures.runs;
    }
