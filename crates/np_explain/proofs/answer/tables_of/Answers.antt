use Rattle.np_explain.proofs.Prelude.{Runs-first}
use Rattle.np_explain.proofs.answer.tables_of.Goals as goal

pub returns : goal.returns
returns c =
    let m = c.args.machine.now in
    record {
      state = m.state;
      runs = Runs-first m.configuration m.earlier m.journal m.state c.requires c.know_soundness.ensures.runs;
      lines = rw (c.rows.ensures.site, c.rows.ensures.state) at c.in_ok-text.ensures;
    }
