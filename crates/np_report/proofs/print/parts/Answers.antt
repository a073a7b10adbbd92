use Rattle.np_report.proofs.Prelude.{IsSound, subst}
use Rattle.np_report.proofs.Rows.{told-Runs}
use Rattle.np_report.proofs.print.parts.Goals as goal

pub put_entries-requires : goal.put_entries-requires
put_entries-requires g c =
    told-Runs (g.R.Rows.site c.args.rows.now) c.args.journal.now (g.R.Rows.state c.args.rows.now)
    (subst IsSound c.config-config.ensures c.know_soundness.ensures) c.requires.runs c.requires.lines
