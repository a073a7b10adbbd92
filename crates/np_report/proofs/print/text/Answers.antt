use Rattle.np_report.proofs.PlayedLemmas.{printed-Runs}
use Rattle.np_report.proofs.print.text.Goals as goal

pub returns-in-Ok : goal.returns-in-Ok
returns-in-Ok g c =
    printed-Runs (g.R.Rows.site c.args.rows.now) c.args.journal.now (g.R.Rows.state c.args.rows.now) c.in-Ok.text.items
    c.is_sound.ensures c.requires.runs c.requires.lines c.in-Ok.ensures
