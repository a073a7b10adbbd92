use Rattle.np_report.proofs.Prelude.{AllByRecursion, Entry, HasEventLine, List, Ran, ap, ran_of, start, subst, sym, ◌∙◌}
use Rattle.np_report.proofs.PlayedLemmas.{lines-played_from, runs-same}
use Rattle.np_report.proofs.played.text_of_events.Goals as goal

pub text-requires-clause-runs : goal.text-requires-clause-runs
text-requires-clause-runs g c =
    let conf = c.args.machine.now.configuration in
    runs-same (ran_of c.play.new.machine) conf c.args.events.now _ _ _
    c.in_ok-play.ensures c.rows.ensures.site c.journal.ensures c.rows.ensures.state c.requires.few

pub text-requires-clause-lines : goal.text-requires-clause-lines
text-requires-clause-lines g c =
    let conf = c.args.machine.now.configuration in
    let journal = c.journal.ensures ∙ ap (λ (m : Ran). m.journal) c.in_ok-play.ensures in
    subst (λ (entries : List Entry). AllByRecursion (λ (e : Entry). HasEventLine e.event) entries) (sym journal)
    (lines-played_from conf (start conf) c.args.events.now c.requires.lines)
