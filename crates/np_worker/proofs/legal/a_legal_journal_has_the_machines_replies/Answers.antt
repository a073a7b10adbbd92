use Rattle.np_worker.proofs.Journals.{legal_at}
use Rattle.np_worker.proofs.legal.a_legal_journal_has_the_machines_replies.Goals as goal

pub returns-clause-at_place : goal.returns-clause-at_place
returns-clause-at_place c = legal_at
