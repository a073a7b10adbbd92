use Rattle.np_lock.proofs.LawLemmas.{empties-are-locks, queues-are-shown}
use Rattle.np_lock.proofs.laws.queues_are_what_is_shown.Goals as goal

pub returns : goal.returns
returns c = record { shown = queues-are-shown; empty = empties-are-locks }
