use Rattle.np_tables.proofs.TableLemmas.{countable-start}
use Rattle.np_tables.proofs.tables.Tables.start.Goals as goal

pub invariant_of-result : goal.invariant_of-result
invariant_of-result c = rw c.in_ok-vectors.ensures (countable-start c.args.config c.is_sound.ensures.demand.few_jobs)
