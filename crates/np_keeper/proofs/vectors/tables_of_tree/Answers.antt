use Rattle.np_keeper.proofs.Queued.{fits-countable}
use Rattle.np_keeper.proofs.vectors.tables_of_tree.Goals as goal

pub of_vectors-requires : goal.of_vectors-requires
of_vectors-requires c =
    rw c.in_ok-vectors.ensures (fits-countable _ _ c.requires.fits c.requires.stored.carried.jobs c.know_soundness.ensures.demand.few_jobs)
