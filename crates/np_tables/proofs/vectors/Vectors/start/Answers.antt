use Rattle.np_tables.proofs.Prelude.{JobId, List, new_job, no_deeds, refl, []}
use Rattle.np_tables.proofs.TableLemmas.{replicate-map}
use Rattle.np_tables.proofs.vectors.Vectors.start.Goals as goal

pub returns : goal.returns
returns c =
    rw (
      c.in_ok-handles.ensures,
      c.in_ok-jobs.ensures,
      c.in_ok-launchers.ensures,
      c.in_ok-janitors.ensures,
      c.in_ok-requesters.ensures,
      c.semaphores.ensures,
      c.jobs.ensures,
      c.pools.ensures,
      c.pools-2.ensures,
      c.requesters.ensures,
      c.new.ensures.items,
      c.new-2.ensures.items,
      c.new-3.ensures,
      c.new-4.ensures,
      c.new-5.ensures,
      replicate-map {X = List JobId} [] c.args.config.now.semaphores,
      replicate-map new_job c.args.config.now.jobs,
      replicate-map no_deeds c.args.config.now.pools,
      replicate-map no_deeds c.args.config.now.requesters,
    ) refl
