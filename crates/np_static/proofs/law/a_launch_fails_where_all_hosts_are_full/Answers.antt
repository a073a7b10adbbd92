use Rattle.np_static.proofs.Loads.{launch-fails, launch-full, launch-many}
use Rattle.np_static.proofs.law.a_launch_fails_where_all_hosts_are_full.Goals as goal

pub returns-clause-cause : goal.returns-clause-cause
returns-clause-cause c = launch-fails

pub returns-clause-many : goal.returns-clause-many
returns-clause-many c = launch-many

pub returns-clause-full : goal.returns-clause-full
returns-clause-full c = launch-full
