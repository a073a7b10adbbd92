-- what became of each job
use Rattle.std.specs.Prelude.{List, [], Option, Some, None, map, option_and_then}
use Rattle.std.specs.Option.{option_map_or}
use Rattle.np_machine.specs.Tables.{request_in}
use Rattle.np_machine.specs.State.{State}
use Rattle.np_machine.specs.Lower.{Declined, Ending, JobRecord, NodeId, Phase, PoolId}

-- a job's end, or how far it has come (own)
pub data Fate : Type 0 where
  -- by this pool, with these nodes
  served : Option PoolId → List NodeId → Fate
  -- with its request's declines, in order
  failed : List Declined → Fate
  lost : Fate
  withdrawn : Fate
  waiting : Phase → Fate

-- the declines of the job's request
abbrev pub declines_of : State → JobRecord → List Declined
declines_of s job = option_map_or (λ request. request.declined) (option_and_then (λ r. request_in r s.requests) job.request) []

-- a job has an ending if and only if it is over
abbrev pub fate_as : State → JobRecord → Option Ending → Fate
fate_as s job (Some Ending.Served) = served job.pool (map (λ m. m.node) job.nodes)
fate_as s job (Some Ending.Lost) = lost
fate_as s job (Some Ending.Failed) = failed (declines_of s job)
fate_as s job (Some Ending.Withdrawn) = withdrawn
fate_as s job None = waiting job.phase

abbrev pub fate_of : State → JobRecord → Fate
fate_of s job = fate_as s job job.ending

-- the fates of all jobs, in job order
abbrev pub fates : State → List Fate
fates s = map (fate_of s) s.jobs
