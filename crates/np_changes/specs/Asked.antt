-- a request's record without its declines
use Rattle.std.specs.Prelude.{[]}
use Rattle.np_changes.specs.declared.asked.Asked.{Asked}
use Rattle.np_changes.specs.Lower.{RequestRecord}

-- the record, except for its declines
abbrev pub asked_of : RequestRecord → Asked
asked_of k = record {
  job = k.job;
  labels = k.labels;
  nodes = k.nodes;
  pinned = k.pinned;
  pool = k.pool;
  relative_priority = k.relative_priority;
  state = k.state;
}

-- the record of a request that no pool has declined
abbrev pub new_record : Asked → RequestRecord
new_record a = record {
  declined = [];
  job = a.job;
  labels = a.labels;
  nodes = a.nodes;
  pinned = a.pinned;
  pool = a.pool;
  relative_priority = a.relative_priority;
  state = a.state;
}
