-- the laws of the source files, each with what it is proved from
use Rattle.np_layout.proofs.Prelude.{EventsAreEnacted, EventsAreReady, EventsEnact, plan-next}
use Rattle.np_layout.specs.Place.{NamesAreLast, ParentsAreAbove}
use Rattle.np_layout.proofs.Carried.{steps-are-carried}
use Rattle.np_layout.proofs.ChangeParts.{deeds-enact, jobs-enact, nodes-enact, requests-enact, sessions-enact, ticks-enact}
use Rattle.np_layout.proofs.Events.{events-are-enacted, events-are-ready, events-enact}
use Rattle.np_layout.proofs.GrowthParts.{growths-enact, handles-enact}
use Rattle.np_layout.proofs.Names.{IsGood-above, is_path-of, length-longest, length-most, parts-of, path_of-joined, same_names, same_paths}
use Rattle.np_layout.proofs.OneState.{trees-have-one_state}
use Rattle.np_layout.proofs.Sets.{nodes-lay-out, ticks-lay-out}
use Rattle.np_layout.proofs.Spelled.{records-are-spelled}
use Rattle.np_layout.proofs.Stands.{TablesEnact}

-- the laws of the tables
tables : TablesEnact
tables = assumption (requests-enact, nodes-enact, jobs-enact, handles-enact, deeds-enact, sessions-enact, ticks-enact)

-- of the changes of a whole event
pub events : EventsEnact
events = events-enact growths-enact tables

-- of an accepted event
pub ready : EventsAreReady
ready = events-are-ready records-are-spelled

-- and of what it leaves
pub accepted : EventsAreEnacted
accepted = events-are-enacted events ready steps-are-carried plan-next

-- of the place above, and of names
pub parents : ParentsAreAbove
parents p good = (parts-of p good).0

pub names : NamesAreLast
names p good = (parts-of p good).1

pub ruleset decoding = (trees-have-one_state)

pub ruleset events_laws = (records-are-spelled, ready)

pub ruleset place_names = (is_path-of, path_of-joined, parents, names, IsGood-above, same_paths, same_names, length-most, length-longest)

pub ruleset sets = (ticks-lay-out, nodes-lay-out)
