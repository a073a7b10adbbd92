-- the places of the roles' records
use Rattle.std.specs.Prelude.{Option, Some, None}
use Rattle.np_layout.specs.declared.place.Place.{Place}
use Rattle.np_layout.specs.declared.place.Place.TheVariants.{LauncherRole, JanitorRole, RequesterRole}
use Rattle.np_layout.specs.Lower.{Role}

-- a role's record has a place; the reaper, which has no session, has no record
abbrev pub place_of_role : Role → Option Place
place_of_role (Role.Launcher p) = Some (LauncherRole p)
place_of_role (Role.Janitor p) = Some (JanitorRole p)
place_of_role (Role.Requester q) = Some (RequesterRole q)
place_of_role Role.Reaper = None
