-- what contracts know of a driver
use Rattle.std.specs.Prelude.{ℕ, List, Option}
use Rattle.np_cloud.specs.declared.driver.Launch.{Launch}
use Rattle.np_cloud.specs.declared.driver.Server.{Server}

-- a driver (own)
pub record DriverFacts : Type 0 where
  -- the launches that returned a server's number or failed, in order, if the driver reports them;
  -- one that ran out of memory is not among them
  pub answered : Option (List Launch)
  -- the servers, in the order of their launches, if the driver reports them
  pub servers : Option (List Server)
  -- how many launches and how many removals failed; neither ever falls
  pub launch_faults : ℕ
  pub remove_faults : ℕ
