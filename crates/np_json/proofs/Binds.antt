-- what a first step says of the steps that begin with it
use Rattle.np_json.proofs.Prelude.{ConfigFault, ConfigRead, Err, Fails, Ok, Result, fault_of, ◌>>=◌, ◌>>◌}

-- a step's fault is the fault of what begins with it
pub binds : {A B : Type 0} (e : ConfigRead) (r : Result A ConfigFault) (f : A → Result B ConfigFault) → Fails e (fault_of r) → Fails e (fault_of (r >>= f))
binds ConfigRead.NoMemory r f told = tt
binds (ConfigRead.Fault t) (Ok x) f told = absurd (cc)
binds (ConfigRead.Fault t) (Err e) f told = told

pub then_binds : {B : Type 0} (e : ConfigRead) (r : Result (Unit {0}) ConfigFault) (f : Result B ConfigFault) → Fails e (fault_of r) → Fails e (fault_of (r >> f))
then_binds ConfigRead.NoMemory r f told = tt
then_binds (ConfigRead.Fault t) (Ok x) f told = absurd (cc)
then_binds (ConfigRead.Fault t) (Err e) f told = told

pub ruleset exits = (binds, then_binds)
