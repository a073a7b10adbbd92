-- a request that failed with its decline by each registered pool
use Rattle.np_worked.proofs.Prelude.{Configuration, Contains, HasCause, HasDeclined, List, None, Registration, RequestId, RequestRecord, Turn, arith, ◌≡◌}

pub has-declined : (c : Configuration) (past : List Turn) (t : Turn) (r : RequestId) (request : RequestRecord) (g : Registration)
    → Contains t.later.registrations g → request.pinned ≡ None → HasCause c past t r request → HasDeclined c past r request g.pool
has-declined c past t r request g registered unpinned cause = grind arith
