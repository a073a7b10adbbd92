-- requests on which a provider's launchers work, as their views show them
use Rattle.np_causes.proofs.Prelude.{Bool, Configuration, None, Option, PoolId, RequestEntry, SessionId, Some, State, Thing, ap, arith, held_by, holder, if_near, if◌then◌else◌, is_near, refl, request_seen, request_view, ◌≡◌}

-- who holds it is the first of its queue, and no other
held : (o : Option SessionId) → holder (held_by o) ≡ o
held o = grind arith

pub near_seen : (c : Configuration) (s : State) (p : PoolId) (e : RequestEntry) → is_near c s p e ≡ is_near c s p (request_seen (request_view e))
near_seen c s p e = rw (held (holder e.queue)) refl

pub near_named : (c : Configuration) (s : State) (p : PoolId) (e : RequestEntry) → if_near c s p e ≡ if_near c s p (request_seen (request_view e))
near_named c s p e = ap (λ (b : Bool). if b then Some (Thing.Request e.id) else None) (near_seen c s p e)
