-- why a pool may decline a request, and when it pauses
use Rattle.std.specs.Prelude.{ℕ, ◌-◌, ◌+◌, Bool, false, ◌==◌, ◌&&◌, ◌||◌, not, if◌then◌else◌, Option, is_some, is_none, length, find, slice_get, nat_lt}
use Rattle.std.specs.Option.{option_map_or}
use Rattle.std.specs.List.{list_any}
use Rattle.np_machine.specs.Entries.{RequestEntry, NodeEntry}
use Rattle.np_machine.specs.Kinds.{is_ready, is_failed_node}
use Rattle.np_machine.specs.Tables.{holder, node_in}
use Rattle.np_machine.specs.Count.{is_offered, amount_of_all, limit_of, is_kind, is_short}
use Rattle.np_machine.specs.Tenants.{tenant_never_fits}
use Rattle.np_machine.specs.Order.{is_pending_by}
use Rattle.np_machine.specs.State.{State}
use Rattle.np_machine.specs.Lower.{Configuration, LabelId, NeverFits, NoLabel, NodeId, NodeRecord, PoolId, Reason, RequestRecord, Spent, TenantNeverFits, fits}

-- the label at the place after the request's last node; none if it has as many nodes as labels
abbrev pub next_label : RequestRecord → Option LabelId
next_label request = slice_get request.labels (length request.nodes)

-- ## reasons (Nodepool: a launcher declines what its pool cannot serve)

-- the labels together pass a limit of the pool, however empty it is
abbrev pub never_fits : Configuration → PoolId → RequestRecord → Bool
never_fits c p request = not (fits (amount_of_all c p request.labels) (limit_of c p))

-- the first label of the request that the pool does not offer
abbrev pub first_unoffered : Configuration → PoolId → RequestRecord → Option LabelId
first_unoffered c p request = find (λ l. not (is_offered c p l)) request.labels

-- the node is there and failed
abbrev pub is_spent : NodeId → State → Bool
is_spent n s = option_map_or (λ k. is_failed_node k.state) (node_in n s.nodes) false

-- the reason is true of the request at the pool
abbrev pub is_true : Configuration → State → PoolId → RequestRecord → Reason → Bool
is_true c s p request (NoLabel l) = list_any (λ other. other.0 == l.0) request.labels && not (is_offered c p l)
is_true c s p request NeverFits = never_fits c p request
is_true c s p request TenantNeverFits = tenant_never_fits c p request
is_true c s p request (Spent n) = list_any (λ other. other.0 == n.0) request.nodes && is_spent n s

-- ## ages (Nodepool: max-ready-age, max-hold-age; counted in ticks)

abbrev pub ready_age : Configuration → LabelId → ℕ
ready_age c l = option_map_or (λ label. label.max_ready_age) (slice_get c.labels l.0) 0

-- older than the age allows, if it allows one; 0 is no age
abbrev pub is_past : ℕ → ℕ → ℕ → Bool
is_past age since tick = nat_lt 0 age && nat_lt age (tick - since)

-- the first tick at which it is past the age; 0 for never
abbrev pub due_tick : ℕ → ℕ → ℕ
due_tick age since = if age == 0 then 0 else since + age + 1

-- a ready node that waited too long for a job
abbrev pub is_old_ready : Configuration → State → NodeRecord → Bool
is_old_ready c s k = is_past (ready_age c k.label) k.since s.tick

-- a node that was held too long
abbrev pub is_old_hold : Configuration → State → NodeRecord → Bool
is_old_hold c s k = is_past c.max_hold_age k.since s.tick

-- ## pause (Nodepool: a pool at its quota pauses until its request is complete)

-- a ready node that is allocated to no request and locked by no session
abbrev pub is_unused : NodeEntry → Bool
is_unused e = is_ready e.kept.state && is_none e.kept.allocated_to && is_none (holder e.queue)

-- an unused node of the pool and the label
abbrev pub is_spare : PoolId → LabelId → NodeEntry → Bool
is_spare p l e = is_unused e && is_kind p l e

-- the pool has no room for a node of the label, and the request cannot continue with another node
abbrev pub is_stuck_at : Configuration → State → PoolId → RequestRecord → LabelId → Bool
is_stuck_at c s p request l = is_short c s p l && (is_some request.pinned || not (list_any (is_spare p l) s.nodes))

-- pending by the pool, not complete, and stuck at its next label
abbrev pub is_stuck : Configuration → State → PoolId → RequestEntry → Bool
is_stuck c s p e = is_pending_by p e.kept && option_map_or (is_stuck_at c s p e.kept) (next_label e.kept) false

abbrev pub is_paused : Configuration → State → PoolId → Bool
is_paused c s p = list_any (is_stuck c s p) s.requests
