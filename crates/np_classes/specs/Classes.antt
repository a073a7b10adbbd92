-- the groups that nodes and requests are in, and what a state says of them
use Rattle.std.specs.Prelude.{◌≡◌, ℕ, zero, suc, ◌+◌, ◌*◌, List, [], ◌∷◌, Bool, false, ◌==◌, ◌&&◌, ◌||◌, not, if◌then◌else◌, Option, Some, None, is_none, is_some, length, slice_get, option_and_then, nat_lt}
use Rattle.np_classes.specs.Lower.{Configuration, Declined, Group, LabelId, Member, NodeId, NodeRecord, PoolId, RequestId, RequestRecord, Rises, State, TenantId, UnheldKind, due_of, has_member, is_declined_by, is_failed, is_id_before, is_member_before, is_node_before, is_pending, is_ready, is_requested, is_unclaimed, next_label, node_holder, node_in, option_map, option_map_or, request_holder, request_in, same_node, same_request, unheld_kind}
pub use Rattle.np_classes.specs.Lower.{is_among}

-- ## groups of nodes (own)

-- all nodes of the pool with the label
abbrev pub kind_group : PoolId → LabelId → Group
kind_group p l = record { class = 0; first = p.0; second = l.0; third = 0 }

-- those of them that are ready, allocated to no request and unlocked
abbrev pub spare_group : PoolId → LabelId → Group
spare_group p l = record { class = 1; first = p.0; second = l.0; third = 0 }

-- the ready nodes of the label in all pools that are allocated to no request
abbrev pub free_group : LabelId → Group
free_group l = record { class = 2; first = 0; second = l.0; third = 0 }

-- the tenant's nodes of the pool with the label
abbrev pub tenant_group : TenantId → PoolId → LabelId → Group
tenant_group t p l = record { class = 3; first = t.0; second = p.0; third = l.0 }

-- the class of the nodes of this kind that nobody holds
abbrev pub unheld_class : UnheldKind → ℕ
unheld_class UnheldKind.Free = 4
unheld_class UnheldKind.LeftOver = 5
unheld_class UnheldKind.Hold = 6
unheld_class UnheldKind.Abandoned = 7

-- the nodes of the pool that nobody holds, of this kind, that are due at this tick
abbrev pub unheld_group : PoolId → UnheldKind → ℕ → Group
unheld_group p kind due = record { class = unheld_class kind; first = p.0; second = 0; third = due }

-- the group, if the test is passed
abbrev pub group_if : Bool → Group → Option Group
group_if is_in g = if is_in then Some g else None

-- its group among the nodes that nobody holds, if it is unlocked and of a kind
abbrev pub unheld_group_of : Configuration → NodeRecord → Bool → Bool → Option Group
unheld_group_of c k unlocked unclaimed = if unlocked then option_map (λ kind. unheld_group k.pool kind (due_of c kind k)) (unheld_kind unclaimed k) else None

-- the groups of a node with this record, by whether it is unlocked and whether it is unclaimed
abbrev pub node_groups : Configuration → NodeRecord → Bool → Bool → List (Option Group)
node_groups c k unlocked unclaimed =
    Some (kind_group k.pool k.label)
    ∷ group_if (is_ready k.state && is_none k.allocated_to) (free_group k.label)
    ∷ group_if (is_ready k.state && is_none k.allocated_to && unlocked) (spare_group k.pool k.label)
    ∷ option_map (λ t. tenant_group t k.pool k.label) k.tenant
    ∷ unheld_group_of c k unlocked unclaimed
    ∷ []

-- ## groups of requests (own)

-- the requests that are pending by the pool
abbrev pub pending_group : PoolId → Group
pending_group p = record { class = 0; first = p.0; second = 0; third = 0 }

-- those of them that nobody holds
abbrev pub unheld_pending_group : PoolId → Group
unheld_pending_group p = record { class = 1; first = p.0; second = 0; third = 0 }

-- the min-ready requests for the label that are requested or pending
abbrev pub coming_group : LabelId → Group
coming_group l = record { class = 2; first = 0; second = l.0; third = 0 }

-- the failed min-ready requests of the pool for the label
abbrev pub spent_group : PoolId → LabelId → Group
spent_group p l = record { class = 3; first = p.0; second = l.0; third = 0 }

-- the requests that are requested, and that the pools of this set declined and no others
abbrev pub declined_group : ℕ → Group
declined_group set = record { class = 4; first = 0; second = 0; third = set }

-- the requests that are pending by the pool and not pinned, and whose next label is this one
abbrev pub next_label_group : PoolId → LabelId → Group
next_label_group p l = record { class = 5; first = p.0; second = l.0; third = 0 }

-- the same of those that are pinned
abbrev pub pinned_label_group : PoolId → LabelId → Group
pinned_label_group p l = record { class = 6; first = p.0; second = l.0; third = 0 }

-- requested, and at least one pool declined it
abbrev pub is_still_requested : RequestRecord → Bool
is_still_requested k = is_requested k.state && not (length k.declined == 0)

-- so many pools from this one on, as a number: a binary digit for each, 1 if it is among the declines,
-- the first pool's the last digit
unfoldable pub decline_digits : List Declined → ℕ → ℕ → ℕ
decline_digits declined p zero = 0
decline_digits declined p (suc n) = (if is_declined_by (record { 0 = p }) declined then 1 else 0) + 2 * decline_digits declined (suc p) n

-- the pools among the declines as a number: a binary digit for each pool, the first pool's the last digit
abbrev pub decline_set : List Declined → ℕ
decline_set declined = decline_digits declined 0 64

abbrev pub pending_group_of : RequestRecord → Option Group
pending_group_of k = if is_pending k.state then option_map pending_group k.pool else None

abbrev pub unheld_pending_group_of : RequestRecord → Bool → Option Group
unheld_pending_group_of k unlocked = if is_pending k.state && unlocked then option_map unheld_pending_group k.pool else None

abbrev pub coming_group_of : RequestRecord → Option Group
coming_group_of k = if (is_requested k.state || is_pending k.state) && is_some k.pinned then option_map coming_group (slice_get k.labels 0) else None

abbrev pub spent_group_of : RequestRecord → Option Group
spent_group_of k = if is_failed k.state then option_and_then (λ p. option_map (spent_group p) (slice_get k.labels 0)) k.pinned else None

abbrev pub declined_group_of : RequestRecord → Option Group
declined_group_of k = if is_still_requested k then Some (declined_group (decline_set k.declined)) else None

abbrev pub next_label_group_of : RequestRecord → Option Group
next_label_group_of k = if is_pending k.state && is_none k.pinned then option_and_then (λ p. option_map (next_label_group p) (next_label k)) k.pool else None

abbrev pub pinned_label_group_of : RequestRecord → Option Group
pinned_label_group_of k = if is_pending k.state && is_some k.pinned then option_and_then (λ p. option_map (pinned_label_group p) (next_label k)) k.pool else None

-- the groups of a request with this record, by whether it is unlocked
abbrev pub request_groups : RequestRecord → Bool → List (Option Group)
request_groups k unlocked =
    pending_group_of k
    ∷ unheld_pending_group_of k unlocked
    ∷ coming_group_of k
    ∷ spent_group_of k
    ∷ declined_group_of k
    ∷ next_label_group_of k
    ∷ pinned_label_group_of k
    ∷ []

-- ## what a state says

-- the node is there, and in the group
abbrev pub node_is_in : Configuration → State → Group → NodeId → Bool
node_is_in c s g n = option_map_or (λ k. is_among g (node_groups c k (is_none (node_holder n s.nodes)) (is_unclaimed s k))) (node_in n s.nodes) false

-- the request is there, and in the group
abbrev pub request_is_in : State → Group → RequestId → Bool
request_is_in s g r = option_map_or (λ k. is_among g (request_groups k (is_none (request_holder r s.requests)))) (request_in r s.requests) false

-- the members of a group are the nodes that are in it; no two nodes have one number
pub record AreNodeGroups (c : Configuration) (s : State) (members : List (Member NodeId)) : Type 0 where
  pub rises : Rises (is_member_before is_node_before) members
  pub each : (g : Group) (n : NodeId) → has_member same_node g n members ≡ node_is_in c s g n
  pub once : Rises (λ a b. nat_lt a.id.0 b.id.0) s.nodes

-- the members of a group are the requests that are in it; no two requests have one id
pub record AreRequestGroups (s : State) (members : List (Member RequestId)) : Type 0 where
  pub rises : Rises (is_member_before is_id_before) members
  pub each : (g : Group) (r : RequestId) → has_member same_request g r members ≡ request_is_in s g r
  pub once : Rises (λ a b. is_id_before a.id b.id) s.requests

-- the members of all groups, and how many more can be put without taking memory
pub record ClassesOf : Type 0 where
  pub nodes : List (Member NodeId)
  pub requests : List (Member RequestId)
  pub node_room : ℕ
  pub request_room : ℕ

-- each part says what the state says
pub record AreClasses (c : Configuration) (s : State) (classes : ClassesOf) : Type 0 where
  pub nodes : AreNodeGroups c s classes.nodes
  pub requests : AreRequestGroups s classes.requests
