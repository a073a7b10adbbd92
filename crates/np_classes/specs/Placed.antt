-- ids and the groups that they are in, by the groups of each id
use Rattle.std.specs.Prelude.{◌≡◌, Bool, true, false, List, map, Option, [], ◌∷◌, None, is_none, option_and_then}
use Rattle.np_classes.specs.Lower.{Group, Member, Placed, Rises, has_member, is_among, is_member_before, Configuration, NodeId, RequestId, State, is_unclaimed, node_holder, node_in, option_map_or, request_holder, request_in}
use Rattle.np_classes.specs.declared.past.PastNode.{PastNode}
use Rattle.np_classes.specs.declared.past.PastQueue.{PastQueue}
use Rattle.np_classes.specs.declared.past.PastRequest.{PastRequest}
use Rattle.np_classes.specs.Classes.{node_groups, request_groups, unheld_pending_group_of}

-- ids in groups, by the groups of each id

-- ids are in an order, and equal if they are the same
pub record IsOrder {K : Type 0} (before same : K → K → Bool) : Type 0 where
  pub transitive : (a b k : K) → before a b ≡ true → before b k ≡ true → before a k ≡ true
  pub one_way : (a b : K) → before a b ≡ true → before b a ≡ false
  pub some_way : (a b : K) → before a b ≡ false → same a b ≡ false → before b a ≡ true
  pub equal : (a b : K) → same a b ≡ true → a ≡ b

-- the members of each group are the ids that have it among their groups
pub record AreGrouped {K : Type 0} (before same : K → K → Bool) (groups : K → List (Option Group)) (members : List (Member K)) : Type 0 where
  pub rises : Rises (is_member_before before) members
  pub each : (g : Group) (i : K) → has_member same g i members ≡ is_among g (groups i)

-- the ids with their groups
abbrev pub placed_all : {K : Type 0} → (K → List (Option Group)) → List K → List (Placed K)
placed_all groups ids = map (λ i. record { id = i; groups = groups i }) ids

-- ids with the groups that they are in

-- ## nodes and requests

-- a node in no group
abbrev pub no_node_groups : List (Option Group)
no_node_groups = None ∷ None ∷ None ∷ None ∷ None ∷ []

-- a request in no group
abbrev pub no_request_groups : List (Option Group)
no_request_groups = None ∷ None ∷ None ∷ None ∷ None ∷ None ∷ None ∷ []

-- the groups of the node, if it is there
abbrev pub groups_of_node : Configuration → State → NodeId → List (Option Group)
groups_of_node c s n = option_map_or (λ k. node_groups c k (is_none (node_holder n s.nodes)) (is_unclaimed s k)) (node_in n s.nodes) no_node_groups

abbrev pub groups_of_request : State → RequestId → List (Option Group)
groups_of_request s r = option_map_or (λ k. request_groups k (is_none (request_holder r s.requests))) (request_in r s.requests) no_request_groups

-- its group among the pending ones that nobody holds, which alone its queue decides
abbrev pub unheld_group_of_request : State → RequestId → Option Group
unheld_group_of_request s r = option_and_then (λ k. unheld_pending_group_of k (is_none (request_holder r s.requests))) (request_in r s.requests)

-- as the one group that its queue decides
abbrev pub unheld_groups : State → RequestId → List (Option Group)
unheld_groups s r = unheld_group_of_request s r ∷ []

-- ## with the groups before a change

abbrev pub past_node : Configuration → State → NodeId → PastNode
past_node c s n = record { node = n; groups = groups_of_node c s n }

abbrev pub past_request : State → RequestId → PastRequest
past_request s r = record { request = r; groups = groups_of_request s r }

abbrev pub past_queue : State → RequestId → PastQueue
past_queue s r = record { request = r; groups = unheld_groups s r }

abbrev pub node_before : PastNode → Placed NodeId
node_before past = record { id = past.node; groups = past.groups }

abbrev pub request_before : PastRequest → Placed RequestId
request_before past = record { id = past.request; groups = past.groups }

abbrev pub queue_before : PastQueue → Placed RequestId
queue_before past = record { id = past.request; groups = past.groups }
