-- the choice of a launcher, and of an event that can be planned
use Rattle.std.specs.Prelude.{if◌then◌else◌, Option, Some, None, option_and_then, List, [], ◌∷◌, ℕ, ◌&&◌, Bool, not, ◌≡◌, true}
use Rattle.np_launch.specs.declared.computed.ComputedKind.{ComputedKind}
use Rattle.np_launch.specs.declared.launcher.LaunchKind.{LaunchKind}
use Rattle.np_launch.specs.declared.launcher.LaunchKind.TheVariants.{Plain, Computed}
use Rattle.np_launch.specs.Computed.{computed_at, computed_places}
use Rattle.np_launch.specs.declared.planned.PlannedKind.{PlannedKind}
use Rattle.np_launch.specs.Lower.{AllByRecursion, Configuration, Event, IsUseful, LabelId, Launcher, Node, NodeId, NodeKind, NodeRecord, NoneOf, Outcome, PoolId, Reason, Request, RequestId, RequestKind, RequestRecord, SessionId, State, candidate, is_declined, is_pending_by, is_planned, is_requested, is_session_of, places, request_holder, request_in, request_is}

-- the request that a node is allocated to, if the pool serves it

-- the request that the node is allocated to, if it is pending and the pool serves it (own)
abbrev pub served_request : PoolId → State → NodeRecord → Option RequestRecord
served_request p s k =
    option_and_then (λ r. option_and_then (λ q. if is_pending_by p q then Some q else None) (request_in r s.requests)) k.allocated_to

-- the order of a launcher's kinds of events, and what a search among them returns

-- it finishes before it begins, and takes a free node before it creates one (own)
abbrev pub launcher_order : List LaunchKind
launcher_order =
    Computed ComputedKind.Register
    ∷ Computed ComputedKind.Done
    ∷ Plain (Request RequestKind.Fulfil)
    ∷ Plain (Node NodeKind.Unlock)
    ∷ Plain (Request RequestKind.Unlock)
    ∷ Plain (Node NodeKind.Start)
    ∷ Computed ComputedKind.TakeReady
    ∷ Plain (Request RequestKind.Create)
    ∷ Computed ComputedKind.Decline
    ∷ Plain (Request RequestKind.Accept)
    ∷ Plain (Request RequestKind.Lock)
    ∷ Computed ComputedKind.MinReady
    ∷ []

-- no event of the kind is useful, whoever makes it and whatever it names (own)
abbrev pub NoneComputed : Configuration → State → PoolId → ComputedKind → Type 0
NoneComputed c s p ComputedKind.Register = (session : SessionId) → IsUseful c s (Launcher p) (Event.Register session) → ⊥
NoneComputed c s p ComputedKind.Done = (session : SessionId) (n : NodeId) (attempt : ℕ) (o : Outcome) → IsUseful c s (Launcher p) (Event.Done session n attempt o) → ⊥
NoneComputed c s p ComputedKind.TakeReady = (session : SessionId) (r : RequestId) (n : NodeId) → IsUseful c s (Launcher p) (Event.TakeReady session r n) → ⊥
NoneComputed c s p ComputedKind.Decline = (session : SessionId) (r : RequestId) (why : Reason) → IsUseful c s (Launcher p) (Event.Decline session r why) → ⊥
NoneComputed c s p ComputedKind.MinReady = (session : SessionId) (l : LabelId) → IsUseful c s (Launcher p) (Event.MinReady session l) → ⊥

-- a useful event of the kind, or none if there is none (own)
abbrev pub ChoosesComputed : Configuration → State → PoolId → ComputedKind → Option Event → Type 0
ChoosesComputed c s p kind None = NoneComputed c s p kind
ChoosesComputed c s p kind (Some e) = IsUseful c s (Launcher p) e

-- no event of the kind is useful (own)
abbrev pub NoneLaunched : Configuration → State → PoolId → LaunchKind → Type 0
NoneLaunched c s p (Plain kind) = NoneOf c s (Launcher p) kind
NoneLaunched c s p (Computed kind) = NoneComputed c s p kind

-- a useful event of the kind, or none if there is none (own)
abbrev pub ChoosesLaunched : Configuration → State → PoolId → LaunchKind → Option Event → Type 0
ChoosesLaunched c s p kind None = NoneLaunched c s p kind
ChoosesLaunched c s p kind (Some e) = IsUseful c s (Launcher p) e

-- a useful event, or none of any of the kinds (own)
abbrev pub ChoosesOfAnyKind : Configuration → State → PoolId → List LaunchKind → Option Event → Type 0
ChoosesOfAnyKind c s p kinds None = AllByRecursion (NoneLaunched c s p) kinds
ChoosesOfAnyKind c s p kinds (Some e) = IsUseful c s (Launcher p) e

-- who has a request in hand, by its number

-- the request is requested, not declined by the pool, and held by the session (own)
abbrev pub is_in_hand_at : PoolId → SessionId → State → RequestId → Bool
is_in_hand_at p session s r =
    request_is r s (λ k. is_requested k.state) && not (is_declined p r s) && is_session_of session (request_holder r s.requests)

-- the choice of an event that can be planned

-- a useful event of the pool's launcher that can be planned, or none if there is none (own)
abbrev pub ChoosesPlanned : Configuration → State → PoolId → Option Event → Type 0
ChoosesPlanned c s p None = (e : Event) → is_planned e ≡ true → IsUseful c s (Launcher p) e → ⊥
ChoosesPlanned c s p (Some e) = IsUseful c s (Launcher p) e × (is_planned e ≡ true)

-- ## the search

-- the order of a launcher's kinds (own)
abbrev pub planned_order : List PlannedKind
planned_order = PlannedKind.Fulfil ∷ PlannedKind.UnlockNode ∷ PlannedKind.UnlockRequest ∷ PlannedKind.Start ∷ PlannedKind.TakeReady ∷ PlannedKind.Decline ∷ []

-- how many places there are
abbrev pub planned_places : Configuration → State → SessionId → PlannedKind → ℕ
planned_places c s session PlannedKind.Fulfil = places s session (Request RequestKind.Fulfil)
planned_places c s session PlannedKind.UnlockNode = places s session (Node NodeKind.Unlock)
planned_places c s session PlannedKind.UnlockRequest = places s session (Request RequestKind.Unlock)
planned_places c s session PlannedKind.Start = places s session (Node NodeKind.Start)
planned_places c s session PlannedKind.TakeReady = computed_places c s session ComputedKind.TakeReady
planned_places c s session PlannedKind.Decline = computed_places c s session ComputedKind.Decline

-- the session's event of the kind that names what is at the place
abbrev pub planned_at : Configuration → State → PoolId → SessionId → PlannedKind → ℕ → Option Event
planned_at c s p session PlannedKind.Fulfil at = candidate s session (Request RequestKind.Fulfil) at
planned_at c s p session PlannedKind.UnlockNode at = candidate s session (Node NodeKind.Unlock) at
planned_at c s p session PlannedKind.UnlockRequest at = candidate s session (Request RequestKind.Unlock) at
planned_at c s p session PlannedKind.Start at = candidate s session (Node NodeKind.Start) at
planned_at c s p session PlannedKind.TakeReady at = computed_at c s p session ComputedKind.TakeReady at
planned_at c s p session PlannedKind.Decline at = computed_at c s p session ComputedKind.Decline at

-- no event of the kind is useful, whoever makes it and whatever it names (own)
abbrev pub NonePlanned : Configuration → State → PoolId → PlannedKind → Type 0
NonePlanned c s p PlannedKind.Fulfil = NoneOf c s (Launcher p) (Request RequestKind.Fulfil)
NonePlanned c s p PlannedKind.UnlockNode = NoneOf c s (Launcher p) (Node NodeKind.Unlock)
NonePlanned c s p PlannedKind.UnlockRequest = NoneOf c s (Launcher p) (Request RequestKind.Unlock)
NonePlanned c s p PlannedKind.Start = NoneOf c s (Launcher p) (Node NodeKind.Start)
NonePlanned c s p PlannedKind.TakeReady = NoneComputed c s p ComputedKind.TakeReady
NonePlanned c s p PlannedKind.Decline = NoneComputed c s p ComputedKind.Decline

-- a useful event of the kind, or none if there is none (own)
abbrev pub ChoosesPlannedOf : Configuration → State → PoolId → PlannedKind → Option Event → Type 0
ChoosesPlannedOf c s p kind None = NonePlanned c s p kind
ChoosesPlannedOf c s p kind (Some e) = IsUseful c s (Launcher p) e × (is_planned e ≡ true)

-- a useful event that can be planned, or none of any of the kinds (own)
abbrev pub ChoosesPlannedOfAny : Configuration → State → PoolId → List PlannedKind → Option Event → Type 0
ChoosesPlannedOfAny c s p kinds None = AllByRecursion (NonePlanned c s p) kinds
ChoosesPlannedOfAny c s p kinds (Some e) = IsUseful c s (Launcher p) e × (is_planned e ≡ true)
