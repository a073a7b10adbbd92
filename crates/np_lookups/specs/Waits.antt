-- which queues a change joins and leaves, which requests it touches, and which jobs are over
use Rattle.std.specs.Prelude.{◌≡◌, ◌≤◌, ◌+◌, ◌*◌, List, Bool, true, length, false, slice_get, ℕ, Option, Some, None}
use Rattle.np_lookups.specs.declared.moves.Past.{Past}
use Rattle.np_lookups.specs.Open.{OpenOf}
use Rattle.np_lookups.specs.Lower.{AllByRecursion, Changes, Configuration, RequestId, State, list_any, request_in, same_request, touches_request, JobId, is_over, option_map_or, Growth, Maker, NodeId, NodesChange, RequestsChange, SessionId, SessionsChange, option_map}
use Rattle.np_lookups.specs.declared.waits.Wait.{Wait}

-- which requests are listed before a change, and what is prepared for it

-- each request that the changes touch is among these
abbrev pub AreListed : Changes → State → List RequestId → Type 0
AreListed ch s requests = (r : RequestId) → touches_request ch s r ≡ true → list_any (λ x. same_request x r) requests ≡ true

-- the request with its record in the state (own)
abbrev pub past_of : State → RequestId → Past
past_of s r = record { request = r; kept = request_in r s.requests }

-- the request is among those that are listed with their records
abbrev pub is_listed : RequestId → List Past → Bool
is_listed r moved = list_any (λ past. same_request past.request r) moved

-- each request that the changes touch is listed, and each record is that of the state
pub record IsPrepared (s : State) (ch : Changes) (moved : List Past) : Type 0 where
  pub touched : (r : RequestId) → touches_request ch s r ≡ true → is_listed r moved ≡ true
  pub kept : AllByRecursion (λ past. past.kept ≡ request_in past.request s.requests) moved

-- there is room for each of them in a group of open requests and in one of each pool
abbrev pub HasRoom : Configuration → List Past → OpenOf → Type 0
HasRoom c moved kept = length moved * (length c.pools + 1) ≤ kept.room

-- which jobs are over

-- the job exists and is over
abbrev pub has_ended : State → JobId → Bool
has_ended s j = option_map_or (λ kept. is_over kept.phase) (slice_get s.jobs j.0) false

-- which queues a change joins and leaves

-- the maker's session at the row
abbrev pub by : {I : Type 0} → Option Maker → I → Option (Wait I)
by maker i = option_map (λ m. record { session = m.session; id = i }) maker

-- the request whose queue the maker joins
abbrev pub joins_request : Option Maker → Growth → Option (Wait RequestId)
joins_request maker (Growth.JoinRequest r) = by maker r
joins_request maker growth = None

-- the node whose queue the maker joins; a new node has this number
abbrev pub joins_node : Option Maker → Growth → ℕ → Option (Wait NodeId)
joins_node maker (Growth.Node kept) next = by maker (record { 0 = next })
joins_node maker (Growth.JoinNode n) next = by maker n
joins_node maker (Growth.Allocate n r tenant) next = by maker n
joins_node maker growth next = None

-- the request whose queue the maker leaves, or that goes with its one holder
abbrev pub leaves_request : Option Maker → RequestsChange → Option SessionId → Option (Wait RequestId)
leaves_request maker (RequestsChange.Leave r) holder = by maker r
leaves_request maker (RequestsChange.Remove r) holder = option_map (λ session. record { session = session; id = r }) holder
leaves_request maker change holder = None

-- the node whose queue the maker leaves
abbrev pub leaves_node : Option Maker → NodesChange → Option (Wait NodeId)
leaves_node maker (NodesChange.Leave n) = by maker n
leaves_node maker change = None

-- the node that goes with its queue
abbrev pub removed_node : NodesChange → Option NodeId
removed_node (NodesChange.Remove n) = Some n
removed_node change = None

-- the request that goes with its queue
abbrev pub removed_request : RequestsChange → Option RequestId
removed_request (RequestsChange.Remove r) = Some r
removed_request change = None

-- the session that ends
abbrev pub ending : SessionsChange → Option SessionId
ending (SessionsChange.End session) = Some session
ending change = None
