-- which requests are open, in which line each waits, and which are closed to a pool
use Rattle.std.specs.Prelude.{ℕ, suc, List, Bool, false, ◌==◌, ◌&&◌, is_none, if◌then◌else◌, option_and_then, slice_get, ◌≡◌, ◌≤◌, ◌<◌, [], true, ◌||◌, Option, Some, None, nat_lt, length, max, ◌+◌, ◌-◌, ◌⊎◌}
use Rattle.std.specs.Cmp.Lexicographic.{pointwise}
use Rattle.np_lookups.specs.Lower.{Configuration, Job, JobId, LabelId, RequestRecord, has_limit, is_tenant, limit_of_tenant, option_map_or, tenant_of_request, Group, Member, PoolId, Rises, State, group_after, group_from, has_member, ids_in, is_declined_by, is_id_before, is_member_before, is_pinned_away, is_requested, list_any, request_in, same_group}
use Rattle.np_lookups.specs.declared.ranks.Rank.{Rank}
use Rattle.np_lookups.specs.Ranks.{is_rank_before, same_rank}
use Rattle.std.specs.List.{prefix_len}

-- in which line a request waits: the requests of a line are alike, so a tenant that has no room for one
-- of them has none for the others

-- the same labels, in the same order
abbrev pub same_labels : List LabelId → List LabelId → Bool
same_labels = pointwise (λ a b. a.0 == b.0)

-- a request with this record has the job's tenant, which has a limit, and its labels
abbrev pub is_like : Configuration → RequestRecord → Job → Bool
is_like c k job = is_tenant job.tenant (tenant_of_request c k) && has_limit (limit_of_tenant c job.tenant) && same_labels job.labels k.labels

-- it is not pinned, and is like this job of the configuration
abbrev pub is_of_line : Configuration → RequestRecord → JobId → Bool
is_of_line c k i = is_none k.pinned && option_map_or (is_like c k) (slice_get c.jobs i.0) false

-- the line, where `lines` has for each job one that may be like it: one more than the number of the job
-- that the request is like, or 0, the common line, where each waits alone
abbrev pub line_of : Configuration → List JobId → RequestRecord → ℕ
line_of c lines k = option_map_or (λ i. if is_of_line c k i then suc i.0 else 0) (option_and_then (λ j. slice_get lines j.0) k.job) 0

-- which requests are open, in which line each waits, and which of them are closed to a pool

-- ## groups (own)

-- the requested requests of the line
abbrev pub open_group : ℕ → Group
open_group line = record { class = 0; first = 0; second = 0; third = line }

-- those of them that are closed to the pool
abbrev pub closed_group : ℕ → PoolId → Group
closed_group line p = record { class = 1; first = p.0; second = 0; third = line }

-- the pool of a group of closed requests
abbrev pub pool_of : Group → PoolId
pool_of g = record { 0 = g.first }

-- ## requests

-- the pool declined the request, or it is pinned to another
abbrev pub is_closed_to : PoolId → RequestRecord → Bool
is_closed_to p kept = is_declined_by p kept.declined || is_pinned_away p kept

-- the group is that of the line and of a pool that the request is closed to, if there are so many pools
abbrev pub is_closed_group : ℕ → ℕ → Group → RequestRecord → Bool
is_closed_group pools line g kept = same_group (closed_group line (pool_of g)) g && (nat_lt g.first pools && is_closed_to (pool_of g) kept)

-- a request of the line with this record is in the group
abbrev pub is_group_of : ℕ → ℕ → Group → RequestRecord → Bool
is_group_of pools line g kept = is_requested kept.state && (same_group (open_group line) g || is_closed_group pools line g kept)

-- the record, if there is one, has the rank's relative priority and is in the group, where `line` says in
-- which line a record is
abbrev pub is_found_in : ℕ → (RequestRecord → ℕ) → Group → Rank → Option RequestRecord → Bool
is_found_in pools line g rank found = option_map_or (λ kept. (kept.relative_priority == rank.relative) && is_group_of pools (line kept) g kept) found false

-- ## what a state says

-- the rank's request is there with its relative priority, and in the group
abbrev pub rank_is_in : Configuration → State → List JobId → Group → Rank → Bool
rank_is_in c s lines g rank = is_found_in (length c.pools) (line_of c lines) g rank (request_in rank.request s.requests)

-- the members of all groups, how many more can be put without taking memory, and for each job one that
-- may be like it
pub record OpenOf : Type 0 where
  pub members : List (Member Rank)
  pub room : ℕ
  pub lines : List JobId

-- the members of a group are the ranks that are in it; no two requests have one id
pub record AreOpen (c : Configuration) (s : State) (kept : OpenOf) : Type 0 where
  pub rises : Rises (is_member_before is_rank_before) kept.members
  pub each : (g : Group) (rank : Rank) → has_member same_rank g rank kept.members ≡ rank_is_in c s kept.lines g rank
  pub once : Rises (λ a b. is_id_before a.id b.id) s.requests

-- the rank is that of a requested request of the line, if the record is its request's
abbrev pub is_requested_at : Configuration → List JobId → ℕ → Rank → Option RequestRecord → Bool
is_requested_at c lines line rank found =
    option_map_or (λ kept. is_requested kept.state && (kept.relative_priority == rank.relative) && (line_of c lines kept == line)) found false

-- a rank is there exactly if a request with its id is in the state, is requested, has its relative
-- priority, and is of the line; no two requests of the state have one id
pub record AreRequested (c : Configuration) (s : State) (lines : List JobId) (line : ℕ) (ranks : List Rank) : Type 0 where
  pub rises : Rises is_rank_before ranks
  pub each : (rank : Rank) → list_any (λ other. same_rank other rank) ranks ≡ is_requested_at c lines line rank (request_in rank.request s.requests)
  pub once : Rises (λ a b. is_id_before a.id b.id) s.requests

-- the request of the rank is in the state, is requested, has its relative priority, and is of the line
pub record IsWaiting (c : Configuration) (s : State) (lines : List JobId) (line : ℕ) (rank : Rank) (kept : RequestRecord) : Type 0 where
  pub there : request_in rank.request s.requests ≡ Some kept
  pub requested : is_requested kept.state ≡ true
  pub relative : kept.relative_priority ≡ rank.relative
  pub of_line : line_of c lines kept ≡ line

-- ## places

-- the ranks of the line's requested requests, in the order in which launchers take them up
abbrev pub ranks_of : ℕ → List (Member Rank) → List Rank
ranks_of line members = ids_in (open_group line) members

-- a rank of the line is closed to the pool
abbrev pub is_closed_rank : ℕ → PoolId → Rank → List (Member Rank) → Bool
is_closed_rank line p rank members = has_member same_rank (closed_group line p) rank members

-- the first place of the line from this one on whose rank is not closed to the pool, or where the ranks end
pub record IsOpenFrom (members : List (Member Rank)) (line : ℕ) (p : PoolId) (place found : ℕ) : Type 0 where
  pub from : place ≤ found
  pub within : found ≤ max place (length (ranks_of line members))
  pub closed_before : (at : ℕ) (rank : Rank) → place ≤ at → at < found → slice_get (ranks_of line members) at ≡ Some rank → is_closed_rank line p rank members ≡ true
  pub open_there : (rank : Rank) → slice_get (ranks_of line members) found ≡ Some rank → is_closed_rank line p rank members ≡ false

-- ## lines that have ranks

-- the line of the group, if it is one of requested requests
abbrev pub line_if : Option Group → Option ℕ
line_if found = option_and_then (λ g. if same_group (open_group g.third) g then Some g.third else None) found

-- the first line that has a rank
abbrev pub first_line : List (Member Rank) → Option ℕ
first_line members = line_if (group_from (open_group 0) members)

-- the first line after this one that has a rank
abbrev pub line_after : ℕ → List (Member Rank) → Option ℕ
line_after line members = line_if (group_after (open_group line) members)

-- the line is the least from this one on that has a rank
pub record IsLeastLine (members : List (Member Rank)) (start line : ℕ) : Type 0 where
  pub from : start ≤ line
  pub some : 0 < length (ranks_of line members)
  pub none_before : (n : ℕ) → start ≤ n → n < line → ranks_of n members ≡ []

-- the least line from this one on that has a rank, or none if none has
abbrev pub IsLineFrom : List (Member Rank) → ℕ → Option ℕ → Type 0
IsLineFrom members start None = (n : ℕ) → start ≤ n → ranks_of n members ≡ []
IsLineFrom members start (Some line) = IsLeastLine members start line

-- runs of closed requests, by counts (own)

-- how many ranks of the group come before the rank at the line's place, or how many it has if there is none
abbrev pub count_before : ℕ → Group → List (Member Rank) → ℕ → ℕ
count_before line g members at =
    option_map_or (λ rank. prefix_len (λ k. is_rank_before k rank) (ids_in g members)) (slice_get (ranks_of line members) at) (length (ids_in g members))

-- as many ranks of the group come between two places of the line as there are places between them
abbrev pub is_run : ℕ → Group → List (Member Rank) → ℕ → ℕ → Bool
is_run line g members place after = count_before line g members after == (count_before line g members place + (after - place))

-- a run from the place ends here: it is one rank, or there is a run up to here, and none up to the next place
pub record IsRunEnd (line : ℕ) (g : Group) (members : List (Member Rank)) (place after : ℕ) : Type 0 where
  pub some : place < after
  pub within : after ≤ length (ranks_of line members)
  pub run : (after ≡ place + 1) ⊎ (is_run line g members place after ≡ true)
  pub longest : (after ≡ length (ranks_of line members)) ⊎ (is_run line g members place (after + 1) ≡ false)
