-- what records before and after a change make of the members of groups (own)
use Rattle.std.specs.Prelude.{◌≡◌, ◌⊎◌, ℕ, List, Bool, true, false, ◌==◌, ◌&&◌, ◌||◌, not, is_some, Option, Some, None, if◌then◌else◌, length, option_and_then}
use Rattle.np_lookups.specs.declared.moves.Past.{Past}
use Rattle.np_lookups.specs.declared.ranks.Rank.{Rank}
use Rattle.np_lookups.specs.Open.{line_of, closed_group, is_closed_to, is_found_in, open_group, rank_is_in}
use Rattle.np_lookups.specs.Waits.{is_listed}
use Rattle.np_lookups.specs.Ranks.{is_rank_before, same_rank}
use Rattle.np_lookups.specs.Lower.{AllByRecursion, Configuration, Group, JobId, Member, PoolId, RequestId, RequestRecord, Rises, State, has_member, is_member_before, is_requested, member, option_map_or, same_member, same_request, with_member, without_member}

-- ## one member

abbrev pub rank_of : RequestId → RequestRecord → Rank
rank_of r kept = record { request = r; relative = kept.relative_priority }

-- the request in the line's group, if it is there and requested
abbrev pub open_member : ℕ → RequestId → Option RequestRecord → Option (Member Rank)
open_member line r found = option_and_then (λ kept. if is_requested kept.state then Some (member (open_group line) (rank_of r kept)) else None) found

-- the request in the group of those that are closed to the pool, if it is one of them
abbrev pub closed_member : ℕ → PoolId → RequestId → Option RequestRecord → Option (Member Rank)
closed_member line p r found =
    option_and_then (λ kept. if is_requested kept.state && is_closed_to p kept then Some (member (closed_group line p) (rank_of r kept)) else None) found

-- the record is there and requested
abbrev pub is_found_open : Option RequestRecord → Bool
is_found_open found = option_map_or (λ kept. is_requested kept.state) found false

-- and a pool declined it, or it is pinned
abbrev pub is_found_closed : Option RequestRecord → Bool
is_found_closed found = option_map_or (λ kept. is_requested kept.state && (is_some kept.pinned || not (length kept.declined == 0))) found false

-- the same member, or none in both
abbrev pub same_members : Option (Member Rank) → Option (Member Rank) → Bool
same_members None None = true
same_members None (Some b) = false
same_members (Some a) None = false
same_members (Some a) (Some b) = same_member same_rank a b

abbrev pub without_one : Option (Member Rank) → List (Member Rank) → List (Member Rank)
without_one one members = option_map_or (λ m. without_member same_rank m.group m.id members) one members

abbrev pub with_one : Option (Member Rank) → List (Member Rank) → List (Member Rank)
with_one one members = option_map_or (λ m. with_member is_rank_before same_rank m.group m.id members) one members

-- the one taken out and the other put in, unless they are the same
abbrev pub with_moved : Option (Member Rank) → Option (Member Rank) → List (Member Rank) → List (Member Rank)
with_moved was now members = if same_members was now then members else with_one now (without_one was members)

-- ## all groups

-- the members of each group are the ranks that pass for it
pub record AreBy (passes : Group → Rank → Bool) (members : List (Member Rank)) : Type 0 where
  pub rises : Rises (is_member_before is_rank_before) members
  pub each : (g : Group) (rank : Rank) → has_member same_rank g rank members ≡ passes g rank

-- of the request's ranks those pass that the one record has in the group, or those that the other has
abbrev pub IsEither : ℕ → (RequestRecord → ℕ) → RequestId → Option RequestRecord → Option RequestRecord → (Group → Rank → Bool) → Type 0
IsEither pools line r was now passes = (g : Group) (rank : Rank) → same_request r rank.request ≡ true
    → (passes g rank ≡ is_found_in pools line g rank was) ⊎ (passes g rank ≡ is_found_in pools line g rank now)

-- of the request's ranks those pass that the record has in the group; of others those that passed
abbrev pub passes_with : ℕ → (RequestRecord → ℕ) → RequestId → Option RequestRecord → (Group → Rank → Bool) → Group → Rank → Bool
passes_with pools line r now passes g rank = if same_request r rank.request then is_found_in pools line g rank now else passes g rank

-- ## all requests that were listed

-- of the ranks of these requests those pass that their records have in the group
abbrev pub AreAsKept : Configuration → List JobId → List Past → (Group → Rank → Bool) → Type 0
AreAsKept c lines moved passes =
    AllByRecursion (λ past. (g : Group) (rank : Rank) → same_request past.request rank.request ≡ true → passes g rank ≡ is_found_in (length c.pools) (line_of c lines) g rank past.kept) moved

-- of their ranks those pass now that the state has in the group
abbrev pub passes_moved : Configuration → State → List JobId → List Past → (Group → Rank → Bool) → Group → Rank → Bool
passes_moved c s lines moved passes g rank = if is_listed rank.request moved then rank_is_in c s lines g rank else passes g rank
