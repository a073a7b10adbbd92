-- ids that move from the groups that they were in to those that they are in now
use Rattle.std.specs.Prelude.{Bool, false, ◌&&◌, ◌||◌, not, if◌then◌else◌, List, [], ◌∷◌, Option}
use Rattle.std.specs.Option.{option_map_or}
use Rattle.std.specs.List.{list_any}
use Rattle.np_lists.specs.declared.groups.Group.{Group}
use Rattle.np_lists.specs.declared.groups.Member.{Member}
use Rattle.np_lists.specs.Groups.{same_group, with_member, without_member}

-- it is this group
abbrev pub is_place : Group → Option Group → Bool
is_place g place = option_map_or (λ h. same_group h g) place false

-- the group is among these
abbrev pub is_among : Group → List (Option Group) → Bool
is_among g groups = list_any (λ o. is_place g o) groups

-- the id out of the group, if there is one and it is not among those that stay
abbrev pub without_group : {K : Type 0} → (K → K → Bool) → K → List (Option Group) → Option Group → List (Member K) → List (Member K)
without_group same i staying group ms = option_map_or (λ g. if is_among g staying then ms else without_member same g i ms) group ms

-- out of all these groups
abbrev pub without_groups : {K : Type 0} → (K → K → Bool) → K → List (Option Group) → List (Option Group) → List (Member K) → List (Member K)
without_groups same i staying [] ms = ms
without_groups same i staying (group ∷ groups) ms = without_groups same i staying groups (without_group same i staying group ms)

-- the id in the group, if there is one and it is not among those that it is in already
abbrev pub with_group : {K : Type 0} → (K → K → Bool) → (K → K → Bool) → K → List (Option Group) → Option Group → List (Member K) → List (Member K)
with_group before same i there group ms = option_map_or (λ g. if is_among g there then ms else with_member before same g i ms) group ms

-- in all these groups
abbrev pub with_groups : {K : Type 0} → (K → K → Bool) → (K → K → Bool) → K → List (Option Group) → List (Option Group) → List (Member K) → List (Member K)
with_groups before same i there [] ms = ms
with_groups before same i there (group ∷ groups) ms = with_groups before same i there groups (with_group before same i there group ms)

-- from those that it was in to those that it is in now
abbrev pub with_moved : {K : Type 0} → (K → K → Bool) → (K → K → Bool) → K → List (Option Group) → List (Option Group) → List (Member K) → List (Member K)
with_moved before same i was now ms = with_groups before same i was now (without_groups same i now was ms)

-- an id, with the groups that it is in (own)
pub record Placed (K : Type 0) : Type 0 where
  pub id : K
  pub groups : List (Option Group)

-- all these ids, each from the groups that it was in to those that it is in now
abbrev pub with_all_moved : {K : Type 0} → (K → K → Bool) → (K → K → Bool) → (K → List (Option Group)) → List (Placed K) → List (Member K) → List (Member K)
with_all_moved before same now [] ms = ms
with_all_moved before same now (p ∷ placed) ms = with_all_moved before same now placed (with_moved before same p.id p.groups (now p.id) ms)

-- whether an id is in a group that it was in or not, that it is in now or not, and that it was found in
abbrev pub shift : Bool → Bool → Bool → Bool
shift was now had = (now && not was) || (not (was && not now) && had)
