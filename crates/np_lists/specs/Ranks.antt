-- the ids of a list that are outside a group, and when they can be found by rank
use Rattle.std.specs.Prelude.{◌≡◌, Bool, true, not, List, filter}
use Rattle.std.specs.List.{list_any}
use Rattle.np_lists.specs.Rising.{Rises}
use Rattle.np_lists.specs.declared.groups.Group.{Group}
use Rattle.np_lists.specs.declared.groups.Member.{Member}
use Rattle.np_lists.specs.Groups.{has_member, is_member_before}

-- the ids of the list that are not in the group, in order
abbrev pub outside : {K : Type 0} → (K → K → Bool) → Group → List (Member K) → List K → List K
outside same inner ms ids = filter (λ i. not (has_member same inner i ms)) ids

-- members and ids are in order, and every id of the group is among the ids
pub record AreRanked {K : Type 0} (before same : K → K → Bool) (inner : Group) (ms : List (Member K)) (ids : List K) : Type 0 where
  pub members_rise : Rises (is_member_before before) ms
  pub ids_rise : Rises before ids
  pub all_there : (i : K) → has_member same inner i ms ≡ true → list_any (λ x. same x i) ids ≡ true
