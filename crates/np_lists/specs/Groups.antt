-- members of groups: their order, and what each call changes of them
use Rattle.std.specs.Prelude.{ℕ, Bool, nat_lt, ◌==◌, ◌&&◌, not, if◌then◌else◌, List, map, filter, find, Option, Some, None}
use Rattle.std.specs.Option.{option_map}
use Rattle.std.specs.List.{list_any}
use Rattle.np_lists.specs.Change.{insert_before, remove_first}
use Rattle.np_lists.specs.declared.groups.Group.{Group}
use Rattle.np_lists.specs.declared.groups.Member.{Member}

-- ## the order

abbrev pub same_group : Group → Group → Bool
same_group a b = (a.class == b.class) && ((a.first == b.first) && ((a.second == b.second) && (a.third == b.third)))

-- by class, then by the first number, then by the second, then by the third
abbrev pub is_group_before : Group → Group → Bool
is_group_before a b =
    if a.class == b.class
    then (if a.first == b.first then (if a.second == b.second then nat_lt a.third b.third else nat_lt a.second b.second) else nat_lt a.first b.first)
    else nat_lt a.class b.class

-- by group, then by id
abbrev pub is_member_before : {K : Type 0} → (K → K → Bool) → Member K → Member K → Bool
is_member_before before a b = if same_group a.group b.group then before a.id b.id else is_group_before a.group b.group

abbrev pub same_member : {K : Type 0} → (K → K → Bool) → Member K → Member K → Bool
same_member same a b = same_group a.group b.group && same a.id b.id

abbrev pub member : {K : Type 0} → Group → K → Member K
member g i = record { group = g; id = i }

-- ## members in order

-- the ids of a group, in order
abbrev pub ids_in : {K : Type 0} → Group → List (Member K) → List K
ids_in g ms = map (λ m. m.id) (filter (λ m. same_group m.group g) ms)

-- the id of a member that is in the group
abbrev pub id_if : {K : Type 0} → Group → Option (Member K) → Option K
id_if g None = None
id_if g (Some m) = if same_group m.group g then Some m.id else None

-- the first group that has a member and is not before this one
abbrev pub group_from : {K : Type 0} → Group → List (Member K) → Option Group
group_from g ms = option_map (λ m. m.group) (find (λ m. not (is_group_before m.group g)) ms)

-- the first group that has a member and comes after this one
abbrev pub group_after : {K : Type 0} → Group → List (Member K) → Option Group
group_after g ms = option_map (λ m. m.group) (find (λ m. is_group_before g m.group) ms)

-- whether the id is in the group
abbrev pub has_member : {K : Type 0} → (K → K → Bool) → Group → K → List (Member K) → Bool
has_member same g i ms = list_any (λ m. same_member same m (member g i)) ms

-- the id in the group, at its place in the order, unless it is there
abbrev pub with_member : {K : Type 0} → (K → K → Bool) → (K → K → Bool) → Group → K → List (Member K) → List (Member K)
with_member before same g i ms =
    if has_member same g i ms then ms else insert_before (λ other. is_member_before before (member g i) other) (member g i) ms

-- the id not in the group
abbrev pub without_member : {K : Type 0} → (K → K → Bool) → Group → K → List (Member K) → List (Member K)
without_member same g i ms = remove_first (λ m. same_member same m (member g i)) ms

-- ## what contracts see

-- all members, in order, and how many more can be put without taking memory
pub record GroupsOf (K : Type 0) : Type 0 where
  pub members : List (Member K)
  pub room : ℕ
