-- one item more or fewer, for the code only
use Rattle.std.specs.Prelude.{◌<◌, ◌≤◌, List, length, insert, remove}
use Rattle.np_tree_nodes.specs.declared.step.Step.{Step}
use Rattle.np_tree_nodes.specs.declared.step.Step.TheVariants.{Nothing, Take, Put}

-- what a step does to a list
abbrev pub after_step : {T : Type 0} → Step T → List T → List T
after_step Nothing items = items
after_step (Take place) items = remove items place
after_step (Put place item) items = insert items place item

-- its place is there, and the length has room for one more
abbrev pub CanStep : {T : Type 0} → Step T → List T → Type 0
CanStep Nothing items = Unit {0}
CanStep (Take place) items = place < length items
CanStep (Put place item) items = (place ≤ length items) × (length items < 18_446_744_073_709_551_615)
