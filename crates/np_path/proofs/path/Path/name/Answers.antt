use Rattle.np_path.proofs.Prelude.{ap, drop, name_of, sym, ◌∙◌}
use Rattle.np_path.proofs.PartsLemmas.{AfterLast-name, name_of-last, name_boundary}
use Rattle.np_path.proofs.path.Path.name.Goals as goal

pub split_at-requires : goal.split_at-requires
split_at-requires c = rw c.as_str.ensures.value (name_boundary _ _ (rw c.as_str.ensures.value at c.as_str.utf8) c.self.invariant)

pub returns : goal.returns
returns c = c.split_at.ensures.back ∙ ap (drop c.self.inside.name_at) c.as_str.ensures.value ∙ sym (name_of-last _ _ (AfterLast-name _ _ c.self.invariant)) ∙ ap name_of c.self.view_is
