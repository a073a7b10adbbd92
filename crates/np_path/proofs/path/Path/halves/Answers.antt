use Rattle.np_path.proofs.Prelude.{ap, arith, before_last, drop, is_slash, name_of, sym, take, take-take, ◌-◌, ◌∙◌}
use Rattle.np_path.proofs.PartsLemmas.{AfterLast-name, before_last-last, name_of-last}
use Rattle.np_path.proofs.path.Path.halves.Goals as goal

pub returns-clause-before : goal.returns-clause-before
returns-clause-before c =
    ap (take (c.self.inside.name_at - 1)) (c.split_at.ensures.front ∙ ap (take c.self.inside.name_at) c.as_bytes.ensures.value)
    ∙ take-take (c.self.inside.name_at - 1) c.self.inside.name_at _ (omega arith)
    ∙ sym (before_last-last _ _ (AfterLast-name _ _ c.self.invariant)) ∙ ap (before_last is_slash) c.self.view_is

pub returns-clause-name : goal.returns-clause-name
returns-clause-name c =
    c.split_at.ensures.back ∙ ap (drop c.self.inside.name_at) c.as_bytes.ensures.value ∙ sym (name_of-last _ _ (AfterLast-name _ _ c.self.invariant)) ∙ ap name_of c.self.view_is
