use Rattle.np_path.proofs.Prelude.{IsNameAt, Some, ap, arith, length, parent_of, string_bytes, subst, sym, take, ℕ, ◌-◌, ◌<◌, ◌∙◌}
use Rattle.np_path.proofs.PartsLemmas.{AfterLast-name, begins_with_slash, parent_of-at, parent_of-deeper, root_boundary}
use Rattle.np_path.proofs.path.Path.parent.Goals as goal

pub split_at-requires : goal.split_at-requires
split_at-requires c = rw c.as_str-text.ensures.value (root_boundary _ (rw c.as_str-text.ensures.value at c.as_str-text.utf8) c.self.invariant.is)

pub returns-then-self-eq1 : goal.returns-then-self-eq1
returns-then-self-eq1 c =
    let long : 1 < length (string_bytes c.self.inside.text) = omega (arith, ap length c.as_str-text.ensures.value) in
    let at = subst (λ (n : ℕ). IsNameAt (string_bytes c.self.inside.text) n) c.if-self-eq1.true c.self.invariant in
    ap Some (c.split_at.ensures.front ∙ ap (take 1) c.as_str-text.ensures.value ∙ ap (take 1) (begins_with_slash _ c.self.invariant.is))
    ∙ sym (parent_of-at _ 1 (AfterLast-name _ _ at) long) ∙ ap parent_of c.self.view_is

pub returns : goal.returns
returns c =
    let after = c.self.invariant.after in
    let deep : 1 < c.self.inside.name_at = omega arith in
    ap Some (c.split_at-2.ensures.front ∙ ap (take (c.self.inside.name_at - 1)) c.as_str-text.ensures.value)
    ∙ sym (parent_of-deeper _ _ (AfterLast-name _ _ c.self.invariant) deep) ∙ ap parent_of c.self.view_is
