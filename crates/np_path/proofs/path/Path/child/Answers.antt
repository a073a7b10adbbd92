use Rattle.np_path.proofs.Prelude.{ap, is_element, length, slashed, string_bytes, sym, ◌++◌, ◌∙◌, ◌≡◌}
use Rattle.np_path.proofs.PartsLemmas.{IsNameAt-below}
use Rattle.np_path.proofs.path.Path.child.Goals as goal

pub invariant_of-result : goal.invariant_of-result
invariant_of-result c =
    let is : string_bytes c.push_str.new.self ≡ slashed c.args.self.now ++ c.args.name.now =
    c.in_ok-push_str.ensures.bytes ∙ ap (λ text. text ++ c.args.name.now) c.in_ok-text.ensures.text in
    let at : c.len-name_at.result ≡ length (slashed c.args.self.now) =
    c.len-name_at.ensures ∙ c.in_ok-text.text.bytes.ok.0 ∙ ap length c.in_ok-text.ensures.text in
    rw (is, at) (IsNameAt-below c.args.self.now c.args.name.now c.slashed.ensures.path (ap is_element (sym c.as_bytes.ensures.value) ∙ sym c.if-not-is_element.ensures))
