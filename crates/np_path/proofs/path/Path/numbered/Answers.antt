use Rattle.np_path.proofs.Prelude.{ap, append_assoc, arith, encode, encode_ascii, get_or, length, slashed, string_bytes, sym, take, take_all, take_more, ten_digits_of, [], ◌++◌, ◌∙◌, ◌∷◌, ◌≡◌}
use Rattle.np_path.proofs.PartsLemmas.{IsNameAt-below, is_element-numbered, ten_are_ascii}
use Rattle.np_path.proofs.path.Path.numbered.Goals as goal

-- the text with all ten digits
pub invariant_of-result : goal.invariant_of-result
invariant_of-result c =
    let prefixed : string_bytes c.push_str.new.self ≡ slashed c.args.self.now ++ c.args.prefix.now =
    c.in_ok-push_str.ensures.bytes ∙ ap (λ text. text ++ c.args.prefix.now) c.in_ok-text.ensures.text in
    let numbered : take c.loop-digit.digit-index c.ten_digits-digit-items.result ≡ ten_digits_of c.args.n =
    take_all _ _ (omega arith) ∙ c.ten_digits-digit-items.ensures in
    let is : string_bytes c.loop-digit.text ≡ slashed c.args.self.now ++ (c.args.prefix.now ++ ten_digits_of c.args.n) =
    c.loop-digit.invariant ∙ rw (prefixed, numbered) (append_assoc (slashed c.args.self.now) c.args.prefix.now (ten_digits_of c.args.n)) in
    let at : c.len-name_at.result ≡ length (slashed c.args.self.now) =
    c.len-name_at.ensures ∙ c.in_ok-text.text.bytes.ok.0 ∙ ap length c.in_ok-text.ensures.text in
    rw (is, at) (IsNameAt-below c.args.self.now (c.args.prefix.now ++ ten_digits_of c.args.n) c.slashed.ensures.path (is_element-numbered c.args.prefix.now c.args.n c.requires))

-- each of the ten digits is one byte of text
pub loop-digit-preserved : goal.loop-digit-preserved
loop-digit-preserved c =
    let digit = get_or c.ten_digits-digit-items.result c.loop-digit.digit-index 0 in
    let small = ten_are_ascii c.ten_digits-digit-items.result c.args.n c.loop-digit.digit-index c.ten_digits-digit-items.ensures in
    let one = ap encode c.from.ensures ∙ encode_ascii digit small in
    c.in_ok-push.ensures.bytes ∙ rw (one, c.loop-digit.invariant)
    (append_assoc (string_bytes c.push_str.new.self) (take c.loop-digit.digit-index c.ten_digits-digit-items.result) (digit ∷ [])
    ∙ ap (λ more. string_bytes c.push_str.new.self ++ more) (sym (take_more c.ten_digits-digit-items.result c.loop-digit.digit-index 0 (omega arith))))
