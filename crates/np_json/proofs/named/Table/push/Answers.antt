use Rattle.np_json.proofs.Prelude.{ap, arith, bytes_eq, false, length, length-append, list_any, map, map-append, ◌+◌, ◌∙◌, ◌≡◌}
use Rattle.np_json.proofs.Lists.{list_any-same}
use Rattle.np_json.proofs.named.Table.push.Goals as goal

pub invariant_of-self-2 : goal.invariant_of-self-2
invariant_of-self-2 g c =
    let name = g.T.Named.name c.args.row in
    let keys = c.self.inside.names.keys in
    let is : c.in_ok-name.name.items ≡ name = c.in_ok-name.ensures.items ∙ c.name.ensures in
    let fresh : list_any (λ k. bytes_eq c.in_ok-name.name.items k.items) keys ≡ false =
    ap (λ n. list_any (λ k. bytes_eq n k.items) keys) is ∙ list_any-same (bytes_eq name) (λ k. k.items) g.T.Named.name _ _ _ c.self.invariant.0 c.self.view_is ∙ c.requires.new in
    let named : map (λ k. k.items) c.insert.new.self.keys ≡ map g.T.Named.name c.push.new.self.items =
    rw (c.in_ok-insert.ensures.keys, c.in_ok-push.ensures.items, c.in_ok-reserve.ensures.items, fresh, map-append, map-append, c.self.invariant.0, is) in
    let longer : length c.push.new.self.items ≡ length c.self.inside.rows.items + 1 =
    rw (c.in_ok-push.ensures.items, c.in_ok-reserve.ensures.items) (simp length-append (omega arith)) in
    let old : length c.self.inside.rows.items ≡ length c.args.self.now = ap length c.self.view_is in
    (named, omega (arith, longer, old, c.requires.room))
