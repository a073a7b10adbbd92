use Rattle.np_json.proofs.Prelude.{map, members_view, only_keys, ◌≡◌}
use Rattle.np_json.proofs.leaf.has_only.Given as goal

abbrev pub invariant-loop-key : goal.invariant-loop-key
invariant-loop-key l = only_keys (map (λ k. k.now) l.keys) (members_view l.key-iterator) ≡ only_keys (map (λ k. k.now) l.keys) (members_view l.members.entries)
