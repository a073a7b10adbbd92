use Rattle.np_event.proofs.Prelude.{field_text, flat_map, take, ◌++◌, ◌∷◌, ◌≡◌}
use Rattle.np_event.proofs.row.put_kinds.Given as goal

abbrev pub invariant-loop-kind : goal.invariant-loop-kind
invariant-loop-kind l = l.out.items ≡ l.fn.out.items ++ flat_map (λ kind. 32 ∷ field_text kind l.fields) (take l.kind-index l.kinds)
