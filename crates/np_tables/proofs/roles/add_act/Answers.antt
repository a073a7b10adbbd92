use Rattle.np_tables.proofs.Prelude.{RoleFits, RoleRecord, Some, all-at, ap, arith, change_at-past, change_at-set, length, one_more_act, slice_get, slice_get-get_or, slice_set, sym, ◌<◌, ◌∙◌, ◌≡◌}
use Rattle.np_tables.proofs.roles.add_act.Goals as goal

pub returns-then-at-len : goal.returns-then-at-len
returns-then-at-len c = sym (change_at-past c.args.at one_more_act c.args.roles.now.items (omega (arith, c.len.ensures)))

pub overflow_add-role : goal.overflow_add-role
overflow_add-role c =
    let within : c.args.at < length c.args.roles.now.items = omega (arith, c.len.ensures) in
    let there : slice_get c.args.roles.now.items c.args.at ≡ Some c.index_mut-role.result.now = slice_get-get_or c.args.roles.now.items c.args.at c.index_mut-role.result.now within ∙ ap (λ (x : RoleRecord). Some x) (sym c.index_mut-role.ensures.value) in
    omega (arith, (all-at RoleFits c.args.roles.now.items c.args.at c.index_mut-role.result.now c.requires there).acts)

pub returns : goal.returns
returns c =
    let within : c.args.at < length c.args.roles.now.items = omega (arith, c.len.ensures) in
    ap (λ (x : RoleRecord). slice_set c.args.roles.now.items c.args.at (one_more_act x)) c.index_mut-role.ensures.value
    ∙ sym (change_at-set c.args.at one_more_act c.args.roles.now.items c.index_mut-role.result.now within)
