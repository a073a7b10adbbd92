use Rattle.np_tables.proofs.Prelude.{RoleFits, RoleRecord, Some, all-at, ap, arith, change_at-past, change_at-set, length, slice_get, slice_get-get_or, slice_set, struck_unless, sym, ◌<◌, ◌∙◌, ◌≡◌}
use Rattle.np_tables.proofs.roles.add_strike.Goals as goal

pub returns-then-at-len : goal.returns-then-at-len
returns-then-at-len c = sym (change_at-past c.args.at (struck_unless c.args.counted) c.args.roles.now.items (omega (arith, c.len.ensures)))

pub struck-requires : goal.struck-requires
struck-requires c =
    let within : c.args.at < length c.args.roles.now.items = omega (arith, c.len.ensures) in
    let there : slice_get c.args.roles.now.items c.args.at ≡ Some c.index_mut-role.result.now = slice_get-get_or c.args.roles.now.items c.args.at c.index_mut-role.result.now within ∙ ap (λ (x : RoleRecord). Some x) (sym c.index_mut-role.ensures.value) in
    omega (arith, (all-at RoleFits c.args.roles.now.items c.args.at c.index_mut-role.result.now c.requires there).strikes)

pub returns : goal.returns
returns c =
    let within : c.args.at < length c.args.roles.now.items = omega (arith, c.len.ensures) in
    rw c.struck.ensures (
    ap (λ (x : RoleRecord). slice_set c.args.roles.now.items c.args.at ((struck_unless c.args.counted) x)) c.index_mut-role.ensures.value
    ∙ sym (change_at-set c.args.at (struck_unless c.args.counted) c.args.roles.now.items c.index_mut-role.result.now within))
