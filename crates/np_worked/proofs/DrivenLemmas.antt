-- turns that were driven, one after another
use Rattle.np_worked.proofs.Prelude.{Bool, Configuration, IsDrivenTurn, List, Role, Says, Turn, and_parts, inl, is_maker_of, is_ok, judge, maker_of, row_holds, true, ◌&&◌, ◌≡◌}

infixr 5 ◌then◌
pub ◌then◌ : {A B : Type 0} → A → B → A × B
a then b = (a, b)

abbrev pub is_useful_to : Role → Configuration → Turn → Bool
is_useful_to role c t =
    is_ok (judge c t.before t.entry.event) && (is_maker_of role t.before (maker_of t.entry.event) && row_holds c t.before role t.entry.event)

pub by : {says : Says} {c : Configuration} {past : List Turn} {t : Turn} (role : Role) → is_useful_to role c t ≡ true → IsDrivenTurn says c past t
by {c = c} {t = t} role is =
    let parts = and_parts _ _ is in
    let rest = and_parts _ _ parts.1 in
    inl (record { role = role; useful = record { accepted = parts.0; maker = rest.0; row = rest.1 } })
