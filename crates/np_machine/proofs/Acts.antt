-- the acts of each role
use Rattle.np_machine.proofs.Prelude.{Configuration, Event, Janitor, Launcher, List, None, Option, Reaper, Requester, Role, RoleRecord, SessionId, Some, State, acting, acts_of, ap, arith, change_at, effect, false, is_ok, judge, maker_of, nat_tests, next, one_more_act, option_and_then, option_map, refl, role_of, same_role, slice_get, slice_get-change_at, slice_get-change_at_other, true, with_act, ℕ, ◌+◌, ◌==◌, ◌∙◌, ◌≡◌}
use Rattle.np_machine.proofs.Steps.{next-keeps}
use Rattle.np_machine.proofs.Rises.{Quiet-effect, SameActs}

same : (s t : State) → SameActs s t → (role : Role) → acts_of role t ≡ acts_of role s
same s t all (Launcher p) = all.0 p.0
same s t all (Janitor p) = all.1.0 p.0
same s t all (Requester q) = all.1.1 q.0
same s t all Reaper = refl

mapped : (o : Option RoleRecord) → option_map (λ deeds. deeds.acts) (option_map one_more_act o) ≡ option_map (λ n. n + 1) (option_map (λ deeds. deeds.acts) o)
mapped None = refl
mapped (Some deeds) = refl

one_act : (i : ℕ) (roles : List RoleRecord) → option_map (λ deeds. deeds.acts) (slice_get (change_at i one_more_act roles) i) ≡ option_map (λ n. n + 1) (option_map (λ deeds. deeds.acts) (slice_get roles i))
one_act i roles = rw (slice_get-change_at i one_more_act roles) (mapped (slice_get roles i))

-- its own role has one act more
own-act : (role : Role) (t : State) → acts_of role (with_act (Some role) t) ≡ option_map (λ n. n + 1) (acts_of role t)
own-act (Launcher p) t = one_act p.0 t.launchers
own-act (Janitor p) t = one_act p.0 t.janitors
own-act (Requester q) t = one_act q.0 t.requesters
own-act Reaper t = refl

no_act : (i j : ℕ) (roles : List RoleRecord) → (j == i) ≡ false → option_map (λ deeds. deeds.acts) (slice_get (change_at i one_more_act roles) j) ≡ option_map (λ deeds. deeds.acts) (slice_get roles j)
no_act i j roles differ = ap (λ (o : Option RoleRecord). option_map (λ deeds. deeds.acts) o) (slice_get-change_at_other i j one_more_act roles (grind (arith, nat_tests)))

-- any other has as many as before
other-act : (role other : Role) (t : State) → same_role other role ≡ false → acts_of other (with_act (Some role) t) ≡ acts_of other t
other-act (Launcher p) (Launcher q) t differ = no_act p.0 q.0 t.launchers differ
other-act (Janitor p) (Janitor q) t differ = no_act p.0 q.0 t.janitors differ
other-act (Requester p) (Requester q) t differ = no_act p.0 q.0 t.requesters differ
other-act _ _ t differ = refl

-- ## the step

acting-is : (s : State) (e : Event) (session : SessionId) (role : Role) → maker_of e ≡ Some session → role_of session s ≡ Some role → acting s e ≡ Some role
acting-is s e session role maker_is role_is = ap (option_and_then (λ (by : SessionId). role_of by s)) maker_is ∙ role_is

pub own : (c : Configuration) (s : State) (e : Event) (session : SessionId) (role : Role) → maker_of e ≡ Some session → role_of session s ≡ Some role → is_ok (judge c s e) ≡ true → acts_of role (next c s e) ≡ option_map (λ n. n + 1) (acts_of role s)
own c s e session role maker_is role_is ok =
    rw (ok, acting-is s e session role maker_is role_is, own-act role (effect c s e), same s (effect c s e) (Quiet-effect c s e).1 role) refl

pub others : (c : Configuration) (s : State) (e : Event) (session : SessionId) (role other : Role) → maker_of e ≡ Some session → role_of session s ≡ Some role → same_role other role ≡ false → acts_of other (next c s e) ≡ acts_of other s
others c s e session role other maker_is role_is differ = next-keeps (λ t. acts_of other t ≡ acts_of other s) c s e refl (λ what _.
    rw (acting-is s e session role maker_is role_is) (other-act role other (effect c s e) differ ∙ same s (effect c s e) (Quiet-effect c s e).1 other))

pub no_maker : (c : Configuration) (s : State) (e : Event) (role : Role) → maker_of e ≡ None → acts_of role (next c s e) ≡ acts_of role s
no_maker c s e role maker_is = next-keeps (λ t. acts_of role t ≡ acts_of role s) c s e refl (λ what _.
    rw maker_is (same s (effect c s e) (Quiet-effect c s e).1 role))
