use Rattle.np_tree_rows.proofs.Prelude.{Registration, arith, find, ◌==◌, ◌∙◌}
use Rattle.np_tree_rows.proofs.Registered.{nobody-owns, owner-nothing, owner-session, registered-owner}
use Rattle.np_tree_rows.proofs.session_table.registration.Goals as goal

pub returns-in_default : goal.returns-in_default
returns-in_default c config s stored = nobody-owns (find (λ (g : Registration). g.pool.0 == c.args.pool.0) s.registrations) (c.in_default.ensures ∙ registered-owner config s c.args.tree.now stored c.args.pool (omega arith))

pub returns-then-owner-eq0 : goal.returns-then-owner-eq0
returns-then-owner-eq0 c config s stored = owner-nothing c.in-Some.owner (find (λ (g : Registration). g.pool.0 == c.args.pool.0) s.registrations) c.if-owner-eq0.true (c.in-Some.ensures ∙ registered-owner config s c.args.tree.now stored c.args.pool (omega arith))

pub returns : goal.returns
returns c config s stored = owner-session c.in-Some.owner (find (λ (g : Registration). g.pool.0 == c.args.pool.0) s.registrations) (c.in-Some.ensures ∙ registered-owner config s c.args.tree.now stored c.args.pool (omega arith))
