use Rattle.np_tables.proofs.Prelude.{None, Registration, Some, insert, nat_lt, position, position-Some, sym, ◌∙◌, ◌≡◌}
use Rattle.np_tables.proofs.TableLemmas.{insert_before-nowhere, insert_before-position}
use Rattle.np_tables.proofs.grow.add_registration.Goals as goal

pub returns-in_default : goal.returns-in_default
returns-in_default c =
    let none : position (λ (g : Registration). nat_lt c.args.new.pool.0 g.pool.0) c.args.registrations.now.items ≡ None = rw c.as_slice.ensures.value at (sym c.in_default.ensures) in
    c.push_reserved.ensures.items ∙ sym (insert_before-nowhere (λ (g : Registration). nat_lt c.args.new.pool.0 g.pool.0) c.args.new c.args.registrations.now.items none)

pub returns : goal.returns
returns c =
    let at : position (λ (g : Registration). nat_lt c.args.new.pool.0 g.pool.0) c.args.registrations.now.items ≡ Some c.in-Some.at = rw c.as_slice.ensures.value at (sym c.in-Some.ensures) in
    let added : c.insert-done.new.self.items ≡ insert c.args.registrations.now.items c.in-Some.at c.args.new = rw (c.insert-done.ensures.succeeds c.requires) at c.insert-done.ensures.items in
    added ∙ sym (insert_before-position (λ (g : Registration). nat_lt c.args.new.pool.0 g.pool.0) c.args.new c.args.registrations.now.items c.in-Some.at at ((position-Some _ c.args.registrations.now.items c.in-Some.at c.args.new at).0))
