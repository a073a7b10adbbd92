use Rattle.np_tables.proofs.Prelude.{false, is_among, none-list_any, refl, sym, ◌∙◌, ◌≡◌}
use Rattle.np_tables.proofs.TableLemmas.{is_among-inserted, room-place, with_handle-there}
use Rattle.np_tables.proofs.handles.add_job.Goals as goal

pub returns-then-has-clause-rows : goal.returns-then-has-clause-rows
returns-then-has-clause-rows c = sym (with_handle-there c.args.job c.args.jobs.now.rows (sym c.has.ensures ∙ c.if-has.true))

pub insert-requires-clause-room : goal.insert-requires-clause-room
insert-requires-clause-room c = room-place c.args.job c.args.jobs.now c.requires (sym c.has.ensures ∙ c.if-has.false)

pub insert-requires-clause-none : goal.insert-requires-clause-none
insert-requires-clause-none c = none-list_any _ _ (sym c.has.ensures ∙ c.if-has.false)

pub returns-clause-rows : goal.returns-clause-rows
returns-clause-rows c =
    let none : is_among c.args.job c.args.jobs.now.rows ≡ false = sym c.has.ensures ∙ c.if-has.false in
    rw (c.insert.ensures, none) refl

pub returns-clause-place : goal.returns-clause-place
returns-clause-place c = rw (c.insert.ensures, is_among-inserted c.args.job c.args.jobs.now.rows) refl
