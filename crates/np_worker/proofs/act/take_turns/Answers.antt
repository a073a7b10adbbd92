use Rattle.np_worker.proofs.Prelude.{Ok, Playing, arith, err_from_is_err_and, ◌<◌, ◌^◌}
use Rattle.np_worker.proofs.Walks.{of_part, took_counts, took_far, took_part, with_recorded_series, heard_work}
use Rattle.np_worker.proofs.act.take_turns.Goals as goal

pub returns-in_err-turns-clause-part : goal.returns-in_err-turns-clause-part
returns-in_err-turns-clause-part g c = λ d.
    let p : Playing = record { stage = c.args.stage; entries = c.from.result } in
    let e = err_from_is_err_and c.from_residual.result c.from_residual.ensures.1 in
    let t = took_part g.T.Turns.answers (g.T.Turns.fixed c.args.turns.now) p c.turns.new.series (g.T.Turns.sight c.args.turns.now) (g.T.Turns.sight c.turns.new.self) c.turns.result d (with_recorded_series g.T.Turns.answers (g.T.Turns.fixed c.args.turns.now) g.T.Turns.recorded c.requires.recorded (g.T.Turns.sight c.args.turns.now) p c.turns.result (g.T.Turns.sight c.turns.new.self) c.turns.new.series c.turns.ensures.turns) in
    of_part t (rw e.1 tt)

pub returns-in_err-entries-clause-part : goal.returns-in_err-entries-clause-part
returns-in_err-entries-clause-part g c = λ d.
    let p : Playing = record { stage = c.args.stage; entries = c.from.result } in
    let e = err_from_is_err_and c.from_residual-in_err-entries.result c.from_residual-in_err-entries.ensures.1 in
    let t = took_part g.T.Turns.answers (g.T.Turns.fixed c.args.turns.now) p c.turns.new.series (g.T.Turns.sight c.args.turns.now) (g.T.Turns.sight c.turns.new.self) c.turns.result d (with_recorded_series g.T.Turns.answers (g.T.Turns.fixed c.args.turns.now) g.T.Turns.recorded c.requires.recorded (g.T.Turns.sight c.args.turns.now) p c.turns.result (g.T.Turns.sight c.turns.new.self) c.turns.new.series c.turns.ensures.turns) in
    of_part t (rw e.1 tt)

pub returns-clause-part : goal.returns-clause-part
returns-clause-part g c = λ d.
    let p : Playing = record { stage = c.args.stage; entries = c.from.result } in
    took_part g.T.Turns.answers (g.T.Turns.fixed c.args.turns.now) p c.turns.new.series (g.T.Turns.sight c.args.turns.now) (g.T.Turns.sight c.turns.new.self) c.turns.result d (with_recorded_series g.T.Turns.answers (g.T.Turns.fixed c.args.turns.now) g.T.Turns.recorded c.requires.recorded (g.T.Turns.sight c.args.turns.now) p c.turns.result (g.T.Turns.sight c.turns.new.self) c.turns.new.series c.turns.ensures.turns)

pub returns-clause-far : goal.returns-clause-far
returns-clause-far g c =
    let p : Playing = record { stage = c.args.stage; entries = c.from.result } in
    took_far g.T.Turns.answers (g.T.Turns.fixed c.args.turns.now) p c.turns.new.series (g.T.Turns.sight c.args.turns.now) (g.T.Turns.sight c.turns.new.self) c.in_ok-turns.field-0 (with_recorded_series g.T.Turns.answers (g.T.Turns.fixed c.args.turns.now) g.T.Turns.recorded c.requires.recorded (g.T.Turns.sight c.args.turns.now) p (Ok c.in_ok-turns.field-0) (g.T.Turns.sight c.turns.new.self) c.turns.new.series c.in_ok-turns.ensures.turns)

pub returns-clause-work : goal.returns-clause-work
returns-clause-work g c = λ w h.
    let p : Playing = record { stage = c.args.stage; entries = c.from.result } in
    let t = with_recorded_series g.T.Turns.answers (g.T.Turns.fixed c.args.turns.now) g.T.Turns.recorded c.requires.recorded (g.T.Turns.sight c.args.turns.now) p c.turns.result (g.T.Turns.sight c.turns.new.self) c.turns.new.series c.turns.ensures.turns in heard_work w p c.turns.new.series t.turns t.heard h

pub returns-clause-count : goal.returns-clause-count
returns-clause-count g c =
    let p : Playing = record { stage = c.args.stage; entries = c.from.result } in
    let few : c.turns.new.series.entries < 2 ^ 32 = omega (arith, c.in_ok-entries.ensures) in
    let counted = took_counts g.T.Turns.answers (g.T.Turns.fixed c.args.turns.now) p c.turns.new.series (g.T.Turns.sight c.args.turns.now) (g.T.Turns.sight c.turns.new.self) c.in_ok-turns.field-0 (with_recorded_series g.T.Turns.answers (g.T.Turns.fixed c.args.turns.now) g.T.Turns.recorded c.requires.recorded (g.T.Turns.sight c.args.turns.now) p (Ok c.in_ok-turns.field-0) (g.T.Turns.sight c.turns.new.self) c.turns.new.series c.in_ok-turns.ensures.turns) few in
    omega (arith, counted, c.in_ok-entries.ensures, c.from.ensures)
