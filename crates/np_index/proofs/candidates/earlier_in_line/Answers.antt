use Rattle.np_index.proofs.Prelude.{IsOpenFrom, Option, Rank, ap, arith, blocking, false, is_none, may_take_up, not-past, ranks_of, slice_get_past, sym, true, ◌+◌, ◌-◌, ◌∙◌, ◌≡◌}
use Rattle.np_index.proofs.Firsts.{beats, open-takes, room-told, shut-fails, start_of, walk-begins, walk-blocked, walk-ends, walk-finds, walk-goes_on, walk-late}
use Rattle.np_index.proofs.candidates.earlier_in_line.Goals.{in-None, in-Some, in-None-best, in-Some-best, in-Some-open_record+else-is_none+else-are_alike, in_default}
use Rattle.np_index.proofs.candidates.earlier_in_line.Goals as goal

pub loop-place-init : goal.loop-place-init
loop-place-init g c =
    let site = g.R.Rows.site c.args.rows.now in
    let state = g.R.Rows.state c.args.rows.now in
    let from : c.match-after.from ≡ start_of c.args.after (ranks_of c.args.line c.args.requested.now.members) = elim c.match-after.branch [
      | in-None w ↦ w.from-is ∙ sym (ap (λ (o : Option Rank). start_of o (ranks_of c.args.line c.args.requested.now.members)) w.in-None.is)
      | in-Some w ↦ w.from-is ∙ w.past-from.ensures site state c.requires.requested ∙ sym (ap (λ (o : Option Rank). start_of o (ranks_of c.args.line c.args.requested.now.members)) w.in-Some.is)
    ] in
    walk-begins site state c.args.pool c.args.requested.now c.requires.requested c.args.line c.args.after
    c.match-after.from c.open_from-place.result from (c.open_from-place.ensures site state c.requires.requested)

pub returns-in_err-rank : goal.returns-in_err-rank
returns-in_err-rank g c =
    absurd (not-past (ranks_of c.args.line c.args.requested.now.members) c.loop-place.place (omega (arith, c.len-end.ensures, c.loop-place-test.true)) (sym c.at.ensures ∙ c.in_err-rank.was))

pub returns-then-not-is_first : goal.returns-then-not-is_first
returns-then-not-is_first g c =
    let first : c.match-best.is_first ≡ beats c.args.best c.in_ok-rank.rank = elim c.match-best.branch [
      | in-None-best w ↦ w.is_first-is ∙ sym (ap (λ (o : Option Rank). beats o c.in_ok-rank.rank) w.in-None-best.is)
      | in-Some-best w ↦ w.is_first-is ∙ w.is_before-is_first.ensures ∙ sym (ap (λ (o : Option Rank). beats o c.in_ok-rank.rank) w.in-Some-best.is)
    ] in
    walk-late (g.R.Rows.site c.args.rows.now) (g.R.Rows.state c.args.rows.now) c.args.pool c.args.requested.now c.requires.requested c.args.line c.args.after c.args.best
    c.loop-place.place c.in_ok-rank.rank (sym c.at.ensures ∙ c.in_ok-rank.was) (sym first ∙ c.if-not-is_first.true) c.loop-place.invariant

pub returns-then-is_none : goal.returns-then-is_none
returns-then-is_none g c =
    let site = g.R.Rows.site c.args.rows.now in
    let state = g.R.Rows.state c.args.rows.now in
    let first : c.match-best.is_first ≡ beats c.args.best c.in_ok-rank.rank = elim c.match-best.branch [
      | in-None-best w ↦ w.is_first-is ∙ sym (ap (λ (o : Option Rank). beats o c.in_ok-rank.rank) w.in-None-best.is)
      | in-Some-best w ↦ w.is_first-is ∙ w.is_before-is_first.ensures ∙ sym (ap (λ (o : Option Rank). beats o c.in_ok-rank.rank) w.in-Some-best.is)
    ] in
    let room : is_none (blocking site state c.args.pool c.in-Some-open_record.kept) ≡ c.is_none.result =
    room-told site state c.args.pool c.in_ok-rank.rank.request c.in-Some-open_record.kept c.asked_of.result c.blocking.result c.is_none.result c.asked_of.ensures c.blocking.ensures c.is_none.ensures in
    let takes : may_take_up site state c.args.pool c.in_ok-rank.rank.request ≡ true =
    open-takes site state c.args.pool c.in_ok-rank.rank.request c.in-Some-open_record.kept (sym c.open_record.ensures ∙ c.in-Some-open_record.is) ∙ room ∙ c.if-is_none.true in
    walk-finds site state c.args.pool c.args.requested.now c.requires.requested c.args.line c.args.after c.args.best
    c.loop-place.place c.in_ok-rank.rank (sym c.at.ensures ∙ c.in_ok-rank.was) takes (sym first ∙ c.if-not-is_first.false) c.loop-place.invariant

pub returns-then-are_alike : goal.returns-then-are_alike
returns-then-are_alike g c =
    let site = g.R.Rows.site c.args.rows.now in
    let state = g.R.Rows.state c.args.rows.now in
    let room : is_none (blocking site state c.args.pool c.in-Some-open_record.kept) ≡ c.is_none.result =
    room-told site state c.args.pool c.in_ok-rank.rank.request c.in-Some-open_record.kept c.asked_of.result c.blocking.result c.is_none.result c.asked_of.ensures c.blocking.ensures c.is_none.ensures in
    walk-blocked site state c.args.pool c.args.requested.now c.requires.requested c.args.line c.args.after
    c.loop-place.place c.in_ok-rank.rank (sym c.at.ensures ∙ c.in_ok-rank.was) c.args.best (c.args.line - 1) c.in-Some-open_record.kept
    (omega (arith, c.if-are_alike.true)) (sym c.open_record.ensures ∙ c.in-Some-open_record.is) (room ∙ c.if-is_none.false)

pub loop-place-smaller : goal.loop-place-smaller
loop-place-smaller g c =
    let ends : IsOpenFrom c.args.requested.now.members c.args.line c.args.pool (c.loop-place.place + 1) c.open_from-place-in-loop-place.result =
    c.open_from-place-in-loop-place.ensures (g.R.Rows.site c.args.rows.now) (g.R.Rows.state c.args.rows.now) c.requires.requested in
    omega (arith, ends.from, c.loop-place-test.true)

pub loop-place-preserved : goal.loop-place-preserved
loop-place-preserved g c =
    let site = g.R.Rows.site c.args.rows.now in
    let state = g.R.Rows.state c.args.rows.now in
    let fails : may_take_up site state c.args.pool c.in_ok-rank.rank.request ≡ false = elim c.match-open_record.branch [
      | in-Some-open_record+else-is_none+else-are_alike w ↦
          open-takes site state c.args.pool c.in_ok-rank.rank.request w.in-Some-open_record.kept (sym c.open_record.ensures ∙ w.in-Some-open_record.is)
          ∙ room-told site state c.args.pool c.in_ok-rank.rank.request w.in-Some-open_record.kept w.asked_of.result w.blocking.result w.is_none.result w.asked_of.ensures w.blocking.ensures w.is_none.ensures
          ∙ w.if-is_none.false
      | in_default w ↦ shut-fails site state c.args.pool c.in_ok-rank.rank.request (sym c.open_record.ensures ∙ w.in_default.is)
    ] in
    walk-goes_on site state c.args.pool c.args.requested.now c.requires.requested c.args.line c.args.after
    c.loop-place.place c.in_ok-rank.rank (sym c.at.ensures ∙ c.in_ok-rank.was) c.open_from-place-in-loop-place.result fails
    (c.open_from-place-in-loop-place.ensures site state c.requires.requested) c.loop-place.invariant

pub returns : goal.returns
returns g c =
    walk-ends (g.R.Rows.site c.args.rows.now) (g.R.Rows.state c.args.rows.now) c.args.pool c.args.requested.now c.requires.requested c.args.line c.args.after c.args.best
    c.loop-place.place (slice_get_past (ranks_of c.args.line c.args.requested.now.members) c.loop-place.place (omega (arith, c.len-end.ensures, c.loop-place-test.false))) c.loop-place.invariant
