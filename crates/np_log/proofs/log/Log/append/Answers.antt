use Rattle.np_log.proofs.Prelude.{IfSome_then, IsSettled, List, Place, ap, batch_text, behind_open_gate, length, option_map, record_and_gate, subst, sym, ℕ, ◌+◌, ◌∙◌, ◌≡◌}
use Rattle.np_log.proofs.Writes.{every_moment, gate_within, given, then_content, then_settled}
use Rattle.np_log.proofs.log.Log.append.Goals as goal

pub write_behind-requires-clause-within : goal.write_behind-requires-clause-within
write_behind-requires-clause-within g c =
    let known = given (g.D.Disk.facts c.args.disk.now) _ _ c.args.events.now c.self.view_is c.requires.settled c.requires.lines c.requires.some c.requires.batch c.requires.room in
    IfSome_then (g.D.Disk.facts c.args.disk.now).now known.settled (λ file settled. gate_within file _ _ settled)

pub returns-in_err-write_behind-clause-any_moment : goal.returns-in_err-write_behind-clause-any_moment
returns-in_err-write_behind-clause-any_moment g c =
    let known = given (g.D.Disk.facts c.args.disk.now) _ _ c.args.events.now c.self.view_is c.requires.settled c.requires.lines c.requires.some c.requires.batch c.requires.room in
    every_moment (g.D.Disk.facts c.args.disk.now) (g.D.Disk.facts c.write_behind.new.disk) _ c.args.events.now c.deref.result.now known (c.deref.ensures.value ∙ c.in-Ok.ensures.bytes) c.write_behind.ensures.any_moment

pub returns-clause-any_moment : goal.returns-clause-any_moment
returns-clause-any_moment g c =
    let known = given (g.D.Disk.facts c.args.disk.now) _ _ c.args.events.now c.self.view_is c.requires.settled c.requires.lines c.requires.some c.requires.batch c.requires.room in
    every_moment (g.D.Disk.facts c.args.disk.now) (g.D.Disk.facts c.write_behind.new.disk) _ c.args.events.now c.deref.result.now known (c.deref.ensures.value ∙ c.in-Ok.ensures.bytes) c.write_behind.ensures.any_moment

pub returns-clause-content : goal.returns-clause-content
returns-clause-content g c =
    let known = given (g.D.Disk.facts c.args.disk.now) _ _ c.args.events.now c.self.view_is c.requires.settled c.requires.lines c.requires.some c.requires.batch c.requires.room in
    then_content (g.D.Disk.facts c.args.disk.now).now (g.D.Disk.facts c.write_behind.new.disk).now (g.D.Disk.facts c.args.disk.now).may_leave _ (batch_text c.args.events.now) c.args.events.now known.settled known.adds
    (c.in_ok-write_behind.ensures.written ∙ ap (λ (bytes : List ℕ). option_map (behind_open_gate c.self.inside.gate bytes) (g.D.Disk.facts c.args.disk.now).now) (c.deref.ensures.value ∙ c.in-Ok.ensures.bytes))

pub returns-clause-settled : goal.returns-clause-settled
returns-clause-settled g c =
    let events = c.args.events.now in
    let place : Place = record { gate = c.self.inside.gate; events = c.self.inside.events } in
    let known = given (g.D.Disk.facts c.args.disk.now) _ _ c.args.events.now c.self.view_is c.requires.settled c.requires.lines c.requires.some c.requires.batch c.requires.room in
    let long : c.len.result ≡ length (record_and_gate (batch_text events)) = c.len.ensures ∙ c.in-Ok.bytes.ok.0 ∙ ap length c.in-Ok.ensures.bytes in
    subst (λ (p : Place). IsSettled (g.D.Disk.facts c.write_behind.new.disk) p) (sym c.log_behind.ensures)
    (subst (λ (n : ℕ). IsSettled (g.D.Disk.facts c.write_behind.new.disk) (record { gate = place.gate + n; events = place.events + length events })) (sym long)
    (then_settled (g.D.Disk.facts c.args.disk.now).now (g.D.Disk.facts c.write_behind.new.disk).now (g.D.Disk.facts c.args.disk.now).may_leave (g.D.Disk.facts c.write_behind.new.disk).may_leave place (batch_text events) events known.settled known.adds
    (c.in_ok-write_behind.ensures.written ∙ ap (λ (bytes : List ℕ). option_map (behind_open_gate place.gate bytes) (g.D.Disk.facts c.args.disk.now).now) (c.deref.ensures.value ∙ c.in-Ok.ensures.bytes))
    c.in_ok-write_behind.ensures.durable))
