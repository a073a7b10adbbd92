use Rattle.np_log.proofs.Prelude.{IsSettled, ap, length, subst, sym, walk_of, walk_view, ℕ, ◌∙◌, ◌≡◌}
use Rattle.np_log.proofs.Walks.{load_settled, walk_of-EndsAt}
use Rattle.np_log.proofs.log.Log.load.Goals as goal

pub returns-clause-settled : goal.returns-clause-settled
returns-clause-settled g c =
    let w = walk_view c.in_ok-walk.walk in
    let long : c.len.result ≡ length c.in_ok-walk.walk.events.items = c.len.ensures ∙ c.in_ok-walk.walk.events.ok.0 in
    subst (λ (n : ℕ). IsSettled (g.D.Disk.facts c.sync_and_read.new.disk) (record { gate = c.in_ok-walk.walk.gate; events = n })) (sym long)
    (load_settled (g.D.Disk.facts c.args.disk.now) (g.D.Disk.facts c.sync_and_read.new.disk) c.in_ok-bytes.bytes.items w c.sync_and_read.ensures.kept c.in_ok-bytes.ensures.durable c.in_ok-bytes.ensures.all
    (ap walk_of (sym c.deref.ensures.value) ∙ c.in_ok-walk.ensures.walks))

pub returns-clause-lines : goal.returns-clause-lines
returns-clause-lines g c = (walk_of-EndsAt c.deref.result.now (walk_view c.in_ok-walk.walk) c.in_ok-walk.ensures.walks).lines tt
