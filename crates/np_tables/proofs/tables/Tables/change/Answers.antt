use Rattle.np_tables.proofs.Prelude.{AreQueuesOf, Fits, IsPlanned, IsReached, Kept, sound_fits, subst, sym}
use Rattle.np_tables.proofs.TableLemmas.{can-end, can-settle, countable-changed}
use Rattle.np_tables.proofs.tables.Tables.change.Goals as goal

pub settle-requires : goal.settle-requires
settle-requires c =
    let fits : Fits c.self.inside.config c.self.inside.vectors.state = subst (λ (k : Kept). Fits k.configuration k.state) (sym c.self.view_is) c.requires.fits in
    let planned : IsPlanned c.self.inside.config c.self.inside.vectors.state c.args.changes.now = subst (λ (k : Kept). IsPlanned k.configuration k.state c.args.changes.now) (sym c.self.view_is) c.requires.planned in
    rw c.grow.ensures (can-settle c.self.inside.config c.self.inside.vectors.state fits c.args.changes.now planned)

pub leave_these-requires : goal.leave_these-requires
leave_these-requires c =
    let reached : IsReached c.self.inside.config c.self.inside.vectors.state = subst (λ (k : Kept). IsReached k.configuration k.state) (sym c.self.view_is) c.requires.reached in
    let planned : IsPlanned c.self.inside.config c.self.inside.vectors.state c.args.changes.now = subst (λ (k : Kept). IsPlanned k.configuration k.state c.args.changes.now) (sym c.self.view_is) c.requires.planned in
    let queues : AreQueuesOf c.self.inside.vectors.state c.args.changes.now c.args.requests.now c.args.nodes.now = subst (λ (k : Kept). AreQueuesOf k.state c.args.changes.now c.args.requests.now c.args.nodes.now) (sym c.self.view_is) c.requires.queues in
    rw (c.settle.ensures, c.grow.ensures) (can-end c.self.inside.config c.self.inside.vectors.state c.args.changes.now planned reached c.args.requests.now c.args.nodes.now queues)

pub invariant_of-self : goal.invariant_of-self
invariant_of-self c =
    let reached : IsReached c.self.inside.config c.self.inside.vectors.state = subst (λ (k : Kept). IsReached k.configuration k.state) (sym c.self.view_is) c.requires.reached in
    let planned : IsPlanned c.self.inside.config c.self.inside.vectors.state c.args.changes.now = subst (λ (k : Kept). IsPlanned k.configuration k.state c.args.changes.now) (sym c.self.view_is) c.requires.planned in
    rw (c.leave_these.ensures, c.settle.ensures, c.grow.ensures) (countable-changed c.self.inside.config c.args.changes.now c.self.inside.vectors.state (sound_fits c.self.inside.config c.is_sound.ensures) reached planned c.self.invariant.jobs)
