use Rattle.np_steps.proofs.Prelude.{IsJob, JobRecord, job_text, set, [], ◌∷◌}
use Rattle.np_layout.specs.declared.place.Place.TheVariants.{Job}
use Rattle.np_steps.proofs.RecordRows.{none-parts, put-sound, there-parts}
use Rattle.np_steps.proofs.records.push_job.Goals as goal

pub push_set-requires-clause-sound : goal.push_set-requires-clause-sound
push_set-requires-clause-sound g c =
    let s = g.R.Rows.state c.args.rows.now in
    put-sound IsJob s.jobs c.args.id.0 c.args.kept.now c.in-Some.field-0 c.in-Some.ensures c.requires

pub returns-in-Some : goal.returns-in-Some
returns-in-Some g c = there-parts (λ (old : JobRecord). set (job_text c.args.kept.now) (Job c.args.id) ∷ []) _ _ _ _ c.in-Some.field-0 c.in-Some.ensures c.push_set.ensures

pub returns-in-None : goal.returns-in-None
returns-in-None g c = none-parts (λ (old : JobRecord). set (job_text c.args.kept.now) (Job c.args.id) ∷ []) _ _ c.in-None.ensures
