use Rattle.np_steps.proofs.Prelude.{IsJob, JobRecord, OnOk, job_text, set, subst, sym, with_mark, [], ◌++◌, ◌∷◌, ◌≡◌}
use Rattle.np_layout.specs.declared.place.Place.TheVariants.{Job}
use Rattle.np_steps.proofs.RecordRows.{changed-sound, none-parts, there-parts}
use Rattle.np_steps.proofs.records.push_mark.Goals as goal

pub push_set-requires-clause-sound : goal.push_set-requires-clause-sound
push_set-requires-clause-sound g c =
    let s = g.R.Rows.state c.args.rows.now in
    subst IsJob (sym c.with_mark.ensures) (changed-sound IsJob (with_mark c.args.node) s.jobs c.args.id.0 c.in-Some.old c.in-Some.ensures c.requires)

pub returns-in-Some : goal.returns-in-Some
returns-in-Some g c =
    there-parts (λ (old : JobRecord). set (job_text (with_mark c.args.node old)) (Job c.args.id) ∷ []) _ _ _ _ c.in-Some.old c.in-Some.ensures
    (subst (λ (kept : JobRecord). OnOk c.push_set.result (c.push_set.new.ops.items ≡ c.args.ops.now.items ++ set (job_text kept) (Job c.args.id) ∷ [])) c.with_mark.ensures c.push_set.ensures)

pub returns-in-None : goal.returns-in-None
returns-in-None g c = none-parts (λ (old : JobRecord). set (job_text (with_mark c.args.node old)) (Job c.args.id) ∷ []) _ _ c.in-None.ensures
