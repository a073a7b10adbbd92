use Rattle.np_tables.proofs.Prelude.{RequestEntry, change_first-same, edited, edited_in_room, refl, same_request, ◌∙◌}
use Rattle.np_tables.proofs.settle.edit_request.Goals as goal

pub returns : goal.returns
returns c = c.edit.ensures ∙ change_first-same (λ (e : RequestEntry). same_request e.id c.args.request) (λ e. record e { kept = edited_in_room c.args.edit e.kept }) (λ e. record e { kept = edited c.args.edit e.kept }) c.args.requests.now.rows (λ e is. rw (c.requires e is) refl)
