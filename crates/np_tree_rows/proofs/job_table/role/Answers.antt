use Rattle.np_tree_rows.proofs.Prelude.{IsRole, role_in, role_text, rules, ◌∙◌}
use Rattle.np_tree_rows.proofs.Shown.{read-none, read-some}
use Rattle.np_tree_rows.proofs.Stored.{role-bytes, role-sound, text-none, text-some}
use Rattle.np_tree_rows.proofs.job_table.role.Goals as goal

pub returns-in_default-bytes_at : goal.returns-in_default-bytes_at
returns-in_default-bytes_at c config s stored = text-none IsRole role_text (role_in c.args.role s) (c.in_default-bytes_at.ensures ∙ role-bytes config s c.args.tree.now stored c.args.role c.in-Some.place c.in-Some.ensures (search rules))

pub returns-in-Ok : goal.returns-in-Ok
returns-in-Ok c config s stored =
    read-some (role_in c.args.role s) c.in-Ok.kept
    (text-some IsRole role_text (role_in c.args.role s) c.in-Some-bytes_at.bytes.now _ (role-sound config s c.args.tree.now stored c.args.role) (c.in-Some-bytes_at.ensures ∙ role-bytes config s c.args.tree.now stored c.args.role c.in-Some.place c.in-Some.ensures (search rules)) c.in-Ok.ensures.all)

pub returns-in-Err : goal.returns-in-Err
returns-in-Err c config s stored =
    read-none (role_in c.args.role s) _
    (text-some IsRole role_text (role_in c.args.role s) c.in-Some-bytes_at.bytes.now _ (role-sound config s c.args.tree.now stored c.args.role) (c.in-Some-bytes_at.ensures ∙ role-bytes config s c.args.tree.now stored c.args.role c.in-Some.place c.in-Some.ensures (search rules)) c.in-Err.ensures.all)
