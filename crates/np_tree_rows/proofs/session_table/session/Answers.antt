use Rattle.np_tree_rows.proofs.Prelude.{IsSession, arith, option_map, session_of, session_text, ◌∙◌}
use Rattle.np_tree_rows.proofs.Shown.{read-none, read-some}
use Rattle.np_tree_rows.proofs.Stored.{kept_of, session-bytes, session-known, session-none, session-sound, text-none, text-some}
use Rattle.np_tree_rows.proofs.session_table.session.Goals as goal

pub returns-in_default : goal.returns-in_default
returns-in_default c config s stored few = session-none (session_of c.args.session s) (text-none IsSession session_text (option_map kept_of (session_of c.args.session s)) (c.in_default.ensures ∙ session-bytes config s c.args.tree.now stored c.args.session (omega arith)))

pub returns-in-Ok : goal.returns-in-Ok
returns-in-Ok c config s stored few =
    rw c.is_live.ensures
    (session-known config s c.args.tree.now stored c.args.session c.in-Ok.kept
    (read-some (option_map kept_of (session_of c.args.session s)) c.in-Ok.kept
    (text-some IsSession session_text (option_map kept_of (session_of c.args.session s)) c.in-Some.bytes.now _ (session-sound config s c.args.tree.now stored c.args.session) (c.in-Some.ensures ∙ session-bytes config s c.args.tree.now stored c.args.session (omega arith)) c.in-Ok.ensures.all)))

pub returns-in-Err : goal.returns-in-Err
returns-in-Err c config s stored few =
    session-none (session_of c.args.session s)
    (read-none (option_map kept_of (session_of c.args.session s)) _
    (text-some IsSession session_text (option_map kept_of (session_of c.args.session s)) c.in-Some.bytes.now _ (session-sound config s c.args.tree.now stored c.args.session) (c.in-Some.ensures ∙ session-bytes config s c.args.tree.now stored c.args.session (omega arith)) c.in-Err.ensures.all))
