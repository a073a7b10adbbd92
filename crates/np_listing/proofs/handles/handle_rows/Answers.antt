use Rattle.np_listing.proofs.Prelude.{List, ap, handle_head, handle_rows_of, sym, ℕ, ◌++◌, ◌∙◌, ◌∷◌}
use Rattle.np_listing.proofs.Walks.{more}
use Rattle.np_listing.proofs.handles.handle_rows.Goals as goal

pub loop-number-preserved : goal.loop-number-preserved
loop-number-preserved g c =
    let rows = handle_rows_of (g.R.Rows.site c.args.rows.now) (g.R.Rows.state c.args.rows.now) in
    c.in_ok-push_handles.ensures
    ∙ ap (λ (table : List (List (List ℕ))). table ++ rows c.loop-number.number) c.loop-number.invariant
    ∙ ap (λ (table : List (List (List ℕ))). handle_head ∷ table) (sym (more rows c.loop-number.number))
