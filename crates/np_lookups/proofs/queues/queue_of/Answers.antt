use Rattle.np_lookups.proofs.Prelude.{List, None, Some, ap, arith, length, node_queue, past-end, queue-fits, slice_get, slice_get_within, sym, take, take_all, take_there, ℕ, [], ◌++◌, ◌+◌, ◌<◌, ◌∙◌, ◌∷◌, ◌≡◌}
use Rattle.np_lookups.proofs.queues.queue_of.Goals as goal

-- one more is read
one_more : {X : Type 0} (read later whole : List X) (at n m : ℕ) (x : X) → Some x ≡ slice_get whole at → at ≡ n → read ≡ take n whole → later ≡ read ++ x ∷ [] → m ≡ n + 1 → later ≡ take m whole
one_more read later whole at n m x there here so_far added more =
    added
    ∙ ap (λ (xs : List _). xs ++ x ∷ []) so_far
    ∙ sym (take_there whole n x (rw (← here) (sym there)))
    ∙ ap (λ (i : ℕ). take i whole) (sym more)

-- past the end all is read
all_read : {X : Type 0} (read whole : List X) (at n : ℕ) → None ≡ slice_get whole at → at ≡ n → read ≡ take n whole → read ≡ whole
all_read read whole at n none here so_far = so_far ∙ take_all n whole (past-end whole n (rw (← here) (sym none)))

pub overflow_cast-len : goal.overflow_cast-len
overflow_cast-len g c =
    omega (arith, c.len.ensures, c.loop-session.invariant.within, queue-fits (g.R.Rows.site c.args.rows.now) (g.R.Rows.state c.args.rows.now) c.in-Some.node c.requires)

pub loop-session-smaller : goal.loop-session-smaller
loop-session-smaller g c =
    let within : c.len.result < length (node_queue c.in-Some.node (g.R.Rows.state c.args.rows.now).nodes) = slice_get_within _ c.len.result c.in-Some-node_queue.session (sym c.in-Some-node_queue.ensures) in
    omega (arith, within, c.len.ensures, c.in_ok-push.ensures.len)

pub loop-session-preserved : goal.loop-session-preserved
loop-session-preserved g c =
    let within : c.len.result < length (node_queue c.in-Some.node (g.R.Rows.state c.args.rows.now).nodes) = slice_get_within _ c.len.result c.in-Some-node_queue.session (sym c.in-Some-node_queue.ensures) in
    record {
      within = omega (arith, within, c.len.ensures, c.in_ok-push.ensures.len);
      all = one_more _ _ _ _ _ _ _ c.in-Some-node_queue.ensures c.len.ensures c.loop-session.invariant.all c.in_ok-push.ensures.items c.in_ok-push.ensures.len;
    }

pub returns : goal.returns
returns g c = rw c.in-Some.is (all_read _ _ _ _ c.in_default-node_queue.ensures c.len.ensures c.loop-session.invariant.all)
