use Rattle.np_io.proofs.Prelude.{Call, List, ap, arith, drop, drop_more, images_after, images_then, left_after, left_then, length, subst, sym, ℕ, ◌+◌, ◌<◌, ◌∙◌, ◌∷◌, ◌≡◌, ◌≤◌}
use Rattle.np_io.proofs.CallLemmas.{after-next}
use Rattle.np_io.proofs.disk_calls.image_after.Goals as goal

pub loop-call-preserved : goal.loop-call-preserved
loop-call-preserved c =
    let before = c.loop-call.invariant in
    let ensures = c.in_ok-image-2.ensures in
    let at : ℕ = c.loop-call.call-index in
    let calls = c.args.calls.now in
    let call = c.call-item.result in
    let image = c.loop-call.image.items in
    let next = c.in_ok-image-2.image.items in
    let rest = drop (at + 1) calls in
    let within : at < length calls = omega arith in
    let left : drop at calls ≡ call ∷ rest =
    drop_more calls at call within ∙ ap (λ (x : Call). x ∷ rest) (sym c.call-item.is) in
    let one : images_then (λ d. d ≡ image) call.before.items call.write next =
    subst (λ (b : List ℕ). images_then (λ d. d ≡ b) call.before.items call.write next)
    c.deref.ensures.value ensures.image in
    let by_pick : c.args.pick ≤ 1 → next ≡ left_then c.args.pick image call.before.items call.write =
    subst (λ (k : ℕ). k ≤ 1 → next ≡ left_then k image call.before.items call.write) before.pick
    (subst (λ (b : List ℕ). c.loop-call.draws.pick ≤ 1
    → next ≡ left_then c.loop-call.draws.pick b call.before.items call.write)
    c.deref.ensures.value ensures.share) in
    record {
      image = λ x of_next. before.image x
          (subst (λ (l : List Call). images_after (λ d. d ≡ image) l x) (sym left)
          (after-next image next call rest one x of_next));
      share = λ few. ap (λ (b : List ℕ). left_after c.args.pick b rest) (by_pick few)
          ∙ ap (λ (l : List Call). left_after c.args.pick image l) (sym left)
          ∙ before.share few;
      pick = ensures.pick ∙ before.pick;
    }
