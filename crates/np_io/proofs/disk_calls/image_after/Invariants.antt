use Rattle.np_io.proofs.Prelude.{List, drop, images_after, left_after, ℕ, ◌≡◌, ◌≤◌}
use Rattle.np_io.proofs.disk_calls.image_after.Given as goal

abbrev pub invariant-loop-call : goal.invariant-loop-call
invariant-loop-call l = record {
  -- what the rest of the calls may leave of the image, all of them may leave of the file
  image : (c : List ℕ) → images_after (λ d. d ≡ l.image.items) (drop l.call-index l.calls) c
      → images_after (λ d. d ≡ l.file) l.calls c;
  share : l.pick ≤ 1 → left_after l.pick l.image.items (drop l.call-index l.calls)
      ≡ left_after l.pick l.file l.calls;
  pick : l.draws.pick ≡ l.pick;
}
