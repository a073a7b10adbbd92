use Rattle.np_io.proofs.Prelude.{Call, List, images_after, subst, ℕ, ◌≡◌}
use Rattle.np_io.proofs.CallLemmas.{image-now}
use Rattle.np_io.proofs.mem_disk.MemDisk.image.Goals as goal

pub returns-clause-image : goal.returns-clause-image
returns-clause-image c =
    let calls = c.args.self.now.calls.items in
    let image = c.in_ok-image.image.items in
    image-now calls c.args.self.now.bytes.items image
    (subst (λ (start : List ℕ). images_after (λ d. d ≡ start) calls image) c.start.ensures
    (subst (λ (l : List Call). images_after (λ d. d ≡ c.start.result.now) l image)
    c.deref.ensures.value c.in_ok-image.ensures.image))
