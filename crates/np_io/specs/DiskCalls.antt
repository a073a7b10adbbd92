-- The record that a disk in memory keeps of its writes and syncs, and what a crash leaves after them.
use Rattle.std.specs.Prelude.{◌≡◌, ◌⊎◌, ◌≤◌, ℕ, zero, suc, List, [], ◌∷◌, length, take, Option, Some, None, if◌then◌else◌, nat_lt}
use Rattle.np_io.specs.Disk.{AfterTornWrite, put_at}
use Rattle.np_io.specs.declared.disk_calls.Call.{Call}
use Rattle.np_io.specs.declared.disk_calls.Written.{Written}

-- the images after a call: a write tears those before it, and a sync leaves what reads gave (own)
abbrev pub images_then : (List ℕ → Type 0) → List ℕ → Option Written → List ℕ → Type 0
images_then images before None c = c ≡ before
images_then images before (Some w) c = AfterTornWrite images w.at (length w.bytes.items) c

-- the images after these calls (own)
abbrev pub images_after : (List ℕ → Type 0) → List Call → List ℕ → Type 0
images_after images [] = images
images_after images (call ∷ calls) = images_after (images_then images call.before.items call.write) calls

-- what reads give after the first k calls: what the next call found, or what they give now (own)
abbrev pub now_at : List Call → List ℕ → ℕ → List ℕ
now_at [] bytes k = bytes
now_at (call ∷ calls) bytes zero = call.before.items
now_at (call ∷ calls) bytes (suc k) = now_at calls bytes k

-- after the first k calls a crash leaves what reads give, or what the calls leave of the file before the first (own)
abbrev pub IsImageAt : List Call → List ℕ → ℕ → List ℕ → Type 0
IsImageAt calls bytes k c = (c ≡ now_at calls bytes k)
    ⊎ images_after (λ d. d ≡ now_at calls bytes 0) (take k calls) c

-- at some moment since the first t calls (own)
abbrev pub LeftSince : List Call → List ℕ → ℕ → List ℕ → Type 0
LeftSince calls bytes t c = (k : ℕ) × (t ≤ k) × (k ≤ length calls) × IsImageAt calls bytes k c

-- what two of the picks leave of the bytes of a write: pick 0 nothing, and pick 1 all (own)
abbrev pub share_of : ℕ → List ℕ → List ℕ
share_of zero bytes = []
share_of (suc n) bytes = bytes

-- the image after a call by such a pick; nothing is left of a write past the image's end (own)
abbrev pub left_then : ℕ → List ℕ → List ℕ → Option Written → List ℕ
left_then pick image before None = before
left_then pick image before (Some w) =
    if nat_lt (length image) w.at then image else put_at w.at (share_of pick w.bytes.items) image

-- the image after these calls by such a pick (own)
abbrev pub left_after : ℕ → List ℕ → List Call → List ℕ
left_after pick image [] = image
left_after pick image (call ∷ calls) =
    left_after pick (left_then pick image call.before.items call.write) calls
