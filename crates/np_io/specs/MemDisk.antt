-- A disk in memory, as its contracts see it.
use Rattle.std.specs.Prelude.{◌≡◌, ℕ, List, [], ◌∷◌, length, Some}
use Rattle.std.proofs.Common.{inl, refl, subst}
use Rattle.std.proofs.Math.Nat.{le_antisymm, le_refl}
use Rattle.np_io.specs.declared.disk_calls.Call.{Call}
use Rattle.np_io.specs.declared.mem_disk.MemDisk.{MemDisk}
use Rattle.np_io.specs.declared.plan.Plan.{Plan}
use Rattle.np_io.specs.Disk.{DiskFacts, IsDisk}
use Rattle.np_io.specs.DiskCalls.{IsImageAt, LeftSince, left_after, now_at}

-- the calls so far, and the plan of those that fail (own)
abbrev pub plan_of : MemDisk → Plan
plan_of disk = disk.plan

-- what is known after these calls: the moment is their number (own)
abbrev pub facts_of : List Call → List ℕ → ℕ → DiskFacts
facts_of calls bytes faults = record {
  now = Some bytes;
  may_leave = IsImageAt calls bytes (length calls);
  moment = length calls;
  left_since = LeftSince calls bytes;
  faults = faults;
}

-- what is known of a disk in memory (own)
abbrev pub mem_facts : MemDisk → DiskFacts
mem_facts disk = facts_of disk.calls.items disk.bytes.items disk.plan.faults

-- the image of pick 0, with nothing of what was written since the last sync, or of pick 1, with all of it, also of writes that failed (own)
abbrev pub image_by : ℕ → MemDisk → List ℕ
image_by pick disk = left_after pick (now_at disk.calls.items disk.bytes.items 0) disk.calls.items

-- after all calls reads give what they give now
now_at-end : (calls : List Call) (bytes : List ℕ) → bytes ≡ now_at calls bytes (length calls)
now_at-end [] bytes = refl
now_at-end (call ∷ calls) bytes = now_at-end calls bytes

-- a disk in memory is a disk
pub mem_lawful : (disk : MemDisk) → IsDisk (mem_facts disk)
mem_lawful disk =
    let calls = disk.calls.items in
    let bytes = disk.bytes.items in
    record {
      reads = inl (now_at-end calls bytes);
      counts_now = λ t c le left. (length calls, le, le_refl (length calls), left);
      only_now = λ c left. subst (λ k. IsImageAt calls bytes k c) (le_antisymm left.2 left.1) left.3;
    }
