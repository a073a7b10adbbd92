-- What contracts know of a disk with one file: what reads give, what a crash leaves, and what each call does to both.
use Rattle.std.specs.Prelude.{◌≡◌, ◌⊎◌, ◌↔◌, ℕ, ◌+◌, ◌≤◌, max, List, ◌++◌, length, take, drop, Option, IfSome, None}
use Rattle.np_io.specs.declared.file_disk.FileDisk.{FileDisk}

-- a disk at one moment (own)
pub record DiskFacts : Type 1 where
  -- what reads give, if it is known
  pub now : Option (List ℕ)
  -- the images: what a crash at this moment may leave
  pub may_leave : List ℕ → Type 0
  -- the moment, as a number that never falls
  pub moment : ℕ
  -- what a crash at some moment since that one might have left, during a call or between two
  pub left_since : ℕ → List ℕ → Type 0
  -- how many calls failed; it never falls
  pub faults : ℕ

-- the file after these bytes were written at a place: they replace what is there, and may extend it (own)
abbrev pub put_at : ℕ → List ℕ → List ℕ → List ℕ
put_at at bytes file = take at file ++ bytes ++ drop (at + length bytes) file

-- a crash cut a write of n bytes short: any bytes may be in the range and past the old end, and all others stay (own)
pub record TornWrite (at n : ℕ) (old new : List ℕ) : Type 0 where
  pub before : take at new ≡ take at old
  pub after : drop (at + n) new ≡ drop (at + n) old
  pub no_shorter : length old ≤ length new
  pub no_longer : length new ≤ max (length old) (at + n)

-- a crash leaves this file and nothing else (own)
abbrev pub Only : List ℕ → (List ℕ → Type 0) → Type 0
Only file images = (c : List ℕ) → images c → c ≡ file

-- what always holds of a disk: a crash may leave what reads give, this moment is one of those since an earlier one, and since this moment there is no other (own)
pub record IsDisk (disk : DiskFacts) : Type 0 where
  pub reads : IfSome disk.now disk.may_leave
  pub counts_now : (t : ℕ) (c : List ℕ) → t ≤ disk.moment → disk.may_leave c → disk.left_since t c
  pub only_now : (c : List ℕ) → disk.left_since disk.moment c → disk.may_leave c

-- time goes on: what might have been left since an earlier moment is what might have been left before, or what may be left now (own)
pub record Elapses (old new : DiskFacts) : Type 0 where
  pub later : old.moment ≤ new.moment
  pub keeps : (t : ℕ) (c : List ℕ) → t ≤ old.moment → old.left_since t c → new.left_since t c
  pub nothing_else : (t : ℕ) (c : List ℕ) → t ≤ old.moment → new.left_since t c
      → old.left_since t c ⊎ new.may_leave c

-- a call that changes neither what reads give nor the images (own)
pub record Stays (old new : DiskFacts) : Type 0 where
  pub bytes : new.now ≡ old.now
  pub images : (c : List ℕ) → new.may_leave c ↔ old.may_leave c
  pub time : Elapses old new

-- one of these images, in which a crash cut a write of n bytes short (own)
abbrev pub AfterTornWrite : (List ℕ → Type 0) → ℕ → ℕ → List ℕ → Type 0
AfterTornWrite images at n c = (d : List ℕ) × images d × TornWrite at n d c

-- a write, whether it failed or not: each image is an old one, torn there at most (own)
pub record Tears (at n : ℕ) (old new : DiskFacts) : Type 0 where
  pub images : (c : List ℕ) → new.may_leave c → AfterTornWrite old.may_leave at n c
  pub time : Elapses old new

-- a sync, whether it failed or not: what reads give stays, and no image is new (own)
pub record Settles (old new : DiskFacts) : Type 0 where
  pub bytes : new.now ≡ old.now
  pub images : (c : List ℕ) → new.may_leave c → old.may_leave c
  pub time : Elapses old new

-- what a read of n bytes gave: the file's next bytes, and none exactly at its end (own)
pub record Reads (file : List ℕ) (at n : ℕ) (bytes : List ℕ) : Type 0 where
  pub bytes_are : bytes ≡ take n (drop at file)
  pub within : n ≤ length (drop at file)
  pub end : (n ≡ 0) ↔ (length file ≤ at)

-- at every moment from old to new, each image has P (own)
pub record LeavesOnly (old new : DiskFacts) (P : List ℕ → Type 0) : Type 0 where
  pub later : old.moment ≤ new.moment
  pub each : (c : List ℕ) → new.left_since old.moment c → P c
  -- so that a run that began earlier can go on with this one
  pub before : (t : ℕ) (c : List ℕ) → t ≤ old.moment → new.left_since t c → old.left_since t c ⊎ P c

-- A real file as a disk, as its contracts see it: the open file, and the count of failures.

-- the open file, if there is one (own)
abbrev pub file_of : {R F D : Type 0} → FileDisk R F D → Option F
file_of disk = disk.file

-- how many calls failed (own)
abbrev pub file_faults : {R F D : Type 0} → FileDisk R F D → ℕ
file_faults disk = disk.faults

-- a disk of unknown content: a crash may leave anything (own)
abbrev pub unknown_disk : ℕ → DiskFacts
unknown_disk faults =
    record {
      now = None;
      may_leave = λ c. Unit {0};
      moment = 0;
      left_since = λ t c. Unit {0};
      faults = faults;
    }

-- the content of a real file is unknown
abbrev pub file_facts : {R F D : Type 0} → FileDisk R F D → DiskFacts
file_facts disk = unknown_disk (file_faults disk)

-- a disk of unknown content is a disk
pub file_lawful : {R F D : Type 0} (disk : FileDisk R F D) → IsDisk (file_facts disk)
file_lawful disk = record { reads = tt; counts_now = λ t c le left. tt; only_now = λ c left. tt }
