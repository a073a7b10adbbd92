-- Where a log is on a disk, and what a crash may leave of it.
use Rattle.std.specs.Prelude.{◌≡◌, ◌≤◌, ◌⊎◌, ℕ, List, [], length, take, IfSome, Result, Ok, Err}
use Rattle.np_log.specs.Log.{Content, Walk, content_of, content_with, walk_of}
use Rattle.np_log.specs.Lower.{DiskFacts, Event, Only}

-- the place of a log: how many bytes are before its last gate, and how many events
pub record Place : Type 0 where
  pub gate : ℕ
  pub events : ℕ

-- the log in these bytes ends at this place, and a crash leaves these bytes and nothing else
pub record IsSettledIn (images : List ℕ → Type 0) (place : Place) (file : List ℕ) : Type 0 where
  pub only : Only file images
  pub walk : Walk
  pub is : walk_of file ≡ Ok walk
  pub gate : walk.gate ≡ place.gate
  pub events : length walk.content.events ≡ place.events

-- if the disk's bytes are known, a crash leaves them and nothing else, and the log in them ends at
-- this place (own)
abbrev pub IsSettled : DiskFacts → Place → Type 0
IsSettled disk place = IfSome disk.now (IsSettledIn disk.may_leave place)

-- ## What a crash leaves

-- this image says what was said before, with all of these events or with none of them (own)
abbrev pub SaysAllOrNone : Result Content ℕ → List Event → List ℕ → Type 0
SaysAllOrNone said events image = (content_of image ≡ said) ⊎ (content_of image ≡ content_with said events)

-- this image says what was said before, with the first n of these events, for some n (own)
abbrev pub SaysFirst : Result Content ℕ → List Event → List ℕ → Type 0
SaysFirst said events image = (n : ℕ) × (n ≤ length events) × (content_of image ≡ content_with said (take n events))

-- this image is one from before, or a log that is damaged at record 0, or one of this configuration
-- and no events (own)
abbrev pub SaysNewLog : (List ℕ → Type 0) → List ℕ → List ℕ → Type 0
SaysNewLog images config image =
    images image ⊎ ((content_of image ≡ Err 0) ⊎ (content_of image ≡ Ok (record { config = config; events = [] })))
