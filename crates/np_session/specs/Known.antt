-- what is known of sessions, and what each call changes of it
use Rattle.std.specs.Prelude.{◌≡◌, ℕ, ◌+◌, ◌<◌, ◌≤◌, Bool, true, not, ◌||◌, ◌==◌, List, [], ◌∷◌, ◌++◌, filter}
use Rattle.std.specs.List.{list_any}
use Rattle.std.specs.List.Sorted.{IsStrictlyIncreasing}

-- what is known of sessions: how many were begun, the live ones and the mute ones by number in rising order, and how many can
-- begin without taking memory (ZooKeeper Programmer's Guide, sessions; a mute session sends nothing more and lives until it expires: own)
pub record Known : Type 0 where
  pub begun : ℕ
  pub live : List ℕ
  pub mute : List ℕ
  pub spare : ℕ

-- whether a session is in a list
abbrev pub is_in : List ℕ → ℕ → Bool
is_in sessions id = list_any (λ s. s == id) sessions

-- a list without a session
abbrev pub without : List ℕ → ℕ → List ℕ
without sessions id = filter (λ s. not (s == id)) sessions

-- the live sessions that were mute, and one more
abbrev pub mute_with : List ℕ → List ℕ → ℕ → List ℕ
mute_with live mute id = filter (λ s. is_in mute s || (s == id)) live

-- the next session has begun: its number is one more than the last, and it is live
abbrev pub after_begin : Known → Known
after_begin known = record known { begun = known.begun + 1; live = known.live ++ (known.begun + 1) ∷ [] }

-- a session is over: it is neither live nor mute
abbrev pub after_end : Known → ℕ → Known
after_end known id = record known { live = without known.live id; mute = without known.mute id }

-- a live session is mute from now on
abbrev pub after_mute : Known → ℕ → Known
after_mute known id = record known { mute = mute_with known.live known.mute id }

-- the same except for how many can begin without memory
abbrev pub with_spare : Known → ℕ → Known
with_spare known n = record known { spare = n }

-- what is always true of sessions: a live one was begun, a mute one is live, and each live number
-- is listed once
pub record IsKnown (known : Known) : Type 0 where
  pub begun : (id : ℕ) → is_in known.live id ≡ true → (0 < id) × (id ≤ known.begun)
  pub live : (id : ℕ) → is_in known.mute id ≡ true → is_in known.live id ≡ true
  pub rising : IsStrictlyIncreasing known.live
