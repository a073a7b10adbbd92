-- how a site was played, by whichever drivers
use Rattle.std.specs.Prelude.{◌≡◌, ℕ, Bool, true, false, All, List, [], length, Some, if◌then◌else◌, ◌⊎◌}
use Rattle.np_top.specs.Lower.{Configuration, Driven, Driving, Ending, EndsWithTick, Entry, Fate, HoldsThroughout, IsPrinted, IsSettled, IsTold, IsWritten, Rose, Runs, SinkFacts, WasPlayed, after, drill_site, fates, full_line, list_any, memory_line, summary_of}
use Rattle.np_machine.specs.Fates as fate

-- if the run came to its end, no role has a useful event, and the last entry is a tick; otherwise
-- the journal is as long as it may be (own)
abbrev pub HasStopped : Configuration → List Entry → Bool → Type 0
HasStopped c journal false = IsSettled c (after c journal) × EndsWithTick journal
HasStopped c journal true = length journal ≡ 262144

-- workers played the site in laps, from the empty journal to this one, with drivers that had no servers before; a turn of some lap found the journal full, or none did (own)
pub record WasPlayedBy (plans : Bool) (c : Configuration) (journal : List Entry) (full : Bool) : Type 0 where
  pub before : List Driving
  pub left : List Driving
  pub empty : All (λ (d : Driving). d.facts.servers ≡ Some []) before
  pub played : WasPlayed plans c before left journal full

-- both (own)
abbrev pub HasEnded : Bool → Configuration → List Entry → Bool → Type 0
HasEnded plans c journal full = HasStopped c journal full × WasPlayedBy plans c journal full

-- the text is that of a journal over this configuration, which was played to its end, or until it was full (own)
pub record IsPlayedTo (plans : Bool) (c : Configuration) (journal : List Entry) (text : List ℕ) (full : Bool) : Type 0 where
  pub printed : IsPrinted c journal text
  pub ended : HasEnded plans c journal full

-- ## the fates of its jobs

-- the job isn't over
abbrev pub is_waiting : Fate → Bool
is_waiting (fate.waiting phase) = true
is_waiting _ = false

-- one of these fates is waiting (own)
abbrev pub some_waits : List Fate → Bool
some_waits ends = list_any is_waiting ends

-- the status of a run that came to its end: 1 if a fate is waiting, otherwise 0
abbrev pub status_of_fates : List Fate → ℕ
status_of_fates ends = if some_waits ends then 1 else 0

-- ## how playing may end

-- how playing a site may end, with this journal
abbrev pub EndsPlay : Bool → Configuration → List Entry → Ending → Type 0
EndsPlay plans c journal (Ending.Prints text status) = IsPlayedTo plans c journal text.items false × (status ≡ status_of_fates (fates (after c journal)))
EndsPlay plans c journal (Ending.Full text) = IsPlayedTo plans c journal text.items true
EndsPlay plans c journal _ = ⊥

-- what the command `drill` does

-- ## how a drill may end

-- the text is the summary of a run over this configuration, which its parties and the simulated
-- cloud drove to its end, or until the journal was full; all that holds of a run held after each of
-- its steps (own)
pub record IsDrill (c : Configuration) (text : List ℕ) (full : Bool) : Type 0 where
  pub journal : List Entry
  pub runs : Runs c journal (after c journal)
  pub driven : Driven c journal
  pub ended : HasEnded false c journal full
  pub summary : text ≡ summary_of (fates (after c journal))
  pub throughout : HoldsThroughout c journal

-- how a drill over this configuration may end (own)
abbrev pub EndsDrill : Configuration → Ending → Type 0
EndsDrill c (Ending.Prints text status) = (status ≡ 0) × IsDrill c text.items false
EndsDrill c (Ending.Full text) = IsDrill c text.items true
EndsDrill c Ending.NoMemory = Unit {0}
EndsDrill c _ = ⊥

-- ## what the streams and the status show

pub record Drills {K E : Type 0} (k : K → SinkFacts) (e : E → SinkFacts) (jobs : ℕ) (out out_now : K) (err err_now : E) (status : ℕ) : Type 0 where
  -- the drill ended so, and out, err and the status show it
  pub ending : Ending
  pub ends : EndsDrill (drill_site jobs) ending
  pub told : IsTold k e out out_now err err_now ending status
  -- status 0: the summary of a journal that the site's parties drove to its end is on out, and nothing on err
  pub done : status ≡ 0 → (text : List ℕ) × IsDrill (drill_site jobs) text false × IsWritten (k out) (k out_now) text × (err_now ≡ err)
  -- status 9: a turn found the journal full, which is as long as it may be; its summary is on out, and err says so
  pub full : status ≡ 9 → (text : List ℕ) × IsDrill (drill_site jobs) text true
      × IsWritten (k out) (k out_now) text × IsWritten (e err) (e err_now) full_line
  -- status 6: out or err failed, and `told` says which, and what is on both
  pub write : status ≡ 6 → Rose (k out).faults (k out_now).faults ⊎ Rose (e err).faults (e err_now).faults
  -- status 7: memory ran out
  pub memory : status ≡ 7 → IsWritten (e err) (e err_now) memory_line × (out_now ≡ out)
  -- the status is 0 or 9, unless a stream failed or memory ran out
  pub complete : (status ≡ 0) ⊎ (status ≡ 9) ⊎ (status ≡ 7)
      ⊎ ((status ≡ 6) × (Rose (k out).faults (k out_now).faults ⊎ Rose (e err).faults (e err_now).faults))
