-- how a resume goes on with a log that was loaded, and what each of its statuses shows
use Rattle.np_replay.proofs.Prelude.{AllByRecursion, DiskFacts, Ending, EndsResume, Event, HasEventLine, IfSome, IfSome_then, IsCutOff, IsDamaged, IsGoingOn, IsInput, IsMisread, IsNotResumed, IsPartOfLog, IsPlayable, IsReadLogOf, IsReady, IsTold, IsWritten, LeavesOnly, LeavesOnly-then, List, None, Ok, Option, Place, Resumes, ResumesWhole, Script, SinkFacts, Some, SourceFacts, arith, event_in-spelled, event_said, inl, inr, length, length-append, lines-append, lines_of, lines_read-all, lines_read-few, more_of, most_lines, refl, subst, ℕ, ◌++◌, ◌+◌, ◌-◌, ◌<◌, ◌≡◌, ◌≤◌, ◌⊎◌}
use Rattle.np_replay.proofs.Statuses.{HasOwn, Said, ShowsOwn, printed-of, said-of, tells, complete-read}
use Rattle.np_replay.specs.Resume.{IsStatusBy, IsStatusIf}

-- # what each status of a resume shows

-- ## 0, 4, 10 and 11 are statuses of its own

is-own : (source source_now : SourceFacts) (disk disk_now : DiskFacts) (line : List ℕ) (n : ℕ) → IsNotResumed source source_now disk disk_now line n → (n < 5) ⊎ (7 < n)
is-own source source_now disk disk_now line n is = grind arith

own : {D : Type 0} (d : D → DiskFacts) (source source_now : SourceFacts) (disk disk_now : D) → HasOwn (EndsResume d source source_now disk disk_now)
own d source source_now disk disk_now = record {
  command = λ ends. ends;
  prints = λ text n ends. inl (omega (arith, ends.0));
  says = λ line n ends. is-own source source_now (d disk) (d disk_now) line.items n ends;
}

-- the reason that a status of a line shows
reasons : (source source_now : SourceFacts) (disk disk_now : DiskFacts) (line : List ℕ) (n : ℕ) → IsNotResumed source source_now disk disk_now line n →
    (n ≡ 4 → IsMisread source source_now disk disk_now line) × (n ≡ 10 → IsCutOff source source_now disk disk_now line) × (n ≡ 11 → IsDamaged source source_now disk disk_now line)
reasons source source_now disk disk_now line n is = grind arith

-- ## status by status

module _ {S K E D : Type 0} (s : S → SourceFacts) (k : K → SinkFacts) (e : E → SinkFacts) (d : D → DiskFacts) (source source_now : S) (out out_now : K) (err err_now : E) (disk disk_now : D) (status : ℕ) where
  abbrev Own : Type 0
  Own = ShowsOwn (EndsResume d (s source) (s source_now) disk disk_now) k e out out_now err err_now status

  said-as : Own → (status ≡ 0 → ⊥) → (status ≡ 9 → ⊥) → Said (EndsResume d (s source) (s source_now) disk disk_now) k e out out_now err err_now status
  said-as own some other = said-of (EndsResume d (s source) (s source_now) disk disk_now) k e out out_now err err_now status own (λ text printed. some printed.0) other

  abbrev IsByInput : Type 0
  IsByInput = (came : List ℕ) × IsInput (s source) (s source_now) came × IsStatusBy (d disk) (d disk_now) came status

  by_input : Own → IsByInput
  by_input (inl printed) =
      let r = printed.ends.1 in
      (r.came, r.input, inl (printed.ends.0, IfSome_then (d disk).now r.was (λ file was. (r.config, r.before, r.more, was, r.read))))
  by_input (inr (inl filled)) = absurd filled.ends
  by_input (inr (inr said)) = by_why said.ends
    where
      by_why : IsNotResumed (s source) (s source_now) (d disk) (d disk_now) said.chosen.items status → IsByInput
      by_why (inl misread) =
          let r = misread.1 in
          (r.came, r.input, inr (inl (misread.0, IfSome_then (d disk).now r.was (λ file was. (r.config, r.before, r.fault, was, r.read)))))
      by_why (inr (inl cut)) = (cut.1.came, cut.1.input, inr (inr (inr (cut.0, cut.1.broken.rose))))
      by_why (inr (inr damaged)) = (damaged.1.came, damaged.1.input, inr (inr (inl (damaged.0, IfSome_then (d disk).now damaged.1.found (λ file found. (damaged.1.number, found))))))

  -- an ending that the streams show is a resume
  pub resumes : (end : Ending) → EndsResume d (s source) (s source_now) disk disk_now end → ResumesWhole d (s source) (s source_now) disk disk_now → IsTold k e out out_now err err_now end status →
      Resumes s k e d source source_now out out_now err err_now disk disk_now status
  resumes end ends crash told =
      let all = tells (EndsResume d (s source) (s source_now) disk disk_now) k e out out_now err err_now status (own d (s source) (s source_now) disk disk_now) end ends told in
      record {
        ending = end;
        ends = ends;
        told = told;
        done = λ zero.
            let it = printed-of (EndsResume d (s source) (s source_now) disk disk_now) k e out out_now err err_now status (all.own (inl (omega (arith, zero)))) (λ nine. omega (arith, nine, zero)) (λ line why. grind arith) in
            (it.text.items, it.ends.1, it.whole, it.quiet);
        misread = λ four.
            let it = said-as (all.own (inl (omega (arith, four)))) (λ zero. omega (arith, zero, four)) (λ nine. omega (arith, nine, four)) in
            (it.chosen.items, (reasons (s source) (s source_now) (d disk) (d disk_now) it.chosen.items status it.ends).0 four, it.whole, it.untouched);
        broken = λ ten.
            let it = said-as (all.own (inr (omega (arith, ten)))) (λ zero. omega (arith, zero, ten)) (λ nine. omega (arith, nine, ten)) in
            let broken = ((reasons (s source) (s source_now) (d disk) (d disk_now) it.chosen.items status it.ends).1 ten).broken in
            (broken.rose, subst (λ (line : List ℕ). IsWritten (e err) (e err_now) line) broken.told it.whole, it.untouched);
        damaged = λ eleven.
            let it = said-as (all.own (inr (omega (arith, eleven)))) (λ zero. omega (arith, zero, eleven)) (λ nine. omega (arith, nine, eleven)) in
            (it.chosen.items, (reasons (s source) (s source_now) (d disk) (d disk_now) it.chosen.items status it.ends).2 eleven, it.whole, it.untouched);
        crash = crash;
        failures = record { read = λ five. let shown = all.read five in grind arith; write = all.write; memory = all.memory };
        complete = complete-read (EndsResume d (s source) (s source_now) disk disk_now) k e out out_now err err_now status (s source) (s source_now)
            (λ long came. IsStatusIf (d disk) (d disk_now) long came status) by_input (λ left five. five) (λ read. read.0) (λ long. long.0) all (s source).left refl;
      }

-- # going on with a log that was loaded

-- ## the lines

pub more-lines : (before : List Event) (came : List ℕ) (more : List Event) → more_of before came ≡ Ok more → AllByRecursion HasEventLine more
more-lines before came more read = lines_read-all HasEventLine event_said (most_lines - length before) 1 (lines_of came) more (λ line e is. (event_in-spelled line e is).0) read

-- the log's events and these are no more than a script may have
pub more-few : (before : List Event) (came : List ℕ) (more : List Event) → length before ≤ 262144 → more_of before came ≡ Ok more → length before + length more ≤ 262144
more-few before came more few read = omega (arith, lines_read-few event_said (most_lines - length before) 1 (lines_of came) more (omega arith) read)

-- all events can be played
pub more-playable : (script : Script) (came : List ℕ) (more : List Event) → IsPlayable script → more_of script.events came ≡ Ok more → IsPlayable (record { config = script.config; events = script.events ++ more })
more-playable script came more playable read = record {
  sound = playable.sound;
  few = omega (arith, length-append script.events more, more-few script.events came more playable.few read);
  lines = lines-append script.events more playable.lines (more-lines script.events came more read);
}

-- ## what a crash leaves

-- the log was loaded, and then events were appended
pub appended-leaves : (a b c : DiskFacts) (place : Place) (script : Script) (came : List ℕ) (more : List Event) → LeavesOnly a b a.may_leave → b.now ≡ a.now → IsReady b place script →
    more_of script.events came ≡ Ok more → IfSome b.now (λ _. LeavesOnly b c (IsPartOfLog script.config script.events more)) → IfSome a.now (λ file. LeavesOnly a c (IsGoingOn a.may_leave file came))
appended-leaves a b c place script came more first same ready read then =
    subst (λ (o : Option (List ℕ)). IfSome o (λ file. LeavesOnly a c (IsGoingOn a.may_leave file came))) same (each b.now ready.says then)
  where
    each : (o : Option (List ℕ)) → IfSome o (IsReadLogOf script.config script.events) → IfSome o (λ _. LeavesOnly b c (IsPartOfLog script.config script.events more)) →
        IfSome o (λ file. LeavesOnly a c (IsGoingOn a.may_leave file came))
    each None was run = tt
    each (Some file) was run =
        LeavesOnly-then a b c a.may_leave (IsPartOfLog script.config script.events more) (IsGoingOn a.may_leave file came) first run (λ image old. inl old)
        (λ image part. inr (script.config, script.events, more, was, read, part))
