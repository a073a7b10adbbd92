-- what out, err and the status show of how a command ended, and of a replay and a keep
use Rattle.np_replay.proofs.Prelude.{Bool, DiskFacts, Ending, EndsKeep, EndsKeeping, EndsReplay, EndsSo, HasCome, HasScript, IfSome, IfSome_then, IsBegun, IsBegunBy, IsBroken, IsCutShort, IsFaulty, IsInput, IsNotKept, IsOccupied, IsSaid, IsStatusBy, IsStatusIf, IsTold, IsWritten, Keeps, KeepsWhole, LeavesOnly, LeavesOnly-weaker, List, None, Ok, Option, Replays, Result, Rose, Script, ScriptFault, SinkFacts, Some, SourceFacts, Vec, ap, arith, false, full_line, if◌then◌else◌, inl, inr, length, long_line, memory_line, most, nat_lt, nat_tests, read_line, refl, script_of, script_status, status_by, subst, sym, true, write_line, ℕ, ◌<◌, ◌∙◌, ◌≡◌, ◌≢◌, ◌≤◌, ◌⊎◌}

-- # What out, err and the status show of how a command ended, for every command: the way in which it may end is a parameter, of which `HasOwn` says which statuses are the command's own. Begin with `Tells`; `tells` goes from the ending and what was written of it to that.

-- the status is none that a failure has
abbrev pub IsOwn : ℕ → Type 0
IsOwn n = (n < 5) ⊎ (7 < n)

no-failure : (status : ℕ) → IsOwn status → 5 ≤ status → status ≤ 7 → ⊥
no-failure status own least most = grind arith

-- in each way in which a command may end, its words were a command, and a text or a line that it
-- chose has a status that no failure has
pub record HasOwn (Ends : Ending → Type 0) : Type 0 where
  pub command : Ends Ending.NoCommand → ⊥
  pub prints : (text : Vec ℕ) (status : ℕ) → Ends (Ending.Prints text status) → IsOwn status
  pub says : (line : Vec ℕ) (status : ℕ) → Ends (Ending.Says line status) → IsOwn status

module _ {K E : Type 0} (Ends : Ending → Type 0) (k : K → SinkFacts) (e : E → SinkFacts) (out out_now : K) (err err_now : E) (status : ℕ) where
  -- ## what is shown

  -- a text is on out, and nothing on err
  pub record Printed : Type 0 where
    pub text : Vec ℕ
    pub ends : Ends (Ending.Prints text status)
    pub whole : IsWritten (k out) (k out_now) text.items
    pub quiet : err_now ≡ err

  -- a text is on out, and err says that the journal was full
  pub record Filled : Type 0 where
    pub text : Vec ℕ
    pub ends : Ends (Ending.Full text)
    pub nine : status ≡ 9
    pub whole : IsWritten (k out) (k out_now) text.items
    pub line : IsWritten (e err) (e err_now) full_line

  -- a line that the command chose is on err, and nothing on out
  pub record Said : Type 0 where
    pub chosen : Vec ℕ
    pub ends : Ends (Ending.Says chosen status)
    pub whole : IsWritten (e err) (e err_now) chosen.items
    pub untouched : out_now ≡ out

  -- the command has a status of its own
  abbrev pub ShowsOwn : Type 0
  ShowsOwn = Printed ⊎ Filled ⊎ Said

  -- a line that every command shares is on err, and nothing on out
  abbrev Refuses : List ℕ → ℕ → Type 0
  Refuses line wanted = (status ≡ wanted) × (out_now ≡ out) × IsWritten (e err) (e err_now) line

  abbrev SinkFailed : Type 0
  SinkFailed = Rose (k out).faults (k out_now).faults ⊎ Rose (e err).faults (e err_now).faults

  -- a status of its own, a failed read, too many bytes, no memory, or a failed sink
  abbrev pub Shows : Type 0
  Shows = ShowsOwn ⊎ (Ends Ending.ReadFault × Refuses read_line 5) ⊎ (Ends Ending.TooLong × Refuses long_line 5) ⊎ Refuses memory_line 7 ⊎ ((status ≡ 6) × SinkFailed)

  -- ## an ending and what is shown of it

  said : (line : List ℕ) (wanted : ℕ) → IsSaid (e err) (e err_now) line wanted status → (status ≡ wanted → IsWritten (e err) (e err_now) line → Shows) → Shows
  said line wanted told shows = grind arith

  cut_out : (text : List ℕ) → IsCutShort (k out) (k out_now) text → IsSaid (e err) (e err_now) write_line 6 status → Shows
  cut_out text cut told = let six : status ≡ 6 = grind arith in inr (inr (inr (inr (six, inl cut.failed))))

  shown : HasOwn Ends → (end : Ending) → Ends end → IsTold k e out out_now err err_now end status → Shows
  shown own (Ending.Prints text wanted) ends (inl whole) =
      inl (inl (record { text = text; ends = subst (λ (n : ℕ). Ends (Ending.Prints text n)) (sym whole.0) ends; whole = whole.1; quiet = whole.2 }))
  shown own (Ending.Prints text wanted) ends (inr cut) = cut_out text.items cut.0 cut.1
  shown own (Ending.Full text) ends (inl whole) =
      said full_line 9 whole.1 (λ nine line. inl (inr (inl (record { text = text; ends = ends; nine = nine; whole = whole.0; line = line }))))
  shown own (Ending.Full text) ends (inr cut) = cut_out text.items cut.0 cut.1
  shown own (Ending.Says line wanted) ends told =
      said line.items wanted told.1
      (λ same whole. inl (inr (inr (record { chosen = line; ends = subst (λ (n : ℕ). Ends (Ending.Says line n)) (sym same) ends; whole = whole; untouched = told.0 }))))
  shown own Ending.NoCommand ends told = absurd (own.command ends)
  shown own Ending.ReadFault ends told = said read_line 5 told.1 (λ five whole. inr (inl (ends, (five, told.0, whole))))
  shown own Ending.TooLong ends told = said long_line 5 told.1 (λ five whole. inr (inr (inl (ends, (five, told.0, whole)))))
  shown own Ending.NoMemory ends told = said memory_line 7 told.1 (λ seven whole. inr (inr (inr (inl (seven, told.0, whole)))))

  own_status : HasOwn Ends → ShowsOwn → IsOwn status
  own_status own shows = grind (arith, own.prints, own.says)

  -- a command that ended with a text, or with a line
  pub printed-of : ShowsOwn → (status ≡ 9 → ⊥) → ((line : Vec ℕ) → Ends (Ending.Says line status) → ⊥) → Printed
  printed-of (inl printed) full says = printed
  printed-of (inr (inl filled)) full says = absurd (full filled.nine)
  printed-of (inr (inr said)) full says = absurd (says said.chosen said.ends)

  pub said-of : ShowsOwn → ((text : Vec ℕ) → Ends (Ending.Prints text status) → ⊥) → (status ≡ 9 → ⊥) → Said
  said-of (inl printed) prints full = absurd (prints printed.text printed.ends)
  said-of (inr (inl filled)) prints full = absurd (full filled.nine)
  said-of (inr (inr said)) prints full = said

  -- ## completeness

  -- the status is the one that belongs to what came, or that of a failure
  pub complete-shown : (right source_failed : Type 0) → (ShowsOwn → right) → (Ends Ending.ReadFault → source_failed) → (Ends Ending.TooLong → status ≡ 5 → right) → Shows →
      EndsSo right status source_failed SinkFailed
  complete-shown right source_failed own read long shows = grind arith

  -- ## together

  -- what each status shows: one of the command's own, 5, 6 and 7, and that there is no other
  pub record Tells : Type 0 where
    pub shows : Shows
    pub own : IsOwn status → ShowsOwn
    pub read : status ≡ 5 → (out_now ≡ out)
        × ((Ends Ending.ReadFault × IsWritten (e err) (e err_now) read_line) ⊎ (Ends Ending.TooLong × IsWritten (e err) (e err_now) long_line))
    pub write : status ≡ 6 → SinkFailed
    pub memory : status ≡ 7 → IsWritten (e err) (e err_now) memory_line × (out_now ≡ out)

  pub tells : HasOwn Ends → (end : Ending) → Ends end → IsTold k e out out_now err err_now end status → Tells
  tells own end ends told = let shows : Shows = shown own end ends told in record {
    shows = shows;
    own = λ is. grind arith;
    read = λ five. grind (arith, own_status own);
    write = λ six. grind (arith, own_status own);
    memory = λ seven. grind (arith, own_status own);
  }

  -- the same of a command that reads; whether the input is too long decides which status belongs to it
  pub complete-read : (source source_now : SourceFacts) (Right : Bool → List ℕ → Type 0) →
      (ShowsOwn → (came : List ℕ) × IsInput source source_now came × Right false came) → ((left : List ℕ) → status ≡ 5 → Right true left) →
      (Ends Ending.ReadFault → Rose source.faults source_now.faults) → (Ends Ending.TooLong → IfSome source.left (λ left. most < length left)) → Tells →
      (left : Option (List ℕ)) → source.left ≡ left →
      IfSome left (λ came. EndsSo (Right (nat_lt most (length came)) came) status (Rose source.faults source_now.faults) SinkFailed)
  complete-read source source_now Right own five read long all None is = tt
  complete-read source source_now Right own five read long all (Some left) is =
      complete-shown (Right (nat_lt most (length left)) left) (Rose source.faults source_now.faults) of_input read of_long all.shows where
        of_input : ShowsOwn → Right (nat_lt most (length left)) left
        of_input shows_own =
            let input = own shows_own in
            let same : input.0 ≡ left = subst (λ (o : Option (List ℕ)). IfSome o (λ l. input.0 ≡ l)) is input.1.all in
            let fits : length input.0 ≤ most = input.1.fits in
            let room : nat_lt most (length input.0) ≡ false = grind (arith, nat_tests) in
            subst (λ (l : List ℕ). Right (nat_lt most (length l)) l) same (subst (λ (b : Bool). Right b input.0) (sym room) input.2)

        of_long : Ends Ending.TooLong → status ≡ 5 → Right (nat_lt most (length left)) left
        of_long ends same =
            let more : most < length left = subst (λ (o : Option (List ℕ)). IfSome o (λ l. most < length l)) is (long ends) in
            let many : nat_lt most (length left) ≡ true = grind (arith, nat_tests) in
            subst (λ (b : Bool). Right b left) (sym many) (five left same)

-- # what each status of a replay shows

-- ## a fault's status

fault-status : (f : ScriptFault) → (script_status f ≡ 3) ⊎ (script_status f ≡ 4)
fault-status f = grind arith

pub few : (n : ℕ) → (n ≡ 3) ⊎ (n ≡ 4) → n < 5
few n is = grind arith

pub not-zero : (n : ℕ) → (n ≡ 3) ⊎ (n ≡ 4) → n ≡ 0 → ⊥
not-zero n is zero = grind arith

pub faulty-status : (source source_now : SourceFacts) (line : List ℕ) (status : ℕ) → IsFaulty source source_now line status → (status ≡ 3) ⊎ (status ≡ 4)
faulty-status source source_now line status faulty = subst (λ (n : ℕ). (n ≡ 3) ⊎ (n ≡ 4)) (sym faulty.ends) (fault-status faulty.fault)

-- 3 and 4 are statuses of its own, as is 0
replay-own : (source source_now : SourceFacts) → HasOwn (EndsReplay source source_now)
replay-own source source_now = record {
  command = λ ends. ends;
  prints = λ text n ends. inl (omega (arith, ends.0));
  says = λ line n ends. inl (few n (faulty-status source source_now line.items n ends));
}

-- 5 if the input is too long, otherwise by the script
abbrev IsReplayStatusIf : ℕ → Bool → List ℕ → Type 0
IsReplayStatusIf status long came = status ≡ (if long then 5 else status_by (script_of came))

module _ {S K E : Type 0} (s : S → SourceFacts) (k : K → SinkFacts) (e : E → SinkFacts) (source source_now : S) (out out_now : K) (err err_now : E) (status : ℕ) where
  abbrev ReplayOwn : Type 0
  ReplayOwn = ShowsOwn (EndsReplay (s source) (s source_now)) k e out out_now err err_now status

  replay-by_input : ReplayOwn → (came : List ℕ) × IsInput (s source) (s source_now) came × IsReplayStatusIf status false came
  replay-by_input (inl printed) = (printed.ends.1.came, printed.ends.1.input, printed.ends.0 ∙ sym (ap status_by printed.ends.1.read))
  replay-by_input (inr (inl filled)) = absurd filled.ends
  replay-by_input (inr (inr said)) = (said.ends.came, said.ends.input, said.ends.ends ∙ sym (ap status_by said.ends.read))

  -- an ending that the streams show is a replay
  pub replays : (end : Ending) → EndsReplay (s source) (s source_now) end → IsTold k e out out_now err err_now end status → Replays s k e source source_now out out_now err err_now status
  replays end ends told =
      let all = tells (EndsReplay (s source) (s source_now)) k e out out_now err err_now status (replay-own (s source) (s source_now)) end ends told in
      record {
        ending = end;
        ends = ends;
        told = told;
        done = λ zero.
            let it = printed-of (EndsReplay (s source) (s source_now)) k e out out_now err err_now status (all.own (inl (omega (arith, zero))))
            (λ nine. omega (arith, nine, zero)) (λ line faulty. not-zero status (faulty-status (s source) (s source_now) line.items status faulty) zero) in
            (it.text.items, it.ends.1, it.whole, it.quiet);
        fault = λ four.
            let it = said-of (EndsReplay (s source) (s source_now)) k e out out_now err err_now status (all.own (inl (few status four))) (λ text printed. not-zero status four printed.0) (λ nine. omega (arith, nine, few status four)) in
            (it.chosen.items, it.ends, it.whole, it.untouched);
        failures = record { read = all.read; write = all.write; memory = all.memory };
        complete = complete-read (EndsReplay (s source) (s source_now)) k e out out_now err err_now status (s source) (s source_now) (IsReplayStatusIf status)
            replay-by_input (λ left five. five) (λ rose. rose) (λ long. long) all (s source).left refl;
      }

-- # how a keep ends by how keeping its script does, and what each status of a keep shows

-- ## how a keep ends

module _ {D : Type 0} (d : D → DiskFacts) (source source_now : SourceFacts) (disk disk_now : D) where
  pub ends-script : (script : Script) (end : Ending) → HasCome source source_now (Ok script) → EndsKeeping (d disk) (d disk_now) script end → EndsKeep d source source_now disk disk_now end
  ends-script script (Ending.Prints text status) come ends = (
    ends.0,
    record {
      replayed = record { came = come.came; script = script; input = come.input; read = come.reads; printed = ends.1.printed };
      empty = ends.1.empty;
      holds = ends.1.holds;
    },
  )
  ends-script script (Ending.Says line status) come ends = inr (record { came = come.came; script = script; input = come.input; read = come.reads }, ends)
  ends-script script Ending.NoMemory come ends = tt
  ends-script script _ come ends = absurd ends

  begun : (script : Script) (came x : List ℕ) → script_of came ≡ Ok script → IsBegunBy (d disk).may_leave script x → IsBegun (d disk).may_leave came x
  begun script came x read (inr (inr part)) = inr (inr (script, read, part))
  begun script came x read (inl left) = inl left
  begun script came x read (inr (inl lacks)) = inr (inl lacks)

  pub whole-script : (script : Script) → HasCome source source_now (Ok script) → IfSome (d disk).now (λ _. LeavesOnly (d disk) (d disk_now) (IsBegunBy (d disk).may_leave script)) → KeepsWhole d source source_now disk disk_now
  whole-script script come run =
      inr (come.came, come.input, IfSome_then (d disk).now run (λ file some. LeavesOnly-weaker (d disk) (d disk_now) (IsBegunBy (d disk).may_leave script) (IsBegun (d disk).may_leave come.came) some (λ x is. begun script come.came x come.reads is)))

  -- ## its own statuses

  -- a line that a keep chose
  abbrev Chosen : List ℕ → ℕ → Type 0
  Chosen line status = (IsFaulty source source_now line status × (disk_now ≡ disk)) ⊎ (HasScript source source_now × IsNotKept (d disk) (d disk_now) line status)

  own-chosen : (line : List ℕ) (n : ℕ) → Chosen line n → IsOwn n
  own-chosen line n is = grind (arith, faulty-status source source_now line n)

  own : HasOwn (EndsKeep d source source_now disk disk_now)
  own = record {
    command = λ ends. ends;
    prints = λ text n ends. inl (omega (arith, ends.0));
    says = λ line n ends. own-chosen line.items n ends;
  }

  -- the status of a chosen line is 3 or 4, 10 or 11
  reasons : (line : List ℕ) (n : ℕ) → Chosen line n →
      (n < 5 → IsFaulty source source_now line n × (disk_now ≡ disk)) × (n ≡ 10 → HasScript source source_now × IsBroken (d disk) (d disk_now) line) × (n ≡ 11 → HasScript source source_now × IsOccupied (d disk) (d disk_now) line)
  reasons line n is = grind (arith, faulty-status source source_now line n)

  not-zero-chosen : (line : List ℕ) (n : ℕ) → Chosen line n → n ≡ 0 → ⊥
  not-zero-chosen line n is zero = grind (arith, faulty-status source source_now line n)

  status-chosen : (line : List ℕ) (n : ℕ) → Chosen line n → (came : List ℕ) × IsInput source source_now came × IsStatusIf (d disk) (d disk_now) false came n
  status-chosen line n (inl faulty) =
      (faulty.0.came, faulty.0.input, subst (λ (r : Result Script ScriptFault). IsStatusBy (d disk) (d disk_now) r n) (sym faulty.0.read) faulty.0.ends)
  status-chosen line n (inr (script, inl broken)) =
      (script.came, script.input, subst (λ (r : Result Script ScriptFault). IsStatusBy (d disk) (d disk_now) r n) (sym script.read) (inr (inr (broken.0, broken.1.rose))))
  status-chosen line n (inr (script, inr occupied)) =
      (script.came, script.input, subst (λ (r : Result Script ScriptFault). IsStatusBy (d disk) (d disk_now) r n) (sym script.read) (inr (inl (occupied.0, occupied.1.not_empty))))

-- ## status by status

module _ {S K E D : Type 0} (s : S → SourceFacts) (k : K → SinkFacts) (e : E → SinkFacts) (d : D → DiskFacts) (source source_now : S) (out out_now : K) (err err_now : E) (disk disk_now : D) (status : ℕ) where
  abbrev Ends : Ending → Type 0
  Ends end = EndsKeep d (s source) (s source_now) disk disk_now end

  abbrev Own : Type 0
  Own = ShowsOwn Ends k e out out_now err err_now status

  said-as : Own → status ≢ 0 → status ≢ 9 → Said Ends k e out out_now err err_now status
  said-as own some other = said-of Ends k e out out_now err err_now status own (λ text printed. some printed.0) other

  by_input : Own → (came : List ℕ) × IsInput (s source) (s source_now) came × IsStatusIf (d disk) (d disk_now) false came status
  by_input (inl printed) =
      let kept = printed.ends.1 in
      (kept.replayed.came, kept.replayed.input, subst (λ (r : Result Script ScriptFault). IsStatusBy (d disk) (d disk_now) r status) (sym kept.replayed.read) (inl (printed.ends.0, kept.empty)))
  by_input (inr (inl filled)) = absurd filled.ends
  by_input (inr (inr said)) = status-chosen d (s source) (s source_now) disk disk_now said.chosen.items status said.ends

  -- an ending that the streams show is a keep
  pub keeps : (end : Ending) → EndsKeep d (s source) (s source_now) disk disk_now end → KeepsWhole d (s source) (s source_now) disk disk_now → IsTold k e out out_now err err_now end status
      → Keeps s k e d source source_now out out_now err err_now disk disk_now status
  keeps end ends whole told =
      let all = tells Ends k e out out_now err err_now status (own d (s source) (s source_now) disk disk_now) end ends told in
      record {
        ending = end;
        ends = ends;
        told = told;
        done = λ zero.
            let it = printed-of Ends k e out out_now err err_now status (all.own (inl (omega (arith, zero))))
            (λ nine. omega (arith, nine, zero)) (λ line chosen. not-zero-chosen d (s source) (s source_now) disk disk_now line.items status chosen zero) in
            (it.text.items, it.ends.1, it.whole, it.quiet);
        fault = λ four.
            let it = said-as (all.own (inl (few status four))) (not-zero status four) (λ nine. omega (arith, nine, few status four)) in
            let faulty = (reasons d (s source) (s source_now) disk disk_now it.chosen.items status it.ends).0 (few status four) in
            (it.chosen.items, faulty.0, it.whole, it.untouched, faulty.1);
        broken = λ ten.
            let it = said-as (all.own (inr (omega (arith, ten)))) (λ zero. omega (arith, zero, ten)) (λ nine. omega (arith, nine, ten)) in
            let broken = (reasons d (s source) (s source_now) disk disk_now it.chosen.items status it.ends).1 ten in
            (broken.0, broken.1.rose, subst (λ (l : List ℕ). IsWritten (e err) (e err_now) l) broken.1.told it.whole, it.untouched);
        occupied = λ eleven.
            let it = said-as (all.own (inr (omega (arith, eleven)))) (λ zero. omega (arith, zero, eleven)) (λ nine. omega (arith, nine, eleven)) in
            let occupied = (reasons d (s source) (s source_now) disk disk_now it.chosen.items status it.ends).2 eleven in
            (occupied.0, occupied.1.not_empty, occupied.1.same, subst (λ (l : List ℕ). IsWritten (e err) (e err_now) l) occupied.1.told it.whole, it.untouched);
        crash = whole;
        failures = record { read = λ five. let shown = all.read five in grind arith; write = all.write; memory = all.memory };
        complete = complete-read Ends k e out out_now err err_now status (s source) (s source_now) (λ long came. IsStatusIf (d disk) (d disk_now) long came status)
            by_input (λ left five. five) (λ ends. ends.0) (λ ends. ends.0) all (s source).left refl;
      }
