-- what each status of a run, an audit and a drill shows
use Rattle.np_top.proofs.Prelude.{Audits, Bool, Configuration, Drills, Ending, EndsAudit, EndsDrill, EndsRun, EndsSo, Err, Fate, HasOwn, IsAuditStatusIf, IsDrill, IsInput, IsNoSite, IsOwn, IsRun, IsStatusBy, IsStatusIf, IsTold, IsWritten, List, Ok, Printed, Result, RunsSite, ShowsOwn, SinkFacts, SiteCommand, SourceFacts, arith, complete-read, complete-shown, drill_site, false, fates_of_run, full_line, hosted_run, if◌then◌else◌, inl, inr, printed-of, refl, said-of, site_run, some_waits, status_of_fates, subst, sym, tells, true, ℕ, ◌≡◌, ◌≤◌, ◌⊎◌}

-- # what each status of a run shows, for each command that plays a site

status-few : (ends : List Fate) → status_of_fates ends ≤ 1
status-few ends = grind arith

-- a fault is one of the configuration, or of what comes after it
abbrev HasFaults : SiteCommand → Type 0
HasFaults r = (fault : r.Fault) → (r.status_of fault ≡ 3) ⊎ (r.status_of fault ≡ 4)

pub faults-run : (plans : Bool) → HasFaults (site_run plans)
faults-run plans fault = inl refl

pub faults-hosted : HasFaults hosted_run
faults-hosted fault = grind arith

module _ (r : SiteCommand) (faults : HasFaults r) where
  few-fault : (status : ℕ) (fault : r.Fault) → status ≡ r.status_of fault → (3 ≤ status) × (status ≤ 4)
  few-fault status fault is = grind (arith, faults fault)

  -- 0, 1, 3 and 4 are statuses of its own
  own : (source source_now : SourceFacts) → HasOwn (EndsRun r source source_now)
  own source source_now = record {
    command = λ ends. ends;
    prints = λ text n ends. inl (omega (arith, status-few (fates_of_run r ends.0), ends.1));
    says = λ line n ends. inl (omega (arith, few-fault n ends.fault ends.ends));
  }

  -- the status that belongs to an input is known by whether it is too long
  abbrev IsOneIf : ℕ → Bool → List ℕ → Type 0
  IsOneIf status long came = IsStatusIf r long came status

  module _ {S K E : Type 0} (s : S → SourceFacts) (k : K → SinkFacts) (e : E → SinkFacts) (source source_now : S) (out out_now : K) (err err_now : E) (status : ℕ) where
    abbrev Own : Type 0
    Own = ShowsOwn (EndsRun r (s source) (s source_now)) k e out out_now err err_now status

    abbrev Run : List ℕ → Bool → Type 0
    Run text full = IsRun r (s source) (s source_now) text full

    -- a text that was played to its end
    run-of : Own → status ≤ 1 → Printed (EndsRun r (s source) (s source_now)) k e out out_now err err_now status
    run-of own low = printed-of (EndsRun r (s source) (s source_now)) k e out out_now err err_now status own (λ nine. omega (arith, nine, low)) (λ line none. omega (arith, few-fault status none.fault none.ends, low))

    waits-of : (ends : List Fate) (b : Bool) → status ≡ status_of_fates ends → status ≡ (if b then 1 else 0) → some_waits ends ≡ b
    waits-of ends b is low = grind arith

    full-of : Own → status ≡ 9 → (text : List ℕ) × Run text true × IsWritten (k out) (k out_now) text × IsWritten (e err) (e err_now) full_line
    full-of (inl printed) nine = absurd (omega (arith, status-few (fates_of_run r printed.ends.0), printed.ends.1, nine))
    full-of (inr (inl filled)) nine = (filled.text.items, filled.ends, filled.whole, filled.line)
    full-of (inr (inr said)) nine = absurd (omega (arith, few-fault status said.ends.fault said.ends.ends, nine))

    fault-of : (IsOwn status → Own) → (3 ≤ status) × (status ≤ 4) → (line : List ℕ) × IsNoSite r (s source) (s source_now) line status × IsWritten (e err) (e err_now) line × (out_now ≡ out)
    fault-of own few =
        let it = said-of (EndsRun r (s source) (s source_now)) k e out out_now err err_now status (own (inl (omega (arith, few)))) (λ text ends. omega (arith, status-few (fates_of_run r ends.0), ends.1, few)) (λ nine. omega (arith, nine, few)) in
        (it.chosen.items, it.ends, it.whole, it.untouched)

    -- what was read is known
    status-by : (came : List ℕ) (read : Result r.Site r.Fault) → r.reads came ≡ read → IsStatusBy r read status → IsOneIf status false came
    status-by came read is = subst (λ (x : Result r.Site r.Fault). IsStatusBy r x status) (sym is)

    by_input : Own → (came : List ℕ) × IsInput (s source) (s source_now) came × IsOneIf status false came
    by_input (inl printed) =
        let run = printed.ends.0 in let ends = fates_of_run r run in
        (run.came, run.input, status-by run.came (Ok run.site) run.read (grind (arith, printed.ends.1)))
    by_input (inr (inl filled)) =
        let run = filled.ends in (run.came, run.input, status-by run.came (Ok run.site) run.read (inr (inr filled.nine)))
    by_input (inr (inr said)) =
        let none = said.ends in (none.came, none.input, status-by none.came (Err none.fault) none.read none.ends)

    -- an ending that the streams show is a run
    pub runs_site : (end : Ending) → EndsRun r (s source) (s source_now) end → IsTold k e out out_now err err_now end status → RunsSite r s k e source source_now out out_now err err_now status
    runs_site end ends told =
        let all = tells (EndsRun r (s source) (s source_now)) k e out out_now err err_now status (own (s source) (s source_now)) end ends told in
        record {
          ending = end;
          ends = ends;
          told = told;
          done = λ zero.
              let it = run-of (all.own (inl (omega (arith, zero)))) (omega (arith, zero)) in
              (it.text.items, it.ends.0, waits-of (fates_of_run r it.ends.0) false it.ends.1 zero, it.whole, it.quiet);
          waiting = λ one.
              let it = run-of (all.own (inl (omega (arith, one)))) (omega (arith, one)) in
              (it.text.items, it.ends.0, waits-of (fates_of_run r it.ends.0) true it.ends.1 one, it.whole, it.quiet);
          full = λ nine. full-of (all.own (inr (omega (arith, nine)))) nine;
          fault = λ four. fault-of all.own (grind arith);
          failures = record { read = all.read; write = all.write; memory = all.memory };
          complete = complete-read (EndsRun r (s source) (s source_now)) k e out out_now err err_now status (s source) (s source_now) (IsOneIf status)
              by_input (λ left five. five) (λ rose. rose) (λ long. long) all (s source).left refl;
        }

-- # what each status of an audit shows

-- 0 and 8 are statuses of its own
audit-own : (source source_now : SourceFacts) → HasOwn (EndsAudit source source_now)
audit-own source source_now = record {
  command = λ ends. ends;
  prints = λ text n ends. inl (omega (arith, ends.0));
  says = λ line n ends. inr (omega (arith, ends.0));
}

-- the status that belongs to an input is known by whether it is too long
abbrev IsAuditedStatusIf : ℕ → Bool → List ℕ → Type 0
IsAuditedStatusIf status long came = IsAuditStatusIf long came status

module _ {S K E : Type 0} (s : S → SourceFacts) (k : K → SinkFacts) (e : E → SinkFacts) (source source_now : S) (out out_now : K) (err err_now : E) (status : ℕ) where
  abbrev AuditOwn : Type 0
  AuditOwn = ShowsOwn (EndsAudit (s source) (s source_now)) k e out out_now err err_now status

  audit-by_input : AuditOwn → (came : List ℕ) × IsInput (s source) (s source_now) came × IsAuditedStatusIf status false came
  audit-by_input (inl printed) = (printed.ends.2.came, printed.ends.2.input, inl (printed.ends.0, printed.ends.2.text))
  audit-by_input (inr (inl filled)) = absurd filled.ends
  audit-by_input (inr (inr said)) = (said.ends.1.came, said.ends.1.input, inr (said.ends.0, (said.ends.1.number, said.ends.1.none)))

  -- an ending that the streams show is an audit
  pub audits : (end : Ending) → EndsAudit (s source) (s source_now) end → IsTold k e out out_now err err_now end status → Audits s k e source source_now out out_now err err_now status
  audits end ends told =
      let all = tells (EndsAudit (s source) (s source_now)) k e out out_now err err_now status (audit-own (s source) (s source_now)) end ends told in
      record {
        ending = end;
        ends = ends;
        told = told;
        yes = λ zero.
            let it = printed-of (EndsAudit (s source) (s source_now)) k e out out_now err err_now status (all.own (inl (omega (arith, zero)))) (λ nine. omega (arith, nine, zero)) (λ line ends. omega (arith, ends.0, zero)) in
            (it.ends.2, subst (IsWritten (k out) (k out_now)) it.ends.1 it.whole, it.quiet);
        no = λ eight.
            let it = said-of (EndsAudit (s source) (s source_now)) k e out out_now err err_now status (all.own (inr (omega (arith, eight)))) (λ text ends. omega (arith, ends.0, eight)) (λ nine. omega (arith, nine, eight)) in
            (it.chosen.items, it.ends.1, it.whole, it.untouched);
        failures = record { read = all.read; write = all.write; memory = all.memory };
        complete = complete-read (EndsAudit (s source) (s source_now)) k e out out_now err err_now status (s source) (s source_now) (IsAuditedStatusIf status)
            audit-by_input (λ left five. five) (λ rose. rose) (λ long. long) all (s source).left refl;
      }

-- # what each status of a drill shows

-- 0 is a status of its own
drill-own : (c : Configuration) → HasOwn (EndsDrill c)
drill-own c = record {
  command = λ ends. ends;
  prints = λ text n ends. inl (omega (arith, ends.0));
  says = λ line n ends. absurd ends;
}

-- a drill reads nothing, so that no read fails
no-read : (A B : Type 0) (status : ℕ) (failed : Type 0) → EndsSo (A ⊎ B) status ⊥ failed → A ⊎ B ⊎ (status ≡ 7) ⊎ ((status ≡ 6) × failed)
no-read A B status failed so = grind arith

module _ {K E : Type 0} (k : K → SinkFacts) (e : E → SinkFacts) (jobs : ℕ) (out out_now : K) (err err_now : E) (status : ℕ) where
  abbrev DrillOwn : Type 0
  DrillOwn = ShowsOwn (EndsDrill (drill_site jobs)) k e out out_now err err_now status

  drill-full-of : DrillOwn → status ≡ 9 → (text : List ℕ) × IsDrill (drill_site jobs) text true × IsWritten (k out) (k out_now) text × IsWritten (e err) (e err_now) full_line
  drill-full-of (inr (inl filled)) nine = (filled.text.items, filled.ends, filled.whole, filled.line)
  drill-full-of (inr (inr said)) nine = absurd said.ends
  drill-full-of (inl printed) nine = absurd (let zero = printed.ends.0 in cc)

  few : DrillOwn → (status ≡ 0) ⊎ (status ≡ 9)
  few own = grind arith

  -- an ending that the streams show is a drill
  pub drills : (end : Ending) → EndsDrill (drill_site jobs) end → IsTold k e out out_now err err_now end status → Drills k e jobs out out_now err err_now status
  drills end ends told =
      let all = tells (EndsDrill (drill_site jobs)) k e out out_now err err_now status (drill-own (drill_site jobs)) end ends told in
      record {
        ending = end;
        ends = ends;
        told = told;
        done = λ zero.
            let it = printed-of (EndsDrill (drill_site jobs)) k e out out_now err err_now status (all.own (inl (omega (arith, zero)))) (λ nine. omega (arith, nine, zero)) (λ line ends. ends) in
            (it.text.items, it.ends.1, it.whole, it.quiet);
        full = λ nine. drill-full-of (all.own (inr (omega (arith, nine)))) nine;
        write = all.write;
        memory = all.memory;
        complete = no-read (status ≡ 0) (status ≡ 9) status _
            (complete-shown (EndsDrill (drill_site jobs)) k e out out_now err err_now status ((status ≡ 0) ⊎ (status ≡ 9)) ⊥ few (λ never. never) (λ never five. absurd never) all.shows);
      }
