-- what the commands do that play a site, with `run` and `run planned` among them
use Rattle.std.specs.Prelude.{◌≡◌, ◌⊎◌, ℕ, Bool, true, false, List, IfSome, Result, Ok, Err, length, nat_lt, [], ◌∷◌, ◌++◌, slice_get, sum, IsTrue, Option, Some, None}
use Rattle.np_top.specs.Play.{IsPlayedTo, EndsPlay, some_waits, status_of_fates}
use Rattle.np_top.specs.Lower.{AreAloneSound, ConfigFault, Configuration, Driven, DrivenBy, Ending, EndsSo, Entry, Event, FailAfter, Fate, Hosted, HostedFault, Hosting, IsInput, IsTold, IsWritten, Outcome, PlannedDriven, PoolId, Rose, Says, ShowsFailures, SinkFacts, Site, SourceFacts, Stops, after, config_line, fates, full_line, hosted, hosted_line, hosted_of, hosted_status, is_sound, most, outcome_of, reads, reports_of, servers_up, simulated}

-- ## the commands

-- a command that plays a site: what an input says to it, and what holds of the journals that it makes (own)
pub record SiteCommand : Type 1 where
  -- the site that an input says, or its first fault
  pub Site : Type 0
  pub Fault : Type 0
  pub reads : List ℕ → Result Site Fault
  pub configuration : Site → Configuration
  -- whether launchers may commit what was useful before
  pub plans : Bool
  -- how the journal of a run was driven
  pub IsDriven : Site → List Entry → Type 0
  -- the line of a fault, and its status
  pub line_of : Fault → List ℕ
  pub status_of : Fault → ℕ

-- its parties and the simulated clouds drove the journal; with plans, launchers may have committed what was useful before (own)
abbrev pub driven_as : Bool → Configuration → List Entry → Type 0
driven_as false = Driven
driven_as true = PlannedDriven

-- the input is a configuration, at whose board launchers plan or don't (own)
abbrev pub site_run : Bool → SiteCommand
site_run plans = record {
  Site = Configuration;
  Fault = ConfigFault;
  reads = reads;
  configuration = λ c. c;
  plans = plans;
  IsDriven = driven_as plans;
  line_of = config_line;
  status_of = λ fault. 3;
}

-- `run`
abbrev pub plain_run : SiteCommand
plain_run = site_run false

-- `run planned`
abbrev pub planned_run : SiteCommand
planned_run = site_run true

module _ (r : SiteCommand) where
  -- ## how a run may end

  -- the input is a site, and the text is that of a journal over it, which was driven so and played to its end, or until it was full
  pub record IsRun (source source_now : SourceFacts) (text : List ℕ) (full : Bool) : Type 0 where
    pub came : List ℕ
    pub site : r.Site
    pub journal : List Entry
    pub input : IsInput source source_now came
    pub read : r.reads came ≡ Ok site
    pub driven : r.IsDriven site journal
    pub played : IsPlayedTo r.plans (r.configuration site) journal text full

  -- what became of its jobs
  abbrev pub fates_of_run : {source source_now : SourceFacts} {text : List ℕ} {full : Bool} → IsRun source source_now text full → List Fate
  fates_of_run run = fates (after (r.configuration run.site) run.journal)

  -- the input is no site, and the line and the status are those of its first fault
  pub record IsNoSite (source source_now : SourceFacts) (line : List ℕ) (status : ℕ) : Type 0 where
    pub came : List ℕ
    pub fault : r.Fault
    pub input : IsInput source source_now came
    pub read : r.reads came ≡ Err fault
    pub told : line ≡ r.line_of fault
    pub ends : status ≡ r.status_of fault

  -- how a run may end, by what came from the source
  abbrev pub EndsRun : SourceFacts → SourceFacts → Ending → Type 0
  EndsRun source source_now (Ending.Prints text status) =
      (run : IsRun source source_now text.items false) × (status ≡ status_of_fates (fates_of_run run))
  EndsRun source source_now (Ending.Full text) = IsRun source source_now text.items true
  EndsRun source source_now (Ending.Says line status) = IsNoSite source source_now line.items status
  EndsRun source source_now Ending.NoCommand = ⊥
  EndsRun source source_now Ending.ReadFault = Stops source source_now Ending.ReadFault
  EndsRun source source_now Ending.TooLong = Stops source source_now Ending.TooLong
  EndsRun source source_now Ending.NoMemory = Unit {0}

  -- the source was read to its end, and its bytes are this site, or have this fault
  pub record HasCome (source source_now : SourceFacts) (read : Result r.Site r.Fault) : Type 0 where
    pub came : List ℕ
    pub input : IsInput source source_now came
    pub reads : r.reads came ≡ read

  -- how playing a site may end
  abbrev pub EndsSite : r.Site → Ending → Type 0
  EndsSite site ended = (journal : List Entry) × r.IsDriven site journal × EndsPlay r.plans (r.configuration site) journal ended

  -- ## the statuses that belong to an input

  -- that of its fault, otherwise one of a run
  abbrev pub IsStatusBy : Result r.Site r.Fault → ℕ → Type 0
  IsStatusBy (Ok site) status = (status ≡ 0) ⊎ (status ≡ 1) ⊎ (status ≡ 9)
  IsStatusBy (Err fault) status = status ≡ r.status_of fault

  -- 5 if it is too long, otherwise by what it says
  abbrev pub IsStatusIf : Bool → List ℕ → ℕ → Type 0
  IsStatusIf true came status = status ≡ 5
  IsStatusIf false came status = IsStatusBy (r.reads came) status

  abbrev pub IsStatusOf : List ℕ → ℕ → Type 0
  IsStatusOf came status = IsStatusIf (nat_lt most (length came)) came status

  -- ## what the streams and the status show

  pub record RunsSite {S K E : Type 0} (s : S → SourceFacts) (k : K → SinkFacts) (e : E → SinkFacts) (source source_now : S) (out out_now : K) (err err_now : E) (status : ℕ) : Type 0 where
    -- the run ended so, and out, err and the status show it
    pub ending : Ending
    pub ends : EndsRun (s source) (s source_now) ending
    pub told : IsTold k e out out_now err err_now ending status
    -- status 0: the Text of a journal that was driven to its end is on out, no job's fate in it is waiting, and nothing is on err
    pub done : status ≡ 0 → (text : List ℕ) × (run : IsRun (s source) (s source_now) text false)
        × (some_waits (fates_of_run run) ≡ false) × IsWritten (k out) (k out_now) text × (err_now ≡ err)
    -- status 1: the same, but some job's fate is waiting
    pub waiting : status ≡ 1 → (text : List ℕ) × (run : IsRun (s source) (s source_now) text false)
        × (some_waits (fates_of_run run) ≡ true) × IsWritten (k out) (k out_now) text × (err_now ≡ err)
    -- status 9: a turn found the journal full, which is as long as it may be; its Text is on out, and err says so
    pub full : status ≡ 9 → (text : List ℕ) × IsRun (s source) (s source_now) text true
        × IsWritten (k out) (k out_now) text × IsWritten (e err) (e err_now) full_line
    -- status 3 or 4: the line of the input's first fault is on err, and nothing on out
    pub fault : (status ≡ 3) ⊎ (status ≡ 4) → (line : List ℕ) × IsNoSite (s source) (s source_now) line status
        × IsWritten (e err) (e err_now) line × (out_now ≡ out)
    -- `read`, `write` and `memory`: statuses 5, 6 and 7
    pub failures : ShowsFailures s k e source source_now out out_now err err_now status
    -- the status is the input's, unless a stream failed or memory ran out
    pub complete : IfSome (s source).left (λ left. EndsSo (IsStatusOf left status) status
        (Rose (s source).faults (s source_now).faults)
        (Rose (k out).faults (k out_now).faults ⊎ Rose (e err).faults (e err_now).faults))

-- what the command `run hosts` does: it plays a site of which some pools are served by hosts

-- the outcome of a start is the planned one where the pool has a simulated cloud; of hosts nothing is said
abbrev pub IsPlannedAt : Configuration → Option Site → PoolId → ℕ → Outcome → Type 0
IsPlannedAt c None pool start o = ⊥
IsPlannedAt c (Some (simulated cloud)) pool start o = outcome_of c pool start ≡ o
IsPlannedAt c (Some (hosted hosts)) pool start o = Unit {0}

-- each launch of a pool without host lines was answered as it is planned (own)
abbrev pub planned_without_hosts : Hosted → Says
planned_without_hosts h pool n attempt start o = IsPlannedAt h.configuration (slice_get h.sites pool.0) pool start o

-- what these hosts of a pool carried, each at once no more than its number (own)
pub record AreHosted (c : Configuration) (journal : List Entry) (p : PoolId) (hosts : List ℕ) : Type 0 where
  -- after each tick no host has more servers of the pool's nodes that are up than it carries, and each of these servers has a host
  pub carried : (before rest : List Entry) (e : Entry) → journal ≡ before ++ e ∷ rest → e.event ≡ Event.Tick
      → IsTrue (is_sound hosts (servers_up p (after c (before ++ e ∷ [])).nodes))
  -- each server that is reported has a host of this pool
  pub reported : AreAloneSound (is_sound hosts) (reports_of c p journal)
  -- a launch is reported as failed only after reports of as many servers as the hosts carry together
  pub failed : FailAfter (sum hosts) 0 (reports_of c p journal)

-- what holds of the journal of a site with hosts (own)
pub record IsDrivenWithHosts (h : Hosted) (journal : List Entry) : Type 0 where
  -- its parties, its hosts, and the simulated clouds of the other pools drove it
  pub driven : DrivenBy (planned_without_hosts h) h.configuration journal
  -- the hosts of each pool that has some carried it
  pub hosted : (p : PoolId) (hosts : Hosting) → slice_get h.sites p.0 ≡ Some (hosted hosts) → AreHosted h.configuration journal p hosts.hosts

-- `run hosts`: the input is a configuration with host lines (own)
abbrev pub hosted_run : SiteCommand
hosted_run = record {
  Site = Hosted;
  Fault = HostedFault;
  reads = hosted_of;
  configuration = λ h. h.configuration;
  plans = false;
  IsDriven = IsDrivenWithHosts;
  line_of = hosted_line;
  status_of = hosted_status;
}
