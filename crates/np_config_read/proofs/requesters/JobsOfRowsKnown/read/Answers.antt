use Rattle.np_config_read.proofs.Prelude.{ConfigFault, ConfigRead, Data, Demand, Fails, Job, JobsOf, Label, List, Ok, Result, Sem, Tenant, ap, binds, demand_at, err_from_is_err_and, fault_of, job_at, job_keys, job_row, named_at, ok, pointer_to, refl, sym, view, ℕ, [], ◌++◌, ◌>>=◌, ◌∙◌, ◌∷◌, ◌≡◌}
use Rattle.np_config_read.proofs.requesters.JobsOfRowsKnown.read.Goals as goal

module _ (labels : List Label) (semaphores : List Sem) (tenants : List Tenant) (at : List ℕ) (s : JobsOf) (d : Data) where
  abbrev named : Result (List ℕ) ConfigFault
  named = named_at (λ (j : Job). j.name) job_keys at s.jobs d

  abbrev joined : List Job → JobsOf
  joined js = record s { jobs = js }

  abbrev put : Job → Result JobsOf ConfigFault
  put j = ok (joined (s.jobs ++ j ∷ []))

  abbrev row : List ℕ → Demand → Result JobsOf ConfigFault
  row name x = job_row semaphores tenants at s.requester name x d >>= put

  at_name : (e : ConfigRead) → Fails e (fault_of named) → Fails e (fault_of (job_at labels semaphores tenants at s d))
  unfolding job_at
  at_name e fails = binds e named (λ name. demand_at labels at d >>= row name) fails

  module _ (name : List ℕ) (is : named ≡ Ok name) where
    at_demand : (e : ConfigRead) → Fails e (fault_of (demand_at labels at d)) → Fails e (fault_of (job_at labels semaphores tenants at s d))
    unfolding job_at
    at_demand e fails = rw is (binds e (demand_at labels at d) (row name) fails)

    at_row : (x : Demand) → demand_at labels at d ≡ Ok x → (e : ConfigRead) → Fails e (fault_of (job_row semaphores tenants at s.requester name x d)) → Fails e (fault_of (job_at labels semaphores tenants at s d))
    unfolding job_at
    at_row x demand e fails = rw (is, demand) (binds e (job_row semaphores tenants at s.requester name x d) put fails)

    at_end : (x : Demand) → demand_at labels at d ≡ Ok x → (j : Job) → job_row semaphores tenants at s.requester name x d ≡ Ok j → job_at labels semaphores tenants at s d ≡ put j
    unfolding job_at
    at_end x demand j made = rw (is, demand, made) refl

pub returns-in_err-at-clause-read : goal.returns-in_err-at-clause-read
returns-in_err-at-clause-read c =
    let p = err_from_is_err_and c.from_residual.result c.from_residual.ensures.1 in
    let k = c.args.known.now in
    rw (p.1, p.2) (at_name k.labels.table k.semaphores k.tenants (pointer_to c.args.place) c.args.self.now (view c.args.value.now) _ c.in_err-at.ensures.gives)

pub returns-in_err-demand-clause-read : goal.returns-in_err-demand-clause-read
returns-in_err-demand-clause-read c =
    let p = err_from_is_err_and c.from_residual-in_err-demand.result c.from_residual-in_err-demand.ensures.1 in
    let here : c.as_slice-at.result.now ≡ pointer_to c.args.place = c.as_slice-at.ensures.value ∙ c.in_ok-at.ensures.at in
    let k = c.args.known.now in
    let fails = rw here at c.in_err-demand.ensures in
    rw (p.1, p.2) (at_demand k.labels.table k.semaphores k.tenants (pointer_to c.args.place) c.args.self.now (view c.args.value.now) _ c.in_ok-at.ensures.gives _ fails)

pub returns-in_err-job-clause-read : goal.returns-in_err-job-clause-read
returns-in_err-job-clause-read c =
    let p = err_from_is_err_and c.from_residual-in_err-job.result c.from_residual-in_err-job.ensures.1 in
    let here : c.as_slice-at.result.now ≡ pointer_to c.args.place = c.as_slice-at.ensures.value ∙ c.in_ok-at.ensures.at in
    let k = c.args.known.now in
    let demand = rw here at c.in_ok-demand.ensures in
    let fails = rw here at c.in_err-job.ensures.gives in
    rw (p.1, p.2) (at_row k.labels.table k.semaphores k.tenants (pointer_to c.args.place) c.args.self.now (view c.args.value.now) _ c.in_ok-at.ensures.gives _ demand _ fails)

pub returns-clause-read : goal.returns-clause-read
returns-clause-read c =
    let here : c.as_slice-at.result.now ≡ pointer_to c.args.place = c.as_slice-at.ensures.value ∙ c.in_ok-at.ensures.at in
    let k = c.args.known.now in
    let demand = rw here at c.in_ok-demand.ensures in
    let made = rw here at c.in_ok-job.ensures.gives in
    at_end k.labels.table k.semaphores k.tenants (pointer_to c.args.place) c.args.self.now (view c.args.value.now) _ c.in_ok-at.ensures.gives _ demand _ made
    ∙ ap (λ (js : List Job). ok (joined k.labels.table k.semaphores k.tenants (pointer_to c.args.place) c.args.self.now (view c.args.value.now) js)) (sym c.in_ok-push.ensures.ok)
