-- Requests, by their parts.
use Rattle.np_spelling.proofs.Prelude.{BadRecord, Declined, Err, IfSome, IsAsked, IsDeclined, IsLabel, IsNodeId, IsRequest, IsServed, JobId, LabelId, List, NodeId, None, Ok, Option, PoolId, RequestRecord, RequestState, Some, SpellsRequest, StopsAt, [], answer, ap, append-nil, arith, codes, decimal, declined_in, declined_text, inl, inr, joined, label_in, label_text, length, list_in, list_text, node_id_in, node_id_text, numbered, other_state_in, reason_in, refl, request_job, request_job_in, request_pinned, request_pinned_in, request_pool, request_pool_in, request_record_in, request_record_text, request_state_in, request_state_word, served_state_in, sym, ℕ, ◌++◌, ◌<◌, ◌^◌, ◌∙◌, ◌∷◌, ◌≡◌}
use Rattle.np_spelling.proofs.Readers.{Any, Means, NoDigit, Read, behind, chain, forking, giving, giving_open, leading, listing, optional, read_spells, refused_stops, renamed, spelled_reads, valued}
use Rattle.np_spelling.proofs.Values.{u32_behind}
use Rattle.np_spelling.proofs.Records.{declined, declined_opens, declined_valued, label, label_opens, label_valued, node_id, node_id_opens, node_id_valued, u16_behind, u32_number}

abbrev pub declines : Read Any (List Declined)
declines = listing declined IsDeclined declined_text declined_valued declined_opens 63

abbrev pub labels : Read Any (List LabelId)
labels = listing label IsLabel label_text label_valued label_opens 31

abbrev pub nodes : Read Any (List NodeId)
nodes = listing node_id IsNodeId node_id_text node_id_valued node_id_opens 31

-- ## The job

abbrev pub made_by : Read Any (Option JobId)
made_by = chain (u32_behind (codes "job\":")) (λ j. behind (leading (codes ",\"labels\":")) (λ _. giving (Some (record { 0 = j })))) (λ t u x f. refl)

abbrev pub JobOk : Option JobId → Type 0
JobOk o = IfSome o (λ j. j.0 < 2 ^ 32)

abbrev pub asking : Read Any (Option JobId)
asking =
    optional (codes ",\"") 106 made_by (codes "labels\":") (λ t x. refl) (λ x. refl) (λ j. j.0 < 2 ^ 32) request_job refl
    (λ t. (omega (arith, t.0.1.1), refl)) (λ j is. (((tt, (j.0, omega (arith, is))), (tt, tt)), refl, refl))

-- ## The pinned pool

abbrev pub pinned_parts : Option JobId → Read NoDigit (Option PoolId)
pinned_parts (Some j) = giving_open None
pinned_parts None = chain (u16_behind (codes ",\"pinned\":")) (λ p. giving_open (Some (record { 0 = p }))) (λ t u x f. f)

abbrev pub PinnedOk : Option JobId → Option PoolId → Type 0
PinnedOk (Some j) None = Unit {0}
PinnedOk (Some j) (Some p) = ⊥
PinnedOk None (Some p) = p.0 < 2 ^ 16
PinnedOk None None = ⊥

pub pinned_to : (j : Option JobId) (t : (pinned_parts j).Tree) → PinnedOk j ((pinned_parts j).value t) × (request_pinned ((pinned_parts j).value t) ≡ (pinned_parts j).text t)
pinned_to (Some j) t = (tt, refl)
pinned_to None t = (omega (arith, t.0.1.1), refl)

pub pinned_back : (j : Option JobId) (o : Option PoolId) → PinnedOk j o → (t : (pinned_parts j).Tree) × ((pinned_parts j).value t ≡ o) × ((pinned_parts j).text t ≡ request_pinned o)
pinned_back (Some j) None is = (tt, refl, refl)
pinned_back None (Some p) is = (((tt, (p.0, omega (arith, is))), tt), refl, refl)
pinned_back j o is = absurd is

pub pinned_run : (j : Option JobId) → (pinned_parts j).run ≡ request_pinned_in j
unfolding request_pinned_in numbered
pinned_run (Some j) = refl
pinned_run None = refl

abbrev pub pinning : Option JobId → Read NoDigit (Option PoolId)
pinning j = renamed (valued (pinned_parts j) (PinnedOk j) request_pinned (record { to = pinned_to j; back = pinned_back j })) (request_pinned_in j) (pinned_run j)

-- ## The pool

abbrev pub served_by : Read Any (Option PoolId)
served_by = chain (u16_behind (codes "pool\":")) (λ p. behind (leading (codes ",\"relative-priority\":")) (λ _. giving (Some (record { 0 = p })))) (λ t u x f. refl)

abbrev pub PoolOk : Option PoolId → Type 0
PoolOk o = IfSome o (λ p. p.0 < 2 ^ 16)

abbrev pub serving : Read Any (Option PoolId)
serving =
    optional (codes ",\"") 112 served_by (codes "relative-priority\":") (λ t x. refl) (λ x. refl) (λ p. p.0 < 2 ^ 16) request_pool refl
    (λ t. (omega (arith, t.0.1.1), refl)) (λ p is. (((tt, (p.0, omega (arith, is))), (tt, tt)), refl, refl))

pub pool_fits : (o : Option PoolId) (y x : List ℕ) → NoDigit ((request_pool o ++ y) ++ x)
pool_fits (Some p) y x = refl
pool_fits None y x = refl

-- ## The state

abbrev pub state_parts : Option PoolId → Read Any RequestState
state_parts (Some p) = forking 112 (behind (leading (codes "pending\"}")) (λ _. giving RequestState.Pending)) (behind (leading (codes "fulfilled\"}")) (λ _. giving RequestState.Fulfilled)) (λ t x. refl) (λ t x f. refl)
state_parts None = forking 114 (behind (leading (codes "requested\"}")) (λ _. giving RequestState.Requested)) (behind (leading (codes "failed\"}")) (λ _. giving RequestState.Failed)) (λ t x. refl) (λ t x f. refl)

abbrev pub StateOk : Option PoolId → RequestState → Type 0
StateOk (Some p) RequestState.Pending = Unit {0}
StateOk (Some p) RequestState.Fulfilled = Unit {0}
StateOk (Some p) s = ⊥
StateOk None RequestState.Requested = Unit {0}
StateOk None RequestState.Failed = Unit {0}
StateOk None s = ⊥

abbrev pub state_text : RequestState → List ℕ
state_text s = joined (request_state_word s ∷ codes "\"}" ∷ [])

pub state_to : (o : Option PoolId) (t : (state_parts o).Tree) → StateOk o ((state_parts o).value t) × (state_text ((state_parts o).value t) ≡ (state_parts o).text t)
state_to (Some p) (inl t) = (tt, refl)
state_to (Some p) (inr t) = (tt, refl)
state_to None (inl t) = (tt, refl)
state_to None (inr t) = (tt, refl)

pub state_back : (o : Option PoolId) (s : RequestState) → StateOk o s → (t : (state_parts o).Tree) × ((state_parts o).value t ≡ s) × ((state_parts o).text t ≡ state_text s)
state_back (Some p) RequestState.Pending is = (inl (tt, tt), refl, refl)
state_back (Some p) RequestState.Fulfilled is = (inr (tt, tt), refl, refl)
state_back None RequestState.Requested is = (inl (tt, tt), refl, refl)
state_back None RequestState.Failed is = (inr (tt, tt), refl, refl)
state_back o s is = absurd is

pub state_run : (o : Option PoolId) → (state_parts o).run ≡ request_state_in o
unfolding served_state_in other_state_in
state_run (Some p) = refl
state_run None = refl

abbrev pub stating : Option PoolId → Read Any RequestState
stating o = renamed (valued (state_parts o) (StateOk o) state_text (record { to = state_to o; back = state_back o })) (request_state_in o) (state_run o)

-- ## Requests

abbrev pub request_parts : Read Any RequestRecord
request_parts =
    behind (leading (codes "{\"declined\":")) (λ _.
    behind declines (λ d.
    behind asking (λ j.
    behind labels (λ l.
    behind (leading (codes ",\"nodes\":")) (λ _.
    behind nodes (λ n.
    chain (pinning j) (λ pin.
    behind serving (λ p.
    chain u32_number (λ relative.
    behind (leading (codes ",\"state\":\"")) (λ _.
    behind (stating p) (λ s.
    giving (record { declined = d; job = j; labels = l; nodes = n; pinned = pin; pool = p; relative_priority = relative; state = s }))))
    (λ t u x f. refl))) (λ t u x f. pool_fits u.0.0 _ x)))))))

pub request_run : request_parts.run ≡ request_record_in
unfolding request_record_in request_job_in request_pool_in list_in declined_in label_in node_id_in numbered reason_in
request_run = refl

abbrev pub request_read : Read Any RequestRecord
request_read = renamed request_parts request_record_in request_run

request_grouped : (t : request_read.Tree) → request_record_text (request_read.value t) ≡ request_read.text t
request_grouped t =
    let r = request_read.value t in
    ap (λ x. codes "{\"declined\":" ++ (list_text declined_text r.declined ++ (request_job r.job ++ (list_text label_text r.labels ++ (codes ",\"nodes\":" ++ (list_text node_id_text r.nodes
    ++ (request_pinned r.pinned ++ (request_pool r.pool ++ (decimal r.relative_priority ++ (codes ",\"state\":\"" ++ x)))))))))) (sym (append-nil (state_text r.state)))

asked_of : (j : Option JobId) (o : Option PoolId) → JobOk j → PinnedOk j o → IsAsked j o
asked_of (Some j) None small is = small
asked_of j o small is = is

job_of : (j : Option JobId) (o : Option PoolId) → IsAsked j o → JobOk j × PinnedOk j o
job_of (Some j) None is = (is, tt)
job_of None (Some p) is = (tt, is)
job_of j o is = absurd is

served_of : (s : RequestState) (o : Option PoolId) → PoolOk o → StateOk o s → IsServed s o
served_of RequestState.Pending (Some p) small is = small
served_of RequestState.Fulfilled (Some p) small is = small
served_of RequestState.Requested None small is = tt
served_of RequestState.Failed None small is = tt
served_of s o small is = is

state_of : (s : RequestState) (o : Option PoolId) → IsServed s o → PoolOk o × StateOk o s
state_of RequestState.Requested None is = (tt, tt)
state_of RequestState.Failed None is = (tt, tt)
state_of RequestState.Pending (Some p) is = (is, tt)
state_of RequestState.Fulfilled (Some p) is = (is, tt)
state_of s o is = absurd is

request_to : (t : request_read.Tree) → IsRequest (request_read.value t)
request_to t =
    let r = request_read.value t in
    record {
      few_declined = t.1.0.1.0;
      declined = t.1.0.1.1;
      asked = asked_of r.job r.pinned t.1.1.0.1 t.1.1.1.1.1.1.0.1;
      few_labels = t.1.1.1.0.1.0;
      labels = t.1.1.1.0.1.1;
      few_nodes = t.1.1.1.1.1.0.1.0;
      nodes = t.1.1.1.1.1.0.1.1;
      served = served_of r.state r.pool t.1.1.1.1.1.1.1.0.1 t.1.1.1.1.1.1.1.1.1.1.0.1;
      relative_priority = omega (arith, t.1.1.1.1.1.1.1.1.0.1);
    }

request_tree : (r : RequestRecord) → IsRequest r → request_read.Tree
request_tree r is =
    let asked = job_of r.job r.pinned is.asked in
    let served = state_of r.state r.pool is.served in (
      tt,
      (
        (r.declined, (is.few_declined, is.declined)),
        (
          (r.job, asked.0),
          (
            (r.labels, (is.few_labels, is.labels)),
            (
              tt,
              (
                (r.nodes, (is.few_nodes, is.nodes)),
                ((r.pinned, asked.1), ((r.pool, served.0), ((r.relative_priority, omega (arith, is.relative_priority)), (tt, ((r.state, served.1), tt))))),
              ),
            ),
          ),
        ),
      ),
    )

pub request_means : Means request_read SpellsRequest
unfolding request_tree
request_means = record {
  to = λ t. (request_to t, sym (request_grouped t));
  back = λ r bytes spelled. (request_tree r spelled.0, refl, sym (request_grouped (request_tree r spelled.0)) ∙ sym spelled.1);
}

pub request_reads : (s : List ℕ) (v : RequestRecord) → answer (length s) (request_record_in s).0 (request_record_in s).1 ≡ Ok v → SpellsRequest v s
request_reads = read_spells request_read SpellsRequest request_means

pub request_all : (s : List ℕ) (v : RequestRecord) → SpellsRequest v s → answer (length s) (request_record_in s).0 (request_record_in s).1 ≡ Ok v
request_all = spelled_reads request_read SpellsRequest request_means

pub request_bad : (s : List ℕ) (bad : BadRecord) → answer (length s) (request_record_in s).0 (request_record_in s).1 ≡ Err bad → StopsAt SpellsRequest s bad.place
request_bad = refused_stops request_read SpellsRequest request_means

pub ruleset request_law = (request_reads, request_all, request_bad)
