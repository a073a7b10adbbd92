-- nodes, roles, sessions and jobs, and the items in their lists, are read as they are spelled
use Rattle.np_spelling.proofs.Prelude.{BadRecord, Bool, Declined, Ending, EndsIn, Err, HasParts, HasText, IfSome, IsDeclined, IsLabel, IsMarked, IsNode, IsNodeId, IsReason, IsSessionRole, JobRecord, LabelId, List, Marked, NodeId, NodeRecord, NodeState, None, Ok, Option, Phase, PoolId, Reason, RequestId, Role, RoleKind, RoleRecord, SessionRecord, Some, SpellsJob, SpellsNode, SpellsRole, SpellsSession, StopsAt, TenantId, [], answer, ap, append-nil, append_assoc, arith, asked_end_in, begins, codes, decimal, declined_text, default_tenant, ending_by, ending_word, false, flag_text, inl, inr, job_end, job_end_in, job_front, job_front_in, job_in, job_text, joined, label_text, length, list_in, list_text, marked_in, marked_text, no_end_in, node_age_in, node_front, node_front_in, node_head_in, node_id_text, node_in, node_place_in, node_server, node_server_in, node_state_by, node_state_in, node_state_word, node_tenant, node_tenant_in, node_text_to, numbered, open_phase_in, over_end_in, phase_in, phase_word, priority_in, reason_text_of, refl, request_in, role_in, role_kind_by, role_kind_word, role_name, role_name_in, role_of, session_in, sym, using_end_in, ℕ, ◌++◌, ◌<◌, ◌^◌, ◌∙◌, ◌∷◌, ◌≡◌, ◌≤◌, ◌⊎◌}
use Rattle.np_spelling.proofs.Readers.{Any, Means, NoDigit, Opens, Read, Tells, Valued, behind, chain, choosing, flag, forking, giving, giving_open, leading, listing, loosely, optional, read_spells, refused_stops, renamed, spelled_reads, valued}
use Rattle.np_spelling.proofs.Values.{number_behind_text, number_first, numbering, request_id, u32_behind}

-- # Nodes, by their parts.

-- ## The front

abbrev pub allocated : Read Any (Option RequestId)
allocated = behind (leading (codes "llocated-to\":\"")) (λ _. behind request_id (λ id. behind (leading (codes "\",\"attempts\":")) (λ _. giving (Some id))))

abbrev pub front : Read Any (Option RequestId)
front =
    optional (codes "{\"a") 108 allocated (codes "ttempts\":") (λ t x. refl) (λ x. refl) HasText node_front refl
    (λ t. (t.1.0.1, refl)) (λ id has. ((tt, ((id, has), (tt, tt))), refl, refl))

abbrev pub u8_number : Read NoDigit ℕ
u8_number = numbering 255 (omega arith) (omega arith)

abbrev pub u16_behind : List ℕ → Read NoDigit ℕ
u16_behind text = number_behind_text text 65535 (omega arith) (omega arith)

abbrev pub head : Read Any (Option RequestId × ℕ × Bool)
head =
    behind front (λ allocated_to.
    chain u8_number (λ attempts.
    behind (leading (codes ",\"in-flight\":")) (λ _.
    behind flag (λ in_flight.
    giving (allocated_to, attempts, in_flight)))) (λ t u x f. refl))

-- ## The server

abbrev pub served_by : Read Any (Option ℕ)
served_by = chain (number_behind_text (codes "erver\":") 18446744073709551615 (omega arith) (omega arith)) (λ server. behind (leading (codes ",\"since\":")) (λ _. giving (Some server))) (λ t u x f. refl)

abbrev pub server : Read Any (Option ℕ)
server =
    optional (codes ",\"s") 101 served_by (codes "ince\":") (λ t x. refl) (λ x. refl) (λ server. server < 2 ^ 64) node_server refl
    (λ t. (omega (arith, t.0.1.1), refl)) (λ n small. (((tt, (n, omega (arith, small))), (tt, tt)), refl, refl))

pub server_fits : (o : Option ℕ) (x : List ℕ) → NoDigit ((node_server o ++ []) ++ x)
server_fits (Some n) x = refl
server_fits None x = refl

abbrev pub place : Read Any (LabelId × PoolId × Option ℕ)
place =
    chain (u16_behind (codes ",\"label\":")) (λ label.
    chain (u16_behind (codes ",\"pool\":")) (λ pool.
    behind server (λ s.
    giving (record { 0 = label }, record { 0 = pool }, s))) (λ t u x f. server_fits u.0.0 x)) (λ t u x f. refl)

-- ## The age and the state

pub state_tells : Tells node_state_by node_state_word
state_tells NodeState.Building = (98, codes "uilding", refl, refl)
state_tells NodeState.Ready = (114, codes "eady", refl, refl)
state_tells NodeState.InUse = (105, codes "n-use", refl, refl)
state_tells NodeState.Used = (117, codes "sed", refl, refl)
state_tells NodeState.Hold = (104, codes "old", refl, refl)
state_tells NodeState.Deleting = (100, codes "eleting", refl, refl)
state_tells NodeState.Failed = (102, codes "ailed", refl, refl)

abbrev pub state : Read Any NodeState
state =
    behind (leading (codes ",\"state\":\"")) (λ _.
    behind (choosing node_state_by node_state_word state_tells NodeState.Building) (λ s.
    behind (leading (codes "\"")) (λ _. giving s)))

abbrev pub u32_number : Read NoDigit ℕ
u32_number = numbering 4294967295 (omega arith) (omega arith)

abbrev pub age : Read Any (ℕ × ℕ × NodeState)
age =
    chain u32_number (λ since.
    chain (u32_behind (codes ",\"start\":")) (λ start.
    behind state (λ s.
    giving (since, start, s))) (λ t u x f. refl)) (λ t u x f. refl)

-- ## The tenant

pub tenant_first : (n : ℕ) → n ≤ 65535 → (y x : List ℕ) → begins 34 ((decimal n ++ y) ++ x) ≡ false
tenant_first n most y x = ap (begins 34) (append_assoc (decimal n) y x) ∙ number_first 34 n (inl (omega arith)) (omega arith) (y ++ x)

abbrev pub tenant : Read Any (Option TenantId)
tenant =
    forking 125 (behind (leading (codes "}")) (λ _. giving default_tenant))
    (behind (leading (codes ",\"tenant\":")) (λ _.
    forking 34 (behind (leading (codes "\"none\"}")) (λ _. giving None))
    (chain (numbering 65535 (omega arith) (omega arith)) (λ t. behind (leading (codes "}")) (λ _. giving (Some (record { 0 = t })))) (λ t u x f. refl))
    (λ t x. refl) (λ t x f. tenant_first t.0.0 t.0.1 (codes "}") x)))
    (λ t x. refl) (λ t x f. refl)

abbrev TenantOk : Option TenantId → Type 0
TenantOk o = IfSome o (λ t. t.0 < 2 ^ 16)

-- the end says the tenant, or says nothing and means the first
abbrev EndsWith : Option TenantId → List ℕ → Type 0
EndsWith o end = TenantOk o × ((end ≡ node_tenant o) ⊎ ((o ≡ default_tenant) × (end ≡ codes "}")))

tenant_to : (t : tenant.Tree) → EndsWith (tenant.value t) (tenant.text t)
tenant_to (inl t) = (omega arith, inr (refl, refl))
tenant_to (inr t) = cases t.0 t.1
  where
    cases : (u : Unit {0}) (v : _) → EndsWith (tenant.value (inr (u, v))) (tenant.text (inr (u, v)))
    cases u (inl v) = (tt, inl refl)
    cases u (inr v) = (omega (arith, v.0.1), inl refl)

tenant_back : (o : Option TenantId) → TenantOk o → (t : tenant.Tree) × (tenant.value t ≡ o) × (tenant.text t ≡ node_tenant o)
tenant_back (Some t) small = (inr (tt, inr ((t.0, omega (arith, small)), (tt, tt))), refl, refl)
tenant_back None small = (inr (tt, inl (tt, tt)), refl, refl)

-- ## Nodes

abbrev pub node_parts : Read Any NodeRecord
node_parts =
    behind head (λ h.
    behind place (λ p.
    behind age (λ a.
    behind tenant (λ t.
    giving (record {
      allocated_to = h.0;
      attempts = h.1;
      in_flight = h.2;
      label = p.0;
      pool = p.1;
      server = p.2;
      since = a.0;
      start = a.1;
      state = a.2;
      tenant = t;
    })))))

pub node_run : node_parts.run ≡ node_in
unfolding node_in node_head_in node_front_in node_place_in node_server_in node_age_in node_state_in node_tenant_in numbered request_in priority_in
node_run = refl

abbrev pub node_read : Read Any NodeRecord
node_read = renamed node_parts node_in node_run

group : (a b c d e f g h i j k l m n o p : List ℕ)
    → (a ++ (b ++ (c ++ (d ++ [])))) ++ (((e ++ f) ++ ((g ++ h) ++ (i ++ []))) ++ ((j ++ ((k ++ l) ++ ((m ++ (n ++ (o ++ []))) ++ []))) ++ (p ++ [])))
    ≡ a ++ (b ++ (c ++ (d ++ (e ++ (f ++ (g ++ (h ++ (i ++ (j ++ (k ++ (l ++ (m ++ (n ++ (o ++ (p ++ [])))))))))))))))
group a b c d e f g h i j k l m n o p = simp append_assoc refl

pub regroup : (z a b c d e f g h i j k l m n o p : List ℕ)
    → (((z ++ (a ++ (b ++ (c ++ (d ++ []))))) ++ (e ++ (f ++ (g ++ (h ++ (i ++ [])))))) ++ (j ++ (k ++ (l ++ (m ++ (n ++ (o ++ []))))))) ++ p
    ≡ z ++ (a ++ (b ++ (c ++ (d ++ (e ++ (f ++ (g ++ (h ++ (i ++ (j ++ (k ++ (l ++ (m ++ (n ++ (o ++ (p ++ []))))))))))))))))
regroup z a b c d e f g h i j k l m n o p = simp (append_assoc, append-nil) refl

grouped : (t : node_read.Tree) → node_read.text t ≡ node_text_to (tenant.text t.1.1.1.0) (node_read.value t)
grouped t =
    let n = node_read.value t in
    group (node_front n.allocated_to) (decimal n.attempts) (codes ",\"in-flight\":") (flag_text n.in_flight) (codes ",\"label\":") (decimal n.label.0) (codes ",\"pool\":") (decimal n.pool.0)
    (node_server n.server) (decimal n.since) (codes ",\"start\":") (decimal n.start) (codes ",\"state\":\"") (node_state_word n.state) (codes "\"") (tenant.text t.1.1.1.0)

-- a node's record with an end that says its tenant
with_end : (n : NodeRecord) (end bytes : List ℕ) → bytes ≡ node_text_to end n → (end ≡ node_tenant n.tenant) ⊎ ((n.tenant ≡ default_tenant) × (end ≡ codes "}"))
    → (bytes ≡ node_text_to (node_tenant n.tenant) n) ⊎ ((n.tenant ≡ default_tenant) × (bytes ≡ node_text_to (codes "}") n))
with_end n end bytes text (inl is) = inl (text ∙ ap (λ e. node_text_to e n) is)
with_end n end bytes text (inr is) = inr (is.0, text ∙ ap (λ e. node_text_to e n) is.1)

node_to : (t : node_read.Tree) → SpellsNode (node_read.value t) (node_read.text t)
node_to t =
    let end = tenant_to t.1.1.1.0 in (
      record {
        allocated_to = t.0.0.1;
        attempts = omega (arith, t.0.1.0.1);
        label = omega (arith, t.1.0.0.1.1);
        pool = omega (arith, t.1.0.1.0.1.1);
        server = t.1.0.1.1.0.1;
        since = omega (arith, t.1.1.0.0.1);
        start = omega (arith, t.1.1.0.1.0.1.1);
        tenant = end.0;
      },
      with_end (node_read.value t) (tenant.text t.1.1.1.0) (node_read.text t) (grouped t) end.1,
    )

-- the tree of a node, with the tree of its tenant
tree_of : (n : NodeRecord) → IsNode n → tenant.Tree → node_read.Tree
tree_of n is end = (
  ((n.allocated_to, is.allocated_to), ((n.attempts, omega (arith, is.attempts)), (tt, (n.in_flight, tt)))),
  (
    ((tt, (n.label.0, omega (arith, is.label))), ((tt, (n.pool.0, omega (arith, is.pool))), ((n.server, is.server), tt))),
    (((n.since, omega (arith, is.since)), ((tt, (n.start, omega (arith, is.start))), ((tt, (n.state, (tt, tt))), tt))), (end, tt)),
  ),
)

node_back : (n : NodeRecord) (bytes : List ℕ) → SpellsNode n bytes → (t : node_read.Tree) × (node_read.value t ≡ n) × (node_read.text t ≡ bytes)
unfolding tree_of
node_back n bytes spelled = ends spelled.1
  where
    is : IsNode n
    is = spelled.0

    ends : (bytes ≡ node_text_to (node_tenant n.tenant) n) ⊎ ((n.tenant ≡ default_tenant) × (bytes ≡ node_text_to (codes "}") n))
        → (t : node_read.Tree) × (node_read.value t ≡ n) × (node_read.text t ≡ bytes)
    ends (inl text) =
        let end = tenant_back n.tenant is.tenant in
        let value = ap (λ t. record n { tenant = t }) end.1 in (
          tree_of n is end.0,
          value,
          grouped (tree_of n is end.0) ∙ ap (λ e. node_text_to e n) end.2 ∙ sym text,
        )
    ends (inr text) =
        let end : tenant.Tree = inl (tt, tt) in (
          tree_of n is end,
          ap (λ t. record n { tenant = t }) (sym text.0),
          grouped (tree_of n is end) ∙ sym text.1,
        )

pub node_means : Means node_read SpellsNode
node_means = record { to = node_to; back = node_back }

pub node_reads : (s : List ℕ) (v : NodeRecord) → answer (length s) (node_in s).0 (node_in s).1 ≡ Ok v → SpellsNode v s
node_reads = read_spells node_read SpellsNode node_means

pub node_all : (s : List ℕ) (v : NodeRecord) → SpellsNode v s → answer (length s) (node_in s).0 (node_in s).1 ≡ Ok v
node_all = spelled_reads node_read SpellsNode node_means

pub node_bad : (s : List ℕ) (bad : BadRecord) → answer (length s) (node_in s).0 (node_in s).1 ≡ Err bad → StopsAt SpellsNode s bad.place
node_bad = refused_stops node_read SpellsNode node_means

pub ruleset node_law = (node_reads, node_all, node_bad)

-- # Roles, by their parts.

abbrev pub role_record : Read Any RoleRecord
role_record =
    chain (u32_behind (codes "{\"acts\":")) (λ acts.
    chain (u32_behind (codes ",\"starts\":")) (λ starts.
    chain (u32_behind (codes ",\"strikes\":")) (λ strikes.
    behind (leading (codes "}")) (λ _.
    giving (record { acts = acts; starts = starts; strikes = strikes }))) (λ t u x f. refl)) (λ t u x f. refl)) (λ t u x f. refl)

pub role_run : role_record.run ≡ role_in
unfolding role_in numbered
role_run = refl

abbrev pub role_read : Read Any RoleRecord
role_read = renamed role_record role_in role_run

pub role_means : Means role_read SpellsRole
role_means = record {
  to = λ t. (
    record { acts = omega (arith, t.0.1.1); starts = omega (arith, t.1.0.1.1); strikes = omega (arith, t.1.1.0.1.1) },
    refl,
  );
  back = λ v bytes spelled.
      let is = spelled.0 in
      (((tt, (v.acts, omega (arith, is.acts))), ((tt, (v.starts, omega (arith, is.starts))), ((tt, (v.strikes, omega (arith, is.strikes))), (tt, tt)))), refl, sym spelled.1);
}

pub role_reads : (s : List ℕ) (v : RoleRecord) → answer (length s) (role_in s).0 (role_in s).1 ≡ Ok v → SpellsRole v s
role_reads = read_spells role_read SpellsRole role_means

pub role_all : (s : List ℕ) (v : RoleRecord) → SpellsRole v s → answer (length s) (role_in s).0 (role_in s).1 ≡ Ok v
role_all = spelled_reads role_read SpellsRole role_means

pub role_bad : (s : List ℕ) (bad : BadRecord) → answer (length s) (role_in s).0 (role_in s).1 ≡ Err bad → StopsAt SpellsRole s bad.place
role_bad = refused_stops role_read SpellsRole role_means

pub ruleset role_law = (role_reads, role_all, role_bad)

-- # Sessions, by their parts.

pub kind_tells : Tells role_kind_by role_kind_word
kind_tells RoleKind.Launcher = (108, codes "auncher", refl, refl)
kind_tells RoleKind.Janitor = (106, codes "anitor", refl, refl)
kind_tells RoleKind.Requester = (114, codes "equester", refl, refl)

abbrev pub role_kind : Read Any RoleKind
role_kind = choosing role_kind_by role_kind_word kind_tells RoleKind.Launcher

abbrev pub role_parts : Read NoDigit Role
role_parts =
    behind role_kind (λ kind.
    chain (number_behind_text (codes "-") 65535 (omega arith) (omega arith)) (λ n.
    giving_open (role_of kind n)) (λ t u x f. f))

pub role_to : (k : RoleKind) (n : ℕ) → n ≤ 65535 → IsSessionRole (role_of k n) × (role_name (role_of k n) ≡ role_kind_word k ++ 45 ∷ (decimal n ++ []))
role_to RoleKind.Launcher n most = (omega arith, refl)
role_to RoleKind.Janitor n most = (omega arith, refl)
role_to RoleKind.Requester n most = (omega arith, refl)

pub role_back : (r : Role) → IsSessionRole r → (t : role_parts.Tree) × (role_parts.value t ≡ r) × (role_parts.text t ≡ role_name r)
role_back (Role.Launcher p) is = ((RoleKind.Launcher, ((tt, (p.0, omega arith)), tt)), refl, refl)
role_back (Role.Janitor p) is = ((RoleKind.Janitor, ((tt, (p.0, omega arith)), tt)), refl, refl)
role_back (Role.Requester q) is = ((RoleKind.Requester, ((tt, (q.0, omega arith)), tt)), refl, refl)
role_back Role.Reaper is = absurd is

abbrev pub named_role : Read NoDigit Role
named_role = valued role_parts IsSessionRole role_name (record { to = λ t. role_to t.0 t.1.0.1.0 t.1.0.1.1; back = role_back })

abbrev pub session_parts : Read Any SessionRecord
session_parts =
    behind (leading (codes "{\"mute\":")) (λ _.
    behind flag (λ mute.
    behind (leading (codes ",\"role\":\"")) (λ _.
    chain named_role (λ role.
    behind (leading (codes "\"}")) (λ _.
    giving (record { mute = mute; role = role }))) (λ t u x f. refl))))

pub session_run : session_parts.run ≡ session_in
unfolding session_in role_name_in numbered
session_run = refl

abbrev pub session_read : Read Any SessionRecord
session_read = renamed session_parts session_in session_run

pub session_means : Means session_read SpellsSession
session_means = record {
  to = λ t. (t.1.1.1.0.1, refl);
  back = λ v bytes spelled. ((tt, (v.mute, (tt, ((v.role, spelled.0), (tt, tt))))), refl, sym spelled.1);
}

pub session_reads : (s : List ℕ) (v : SessionRecord) → answer (length s) (session_in s).0 (session_in s).1 ≡ Ok v → SpellsSession v s
session_reads = read_spells session_read SpellsSession session_means

pub session_all : (s : List ℕ) (v : SessionRecord) → SpellsSession v s → answer (length s) (session_in s).0 (session_in s).1 ≡ Ok v
session_all = spelled_reads session_read SpellsSession session_means

pub session_bad : (s : List ℕ) (bad : BadRecord) → answer (length s) (session_in s).0 (session_in s).1 ≡ Err bad → StopsAt SpellsSession s bad.place
session_bad = refused_stops session_read SpellsSession session_means

pub ruleset session_law = (session_reads, session_all, session_bad)

-- # Items of lists, by their parts.

abbrev pub label : Read NoDigit LabelId
label = chain (numbering 65535 (omega arith) (omega arith)) (λ n. giving_open (record { 0 = n })) (λ t u x f. f)

pub label_valued : Valued label IsLabel label_text
label_valued = record {
  to = λ t. (omega (arith, t.0.1), sym (append-nil (decimal t.0.0)));
  back = λ l is. (((l.0, omega arith), tt), refl, append-nil (decimal l.0));
}

pub label_opens : Opens IsLabel label_text
label_opens l small = number_first 93 l.0 (inr (omega arith)) (omega arith)

abbrev pub node_id : Read NoDigit NodeId
node_id = chain u32_number (λ n. giving_open (record { 0 = n })) (λ t u x f. f)

pub node_id_valued : Valued node_id IsNodeId node_id_text
node_id_valued = record {
  to = λ t. (omega (arith, t.0.1), sym (append-nil (decimal t.0.0)));
  back = λ n is. (((n.0, omega arith), tt), refl, append-nil (decimal n.0));
}

pub node_id_opens : Opens IsNodeId node_id_text
node_id_opens n small = number_first 93 n.0 (inr (omega arith)) (omega arith)

abbrev pub marked : Read NoDigit Marked
marked = loosely (
    chain (u32_behind (codes "[")) (λ n.
    behind (leading (codes ",")) (λ _.
    behind flag (λ ended.
    behind (leading (codes "]")) (λ _.
    giving (record { node = record { 0 = n }; ended = ended }))))) (λ t u x f. refl))

pub marked_valued : Valued marked IsMarked marked_text
marked_valued = record {
  to = λ t. (omega (arith, t.0.1.1), refl);
  back = λ m is. (((tt, (m.node.0, omega arith)), (tt, (m.ended, (tt, tt)))), refl, refl);
}

pub marked_opens : Opens IsMarked marked_text
marked_opens m is x = refl

abbrev pub reason_n : Read NoDigit Reason
reason_n =
    behind (leading (codes "n")) (λ _.
    forking 111 (chain (u16_behind (codes "o-label-l")) (λ l. giving_open (Reason.NoLabel (record { 0 = l }))) (λ t u x f. f))
    (loosely (behind (leading (codes "ever-fits")) (λ _. giving Reason.NeverFits)))
    (λ t x. refl) (λ t x f. refl))

abbrev pub reason_other : Read NoDigit Reason
reason_other =
    forking 116 (loosely (behind (leading (codes "tenant-never-fits")) (λ _. giving Reason.TenantNeverFits))) reason_n (λ t x. refl) (λ t x f. refl)

pub other_first : (t : reason_other.Tree) (x : List ℕ) → begins 115 (reason_other.text t ++ x) ≡ false
other_first (inl t) x = refl
other_first (inr t) x = refl

abbrev pub reason_parts : Read NoDigit Reason
reason_parts =
    forking 115 (chain (u32_behind (codes "spent-n")) (λ n. giving_open (Reason.Spent (record { 0 = n }))) (λ t u x f. f)) reason_other
    (λ t x. refl) (λ t x f. other_first t x)

reason_to_n : (t : reason_n.Tree) → IsReason (reason_n.value t) × (reason_text_of (reason_n.value t) ≡ reason_n.text t)
reason_to_n t = cases t.0 t.1
  where
    cases : (u : Unit {0}) (v : _) → IsReason (reason_n.value (u, v)) × (reason_text_of (reason_n.value (u, v)) ≡ reason_n.text (u, v))
    cases u (inl v) = (omega (arith, v.0.1.1), ap (λ x. codes "no-label-l" ++ x) (sym (append-nil (decimal v.0.1.0))))
    cases u (inr v) = (tt, refl)

pub reason_to : (t : reason_parts.Tree) → IsReason (reason_parts.value t) × (reason_text_of (reason_parts.value t) ≡ reason_parts.text t)
reason_to (inl t) = (omega (arith, t.0.1.1), ap (λ x. codes "spent-n" ++ x) (sym (append-nil (decimal t.0.1.0))))
reason_to (inr (inl t)) = (tt, refl)
reason_to (inr (inr t)) = reason_to_n t

pub reason_back : (r : Reason) → IsReason r → (t : reason_parts.Tree) × (reason_parts.value t ≡ r) × (reason_parts.text t ≡ reason_text_of r)
reason_back (Reason.NoLabel l) is = (inr (inr (tt, inl ((tt, (l.0, omega arith)), tt))), refl, ap (λ x. codes "no-label-l" ++ x) (append-nil (decimal l.0)))
reason_back Reason.NeverFits is = (inr (inr (tt, inr (tt, tt))), refl, refl)
reason_back Reason.TenantNeverFits is = (inr (inl (tt, tt)), refl, refl)
reason_back (Reason.Spent n) is = (inl ((tt, (n.0, omega arith)), tt), refl, ap (λ x. codes "spent-n" ++ x) (append-nil (decimal n.0)))

abbrev pub why : Read NoDigit Reason
why = valued reason_parts IsReason reason_text_of (record { to = reason_to; back = reason_back })

abbrev pub declined : Read NoDigit Declined
declined = loosely (
    chain (u16_behind (codes "[")) (λ p.
    behind (leading (codes ",\"")) (λ _.
    chain why (λ r.
    behind (leading (codes "\"]")) (λ _.
    giving (record { pool = record { 0 = p }; reason = r }))) (λ t u x f. refl))) (λ t u x f. refl))

pub declined_valued : Valued declined IsDeclined declined_text
declined_valued = record {
  to = λ t. (record { pool = omega (arith, t.0.1.1); reason = t.1.1.0.1 }, refl);
  back = λ d is. (((tt, (d.pool.0, omega (arith, is.pool))), (tt, ((d.reason, is.reason), (tt, tt)))), refl, refl);
}

pub declined_opens : Opens IsDeclined declined_text
declined_opens d is x = refl

-- # Jobs, by their parts.

pub ending_tells : Tells ending_by ending_word
ending_tells Ending.Served = (115, codes "erved", refl, refl)
ending_tells Ending.Lost = (108, codes "ost", refl, refl)
ending_tells Ending.Failed = (102, codes "ailed", refl, refl)
ending_tells Ending.Withdrawn = (119, codes "ithdrawn", refl, refl)

-- ## The front

abbrev pub ending : Read Any (Option Ending)
ending = behind (leading (codes "ending\":\"")) (λ _. behind (choosing ending_by ending_word ending_tells Ending.Served) (λ e. behind (leading (codes "\",\"nodes\":")) (λ _. giving (Some e))))

abbrev pub ended : Read Any (Option Ending)
ended = optional (codes "{\"") 101 ending (codes "nodes\":") (λ t x. refl) (λ x. refl) (λ e. Unit {0}) job_front refl (λ t. (tt, refl)) (λ e is. ((tt, (e, (tt, tt))), refl, refl))

any_ending : (o : Option Ending) → IfSome o (λ e. Unit {0})
any_ending (Some e) = tt
any_ending None = tt

abbrev pub nodes : Read Any (List Marked)
nodes = listing marked IsMarked marked_text marked_valued marked_opens 31

-- ## The phase

abbrev pub later_phase : Read Any Phase
later_phase = forking 97 (behind (leading (codes "asked\"")) (λ _. giving Phase.Asked)) (behind (leading (codes "using\"")) (λ _. giving Phase.Using)) (λ t x. refl) (λ t x f. refl)

pub later_first : (t : later_phase.Tree) (x : List ℕ) → begins 110 (later_phase.text t ++ x) ≡ false
later_first (inl t) x = refl
later_first (inr t) x = refl

abbrev pub phase_parts : Option Ending → Read Any Phase
phase_parts (Some e) = behind (leading (codes ",\"phase\":\"over\"")) (λ _. giving Phase.Over)
phase_parts None =
    behind (leading (codes ",\"phase\":\"")) (λ _.
    forking 110 (behind (leading (codes "new\"")) (λ _. giving Phase.New)) later_phase (λ t x. refl) (λ t x f. later_first t x))

abbrev pub phase_text : Phase → List ℕ
phase_text p = joined (codes ",\"phase\":\"" ∷ phase_word p ∷ codes "\"" ∷ [])

abbrev pub PhaseOk : Option Ending → Phase → Type 0
PhaseOk ending p = EndsIn p ending

pub phase_to : (e : Option Ending) (t : (phase_parts e).Tree) → PhaseOk e ((phase_parts e).value t) × (phase_text ((phase_parts e).value t) ≡ (phase_parts e).text t)
phase_to (Some e) t = (tt, refl)
phase_to None t = cases t.0 t.1
  where
    cases : (u : Unit {0}) (v : _) → PhaseOk None ((phase_parts None).value (u, v)) × (phase_text ((phase_parts None).value (u, v)) ≡ (phase_parts None).text (u, v))
    cases u (inl v) = (tt, refl)
    cases u (inr (inl v)) = (tt, refl)
    cases u (inr (inr v)) = (tt, refl)

pub phase_back : (e : Option Ending) (p : Phase) → PhaseOk e p → (t : (phase_parts e).Tree) × ((phase_parts e).value t ≡ p) × ((phase_parts e).text t ≡ phase_text p)
phase_back (Some e) Phase.Over is = ((tt, tt), refl, refl)
phase_back None Phase.New is = ((tt, inl (tt, tt)), refl, refl)
phase_back None Phase.Asked is = ((tt, inr (inl (tt, tt))), refl, refl)
phase_back None Phase.Using is = ((tt, inr (inr (tt, tt))), refl, refl)
phase_back e p is = absurd is

pub phase_run : (e : Option Ending) → (phase_parts e).run ≡ phase_in e
unfolding phase_in open_phase_in
phase_run (Some e) = refl
phase_run None = refl

abbrev pub phase_read : Option Ending → Read Any Phase
phase_read e = renamed (valued (phase_parts e) (PhaseOk e) phase_text (record { to = phase_to e; back = phase_back e })) (phase_in e) (phase_run e)

-- ## The end

abbrev pub Ends : Type 0
Ends = Option PoolId × Option RequestId

abbrev pub no_end : Read Any Ends
no_end = behind (leading (codes "}")) (λ _. giving (None, None))

abbrev pub asked_end : List ℕ → Option PoolId → Read Any Ends
asked_end text pool = behind (leading text) (λ _. behind request_id (λ id. behind (leading (codes "\"}")) (λ _. giving (pool, Some id))))

abbrev pub using_end : List ℕ → Read Any Ends
using_end text = chain (u16_behind text) (λ p. asked_end (codes ",\"request\":\"") (Some (record { 0 = p }))) (λ t u x f. refl)

abbrev pub over_end : Read Any Ends
over_end =
    forking 125 no_end
    (behind (leading (codes ",\"")) (λ _. forking 112 (using_end (codes "pool\":")) (asked_end (codes "request\":\"") None) (λ t x. refl) (λ t x f. refl)))
    (λ t x. refl) (λ t x f. refl)

abbrev pub end_parts : Phase → Read Any Ends
end_parts Phase.New = no_end
end_parts Phase.Asked = asked_end (codes ",\"request\":\"") None
end_parts Phase.Using = using_end (codes ",\"pool\":")
end_parts Phase.Over = over_end

abbrev pub EndOk : Phase → Ends → Type 0
EndOk p e = HasParts p e.0 e.1 × IfSome e.0 (λ pool. pool.0 < 2 ^ 16) × IfSome e.1 HasText

abbrev pub end_text : Ends → List ℕ
end_text e = job_end e.0 e.1

over_to : (t : over_end.Tree) → EndOk Phase.Over (over_end.value t) × (end_text (over_end.value t) ≡ over_end.text t)
over_to (inl t) = ((tt, tt, tt), refl)
over_to (inr t) = cases t.0 t.1
  where
    cases : (u : Unit {0}) (v : _) → EndOk Phase.Over (over_end.value (inr (u, v))) × (end_text (over_end.value (inr (u, v))) ≡ over_end.text (inr (u, v)))
    cases u (inl v) = ((tt, omega (arith, v.0.1.1), v.1.1.0.1), refl)
    cases u (inr v) = ((tt, tt, v.1.0.1), refl)

pub end_to : (p : Phase) (t : (end_parts p).Tree) → EndOk p ((end_parts p).value t) × (end_text ((end_parts p).value t) ≡ (end_parts p).text t)
end_to Phase.New t = ((tt, tt, tt), refl)
end_to Phase.Asked t = ((tt, tt, t.1.0.1), refl)
end_to Phase.Using t = ((tt, omega (arith, t.0.1.1), t.1.1.0.1), refl)
end_to Phase.Over t = over_to t

pub end_back : (p : Phase) (pool : Option PoolId) (id : Option RequestId) → EndOk p (pool, id) → (t : (end_parts p).Tree) × ((end_parts p).value t ≡ (pool, id)) × ((end_parts p).text t ≡ job_end pool id)
end_back Phase.New None None ok = ((tt, tt), refl, refl)
end_back Phase.Asked None (Some id) ok = ((tt, ((id, ok.2), (tt, tt))), refl, refl)
end_back Phase.Using (Some p) (Some id) ok = (((tt, (p.0, omega (arith, ok.1))), (tt, ((id, ok.2), (tt, tt)))), refl, refl)
end_back Phase.Over None None ok = (inl (tt, tt), refl, refl)
end_back Phase.Over None (Some id) ok = (inr (tt, inr (tt, ((id, ok.2), (tt, tt)))), refl, refl)
end_back Phase.Over (Some p) (Some id) ok = (inr (tt, inl ((tt, (p.0, omega (arith, ok.1))), (tt, ((id, ok.2), (tt, tt))))), refl, refl)
end_back p pool id ok = absurd ok.0

pub end_run : (p : Phase) → (end_parts p).run ≡ job_end_in p
unfolding no_end_in asked_end_in using_end_in over_end_in numbered request_in priority_in
end_run Phase.New = refl
end_run Phase.Asked = refl
end_run Phase.Using = refl
end_run Phase.Over = refl

abbrev pub end_read : Phase → Read Any Ends
end_read p = renamed (valued (end_parts p) (EndOk p) end_text (record { to = end_to p; back = λ e ok. end_back p e.0 e.1 ok })) (job_end_in p) (end_run p)

-- ## Jobs

abbrev pub job_parts : Read Any JobRecord
job_parts =
    behind ended (λ ending.
    behind nodes (λ nodes.
    behind (phase_read ending) (λ phase.
    behind (end_read phase) (λ e.
    giving (record { ending = ending; nodes = nodes; phase = phase; pool = e.0; request = e.1 })))))

pub job_run : job_parts.run ≡ job_in
unfolding job_in job_front_in list_in marked_in numbered
job_run = refl

abbrev pub job_read : Read Any JobRecord
job_read = renamed job_parts job_in job_run

job_grouped : (t : job_read.Tree) → job_text (job_read.value t) ≡ job_read.text t
job_grouped t =
    let j = job_read.value t in
    ap (λ x. job_front j.ending ++ (list_text marked_text j.nodes ++ (codes ",\"phase\":\"" ++ x))) (sym (append_assoc (phase_word j.phase) (codes "\"") (job_end j.pool j.request ++ [])))

pub job_means : Means job_read SpellsJob
job_means = record {
  to = λ t. (
    record {
      ending = t.1.1.0.1;
      parts = t.1.1.1.0.1.0;
      few = t.1.0.1.0;
      nodes = t.1.0.1.1;
      pool = t.1.1.1.0.1.1;
      request = t.1.1.1.0.1.2;
    },
    sym (job_grouped t),
  );
  back = λ j bytes spelled.
      let is = spelled.0 in
      let t : job_read.Tree = ((j.ending, any_ending j.ending), ((j.nodes, (is.few, is.nodes)), ((j.phase, is.ending), (((j.pool, j.request), (is.parts, is.pool, is.request)), tt)))) in
      (t, refl, sym (job_grouped t) ∙ sym spelled.1);
}

pub job_reads : (s : List ℕ) (v : JobRecord) → answer (length s) (job_in s).0 (job_in s).1 ≡ Ok v → SpellsJob v s
job_reads = read_spells job_read SpellsJob job_means

pub job_all : (s : List ℕ) (v : JobRecord) → SpellsJob v s → answer (length s) (job_in s).0 (job_in s).1 ≡ Ok v
job_all = spelled_reads job_read SpellsJob job_means

pub job_bad : (s : List ℕ) (bad : BadRecord) → answer (length s) (job_in s).0 (job_in s).1 ≡ Err bad → StopsAt SpellsJob s bad.place
job_bad = refused_stops job_read SpellsJob job_means

pub ruleset job_law = (job_reads, job_all, job_bad)
