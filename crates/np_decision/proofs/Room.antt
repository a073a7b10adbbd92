-- what a state that fits leaves room for, by what is read of it
use Rattle.np_decision.proofs.Prelude.{Configuration, Fits, NodeEntry, NodeFits, NodeId, NodeRecord, None, Option, Some, State, all-find, is_building, node_entry, node_in, not, option_map, refl, true, ◌&&◌, ◌<◌, ◌==◌, ◌≡◌, ◌≤◌}

node-fits : (c : Configuration) (s : State) (n : NodeId) (e : NodeEntry) → Fits c s → node_entry n s.nodes ≡ Some e → NodeFits s e
node-fits c s n e fits is = all-find (NodeFits s) (λ other. other.id.0 == n.0) s.nodes e fits.each_node is

since_by : (s : State) (k : NodeRecord) (o : Option NodeEntry) → ((e : NodeEntry) → o ≡ Some e → NodeFits s e) → option_map (λ (e : NodeEntry). e.kept) o ≡ Some k → k.since ≤ s.tick
since_by s k None fits is = absurd cc
since_by s k (Some e) fits is = let same : e.kept ≡ k = cc in rw (← same) (fits e refl).since

-- no node is older than the ticks
pub since-fits : (c : Configuration) (s : State) (n : NodeId) (k : NodeRecord) → Fits c s → node_in n s.nodes ≡ Some k → k.since ≤ s.tick
since-fits c s n k fits has = since_by s k (node_entry n s.nodes) (λ e is. node-fits c s n e fits is) has

attempts_by : (s : State) (k : NodeRecord) (o : Option NodeEntry) → ((e : NodeEntry) → o ≡ Some e → NodeFits s e) → option_map (λ (e : NodeEntry). e.kept) o ≡ Some k → (is_building k.state && not k.in_flight) ≡ true → k.attempts < 16
attempts_by s k None fits is idle = absurd cc
attempts_by s k (Some e) fits is idle = let same : e.kept ≡ k = cc in rw (← same) ((fits e refl).attempts (rw same idle))

-- a node that may be started has attempts left
pub attempts-fit : (c : Configuration) (s : State) (n : NodeId) (k : NodeRecord) → Fits c s → node_in n s.nodes ≡ Some k → (is_building k.state && not k.in_flight) ≡ true → k.attempts < 16
attempts-fit c s n k fits has idle = attempts_by s k (node_entry n s.nodes) (λ e is. node-fits c s n e fits is) has idle
