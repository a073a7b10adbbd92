-- what is read of the nodes of a stored state
use Rattle.np_tree_rows.proofs.Prelude.{AllByRecursion, AllZip, BadRecord, Configuration, HasNodeLock, HasQueue, IsGood, IsNodeRow, IsStored, IsWait, List, Node, NodeEntry, NodeId, NodeLock, NodeRecord, NodeView, Nodes, None, Ok, Option, Result, Rises, Row, SessionId, Some, SpellsNode, State, TreeState, all-at, all-find, ap, bytes_at, false, find_named, found-node, is_named, is_node_it, length, named-by, node-itself, node-tells, node_before, node_entry, node_in, node_queue, node_view, option_map, option_map_or, other-name, path_of, persistent, place_name, refl, rises-zip, rows-rise, rows_at, slice_get, subst, sym, ten_digits_of, true, under, ℕ, [], ◌<◌, ◌^◌, ◌∙◌, ◌≡◌}
use Rattle.np_tree_rows.proofs.Shown.{Beside, IsRead, beside-at, beside-found, beside-none, beside-some, bytes-named, found-there, length-beside, none-beside, nothing-under, unviewed, view-kept, viewed}

-- a node is there, and its number is spelled by ten digits
pub record IsSpelled (name : List ℕ) (o : Option NodeId) : Type 0 where
  pub number : ℕ
  pub small : number < 2 ^ 32
  pub digits : name ≡ ten_digits_of number
  pub there : o ≡ Some (record { 0 = number })

-- what is read from the digits is the node's number
pub spelled-some : (name : List ℕ) (o : Option NodeId) (read : ℕ) → IsSpelled name o → ((n : ℕ) → n < 2 ^ 32 → name ≡ ten_digits_of n → Some read ≡ Some n) → Some (record { 0 = read }) ≡ o
spelled-some name o read spelled reads =
    let same : read ≡ spelled.number = let is = reads spelled.number spelled.small spelled.digits in cc in
    ap (λ (n : ℕ). Some (record { 0 = n })) same ∙ sym spelled.there

-- and if nothing is read there is no node
pub spelled-none : (name : List ℕ) (o : Option NodeId) → IsSpelled name o → ((n : ℕ) → n < 2 ^ 32 → name ≡ ten_digits_of n → None ≡ Some n) → None ≡ o
spelled-none name o spelled reads = absurd (let is = reads spelled.number spelled.small spelled.digits in cc)

-- what is seen of a node
abbrev seen_node : NodeId → NodeRecord → Option SessionId → NodeView
seen_node id kept holder = record { id = id; kept = kept; holder = holder }

module _ (c : Configuration) (s : State) (t : TreeState) (stored : IsStored c s t) where
  abbrev HasId : NodeEntry → Type 0
  HasId e = IsGood (Node e.id)

  has-ids : AllByRecursion HasId s.nodes
  has-ids = stored.carried.good.nodes

  node-rows : AllZip IsNodeRow (under Nodes t) s.nodes
  node-rows = stored.lays.nodes.rows

  -- as many rows as nodes
  pub nodes-counted : length (rows_at t (path_of Nodes)) ≡ length s.nodes
  nodes-counted = length-beside IsNodeRow (under Nodes t) s.nodes node-rows

  -- ## by place

  node-beside : (at : ℕ) → Beside IsNodeRow (slice_get (under Nodes t) at) (slice_get s.nodes at)
  node-beside at = beside-at IsNodeRow (under Nodes t) s.nodes at node-rows

  -- the name of a row spells the number of the node there
  pub node-named : (at : ℕ) (name : List ℕ) → Some name ≡ option_map (λ (row : Row). row.name) (slice_get (under Nodes t) at) → IsSpelled name (option_map (λ (e : NodeEntry). e.id) (slice_get s.nodes at))
  node-named at name is =
      let found = beside-some IsNodeRow (λ (row : Row). row.name) name _ _ (node-beside at) is in
      record {
        number = found.second.id.0;
        small = all-at HasId s.nodes at found.second has-ids found.there;
        digits = found.tells ∙ ap (λ (r : Row). r.name) found.beside.is;
        there = ap (option_map (λ (e : NodeEntry). e.id)) found.there;
      }

  -- and where there is no row there is no node
  pub node-unnamed : (at : ℕ) → None ≡ option_map (λ (row : Row). row.name) (slice_get (under Nodes t) at) → None ≡ option_map (λ (e : NodeEntry). e.id) (slice_get s.nodes at)
  node-unnamed at is = beside-none IsNodeRow (λ (row : Row). row.name) (λ (e : NodeEntry). e.id) _ _ (node-beside at) is

  -- ## by id

  module _ (n : NodeId) (good : n.0 < 2 ^ 32) where
    row-found : Beside IsNodeRow (find_named (place_name (Node n)) (under Nodes t)) (node_entry n s.nodes)
    row-found = beside-found IsNodeRow (is_named (place_name (Node n))) (is_node_it n) (under Nodes t) s.nodes (node-tells n (under Nodes t) s.nodes good has-ids node-rows) node-rows

    -- its record is read from its bytes, whichever way they spell it
    pub node-read : (bytes : List ℕ) (read : Result NodeRecord BadRecord) → Some bytes ≡ bytes_at t (path_of (Node n)) → ((v : NodeRecord) → SpellsNode v bytes → read ≡ Ok v) → IsRead (node_in n s.nodes) read
    node-read bytes read is all =
        let found = beside-some IsNodeRow (λ (row : Row). row.bytes) bytes _ _ row-found (is ∙ bytes-named t (Node n) Nodes stored.whole good refl) in
        record {
          kept = found.second.kept;
          there = ap (option_map (λ (e : NodeEntry). e.kept)) found.there;
          reads = all found.second.kept (subst (λ (b : List ℕ). SpellsNode found.second.kept b) (sym found.tells) found.beside.spells);
        }

    -- and where there are none it is not there
    pub node-unread : None ≡ bytes_at t (path_of (Node n)) → None ≡ node_in n s.nodes
    node-unread is = beside-none IsNodeRow (λ (row : Row). row.bytes) (λ (e : NodeEntry). e.kept) _ _ row-found (is ∙ bytes-named t (Node n) Nodes stored.whole good refl)

    -- ## its queue

    waits-by : (o : Option NodeEntry) → node_entry n s.nodes ≡ o → (next : ℕ) × AllZip (IsWait next) (under (NodeLock n) t) (node_queue n s.nodes)
    waits-by None there =
        let none = none-beside IsNodeRow (find_named (place_name (Node n)) (under Nodes t)) (subst (λ (o : Option NodeEntry). Beside IsNodeRow (find_named (place_name (Node n)) (under Nodes t)) o) there row-found) in
        let bare = nothing-under t (Node n) Nodes stored.whole good refl none in
        let empty = nothing-under t (NodeLock n) (Node n) stored.whole good refl (ap (find_named (place_name (NodeLock n))) bare) in
        let queue : node_queue n s.nodes ≡ [] = ap (λ (o : Option NodeEntry). option_map_or (λ (e : NodeEntry). e.queue) o []) there in
        (0, rw (empty, queue) tt)
    waits-by (Some e) there =
        let lock = all-find (HasNodeLock t) (is_node_it n) s.nodes e stored.lays.node_locks there in
        let same : node_queue n s.nodes ≡ e.queue = ap (λ (o : Option NodeEntry). option_map_or (λ (x : NodeEntry). x.queue) o []) there in
        let queue : HasQueue (NodeLock n) (node_queue n s.nodes) t =
        subst (λ (list : List SessionId). HasQueue (NodeLock n) list t) (sym same) (subst (λ (id : NodeId). HasQueue (NodeLock id) e.queue t) (found-node n s.nodes e there) lock.queue) in
        (queue.next, queue.waits)

    -- the rows of its lock are its queue
    pub node-waits : (next : ℕ) × AllZip (IsWait next) (under (NodeLock n) t) (node_queue n s.nodes)
    node-waits = waits-by (node_entry n s.nodes) refl

  -- ## the node at a place

  rises : Rises node_before s.nodes
  rises = rises-zip (under Nodes t) s.nodes node-rows (rows-rise t (path_of Nodes) stored.whole)

  apart : (e : NodeEntry) → HasId e → (x : NodeEntry) → HasId x → node_before x e ≡ true → is_node_it e.id x ≡ false
  apart e e_good x x_good before = sym (named-by e.id x.id (is_node_it e.id x) refl e_good x_good) ∙ other-name (persistent (Node x.id) []) (persistent (Node e.id) []) before

  -- is found by its id
  entry-at : (at : ℕ) (e : NodeEntry) → slice_get s.nodes at ≡ Some e → node_entry e.id s.nodes ≡ Some e
  entry-at at e there =
      found-there node_before HasId (is_node_it e.id) e (node-itself e.id) (apart e (all-at HasId s.nodes at e has-ids there)) s.nodes at rises has-ids there

  abbrev viewed_at : ℕ → Option NodeId
  viewed_at at = option_map (λ (e : NodeEntry). e.id) (slice_get s.nodes at)

  -- there is no view where there is no node
  pub node-unviewed : (at : ℕ) → None ≡ viewed_at at → None ≡ option_map node_view (slice_get s.nodes at)
  node-unviewed at = unviewed (λ (e : NodeEntry). e.id) (λ (e : NodeEntry). e.kept) (λ (e : NodeEntry). e.queue) seen_node (λ id. node_entry id s.nodes) (slice_get s.nodes at)

  -- the view of the node that is there
  pub node-viewed : (at : ℕ) (id : NodeId) (kept : NodeRecord) (holder : Option SessionId) → Some id ≡ viewed_at at → Some kept ≡ node_in id s.nodes → holder ≡ slice_get (node_queue id s.nodes) 0 →
      Some (seen_node id kept holder) ≡ option_map node_view (slice_get s.nodes at)
  node-viewed at = viewed (λ (e : NodeEntry). e.id) (λ (e : NodeEntry). e.kept) (λ (e : NodeEntry). e.queue) seen_node (λ id. node_entry id s.nodes) (slice_get s.nodes at) (entry-at at)

  -- the node that is there has a record
  pub node-kept : (at : ℕ) (id : NodeId) → Some id ≡ viewed_at at → None ≡ node_in id s.nodes → None ≡ option_map node_view (slice_get s.nodes at)
  node-kept at = view-kept (λ (e : NodeEntry). e.id) (λ (e : NodeEntry). e.kept) (λ (e : NodeEntry). e.queue) seen_node (λ id. node_entry id s.nodes) (slice_get s.nodes at) (entry-at at)
