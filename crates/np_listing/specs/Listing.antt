-- the tables of a state, printed in columns
use Rattle.std.specs.Prelude.{ℕ, ◌+◌, ◌-◌, max, List, [], ◌∷◌, ◌++◌, codes, length, map, replicate, slice_get, unwrap_or, Bool, true, false, decimal, if◌then◌else◌, Option, Some, None}
use Rattle.std.specs.List.{flat_map, range_with_len}
use Rattle.np_listing.specs.Lower.{line, Configuration, Declined, Janitor, JobId, Launcher, NodeView, PoolId, Reaper, RequestView, Requester, Role, SemId, SessionFacts, SessionId, State, handles_of, is_session_of, job_words, label_words, node_state_word, node_view, node_words, option_map_or, pool_words, queued_nodes, queued_requests, reason_text_of, registered, request_state_word, request_view, request_words, role_words, semaphore_words, session_words, tenant_words}

-- rows of cells, printed in columns

-- the largest of the numbers, or 0
abbrev pub greatest : List ℕ → ℕ
greatest [] = 0
greatest (n ∷ ns) = max n (greatest ns)

-- how long the row's cell in a column is
abbrev pub cell_len : ℕ → List (List ℕ) → ℕ
cell_len column row = length (unwrap_or (slice_get row column) [])

-- a column is as wide as its longest cell
abbrev pub width : List (List (List ℕ)) → ℕ → ℕ
width rows column = greatest (map (cell_len column) rows)

abbrev pub widths : ℕ → List (List (List ℕ)) → List ℕ
widths columns rows = map (width rows) (range_with_len 0 columns)

abbrev pub width_at : List ℕ → ℕ → ℕ
width_at ws column = unwrap_or (slice_get ws column) 0

-- what stands between a cell and the next ones: at least two spaces, and nothing at the end of a row
abbrev pub gap : ℕ → List (List ℕ) → List ℕ
gap missing [] = []
gap missing (next ∷ cells) = codes "  " ++ replicate missing 32

-- a cell in a column of this width, and what stands before the next ones
abbrev pub cell_text : ℕ → List ℕ → List (List ℕ) → List ℕ
cell_text width cell cells = cell ++ gap (width - length cell) cells

-- the cells from a column on, if the columns are this wide
abbrev pub cells_text : List ℕ → ℕ → List (List ℕ) → List ℕ
cells_text ws column [] = []
cells_text ws column (cell ∷ cells) = cell_text (width_at ws column) cell cells ++ cells_text ws (column + 1) cells

abbrev pub row_line : List ℕ → List (List ℕ) → List ℕ
row_line ws row = line (cells_text ws 0 row)

-- a line for each row; the first row, the head, has a cell for each column
unfoldable pub table_text : List (List (List ℕ)) → List ℕ
table_text rows = flat_map (row_line (widths (length (unwrap_or (slice_get rows 0) [])) rows)) rows

-- the tables of a state: nodes, requests, handles and sessions

-- ## cells that several tables have

abbrev pub dash : List ℕ
dash = codes "-"

-- the words of what is there, or a dash
abbrev pub or_dash : {A : Type 0} → (A → List ℕ) → Option A → List ℕ
or_dash words found = option_map_or words found dash

-- the words of each, with commas between, or a dash if there are none
abbrev pub each_words : {A : Type 0} → (A → List ℕ) → List A → List ℕ
each_words words [] = dash
each_words words (x ∷ xs) = words x ++ flat_map (λ y. codes ", " ++ words y) xs

-- ## nodes

abbrev pub node_head : List (List ℕ)
node_head = codes "node" ∷ codes "pool" ∷ codes "label" ∷ codes "server" ∷ codes "launches" ∷ codes "state" ∷ codes "age" ∷ codes "locked by" ∷ codes "allocated to" ∷ codes "tenant" ∷ []

-- a node at this tick: its age is how long it has been in its state
abbrev pub node_row : Configuration → ℕ → NodeView → List (List ℕ)
node_row c tick v =
    node_words v.id ∷ pool_words c v.kept.pool ∷ label_words c v.kept.label ∷ or_dash decimal v.kept.server ∷ decimal v.kept.attempts
    ∷ node_state_word v.kept.state ∷ decimal (tick - v.kept.since) ∷ or_dash session_words v.holder
    ∷ or_dash request_words v.kept.allocated_to ∷ or_dash (tenant_words c) v.kept.tenant ∷ []

-- the nodes, by number
abbrev pub node_rows : Configuration → State → List (List (List ℕ))
node_rows c s = node_head ∷ map (λ e. node_row c s.tick (node_view e)) s.nodes

-- ## requests

abbrev pub request_head : List (List ℕ)
request_head = codes "request" ∷ codes "state" ∷ codes "job" ∷ codes "pool" ∷ codes "labels" ∷ codes "nodes" ∷ codes "locked by" ∷ codes "declined by" ∷ []

-- a min-ready request has no job
abbrev pub asker_words : Configuration → Option JobId → List ℕ
asker_words c job = option_map_or (job_words c) job (codes "min-ready")

abbrev pub decline_words : Configuration → Declined → List ℕ
decline_words c d = pool_words c d.pool ++ codes ": " ++ reason_text_of d.reason

abbrev pub request_row : Configuration → RequestView → List (List ℕ)
request_row c v =
    request_words v.id ∷ request_state_word v.kept.state ∷ asker_words c v.kept.job ∷ or_dash (pool_words c) v.kept.pool
    ∷ each_words (label_words c) v.kept.labels ∷ each_words node_words v.kept.nodes ∷ or_dash session_words v.holder
    ∷ each_words (decline_words c) v.kept.declined ∷ []

-- the requests, by priority and then sequence
abbrev pub request_rows : Configuration → State → List (List (List ℕ))
request_rows c s = request_head ∷ map (λ e. request_row c (request_view e)) s.requests

-- ## handles

abbrev pub handle_head : List (List ℕ)
handle_head = codes "semaphore" ∷ codes "max" ∷ codes "handle of" ∷ []

-- how many handles the semaphore has
abbrev pub most_of : Configuration → SemId → ℕ
most_of c x = option_map_or (λ sem. sem.max) (slice_get c.semaphores x.0) 0

-- a job that has a handle
abbrev pub handle_row : Configuration → SemId → JobId → List (List ℕ)
handle_row c x j = semaphore_words c x ∷ decimal (most_of c x) ∷ job_words c j ∷ []

-- the jobs with a handle of the semaphore of this number
abbrev pub handle_rows_of : Configuration → State → ℕ → List (List (List ℕ))
handle_rows_of c s n = map (handle_row c (record { 0 = n })) (handles_of (record { 0 = n }) s.handles)

-- the same for each semaphore
abbrev pub handle_rows : Configuration → State → List (List (List ℕ))
handle_rows c s = handle_head ∷ flat_map (handle_rows_of c s) (range_with_len 0 (length c.semaphores))

-- ## sessions

abbrev pub session_head : List (List ℕ)
session_head = codes "session" ∷ codes "life" ∷ codes "of" ∷ codes "registered for" ∷ codes "in requests' queues" ∷ codes "in nodes' queues" ∷ []

-- whether it is live, and whether its party has stopped
abbrev pub life_said : Bool → Bool → List ℕ
life_said false mute = codes "expired"
life_said true true = codes "crashed"
life_said true false = codes "live"

-- the launcher's pool, if the session has the registration for it
abbrev pub registered_pool : State → SessionId → Role → Option PoolId
registered_pool s session (Launcher p) = if is_session_of session (registered p s.registrations) then Some p else None
registered_pool s session (Janitor p) = None
registered_pool s session (Requester q) = None
registered_pool s session Reaper = None

abbrev pub session_row : Configuration → State → SessionId → SessionFacts → List (List ℕ)
session_row c s session facts =
    session_words session ∷ life_said facts.live facts.mute ∷ role_words c facts.role
    ∷ or_dash (pool_words c) (registered_pool s session facts.role)
    ∷ decimal (length (queued_requests session s)) ∷ decimal (length (queued_nodes session s)) ∷ []

-- a row for each, of which the first has this number
abbrev pub numbered : {X W : Type 0} → (ℕ → X → W) → ℕ → List X → List W
numbered row n [] = []
numbered row n (x ∷ xs) = row n x ∷ numbered row (n + 1) xs

-- all sessions that ever began, which count from 1
abbrev pub session_rows : Configuration → State → List (List (List ℕ))
session_rows c s = session_head ∷ numbered (λ n facts. session_row c s (record { 0 = n }) facts) 1 s.sessions

-- ## all of them

-- the tick, and the four tables with an empty line between
unfoldable pub listing_of : Configuration → State → List ℕ
listing_of c s =
    codes "tick " ++ decimal s.tick ++ codes "\n\n"
    ++ table_text (node_rows c s) ++ codes "\n"
    ++ table_text (request_rows c s) ++ codes "\n"
    ++ table_text (handle_rows c s) ++ codes "\n"
    ++ table_text (session_rows c s)
