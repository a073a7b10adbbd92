-- What may be at a place of a line, and its one spelling (own).
use Rattle.std.specs.Prelude.{◌≢◌, ℕ, ◌^◌, ◌<◌, ◌≤◌, ◌==◌, if◌then◌else◌, List, [], ◌∷◌, codes, Option, Some, None}
use Rattle.std.specs.Fmt.{decimal}
use Rattle.std.specs.Option.{option_map, option_or}
use Rattle.std.specs.Str.{bytes_eq}
use Rattle.np_event.specs.declared.kind.TheConstants.{ATTEMPT, NUMBER, PLACE, WIDE}
use Rattle.np_event.specs.declared.kind.Fields.{Fields}
use Rattle.np_event.specs.declared.kind.Fixed.{Fixed}
use Rattle.np_event.specs.declared.kind.Kind.{Kind}
use Rattle.np_event.specs.declared.reply.Found.{Found}
use Rattle.np_event.specs.Lower.{Ending, HasText, RELATIVE_PRIORITY, end_as_of, end_as_word, ending_of, ending_word, node_state_of, node_state_word, number_of, phase_of, phase_word, reason_kind_word, request_of, request_state_of, request_state_word, request_text_of, role_kind_word}

-- ## Words of a few spellings

-- the words that distinguish the forms of an event
abbrev pub fixed_text : Fixed → List ℕ
fixed_text (Fixed.Role kind) = role_kind_word kind
fixed_text (Fixed.Reason kind) = reason_kind_word kind
fixed_text Fixed.Ok = codes "ok"
fixed_text Fixed.Failed = codes "failed"

-- the state that a refusal found: a request's, a node's or a job's; a building node with a launch running is in flight
abbrev pub found_text : Found → List ℕ
found_text (Found.Request state) = request_state_word state
found_text Found.InFlight = codes "in-flight"
found_text (Found.Node state) = node_state_word state
found_text (Found.Job phase) = phase_word phase

abbrev pub in_flight_of : List ℕ → Option Found
in_flight_of text = if bytes_eq text (codes "in-flight") then Some Found.InFlight else None

-- the state of a word; `failed` is read as the request's
unfoldable pub found_of : List ℕ → Option Found
found_of text = option_or (option_or (option_or (option_map Found.Request (request_state_of text)) (in_flight_of text)) (option_map Found.Node (node_state_of text))) (option_map Found.Job (phase_of text))

-- an ending that a reply may report: not that of a withdrawn job
abbrev pub told_ending : Option Ending → Option Ending
told_ending (Some Ending.Withdrawn) = None
told_ending ending = ending

-- ## Letters and numbers

-- an id's letter and its number
abbrev pub lettered : ℕ → ℕ → List ℕ
lettered letter n = letter ∷ decimal n

-- the number after this letter, if it is at most max
abbrev pub number_behind : ℕ → ℕ → List ℕ → Option ℕ
number_behind letter max [] = None
number_behind letter max (c ∷ cs) = if c == letter then number_of max cs else None

-- ## Kinds

-- how a line says what is at a place
abbrev pub field_text : Kind → Fields → List ℕ
field_text (Kind.Fixed word) f = fixed_text word
field_text Kind.Session f = lettered 115 f.session.0
field_text Kind.Request f = request_text_of f.request
field_text Kind.Node f = lettered 110 f.node.0
field_text Kind.Job f = lettered 106 f.job.0
field_text Kind.Label f = lettered 108 f.label.0
field_text Kind.Pool f = lettered 112 f.pool.0
field_text Kind.Requester f = lettered 113 f.requester.0
field_text Kind.Semaphore f = lettered 120 f.semaphore.0
field_text Kind.Attempt f = decimal f.attempt
field_text Kind.Number f = decimal f.number
field_text Kind.Relative f = decimal f.relative
field_text Kind.Server f = decimal f.server
field_text Kind.Instances f = decimal f.instances
field_text Kind.Cores f = decimal f.cores
field_text Kind.Ram f = decimal f.ram
field_text Kind.End f = end_as_word f.end
field_text Kind.Ending f = ending_word f.ending
field_text Kind.Found f = found_text f.found

-- a line can say it: numbers within their types, requests of three digits, relative priorities that a job may have, no withdrawn job
abbrev pub HasWord : Kind → Fields → Type 0
HasWord (Kind.Fixed word) f = Unit {0}
HasWord Kind.Session f = f.session.0 < 2 ^ 32
HasWord Kind.Request f = HasText f.request
HasWord Kind.Node f = f.node.0 < 2 ^ 32
HasWord Kind.Job f = f.job.0 < 2 ^ 32
HasWord Kind.Label f = f.label.0 < 2 ^ 16
HasWord Kind.Pool f = f.pool.0 < 2 ^ 16
HasWord Kind.Requester f = f.requester.0 < 2 ^ 16
HasWord Kind.Semaphore f = f.semaphore.0 < 2 ^ 16
HasWord Kind.Attempt f = f.attempt < 2 ^ 8
HasWord Kind.Number f = f.number < 2 ^ 32
HasWord Kind.Relative f = f.relative ≤ RELATIVE_PRIORITY
HasWord Kind.Server f = f.server < 2 ^ 64
HasWord Kind.Instances f = f.instances < 2 ^ 64
HasWord Kind.Cores f = f.cores < 2 ^ 64
HasWord Kind.Ram f = f.ram < 2 ^ 64
HasWord Kind.End f = Unit {0}
HasWord Kind.Ending f = f.ending ≢ Ending.Withdrawn
HasWord Kind.Found f = Unit {0}

-- the fields with what this word says, if it fits its place
abbrev pub with_field : Kind → List ℕ → Fields → Option Fields
with_field (Kind.Fixed word) text f = if bytes_eq text (fixed_text word) then Some f else None
with_field Kind.Session text f = option_map (λ n. record f { session = record { 0 = n } }) (number_behind 115 NUMBER text)
with_field Kind.Request text f = option_map (λ id. record f { request = id }) (request_of text)
with_field Kind.Node text f = option_map (λ n. record f { node = record { 0 = n } }) (number_behind 110 NUMBER text)
with_field Kind.Job text f = option_map (λ n. record f { job = record { 0 = n } }) (number_behind 106 NUMBER text)
with_field Kind.Label text f = option_map (λ n. record f { label = record { 0 = n } }) (number_behind 108 PLACE text)
with_field Kind.Pool text f = option_map (λ n. record f { pool = record { 0 = n } }) (number_behind 112 PLACE text)
with_field Kind.Requester text f = option_map (λ n. record f { requester = record { 0 = n } }) (number_behind 113 PLACE text)
with_field Kind.Semaphore text f = option_map (λ n. record f { semaphore = record { 0 = n } }) (number_behind 120 PLACE text)
with_field Kind.Attempt text f = option_map (λ n. record f { attempt = n }) (number_of ATTEMPT text)
with_field Kind.Number text f = option_map (λ n. record f { number = n }) (number_of NUMBER text)
with_field Kind.Relative text f = option_map (λ n. record f { relative = n }) (number_of RELATIVE_PRIORITY text)
with_field Kind.Server text f = option_map (λ n. record f { server = n }) (number_of WIDE text)
with_field Kind.Instances text f = option_map (λ n. record f { instances = n }) (number_of WIDE text)
with_field Kind.Cores text f = option_map (λ n. record f { cores = n }) (number_of WIDE text)
with_field Kind.Ram text f = option_map (λ n. record f { ram = n }) (number_of WIDE text)
with_field Kind.End text f = option_map (λ e. record f { end = e }) (end_as_of text)
with_field Kind.Ending text f = option_map (λ e. record f { ending = e }) (told_ending (ending_of text))
with_field Kind.Found text f = option_map (λ s. record f { found = s }) (found_of text)
