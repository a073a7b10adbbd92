-- how words are read, and the lines of events, replies and entries
use Rattle.std.specs.Prelude.{ℕ, ◌+◌, Bool, true, false, ◌&&◌, ◌==◌, if◌then◌else◌, List, [], ◌∷◌, ◌++◌, length, drop, slice_get, Option, Some, None, Result, Ok, Err, nat_le, codes}
use Rattle.std.specs.List.{AllByRecursion, flat_map, find}
use Rattle.std.specs.Str.{bytes_eq}
use Rattle.np_event.specs.declared.fault.LineFault.{LineFault}
use Rattle.np_event.specs.declared.fault.LineFault.TheVariants.{WrongCount, BadArgument, UnknownEvent}
use Rattle.np_event.specs.declared.kind.Fields.{Fields}
use Rattle.np_event.specs.declared.kind.Kind.{Kind}
use Rattle.np_event.specs.Kind.{HasWord, field_text, fixed_text, with_field}
use Rattle.np_event.specs.ReplyForm.{Row, blank, done_forms, done_of, done_fields, done_row, refusal_forms, refusal_of, refusal_fields, refusal_row, told_found}
use Rattle.std.specs.Option.{option_map}
use Rattle.std.specs.Result.{result_ok}
use Rattle.np_event.specs.declared.entry.Entry.{Entry}
use Rattle.np_event.specs.declared.event.Event.{Event}
use Rattle.np_event.specs.declared.event_form.EventForm.{EventForm}
use Rattle.np_event.specs.declared.reply.Done.{Done}
use Rattle.np_event.specs.declared.reply.Refusal.{Refusal}
use Rattle.np_event.specs.declared.reply.Reply.{Reply}
use Rattle.np_event.specs.EventForm.{event_forms, event_of, event_parts, event_row}
use Rattle.np_event.specs.Words.{words_of}
use Rattle.np_event.specs.Lower.{Role, behind}

-- How words are read by the kinds of a form.

-- a fixed word is at its place; other kinds are not checked
abbrev pub stands : Kind → Option (List ℕ) → Bool
stands (Kind.Fixed word) (Some text) = bytes_eq text (fixed_text word)
stands (Kind.Fixed word) None = false
stands other text = true

-- all fixed words are at their places
abbrev pub stand : List Kind → List (List ℕ) → Bool
stand [] words = true
stand (kind ∷ kinds) words = stands kind (slice_get words 0) && stand kinds (drop 1 words)

-- the fields with what the word at a place says: nothing if there is no word, otherwise the fields
-- if it fits
abbrev pub field_at : Kind → Option (List ℕ) → Fields → Option (Option Fields)
field_at kind None f = None
field_at kind (Some text) f = Some (with_field kind text f)

-- the answer at a place: the count is wrong, the word does not fit, or reading continues
abbrev pub fitting : (Fields → Result Fields LineFault) → ℕ → Option (Option Fields) → Result Fields LineFault
fitting next place None = Err WrongCount
fitting next place (Some None) = Err (BadArgument place)
fitting next place (Some (Some more)) = next more

-- the fields that words say by these kinds; `place` is the number of the first word, and the first that does not fit is named
abbrev pub fields_from : ℕ → List Kind → List (List ℕ) → Fields → Result Fields LineFault
fields_from place [] words f = Ok f
fields_from place (kind ∷ kinds) words f = fitting (λ more. fields_from (place + 1) kinds (drop 1 words) more) place (field_at kind (slice_get words 0) f)

-- the count comes before the words
abbrev pub row_fields : List Kind → List (List ℕ) → Result Fields LineFault
row_fields kinds rest = if length rest == length kinds then fields_from 2 kinds rest blank else Err WrongCount

-- a line can say all of this
abbrev pub HaveWords : List Kind → Fields → Type 0
HaveWords kinds f = AllByRecursion (λ kind. HasWord kind f) kinds

-- a form's line with these fields
abbrev pub row_line : Row → Fields → List ℕ
row_line row f = row.head ++ flat_map (λ kind. 32 ∷ field_text kind f) row.kinds

-- The lines of events, replies and entries (own; the words are Nodepool's and Zuul's).

-- ## Events

-- an event's one line (own)
abbrev pub event_line : Event → List ℕ
event_line e = row_line (event_row (event_parts e).0) (event_parts e).1

-- no line opens a reaper's session
abbrev pub OpensNoReaper : Event → Type 0
OpensNoReaper (Event.OpenSession Role.Reaper) = ⊥
OpensNoReaper e = Unit {0}

-- an event has a line: it opens no reaper's session, its numbers are within their types, its requests have three digits, and a job may have its relative priority
pub record HasEventLine (e : Event) : Type 0 where
  pub role : OpensNoReaper e
  pub words : HaveWords (event_row (event_parts e).0).kinds (event_parts e).1

-- the line begins with the form's first word
abbrev pub is_headed : List ℕ → EventForm → Bool
is_headed first form = bytes_eq first (event_row form).head

-- the line has the form's first word and its fixed words
abbrev pub is_agreed : List ℕ → List (List ℕ) → EventForm → Bool
is_agreed first rest form = is_headed first form && stand (event_row form).kinds rest

-- no form of this first word agrees. If a later word chooses the form, too few words reach it, or
-- it is unknown there; otherwise the forms have one count, and the first of them is taken, so that
-- the count and then the words are judged by it
abbrev pub undecided : EventForm → List (List ℕ) → Option ℕ → Result EventForm LineFault
undecided form rest None = Ok form
undecided form rest (Some place) = if nat_le place (length rest) then Err (BadArgument (place + 1)) else Err WrongCount

-- the first form that agrees; otherwise the first that begins so, if it may be taken; otherwise no
-- event has this name
abbrev pub chosen : List (List ℕ) → Option EventForm → Option EventForm → Result EventForm LineFault
chosen rest (Some agreed) headed = Ok agreed
chosen rest None (Some headed) = undecided headed rest (event_row headed).decided_at
chosen rest None None = Err UnknownEvent

-- the form that the words choose
abbrev pub event_form_of : List ℕ → List (List ℕ) → Result EventForm LineFault
event_form_of first rest = chosen rest (find (is_agreed first rest) event_forms) (find (is_headed first) event_forms)

-- the event of a form and what its words say
abbrev pub with_fields : EventForm → Result Fields LineFault → Result Event LineFault
with_fields form (Ok f) = Ok (event_of form f)
with_fields form (Err fault) = Err fault

-- the event of the words after the first, by their form
abbrev pub with_form : List (List ℕ) → Result EventForm LineFault → Result Event LineFault
with_form rest (Ok form) = with_fields form (row_fields (event_row form).kinds rest)
with_form rest (Err fault) = Err fault

-- the event of a line's words, or their first fault: no such event, another count, the first word that does not fit
unfoldable pub event_in : List (List ℕ) → Result Event LineFault
event_in [] = Err UnknownEvent
event_in (first ∷ rest) = with_form rest (event_form_of first rest)

-- ## Replies

-- what the line of an accepted event says
abbrev pub done_line : Done → List ℕ
done_line d = row_line (done_row d) (done_fields d)

-- what follows the word `refused`
abbrev pub refusal_line : Refusal → List ℕ
refusal_line r = row_line (refusal_row r) (refusal_fields r)

-- a reply's one line (own)
abbrev pub reply_line : Reply → List ℕ
reply_line (Reply.Done d) = done_line d
reply_line (Reply.Refused r) = codes "refused " ++ refusal_line r

-- a reply has a line: its requests have three digits, and it reports no withdrawn job
abbrev pub HasReplyLine : Reply → Type 0
HasReplyLine (Reply.Done d) = HaveWords (done_row d).kinds (done_fields d)
HasReplyLine (Reply.Refused r) = HaveWords (refusal_row r).kinds (refusal_fields r)

-- the reply begins with the form's first word
abbrev pub is_headed_done : List ℕ → Done → Bool
is_headed_done first form = bytes_eq first (done_row form).head

-- the refusal begins with the form's first word
abbrev pub is_headed_refusal : List ℕ → Refusal → Bool
is_headed_refusal first form = bytes_eq first (refusal_row form).head

-- the reply of a done form and the words after its first
abbrev pub done_with : List (List ℕ) → Option Done → Option Reply
done_with rest None = None
done_with rest (Some form) = option_map (λ f. Reply.Done (done_of form f)) (result_ok (row_fields (done_row form).kinds rest))

-- the reply of a refusal's form and the words after its first
abbrev pub refusal_with : List (List ℕ) → Option Refusal → Option Reply
refusal_with rest None = None
refusal_with rest (Some form) = option_map (λ f. Reply.Refused (refusal_of form f)) (result_ok (row_fields (refusal_row form).kinds rest))

-- the refusal of the words after `refused`
abbrev pub refusal_in : List (List ℕ) → Option Reply
refusal_in [] = None
refusal_in (first ∷ rest) = refusal_with rest (find (is_headed_refusal first) refusal_forms)

-- the reply of these words
unfoldable pub reply_in : List (List ℕ) → Option Reply
reply_in [] = None
reply_in (first ∷ rest) = if bytes_eq first (codes "refused") then refusal_in rest else done_with rest (find (is_headed_done first) done_forms)

-- the reply as its line is read: a failed node and a failed request share one word, which is read
-- as the request's
abbrev pub told : Reply → Reply
told (Reply.Refused (Refusal.WrongState found)) = Reply.Refused (Refusal.WrongState (told_found found))
told other = other

-- ## Entries

-- an entry's line: the event, ` = ` and the reply
abbrev pub entry_line : Entry → List ℕ
entry_line e = event_line e.event ++ codes " = " ++ reply_line e.reply

-- the entry as its line is read
abbrev pub told_entry : Entry → Entry
told_entry e = record { event = e.event; reply = told e.reply }

-- an entry has a line if its event and its reply have one
pub record HasEntryLine (e : Entry) : Type 0 where
  pub event : HasEventLine e.event
  pub reply : HasReplyLine e.reply

-- ` = ` is here
abbrev pub begins_reply : List ℕ → Bool
begins_reply [] = false
begins_reply (a ∷ []) = false
begins_reply (a ∷ b ∷ []) = false
begins_reply (a ∷ b ∷ c ∷ rest) = (a == 32) && (b == 61) && (c == 32)

-- what comes before and after the first ` = `
unfoldable pub sides_of : List ℕ → Option (List ℕ × List ℕ)
sides_of [] = None
sides_of (b ∷ bs) = if begins_reply (b ∷ bs) then Some ([], drop 3 (b ∷ bs)) else behind (b ∷ []) (sides_of bs)

-- the entry of an event and a reply, if both were read
abbrev pub entry_from : Result Event LineFault → Option Reply → Option Entry
entry_from (Ok event) (Some reply) = Some (record { event = event; reply = reply })
entry_from (Ok event) None = None
entry_from (Err fault) reply = None

-- the entry of the two sides of a line
abbrev pub entry_with : Option (List ℕ × List ℕ) → Option Entry
entry_with None = None
entry_with (Some sides) = entry_from (event_in (words_of sides.0)) (reply_in (words_of sides.1))

-- the entry of a line
unfoldable pub entry_in : List ℕ → Option Entry
entry_in line = entry_with (sides_of line)
