-- Which fault a line has, defined by the lines that exist.
use Rattle.std.specs.Prelude.{◌≡◌, ℕ, zero, suc, false, List, [], ◌∷◌}
use Rattle.np_event.specs.declared.event_form.EventForm.{EventForm}
use Rattle.np_event.specs.declared.kind.Fields.{Fields}
use Rattle.np_event.specs.declared.kind.Kind.{Kind}
use Rattle.np_event.specs.EventForm.{event_row}
use Rattle.np_event.specs.Kind.{HasWord, field_text}
use Rattle.np_event.specs.Line.{stand}

-- the word says a value of this kind
abbrev pub Says : Kind → List ℕ → Type 0
Says kind text = (f : Fields) × HasWord kind f × (field_text kind f ≡ text)

-- the words say values of these kinds up to the one at this place, which does not
abbrev pub IsFirstUnfit : List Kind → List (List ℕ) → ℕ → Type 0
IsFirstUnfit (kind ∷ kinds) (text ∷ rest) zero = ¬ (Says kind text)
IsFirstUnfit (kind ∷ kinds) (text ∷ rest) (suc place) = Says kind text × IsFirstUnfit kinds rest place
IsFirstUnfit (kind ∷ kinds) [] place = ⊥
IsFirstUnfit [] rest place = ⊥

-- the rest of the line has the fixed words of no form that begins with this word
abbrev pub IsOfNoForm : List ℕ → List (List ℕ) → Type 0
IsOfNoForm first rest = (form : EventForm) → (event_row form).head ≡ first → stand (event_row form).kinds rest ≡ false
