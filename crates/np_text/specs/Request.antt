-- The text of a node request, and the order of requests.
use Rattle.std.specs.Prelude.{ℕ, ◌==◌, if◌then◌else◌, List, [], ◌∷◌, ◌++◌, length, Option, Some, None, ◌≤◌, ◌<◌, ◌^◌}
use Rattle.std.specs.Fmt.{decimal}
use Rattle.std.specs.Ordering.{nat_cmp, ordering_then}
use Rattle.std.specs.declared.cmp.Ordering.{Ordering}
use Rattle.np_text.specs.declared.id.RequestId.{RequestId}
use Rattle.np_text.specs.declared.limit.TheConstants.{SEQUENCE}
use Rattle.np_text.specs.Number.{number_of, digits_within, ten_digits_of}

-- a request has a text if its priority has three digits
pub record HasText (id : RequestId) : Type 0 where
  pub least : 100 ≤ id.priority
  pub most : id.priority ≤ 999
  pub sequence : id.seq < 2 ^ 32

-- the priority, a dash and the ten digits of the sequence number (Nodepool developer guide: `200-0000000000`)
unfoldable pub request_text_of : RequestId → List ℕ
request_text_of id = decimal id.priority ++ 45 ∷ ten_digits_of id.seq

-- by priority, and then by sequence number (Nodepool developer guide)
abbrev pub request_cmp : RequestId → RequestId → Ordering
request_cmp a b = ordering_then (nat_cmp a.priority b.priority) (nat_cmp a.seq b.seq)

-- the sequence number that ten digits spell
unfoldable pub sequence_of : List ℕ → Option ℕ
sequence_of text = if length text == 10 then digits_within SEQUENCE text else None

-- the request of these two numbers, if both are there
abbrev pub request_from : Option ℕ → Option ℕ → Option RequestId
request_from (Some priority) (Some seq) = Some (record { priority = priority; seq = seq })
request_from (Some priority) None = None
request_from None seq = None

-- the request of a text: a number of three digits, a dash, ten digits
unfoldable pub request_of : List ℕ → Option RequestId
request_of (a ∷ b ∷ c ∷ dash ∷ digits) = if dash == 45 then request_from (number_of 999 (a ∷ b ∷ c ∷ [])) (sequence_of digits) else None
request_of text = None
