-- what is answered to the bytes of an input, and what the streams and the status show
use Rattle.std.specs.Prelude.{◌≡◌, ℕ, List, ◌++◌, codes, decimal, ◌<◌, ◌≤◌, ◌⊎◌, [], ◌∷◌, length, Ok, Err, Bool, true, false, IfSome, nat_lt}
use Rattle.np_explain.specs.declared.command.Asked.{Asked}
use Rattle.np_explain.specs.Explained.{IsExplanation, status_of}
use Rattle.np_explain.specs.declared.command.Query.{Query}
use Rattle.np_explain.specs.Lower.{CommandEnding, ConfigFault, Configuration, EndsSo, Entry, IsInput, IsNoText, IsPrinted, IsTold, IsWritten, Rose, Runs, ShowsFailures, SinkFacts, SourceFacts, Spot, State, Stops, fault_text, finding_lines, findings, listing_of, most, reads, spot_of, verdict_of}
use Rattle.np_check.specs.Report as report

-- a Text that was played again, and what is no Text

-- the bytes are the Text of this journal over the configuration, and it leads to the state
pub record IsTextOf (c : Configuration) (journal : List Entry) (s : State) (bytes : List ℕ) : Type 0 where
  pub printed : IsPrinted c journal bytes
  pub runs : Runs c journal s

-- how a message begins that says that the input is no Text, with the number of its first line at fault
unfoldable pub fault_head : ℕ → List ℕ
fault_head n = codes "poolsim-explain: no Text: line " ++ decimal n

-- the bytes are no Text, and the message begins with the number of the first line that shows it
pub record IsFaultOf (bytes message : List ℕ) : Type 0 where
  pub number : ℕ
  pub none : IsNoText bytes number
  pub rest : List ℕ
  pub told : message ≡ fault_head number ++ rest

-- what is answered to the bytes of an input

-- ## a Text

-- the bytes are the Text of a run, and this is an explanation of the state that it leads to, with its status (own)
pub record IsExplained (came text : List ℕ) (status : ℕ) : Type 0 where
  pub configuration : Configuration
  pub journal : List Entry
  pub state : State
  pub text_of : IsTextOf configuration journal state came
  pub explanation : IsExplanation configuration journal state text
  pub status_of : status ≡ status_of state

-- the tables of the state that the journal leads to (own)
pub record AreTables (c : Configuration) (journal : List Entry) (text : List ℕ) : Type 0 where
  pub state : State
  pub runs : Runs c journal state
  pub lines : text ≡ listing_of c state

-- the bytes are the Text of a run, and these are the tables of the state after so many of its entries (own)
pub record IsListed (entries : ℕ) (came text : List ℕ) : Type 0 where
  pub configuration : Configuration
  pub before : List Entry
  pub later : List Entry
  pub printed : IsPrinted configuration (before ++ later) came
  pub count : length before ≡ entries
  pub tables : AreTables configuration before text

-- the line that says that a Text has only so many entries
unfoldable pub few_line : ℕ → List ℕ
few_line n = codes "poolsim-explain: the Text's entries are only " ++ decimal n ++ codes "\n"

-- the bytes are the Text of a run of fewer entries, and the line says so
pub record HasFewer (entries : ℕ) (came line : List ℕ) : Type 0 where
  pub configuration : Configuration
  pub journal : List Entry
  pub printed : IsPrinted configuration journal came
  pub few : length journal < entries
  pub told : line ≡ few_line (length journal)

-- ## a configuration

-- the bytes are a configuration, and there is a line for all that will surprise in it
pub record IsChecked (came text : List ℕ) (status : ℕ) : Type 0 where
  pub configuration : Configuration
  pub read : reads came ≡ Ok configuration
  pub lines : text ≡ finding_lines configuration
  pub tells : status ≡ report.status_of (verdict_of (findings configuration))

-- the bytes are none, and the line begins with its first fault and a place in the bytes
pub record IsAtFault (came line : List ℕ) : Type 0 where
  pub fault : ConfigFault
  pub read : reads came ≡ Err fault
  pub at : ℕ
  pub spot : Spot
  pub within : at ≤ length came
  pub place : spot ≡ spot_of came at
  pub more : List ℕ
  pub told : line ≡ fault_text fault spot ++ more ++ 10 ∷ []

-- ## by what is asked

-- the text that is printed, with its status
abbrev pub Answers : Asked → List ℕ → List ℕ → ℕ → Type 0
Answers (Asked.Text Query.Explanation) came text status = IsExplained came text status
Answers (Asked.Text (Query.State entries)) came text status = (status ≡ 0) × IsListed entries came text
Answers Asked.Check came text status = IsChecked came text status

-- the line that says why nothing is printed, with its status
abbrev pub Refuses : Asked → List ℕ → List ℕ → ℕ → Type 0
Refuses (Asked.Text Query.Explanation) came line status = (status ≡ 3) × IsFaultOf came line
Refuses (Asked.Text (Query.State entries)) came line status =
    ((status ≡ 3) × IsFaultOf came line) ⊎ ((status ≡ 2) × HasFewer entries came line)
Refuses Asked.Check came line status = (status ≡ 3) × IsAtFault came line

-- one of these
abbrev pub Answered : Asked → List ℕ → CommandEnding → Type 0
Answered asked came (CommandEnding.Prints text status) = Answers asked came text.items status
Answered asked came (CommandEnding.Full text) = ⊥
Answered asked came (CommandEnding.Says line status) = Refuses asked came line.items status
Answered asked came CommandEnding.NoCommand = ⊥
Answered asked came CommandEnding.ReadFault = ⊥
Answered asked came CommandEnding.TooLong = ⊥
Answered asked came CommandEnding.NoMemory = ⊥

-- the status that belongs to the bytes
abbrev pub IsStatusOf : Asked → List ℕ → ℕ → Type 0
IsStatusOf asked came status =
    ((text : List ℕ) × Answers asked came text status) ⊎ ((line : List ℕ) × Refuses asked came line status)

-- what the streams and the status show

-- ## how the program may end

-- the source was read to its end, and this is the answer to its bytes
pub record IsAnswered (asked : Asked) (source source_now : SourceFacts) (text : List ℕ) (status : ℕ) : Type 0 where
  pub came : List ℕ
  pub input : IsInput source source_now came
  pub answers : Answers asked came text status

-- the source was read to its end, and the line says why there is no answer to its bytes
pub record IsRefused (asked : Asked) (source source_now : SourceFacts) (line : List ℕ) (status : ℕ) : Type 0 where
  pub came : List ℕ
  pub input : IsInput source source_now came
  pub refuses : Refuses asked came line status

-- by what came from the source
abbrev pub Ends : Asked → SourceFacts → SourceFacts → CommandEnding → Type 0
Ends asked source source_now (CommandEnding.Prints text status) = IsAnswered asked source source_now text.items status
Ends asked source source_now (CommandEnding.Full text) = ⊥
Ends asked source source_now (CommandEnding.Says line status) = IsRefused asked source source_now line.items status
Ends asked source source_now CommandEnding.NoCommand = ⊥
Ends asked source source_now CommandEnding.ReadFault = Stops source source_now CommandEnding.ReadFault
Ends asked source source_now CommandEnding.TooLong = Stops source source_now CommandEnding.TooLong
Ends asked source source_now CommandEnding.NoMemory = Unit {0}

-- ## the status that belongs to an input

-- 5 if it is too long, otherwise by its bytes
abbrev pub IsStatusIf : Asked → Bool → List ℕ → ℕ → Type 0
IsStatusIf asked true came status = status ≡ 5
IsStatusIf asked false came status = IsStatusOf asked came status

abbrev pub IsStatusOfInput : Asked → List ℕ → ℕ → Type 0
IsStatusOfInput asked came status = IsStatusIf asked (nat_lt most (length came)) came status

-- ## what the streams and the status show

pub record Explains {S K E : Type 0} (s : S → SourceFacts) (k : K → SinkFacts) (e : E → SinkFacts) (asked : Asked) (source source_now : S) (out out_now : K) (err err_now : E) (status : ℕ) : Type 0 where
  -- the program ended so, and out, err and the status show it
  pub ending : CommandEnding
  pub ends : Ends asked (s source) (s source_now) ending
  pub told : IsTold k e out out_now err err_now ending status
  -- status 0 or 1: the answer is on out, and nothing on err
  pub answer : (status ≡ 0) ⊎ (status ≡ 1) → (text : List ℕ) × IsAnswered asked (s source) (s source_now) text status
      × IsWritten (k out) (k out_now) text × (err_now ≡ err)
  -- status 2 or 3: why there is no answer is on err, and nothing on out
  pub refusal : (status ≡ 2) ⊎ (status ≡ 3) → (line : List ℕ) × IsRefused asked (s source) (s source_now) line status
      × IsWritten (e err) (e err_now) line × (out_now ≡ out)
  -- `read`, `write` and `memory`: statuses 5, 6 and 7
  pub failures : ShowsFailures s k e source source_now out out_now err err_now status
  -- the status is the input's, unless a stream failed or memory ran out
  pub complete : IfSome (s source).left (λ left. EndsSo (IsStatusOfInput asked left status) status
      (Rose (s source).faults (s source_now).faults)
      (Rose (k out).faults (k out_now).faults ⊎ Rose (e err).faults (e err_now).faults))
