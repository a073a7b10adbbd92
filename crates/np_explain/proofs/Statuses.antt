-- what each status of the program shows
use Rattle.np_explain.proofs.Prelude.{Answers, Asked, Bool, Ending, Ends, Explains, Finding, HasOwn, IsAnswered, IsInput, IsRefused, IsStatusIf, IsTold, IsWritten, List, Query, Refuses, ShowsOwn, SinkFacts, SourceFacts, arith, complete-read, false, findings, if◌then◌else◌, inl, inr, is_open, list_any, refl, status_of, tells, true, verdict_of, ℕ, [], ◌<◌, ◌∙◌, ◌∷◌, ◌≡◌, ◌⊎◌}
use Rattle.np_check.specs.Report as report

-- ## the statuses of an answer and of a refusal

one-of : (b : Bool) (n : ℕ) → n ≡ (if b then 1 else 0) → (n ≡ 0) ⊎ (n ≡ 1)
one-of true n is = inr is
one-of false n is = inl is

of-verdict : (fs : List Finding) (n : ℕ) → n ≡ report.status_of (verdict_of fs) → (n ≡ 0) ⊎ (n ≡ 1)
of-verdict [] n is = inl is
of-verdict (f ∷ fs) n is = inr is

answer-status : (a : Asked) (came text : List ℕ) (n : ℕ) → Answers a came text n → (n ≡ 0) ⊎ (n ≡ 1)
answer-status (Asked.Text Query.Explanation) came text n answers = one-of (list_any is_open answers.state.jobs) n answers.status_of
answer-status (Asked.Text (Query.State entries)) came text n answers = inl answers.0
answer-status Asked.Check came text n answers = of-verdict (findings answers.configuration) n answers.tells

either : (A B : Type 0) (n : ℕ) → ((n ≡ 3) × A) ⊎ ((n ≡ 2) × B) → (n ≡ 2) ⊎ (n ≡ 3)
either A B n (inl three) = inr three.0
either A B n (inr two) = inl two.0

refusal-status : (a : Asked) (came line : List ℕ) (n : ℕ) → Refuses a came line n → (n ≡ 2) ⊎ (n ≡ 3)
refusal-status (Asked.Text Query.Explanation) came line n refuses = inr refuses.0
refusal-status (Asked.Text (Query.State entries)) came line n refuses = either _ _ n refuses
refusal-status Asked.Check came line n refuses = inr refuses.0

few : (n a b : ℕ) → a < 5 → b < 5 → (n ≡ a) ⊎ (n ≡ b) → n < 5
few n a b least most (inl is) = omega (arith, is)
few n a b least most (inr is) = omega (arith, is)

apart : (n : ℕ) → (n ≡ 0) ⊎ (n ≡ 1) → (n ≡ 2) ⊎ (n ≡ 3) → ⊥
apart n (inl zero) (inl two) = absurd (omega (arith, zero, two))
apart n (inl zero) (inr three) = absurd (omega (arith, zero, three))
apart n (inr one) (inl two) = absurd (omega (arith, one, two))
apart n (inr one) (inr three) = absurd (omega (arith, one, three))

-- 0 to 3 are statuses of its own
own : (a : Asked) (source source_now : SourceFacts) → HasOwn (Ends a source source_now)
own a source source_now = record {
  command = λ ends. ends;
  prints = λ text n ends. inl (few n 0 1 (omega arith) (omega arith) (answer-status a ends.came text.items n ends.answers));
  says = λ line n ends. inl (few n 2 3 (omega arith) (omega arith) (refusal-status a ends.came line.items n ends.refuses));
}

-- the status that belongs to an input is known by whether it is too long
abbrev Right : Asked → ℕ → Bool → List ℕ → Type 0
Right a status long came = IsStatusIf a long came status

module _ {S K E : Type 0} (s : S → SourceFacts) (k : K → SinkFacts) (e : E → SinkFacts) (a : Asked) (source source_now : S) (out out_now : K) (err err_now : E) (status : ℕ) where
  abbrev Own : Type 0
  Own = ShowsOwn (Ends a (s source) (s source_now)) k e out out_now err err_now status

  answer-of : Own → (status ≡ 0) ⊎ (status ≡ 1) → (text : List ℕ) × IsAnswered a (s source) (s source_now) text status × IsWritten (k out) (k out_now) text × (err_now ≡ err)
  answer-of (inl printed) few = (printed.text.items, printed.ends, printed.whole, printed.quiet)
  answer-of (inr (inl filled)) few = absurd filled.ends
  answer-of (inr (inr said)) few = absurd (apart status few (refusal-status a said.ends.came said.chosen.items status said.ends.refuses))

  refusal-of : Own → (status ≡ 2) ⊎ (status ≡ 3) → (line : List ℕ) × IsRefused a (s source) (s source_now) line status × IsWritten (e err) (e err_now) line × (out_now ≡ out)
  refusal-of (inl printed) many = absurd (apart status (answer-status a printed.ends.came printed.text.items status printed.ends.answers) many)
  refusal-of (inr (inl filled)) many = absurd filled.ends
  refusal-of (inr (inr said)) many = (said.chosen.items, said.ends, said.whole, said.untouched)

  by_input : Own → (came : List ℕ) × IsInput (s source) (s source_now) came × Right a status false came
  by_input (inl printed) = (printed.ends.came, printed.ends.input, inl (printed.text.items, printed.ends.answers))
  by_input (inr (inl filled)) = absurd filled.ends
  by_input (inr (inr said)) = (said.ends.came, said.ends.input, inr (said.chosen.items, said.ends.refuses))

  -- an ending that the streams show explains the input
  pub explains : (end : Ending) → Ends a (s source) (s source_now) end → IsTold k e out out_now err err_now end status → Explains s k e a source source_now out out_now err err_now status
  explains end ends told =
      let all = tells (Ends a (s source) (s source_now)) k e out out_now err err_now status (own a (s source) (s source_now)) end ends told in
      record {
        ending = end;
        ends = ends;
        told = told;
        answer = λ zero. answer-of (all.own (inl (few status 0 1 (omega arith) (omega arith) zero))) zero;
        refusal = λ two. refusal-of (all.own (inl (few status 2 3 (omega arith) (omega arith) two))) two;
        failures = record { read = all.read; write = all.write; memory = all.memory };
        complete = complete-read (Ends a (s source) (s source_now)) k e out out_now err err_now status (s source) (s source_now) (Right a status)
            by_input (λ left five. five) (λ rose. rose) (λ long. long) all (s source).left refl;
      }
