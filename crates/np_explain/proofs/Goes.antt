-- machines that go on
use Rattle.np_explain.proofs.Prelude.{Configuration, Counted, Entry, Event, GoesOn, IsPlayed, List, Ran, Reply, Running, Runs, Runs-first, RunsOn, answer_after, ap, append-nil, append_assoc, applied_after, arith, counted, has_room_after, judge, length, length-append, nat_lt, nat_tests, next, ran_of, refl, reply_of, subst, sym, true, ℕ, [], ◌++◌, ◌+◌, ◌<◌, ◌∙◌, ◌∷◌, ◌≡◌, ◌≤◌}

-- the entry that an event adds
abbrev pub entry_of : Ran → Event → Entry
entry_of r e = record { event = e; reply = reply_of (judge r.configuration r.state e) }

applied-room : (earlier : ℕ) (r : Ran) (e : Event) → has_room_after earlier r ≡ true → applied_after earlier r e ≡ record r { journal = r.journal ++ entry_of r e ∷ []; state = next r.configuration r.state e }
applied-room earlier r e room = rw room refl

answer-room : (earlier : ℕ) (r : Ran) (e : Event) → has_room_after earlier r ≡ true → answer_after earlier r e ≡ reply_of (judge r.configuration r.state e)
answer-room earlier r e room = rw room refl

module _ {S : Type 0} where
  -- by nothing
  pub GoesOn-none : (m : Running S) → GoesOn m m 0
  GoesOn-none m = record { configuration = refl; more = []; journal = sym (append-nil m.journal); count = refl }

  -- by one and then by others
  pub GoesOn-join : (m n o : Running S) (i j : ℕ) → GoesOn m n i → GoesOn n o j → GoesOn m o (i + j)
  GoesOn-join m n o i j first second = record {
    configuration = second.configuration ∙ first.configuration;
    more = first.more ++ second.more;
    journal = second.journal ∙ ap (λ (es : List Entry). es ++ second.more) first.journal ∙ append_assoc m.journal first.more second.more;
    count = omega (arith, length-append first.more second.more, first.count, second.count);
  }

  -- an event that happened where there was room is one more entry
  module _ (m n : Running S) (e : Event) (first : m.earlier ≡ 0) (room : length m.journal < 262144) where
    fits : nat_lt (m.earlier + length m.journal) 262144 ≡ true
    fits = grind (arith, nat_tests)

    pub applied : ran_of n ≡ applied_after m.earlier (ran_of m) e → ran_of n ≡ record (ran_of m) { journal = m.journal ++ entry_of (ran_of m) e ∷ []; state = next m.configuration m.state e }
    applied is = is ∙ applied-room m.earlier (ran_of m) e fits

    pub GoesOn-applied : ran_of n ≡ applied_after m.earlier (ran_of m) e → GoesOn m n 1
    GoesOn-applied is = record {
      configuration = ap (λ (r : Ran). r.configuration) (applied is);
      more = entry_of (ran_of m) e ∷ [];
      journal = ap (λ (r : Ran). r.journal) (applied is);
      count = refl;
    }

    -- and is counted
    pub IsPlayed-applied : (reply : Reply) (before after : Counted) → ran_of n ≡ applied_after m.earlier (ran_of m) e → n.earlier ≡ m.earlier → reply ≡ answer_after m.earlier (ran_of m) e →
        RunsOn n.configuration n.earlier n.journal n.state → IsPlayed m before →
        ((journal : List Entry) → Runs n.configuration (journal ++ record { event = e; reply = reply } ∷ []) n.state → before ≡ counted n.configuration journal → after ≡ counted n.configuration (journal ++ record { event = e; reply = reply } ∷ [])) → IsPlayed n after
    IsPlayed-applied reply before after is same answer on played notes =
        let replied : reply ≡ reply_of (judge m.configuration m.state e) = answer ∙ answer-room m.earlier (ran_of m) e fits in
        let configuration : n.configuration ≡ m.configuration = ap (λ (r : Ran). r.configuration) (applied is) in
        let journal : n.journal ≡ m.journal ++ record { event = e; reply = reply } ∷ [] = ap (λ (r : Ran). r.journal) (applied is) ∙ ap (λ (r : Reply). m.journal ++ record { event = e; reply = r } ∷ []) (sym replied) in
        let none : n.earlier ≡ 0 = same ∙ first in
        record {
          first = none;
          counts = subst (λ (es : List Entry). after ≡ counted n.configuration es) (sym journal)
              (notes m.journal (subst (λ (es : List Entry). Runs n.configuration es n.state) journal (Runs-first n.configuration n.earlier n.journal n.state none on))
              (played.counts ∙ ap (λ (c : Configuration). counted c m.journal) (sym configuration)));
        }
