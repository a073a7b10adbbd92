-- the lines of a journal, one entry after another
use Rattle.np_explain.proofs.Prelude.{AllByRecursion, Entry, HasEventLine, List, all-push, get_or, length, subst, sym, take, take_more, ℕ, ◌+◌, ◌<◌, ◌≡◌}

pub all_next : (journal : List Entry) (i : ℕ) (e : Entry) → i < length journal → HasEventLine (get_or journal i e).event
    → AllByRecursion (λ (x : Entry). HasEventLine x.event) (take i journal) → AllByRecursion (λ (x : Entry). HasEventLine x.event) (take (i + 1) journal)
all_next journal i e within has all =
    subst (λ (es : List Entry). AllByRecursion (λ (x : Entry). HasEventLine x.event) es) (sym (take_more journal i e within))
    (all-push (λ (x : Entry). HasEventLine x.event) (take i journal) (get_or journal i e) all has)
