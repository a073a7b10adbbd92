-- the order in which launchers take requests up
use Rattle.std.proofs.Common.{◌≡◌, arith, true, false, refl}
use Rattle.std.specs.Prelude.{Bool, nat_lt, ◌==◌, ◌&&◌, if◌then◌else◌}
use Rattle.std.proofs.lemmas.Bool.Decides.{nat_tests}
use Rattle.np_lookups.specs.declared.ranks.Rank.{Rank}
use Rattle.np_lookups.specs.Lower.{same_request}

-- by priority, then relative priority, then sequence
abbrev pub is_rank_before : Rank → Rank → Bool
is_rank_before a b =
    if a.request.priority == b.request.priority
    then (if a.relative == b.relative then nat_lt a.request.seq b.request.seq else nat_lt a.relative b.relative)
    else nat_lt a.request.priority b.request.priority

abbrev pub same_rank : Rank → Rank → Bool
same_rank a b = same_request a.request b.request && (a.relative == b.relative)

pub rank_transitive : (a b k : Rank) → is_rank_before a b ≡ true → is_rank_before b k ≡ true → is_rank_before a k ≡ true
rank_transitive a b k first second = grind (arith, nat_tests)

pub rank_one_way : (a b : Rank) → is_rank_before a b ≡ true → is_rank_before b a ≡ false
rank_one_way a b first = grind (arith, nat_tests)

pub rank_some_way : (a b : Rank) → is_rank_before a b ≡ false → same_rank a b ≡ false → is_rank_before b a ≡ true
rank_some_way a b past other = grind (arith, nat_tests)

pub rank_equal : (a b : Rank) → same_rank a b ≡ true → a ≡ b
rank_equal a b same =
    let priority : a.request.priority ≡ b.request.priority = grind (arith, nat_tests) in
    let seq : a.request.seq ≡ b.request.seq = grind (arith, nat_tests) in
    let relative : a.relative ≡ b.relative = grind (arith, nat_tests) in
    let rank : record { request = record { priority = a.request.priority; seq = a.request.seq }; relative = a.relative } ≡ record { request = record { priority = b.request.priority; seq = b.request.seq }; relative = b.relative } = rw (priority, seq, relative) refl in
    rank
