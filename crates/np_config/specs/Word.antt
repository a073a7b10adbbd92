-- the words of what happens to a session when its fault is due: one for each
use Rattle.std.specs.Prelude.{ℕ, List, codes, Option}
use Rattle.std.specs.List.{find}
use Rattle.std.specs.Str.{bytes_eq}
use Rattle.np_config.specs.declared.row.FaultKind.{FaultKind}
use Rattle.np_config.specs.declared.row.FaultKind.TheVariants.{Expire, Crash, Stop}
use Rattle.np_config.specs.declared.row.TheConstants.FaultKind.{ALL as fault_kinds}

abbrev pub fault_kind_word : FaultKind → List ℕ
fault_kind_word Expire = codes "expire"
fault_kind_word Crash = codes "crash"
fault_kind_word Stop = codes "stop"

-- the kind of a word
abbrev pub fault_kind_of : List ℕ → Option FaultKind
fault_kind_of text = find (λ kind. bytes_eq text (fault_kind_word kind)) fault_kinds
