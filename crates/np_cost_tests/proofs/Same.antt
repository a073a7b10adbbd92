-- what is true of a state is true of one that is equal
use Rattle.std.proofs.Common.{◌≡◌, sym, subst}
use Rattle.np_changes.specs.Prelude.{Configuration, Fits, IsReached, State}

moved : (P : Configuration → State → Type 0) (c d : Configuration) (s t : State) → c ≡ d → s ≡ t → P d t → P c s
moved P c d s t same is here = subst (λ (x : Configuration). P x s) (sym same) (subst (λ (y : State). P d y) (sym is) here)

pub reached-same : (c d : Configuration) (s t : State) → c ≡ d → s ≡ t → IsReached d t → IsReached c s
reached-same = moved IsReached

pub fits-same : (c d : Configuration) (s t : State) → c ≡ d → s ≡ t → Fits d t → Fits c s
fits-same = moved Fits
