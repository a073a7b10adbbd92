use Rattle.np_config_read.proofs.Prelude.{ConfigFault, ConfigRead, Data, Fails, Label, List, Ok, Result, ap, binds, err_from_is_err_and, fault_of, label_at, label_keys, label_row, named_at, ok, pointer_to, refl, sym, view, ℕ, [], ◌++◌, ◌>>=◌, ◌∙◌, ◌∷◌, ◌≡◌}
use Rattle.np_config_read.proofs.labels.TableLabelRowsAlone.read.Goals as goal

module _ (at : List ℕ) (s : List Label) (d : Data) where
  abbrev named : Result (List ℕ) ConfigFault
  named = named_at (λ (l : Label). l.name) label_keys at s d

  abbrev put : Label → Result (List Label) ConfigFault
  put l = ok (s ++ l ∷ [])

  at_name : (e : ConfigRead) → Fails e (fault_of named) → Fails e (fault_of (label_at at s d))
  unfolding label_at
  at_name e fails = binds e named (λ name. label_row at name d >>= put) fails

  at_row : (name : List ℕ) → named ≡ Ok name → (e : ConfigRead) → Fails e (fault_of (label_row at name d)) → Fails e (fault_of (label_at at s d))
  unfolding label_at
  at_row name is e fails = rw is (binds e (label_row at name d) put fails)

  at_end : (name : List ℕ) → named ≡ Ok name → (l : Label) → label_row at name d ≡ Ok l → label_at at s d ≡ put l
  unfolding label_at
  at_end name is l row = rw (is, row) refl

pub returns-in_err-at-clause-read : goal.returns-in_err-at-clause-read
returns-in_err-at-clause-read c =
    let p = err_from_is_err_and c.from_residual.result c.from_residual.ensures.1 in
    rw (p.1, p.2) (at_name (pointer_to c.args.place) c.args.self.now (view c.args.value.now) _ c.in_err-at.ensures.gives)

pub returns-in_err-label-clause-read : goal.returns-in_err-label-clause-read
returns-in_err-label-clause-read c =
    let p = err_from_is_err_and c.from_residual-in_err-label.result c.from_residual-in_err-label.ensures.1 in
    let here : c.as_slice.result.now ≡ pointer_to c.args.place = c.as_slice.ensures.value ∙ c.in_ok-at.ensures.at in
    let fails = rw here at c.in_err-label.ensures.gives in
    rw (p.1, p.2) (at_row (pointer_to c.args.place) c.args.self.now (view c.args.value.now) _ c.in_ok-at.ensures.gives _ fails)

pub returns-clause-read : goal.returns-clause-read
returns-clause-read c =
    let here : c.as_slice.result.now ≡ pointer_to c.args.place = c.as_slice.ensures.value ∙ c.in_ok-at.ensures.at in
    let row = rw here at c.in_ok-label.ensures.gives in
    at_end (pointer_to c.args.place) c.args.self.now (view c.args.value.now) _ c.in_ok-at.ensures.gives _ row ∙ ap ok (sym c.in_ok-push.ensures.ok)
