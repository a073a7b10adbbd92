-- how a fact goes through an effect, and through a step
use Rattle.np_machine.proofs.Prelude.{Answer, Configuration, Done, Err, Event, None, Ok, Option, Refusal, Result, Some, State, acting, after_found, after_given, effect, judge, next, refl, with_act, ◌≡◌}

pub after_found-keeps : {A : Type 0} (P : State → Type 0) (o : Option A) (s : State) (f : A → State) → P s → ((a : A) → o ≡ Some a → P (f a)) → P (after_found o s f)
after_found-keeps P None s f old new = old
after_found-keeps P (Some a) s f old new = new a refl

pub after_given-keeps : {A : Type 0} (P : State → Type 0) (o : Result A Refusal) (s : State) (f : A → State) → P s → ((a : A) → o ≡ Ok a → P (f a)) → P (after_given o s f)
after_given-keeps P (Err why) s f old new = old
after_given-keeps P (Ok a) s f old new = new a refl

-- what holds before holds after, if it does after each accepted event
next-keeps-by : (P : State → Type 0) (c : Configuration) (s : State) (e : Event) (a : Answer) → judge c s e ≡ a → P s → ((what : Done) → judge c s e ≡ Ok what → P (with_act (acting s e) (effect c s e))) → P (next c s e)
next-keeps-by P c s e (Ok what) is old new = rw is (new what is)
next-keeps-by P c s e (Err why) is old new = rw is old

pub next-keeps : (P : State → Type 0) (c : Configuration) (s : State) (e : Event) → P s → ((what : Done) → judge c s e ≡ Ok what → P (with_act (acting s e) (effect c s e))) → P (next c s e)
next-keeps P c s e old new = next-keeps-by P c s e (judge c s e) refl old new
