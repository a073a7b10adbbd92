-- what a crew did in a round
use Rattle.std.specs.Prelude.{◌≡◌, ◌+◌, length, ℕ, Bool, List, [], ◌∷◌, IfOk, Result}
use Rattle.np_rounds.specs.declared.crew.Crew.{Crew}
use Rattle.np_rounds.specs.declared.crew.CrewEnd.{CrewEnd}
use Rattle.np_rounds.specs.Crews.{Seat, Plan}
use Rattle.np_rounds.specs.Lower.{Configuration, DeskView, DriverFacts, EndsAs, Entry, IsOf, NoMemory, Part, RoundEnd, Worker, answers_of, driving_of, first_phase, sight_of, work_of}

-- two lists are equally long, and so related place by place (own)
abbrev pub Pairwise : {A B : Type 0} → (A → B → Type 0) → List A → List B → Type 0
Pairwise R [] [] = Unit {0}
Pairwise R [] (y ∷ ys) = ⊥
Pairwise R (x ∷ xs) [] = ⊥
Pairwise R (x ∷ xs) (y ∷ ys) = R x y × Pairwise R xs ys

module _ (plans : Bool) {D : Type 0} (facts : D → DriverFacts) (plan : D → Plan) (sound : D → List ℕ → Bool) (room : D → ℕ) where
  -- the worker played a round at the desk through the pass, with planned events or without, and this
  -- is left of both (own)
  pub record Plays (desk : DeskView Configuration Entry) (worker : Worker D) (pass : Seat) (worker' : Worker D) (pass' : Seat) (end : Result RoundEnd NoMemory) : Type 0 where
    pub own : IsOf pass' desk
    pub part : pass'.part ≡ pass.part
    pub work : work_of worker' ≡ work_of worker
    pub round : let before = driving_of facts plan sound room worker in let now = driving_of facts plan sound room worker' in
        Part (answers_of plans) desk.origin.fixed (first_phase (work_of worker))
        (sight_of pass) (sight_of pass') before now (EndsAs (work_of worker) before now end)
    pub entries : IfOk end (λ e. length pass'.mine ≡ length pass.mine + e.entries)

  -- the crew did (own)
  abbrev pub CrewPlays : DeskView Configuration Entry → Crew D Seat → CrewEnd D Seat → Type 0
  CrewPlays desk crew e = Plays desk crew.worker crew.pass e.crew.worker e.crew.pass e.end
