-- What the steps of a certificate leave for later ones.
use Rattle.std.specs.Prelude.{ℕ, ◌-◌, ◌==◌, Bool, false, ◌||◌, List, [], ◌∷◌, ◌++◌, ℤ, Option, Some, None, slice_index_or, slice_set, if◌then◌else◌, IsSome, unwrap_or, map, nat_eq, length}
use Rattle.fzn_domain.specs.declared.literal.Lit.{Lit}

pub record StepsPast : Type 0 where
  -- the clause of each step, by its number; none where the step was deleted or is itself a deletion
  pub clauses : List (Option (List Lit))
  -- the values of the solution steps, in order
  pub solutions : List (List ℤ)
  -- whether a step gave the empty clause
  pub refuted : Bool

-- before the first step
abbrev pub no_past : StepsPast
no_past = record { clauses = []; solutions = []; refuted = false }

-- the clause of the step with this number, where one is held; steps are numbered from 1
abbrev pub clause_held : StepsPast → ℕ → Option (List Lit)
clause_held past id = if id == 0 then None else slice_index_or past.clauses (id - 1) None

abbrev pub IsClauseHeld : StepsPast → ℕ → Type 0
IsClauseHeld past id = IsSome (clause_held past id)

abbrev pub clauses_held : StepsPast → List ℕ → List (List Lit)
clauses_held past ids = map (λ id. unwrap_or (clause_held past id) []) ids

abbrev pub is_empty_clause : List Lit → Bool
is_empty_clause clause = nat_eq (length clause) 0

-- after a step that gives a clause
abbrev pub after_clause : StepsPast → List Lit → StepsPast
after_clause past clause = record {
  clauses = past.clauses ++ Some clause ∷ [];
  solutions = past.solutions;
  refuted = past.refuted || is_empty_clause clause;
}

-- after a solution, with its cut
abbrev pub after_solution : StepsPast → List Lit → List ℤ → StepsPast
after_solution past cut values = record {
  clauses = past.clauses ++ Some cut ∷ [];
  solutions = past.solutions ++ values ∷ [];
  refuted = past.refuted || is_empty_clause cut;
}

-- the clauses without those with these numbers
abbrev pub without : List (Option (List Lit)) → List ℕ → List (Option (List Lit))
without clauses [] = clauses
without clauses (id ∷ ids) = without (slice_set clauses (id - 1) None) ids

-- after a deletion
abbrev pub after_deletion : StepsPast → List ℕ → StepsPast
after_deletion past ids = record {
  clauses = without past.clauses ids ++ None ∷ [];
  solutions = past.solutions;
  refuted = past.refuted;
}
