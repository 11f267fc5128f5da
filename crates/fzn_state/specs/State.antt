-- What holds at each moment of a search.
use Rattle.std.specs.Prelude.{◌≡◌, ℕ, ◌+◌, ◌-◌, ◌*◌, ◌≤◌, Bool, true, List, [], ◌∷◌, ◌++◌, map, take, length, slice_index_or, slice_set, Some, IfSome}
use Rattle.std.specs.List.{All}
use Rattle.fzn_domain.specs.declared.literal.Lit.{Lit}
use Rattle.fzn_domain.specs.IntSet.{IntSet}
use Rattle.fzn_domain.specs.Narrow.{IsClauseOver, NoneEmpty}
use Rattle.fzn_meaning.specs.declared.model.Model.{Model}
use Rattle.fzn_meaning.specs.Solutions.{declared_sets, cut_of}
use Rattle.fzn_cert.specs.declared.step.Step.{Step}
use Rattle.fzn_cert.specs.Accepted.{AllAccepted, past_after}
use Rattle.fzn_cert.specs.Past.{StepsPast, clause_held, IsClauseHeld as IsGiven}
use Rattle.fzn_propagator.specs.declared.inferences.Inferred.{Inferred}
use Rattle.fzn_propagator.specs.Constraints.{IsInferenceJustified}
use Rattle.fzn_propagator.specs.Inferences.{inference_at, inferred_clause, with_number}
use Rattle.fzn_trail.specs.declared.trail.ClauseId.{ClauseId}
use Rattle.fzn_trail.specs.Levels.{Levels}
use Rattle.fzn_clauses.specs.Held.{Held, IsHeld, AllHeld, at_number, clause_of}
use Rattle.fzn_strategy.specs.declared.learn.Learn.{Learn}
use Rattle.fzn_strategy.specs.declared.learn.Learn.TheVariants.{Plain}
use Rattle.fzn_learned.specs.Reasoned.{Known, known_from, IsReasoned, Open, opens}
use Rattle.fzn_reduction.specs.declared.written.Given.{Given}
use Rattle.fzn_reduction.specs.Forgetting.{is_cut}
use Rattle.fzn_state.specs.Volume.{volume, slack}
use Rattle.fzn_state.specs.Learned.{resolved, FreshAfter, HasCertain, LevelsBacked, left_open}

-- the clauses that a search has: those that it holds, with the numbers of their steps and flags of those that are cuts, its
-- inferences and those that were written, and the numbers of the steps that may be deleted once nothing of it is theirs
pub record Stock : Type 0 where
  pub held : Held
  pub numbers : List ℕ
  pub cuts : List Bool
  pub stack : List Inferred
  pub written : List Given
  pub alive : List ℕ

abbrev pub known_in : Stock → Known
known_in stock = known_from stock.held stock.stack

-- one more held clause, which the step of this number gives
abbrev pub with_clause : List Lit → ℕ → Stock → Stock
with_clause clause number stock = record stock { held = stock.held ++ Some clause ∷ []; numbers = stock.numbers ++ number ∷ [] }

-- so with a new step
abbrev pub with_held : List Lit → ℕ → Stock → Stock
with_held clause number stock = record (with_clause clause number stock) { alive = stock.alive ++ number ∷ [] }

-- other flags of those that are cuts
abbrev pub with_cuts : List Bool → Stock → Stock
with_cuts cuts stock = record stock { cuts = cuts }

-- one more inference
abbrev pub with_inference : Inferred → Stock → Stock
with_inference it stock = record stock { stack = stock.stack ++ it ∷ [] }

-- the inference at this place is given by the step of this number
abbrev pub with_given : ℕ → ℕ → Stock → Stock
with_given place number stock = record stock { stack = slice_set stock.stack place (with_number number (inference_at stock.stack place)) }

-- and was written as this step
abbrev pub with_step : ℕ → ℕ → Stock → Stock
with_step place number stock = record (with_given place number stock) {
  written = stock.written ++ record { clause = inferred_clause stock.stack place; number = number } ∷ [];
  alive = stock.alive ++ number ∷ [];
}

-- so many inferences left
abbrev pub with_stack : ℕ → Stock → Stock
with_stack count stock = record stock { stack = take count stock.stack }

-- the steps of these numbers give these clauses
abbrev pub Give : StepsPast → List ℕ → List (List Lit) → Type 0
Give past numbers clauses = map (clause_held past) numbers ≡ map Some clauses

-- the step of each held clause's number gives it
pub record AreNumbered (past : StepsPast) (numbers : List ℕ) (held : Held) : Type 0 where
  pub one_each : length numbers ≡ length held
  pub gives :
      (id : ClauseId) → IsHeld held id
      → clause_held past (slice_index_or numbers id.0 0) ≡ Some (clause_of held id)

-- the inference's step would be accepted whatever steps stand before it, and where it was written its step gives its clause
pub record IsInferredJustified (model : Model) (past : StepsPast) (it : Inferred) : Type 0 where
  pub stands : IsInferenceJustified model it.inference
  pub open stands use *
  pub written : IfSome it.number (λ n. clause_held past n ≡ Some it.inference.clause)

-- the step of its number gives the clause of a written inference
abbrev pub IsGivenBy : Model → StepsPast → Given → Type 0
IsGivenBy model past it = IsClauseOver (length model.vars) it.clause × (clause_held past it.number ≡ Some it.clause)

-- the clause is held under a number that has the flag of cuts
abbrev pub IsHeldCut : Held → List Bool → List Lit → Type 0
IsHeldCut held cuts clause = (id : ClauseId) × (is_cut cuts id ≡ true) × (at_number held id ≡ Some clause)

-- what holds of the clauses that a search over this many variables has
pub record IsStocked (model : Model) (past : StepsPast) (variables : ℕ) (stock : Stock) : Type 0 where
  -- each held clause has the number of its step, and each inference is justified
  pub numbered : AreNumbered past stock.numbers stock.held
  pub justified : All (IsInferredJustified model past) stock.stack
  -- each written clause is given by its step
  pub written : All (IsGivenBy model past) stock.written
  -- each step that may be deleted gives a clause
  pub alive : All (IsGiven past) stock.alive
  -- the cut of each solution is held as one
  pub cuts_held : All (λ values. IsHeldCut stock.held stock.cuts (cut_of model values)) past.solutions
  pub held_over : AllHeld (IsClauseOver variables) stock.held

-- what holds in both ways of learning
pub record CoreOf (model : Model) (stock : Stock) (steps : List Step) (trail : Levels) (nodes : ℕ) : Type 0 where
  pub declared : trail.declared ≡ declared_sets model.vars
  pub filled : NoneEmpty trail.declared
  pub accepted : AllAccepted model steps
  pub stocked : IsStocked model (past_after model steps) (length trail.declared) stock
  pub open stocked use *
  -- each entry of the trail has its reason
  pub reasoned : IsReasoned (known_in stock) trail
  pub nodes_by_conflicts : nodes + slack trail.sets ≤ (length (resolved steps) + 1) * slack trail.declared

-- what plain learning keeps beside it, from the declared sets to the present ones through the decisions that stand
pub record PlainOf (declared sets : List IntSet) (taken : List Open) (learned : List (List Lit)) (nodes : ℕ) : Type 0 where
  pub fresh : FreshAfter declared [] learned
  pub backed : All (HasCertain (length declared) sets) learned
  pub levels_backed : LevelsBacked (length declared) learned taken
  pub nodes_by_parts : nodes + (volume sets - 1) + left_open taken ≤ volume declared - 1

pub record StateOf (model : Model) (learn : Learn) (stock : Stock) (steps : List Step) (trail : Levels) (nodes : ℕ) : Type 0 where
  pub core : CoreOf model stock steps trail nodes
  pub plain : learn ≡ Plain → PlainOf trail.declared trail.sets (opens trail.declared trail.entries) (resolved steps) nodes
