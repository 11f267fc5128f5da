-- What is held and learned, and what each call makes of a search between two conflicts.
use Rattle.std.specs.Prelude.{◌≡◌, ◌≢◌, ℕ, ◌+◌, ◌^◌, ◌<◌, ◌≤◌, List, [], ◌∷◌, ◌++◌, length, Option, Some, None, take}
use Rattle.fzn_domain.specs.declared.literal.Lit.{Lit}
use Rattle.fzn_meaning.specs.declared.model.Model.{Model}
use Rattle.fzn_cert.specs.declared.step.Step.{Step}
use Rattle.fzn_cert.specs.declared.step.Step.TheVariants.{Resolve}
use Rattle.fzn_cert.specs.Accepted.{IsAccepted, past_after}
use Rattle.fzn_trail.specs.declared.trail.Antecedent.{Antecedent}
use Rattle.fzn_clauses.specs.Watching.{held_by}
use Rattle.fzn_strategy.specs.declared.learn.Learn.TheVariants.{First}
use Rattle.fzn_learned.specs.declared.learned.Learned.{Learned}
use Rattle.fzn_learned.specs.Reasoned.{IsBelow}
use Rattle.fzn_state.specs.State.{with_held}
use Rattle.fzn_state.specs.Certified.{count, IsRunCertified, HasEmptyClause}
use Rattle.fzn_state.specs.declared.learning.Lesson.{Lesson}
use Rattle.fzn_state.specs.declared.solver.Solver.{Solver}
use Rattle.fzn_state.specs.Search.{stock_of, IsAfter, tally_of, work_of}
use Rattle.fzn_state.specs.Antecedents.{AreInferencesWritten, Learns}
use Rattle.std.specs.List.{All}
use Rattle.fzn_trail.specs.declared.trail.Entry.{Entry}
use Rattle.fzn_clauses.specs.Kept.{KeepsWatching}

-- the clause of the next step is held
pub record Holds (clause : List Lit) (old new : Solver) : Type 0 where
  pub stock : stock_of new ≡ with_held clause (old.steps + 1) (stock_of old)
  pub keeps : KeepsWatching old.clauses new.clauses
  pub trail : new.trail ≡ old.trail
  pub search : new.search ≡ old.search
  pub scratch : new.scratch ≡ old.scratch
  pub learn : new.learn ≡ old.learn
  pub found : new.found ≡ old.found
  pub steps : new.steps ≡ old.steps + 1

-- of the inferences at least those stand that entries rest on
pub record HasDropped (old new : Solver) : Type 0 where
  pub count : ℕ
  pub enough : All (λ (entry : Entry). IsBelow count entry.reason) old.trail.entries
  pub is : new ≡ record old { inferences = take count old.inferences; notes = new.notes }

-- what serves later conflicts alone may differ
abbrev pub IsNoted : Solver → Solver → Type 0
IsNoted old new = new ≡ record old { notes = new.notes }

-- nothing is left
pub record LeavesNothing (model : Model) (old new : Solver) (steps : List Step) : Type 0 where
  pub certified : IsRunCertified model old.learn steps new.search.nodes
  pub refuted : HasEmptyClause model steps
  pub tally : tally_of new ≡ tally_of old
  pub found_is : new.found ≡ count model steps

-- a clause was learned from a conflict and written: it is empty and nothing is left, or it is held, and nothing else was changed
pub record HasLearned (model : Model) (first : List Step) (old new : Solver) (steps : List Step) (conflict : Antecedent) (lesson : Lesson) : Type 0 where
  pub mid : Solver
  pub before : List Step
  pub learned : Learned
  pub numbers : List ℕ
  pub written : AreInferencesWritten model first old mid before
  pub learns : Learns model mid before conflict learned numbers
  pub now_is : steps ≡ before ++ Resolve learned.clause numbers ∷ []
  pub few : length steps < 10 ^ 18
  pub some : learned.clause ≢ []
  pub holds : Holds learned.clause mid new
  pub newest : lesson.id.0 ≡ length (held_by mid.clauses)
  pub level : lesson.level ≡ learned.level

abbrev pub Teaches : Model → List Step → Solver → Solver → List Step → Antecedent → Option Lesson → Type 0
Teaches model first old new steps conflict None = LeavesNothing model old new steps
Teaches model first old new steps conflict (Some lesson) = HasLearned model first old new steps conflict lesson

-- no literal was decided, and no more work is left
pub record IsStateKept (model : Model) (steps : List Step) (old new : Solver) : Type 0 where
  pub state : IsAfter model new steps
  pub less : (limit : ℕ) → work_of limit new ≤ work_of limit old
  pub tally : tally_of new ≡ tally_of old

-- steps may have been written and clauses held or forgotten, and nothing else was changed
pub record IsReduced (model : Model) (old new : Solver) (steps : List Step) : Type 0 where
  pub state : IsAfter model new steps
  pub trail : new.trail ≡ old.trail
  pub tally : tally_of new ≡ tally_of old

-- once the step is written that gives this clause, nothing else was changed
abbrev pub HoldsNext : Model → List Lit → List Step → Solver → Solver → Type 0
HoldsNext model clause steps old new =
    (ids : List ℕ) → old.learn ≡ First → IsAfter model old steps → IsAccepted model (past_after model steps) (Resolve clause ids)
    → length steps + 1 < 10 ^ 18 → IsReduced model old new (steps ++ Resolve clause ids ∷ [])
