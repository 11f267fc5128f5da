-- The antecedents of clauses that are learned, and the steps that give them.
use Rattle.std.specs.Prelude.{◌≡◌, ℕ, List, map, Some}
use Rattle.fzn_domain.specs.declared.literal.Lit.{Lit}
use Rattle.fzn_meaning.specs.declared.model.Model.{Model}
use Rattle.fzn_cert.specs.declared.step.Step.{Step}
use Rattle.fzn_cert.specs.Accepted.{past_after}
use Rattle.fzn_cert.specs.Past.{StepsPast, clause_held}
use Rattle.fzn_strategy.specs.declared.learn.Learn.TheVariants.{Plain}
use Rattle.fzn_trail.specs.declared.trail.Antecedent.{Antecedent}
use Rattle.fzn_learned.specs.declared.learned.Learned.{Learned}
use Rattle.fzn_learned.specs.Learned.{IsDerived, IsLearned, IsPlain}
use Rattle.fzn_learned.specs.Reasoned.{Known, antecedent_clause}
use Rattle.fzn_state.specs.State.{known_in, Give}
use Rattle.fzn_state.specs.declared.solver.Solver.{Solver}
use Rattle.fzn_state.specs.Search.{stock_of, IsAfter, tally_of}

-- the steps of these numbers give the clauses of these antecedents
abbrev pub GiveAntecedents : StepsPast → Known → List ℕ → List Antecedent → Type 0
GiveAntecedents past known numbers antecedents = Give past numbers (map (antecedent_clause known) antecedents)

-- each number that gave a clause after the first steps gives it after the others
abbrev pub StillGive : Model → List Step → List Step → Type 0
StillGive model before steps =
    (n : ℕ) (clause : List Lit) → clause_held (past_after model before) n ≡ Some clause → clause_held (past_after model steps) n ≡ Some clause

-- inferences were written, and nothing else was changed
pub record AreInferencesWritten (model : Model) (before : List Step) (old new : Solver) (steps : List Step) : Type 0 where
  pub state : IsAfter model new steps
  pub kept : StillGive model before steps
  pub known : known_in (stock_of new) ≡ known_in (stock_of old)
  pub trail : new.trail ≡ old.trail
  pub tally : tally_of new ≡ tally_of old

-- a clause follows from its antecedents, and the steps of these numbers give the clauses of the antecedents
pub record Derives (model : Model) (solver : Solver) (steps : List Step) (learned : Learned) (numbers : List ℕ) : Type 0 where
  pub state : IsAfter model solver steps
  pub derived : IsDerived (known_in (stock_of solver)) solver.trail.declared learned
  pub give : GiveAntecedents (past_after model steps) (known_in (stock_of solver)) numbers learned.antecedents

-- and is learned from a conflict
pub record Learns (model : Model) (solver : Solver) (steps : List Step) (conflict : Antecedent) (learned : Learned) (numbers : List ℕ) : Type 0 where
  pub derives : Derives model solver steps learned numbers
  pub open derives use *
  pub is : IsLearned (known_in (stock_of solver)) solver.trail learned
  pub plain : solver.learn ≡ Plain → IsPlain solver.trail conflict learned
