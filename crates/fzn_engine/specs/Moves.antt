-- What each move makes of the trail.
use Rattle.std.specs.Prelude.{◌≡◌, ℕ, ◌+◌, Bool, true, false, List, [], ◌∷◌}
use Rattle.fzn_domain.specs.declared.literal.Lit.{Lit}
use Rattle.fzn_domain.specs.Narrow.{possible_in}
use Rattle.std.specs.List.{All}
use Rattle.fzn_trail.specs.declared.trail.Antecedent.{Antecedent}
use Rattle.fzn_trail.specs.declared.trail.Entry.{Entry}
use Rattle.fzn_trail.specs.declared.trail.Reason.TheVariants.{Decision, Implied}
use Rattle.fzn_trail.specs.Levels.{pushed, asserted, returned}
use Rattle.fzn_learned.specs.Reasoned.{IsBelow, antecedent_clause}
use Rattle.fzn_search.specs.Fixed.{Splits}
use Rattle.fzn_state.specs.State.{known_in, with_stack}
use Rattle.fzn_state.specs.declared.solver.Solver.{Solver}
use Rattle.fzn_state.specs.Search.{stock_of}

-- all but the trail, the decisions and the number of solutions is the same
pub record IsSame (old new : Solver) : Type 0 where
  pub stock : stock_of new ≡ stock_of old
  pub clauses : new.clauses ≡ old.clauses
  pub scratch : new.scratch ≡ old.scratch
  pub learn : new.learn ≡ old.learn
  pub steps : new.steps ≡ old.steps

-- the trail is at a level, and the stack holds at least the inferences that its entries rest on
pub record IsBackAt (level : ℕ) (old new : Solver) : Type 0 where
  pub trail : new.trail ≡ returned level old.trail
  pub count : ℕ
  pub enough : All (λ (entry : Entry). IsBelow count entry.reason) new.trail.entries
  pub stock : stock_of new ≡ with_stack count (stock_of old)
  pub clauses : new.clauses ≡ old.clauses
  pub search : new.search ≡ old.search
  pub scratch : new.scratch ≡ old.scratch
  pub learn : new.learn ≡ old.learn
  pub found : new.found ≡ old.found
  pub steps : new.steps ≡ old.steps

-- the clause's first possible literal was asserted, or it has none
abbrev pub IsForcedBy : Solver → Antecedent → Solver → Bool → Type 0
IsForcedBy old antecedent new true =
    (lit : Lit) × (rest : List Lit) × (possible_in old.trail.sets (antecedent_clause (known_in (stock_of old)) antecedent) ≡ lit ∷ rest) × (new ≡ record old { trail = asserted lit (Implied antecedent) old.trail })
IsForcedBy old antecedent new false = (possible_in old.trail.sets (antecedent_clause (known_in (stock_of old)) antecedent) ≡ []) × (new ≡ old)

-- a decision was made
pub record IsDecided (old new : Solver) : Type 0 where
  pub lit : Lit
  pub splits : Splits old.trail.sets lit
  pub trail : new.trail ≡ asserted lit Decision (pushed old.trail)
  pub same : IsSame old new
  pub vars : new.search.vars ≡ old.search.vars
  pub nodes : new.search.nodes ≡ old.search.nodes + 1
  pub found : new.found ≡ old.found
