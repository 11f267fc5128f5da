-- Terms that have one value each, and the clause that some of them has another.
use Rattle.std.specs.Prelude.{◌≡◌, true, false, ℤ, List}
use Rattle.std.specs.List.{All}
use Rattle.fzn_domain.specs.declared.literal.Lit.{Lit}
use Rattle.fzn_domain.specs.Literal.{is_true_at}
use Rattle.fzn_domain.specs.IntSet.{IntSet, contains, is_possible}
use Rattle.fzn_domain.specs.Narrow.{set_of}
use Rattle.fzn_values.specs.declared.term.Term.{Term}
use Rattle.fzn_values.specs.declared.term.Term.TheVariants.{Variable}
use Rattle.fzn_sets.specs.Terms.{least_value}
use Rattle.fzn_trail.specs.Levels.{Levels}
use Rattle.fzn_propagator.specs.Clause.{IsWritable, IsFalseClause, IsForcing}
use Rattle.fzn_propagator.specs.Left.{IsLeft}

-- the clause leaves the term the value that it has on the trail, and no other
abbrev pub IsOnlyLeft : Levels → List Lit → Term → Type 0
IsOnlyLeft trail clause term = (v : ℤ) → IsLeft trail.declared clause term v → v ≡ least_value trail.sets term

-- a literal that is false on the trail, and says that the term has another value
pub record IsOtherValue (trail : Levels) (term : Term) (lit : Lit) : Type 0 where
  pub of_term : term ≡ Variable lit.var
  pub writable : IsWritable lit
  pub impossible : is_possible (set_of trail.sets lit.var) lit ≡ false
  pub only : (v : ℤ) → is_true_at lit v ≡ false → v ≡ least_value trail.sets term

-- a clause that is false on the trail, and says that some term has another value
pub record IsDenial (trail : Levels) (terms : List Term) (clause : List Lit) : Type 0 where
  pub still : IsFalseClause trail clause
  pub only : All (IsOnlyLeft trail clause) terms

-- a clause that is false or forces the literal, and leaves each term the value that it has and the literal's variable no value at which that is true
pub record IsDenialOr (trail : Levels) (terms : List Term) (lit : Lit) (clause : List Lit) : Type 0 where
  pub forcing : IsForcing trail clause
  pub only : All (IsOnlyLeft trail clause) terms
  pub literal : (v : ℤ) → IsLeft trail.declared clause (Variable lit.var) v → is_true_at lit v ≡ false

-- the literal is true at each value of its variable
abbrev pub IsTrueOnSets : List IntSet → Lit → Type 0
IsTrueOnSets sets lit = (v : ℤ) → contains (set_of sets lit.var) v ≡ true → is_true_at lit v ≡ true
