-- What keeps each learned clause new.
use Rattle.std.specs.Prelude.{◌≡◌, ◌⊎◌, ℕ, ◌+◌, ◌-◌, true, ℤ, List, [], ◌∷◌, map}
use Rattle.std.specs.List.{All}
use Rattle.fzn_domain.specs.declared.literal.Lit.{Lit}
use Rattle.fzn_domain.specs.Literal.{is_true_at, negated}
use Rattle.fzn_domain.specs.IntSet.{IntSet, contains}
use Rattle.fzn_domain.specs.Narrow.{IsVariable, set_of, narrowed}
use Rattle.fzn_learned.specs.Reasoned.{Open}
pub use Rattle.fzn_state.specs.Resolved.{resolved, SaysMore, FreshAfter}
use Rattle.fzn_state.specs.Volume.{volume}

-- each value of its variable's set makes the literal true
abbrev pub IsTrueAtEach : List IntSet → Lit → Type 0
IsTrueAtEach sets lit = (v : ℤ) → contains (set_of sets lit.var) v ≡ true → is_true_at lit v ≡ true

-- one of the clause's literals, of one of this many variables, is true on the sets
abbrev pub HasCertain : ℕ → List IntSet → List Lit → Type 0
HasCertain count sets [] = ⊥
HasCertain count sets (lit ∷ clause) = (IsVariable count lit.var × IsTrueAtEach sets lit) ⊎ HasCertain count sets clause

abbrev pub HasLiteral : Lit → List Lit → Type 0
HasLiteral lit [] = ⊥
HasLiteral lit (other ∷ clause) = (lit ≡ other) ⊎ HasLiteral lit clause

-- the negations of the decisions
abbrev pub negations : List Open → List Lit
negations taken = map (λ (at : Open). negated at.decision) taken

-- where the decision was taken, the clause has a literal that is true, or it has the negated decision
abbrev pub IsBacked : ℕ → Open → List Lit → Type 0
IsBacked count at clause = HasCertain count at.sets clause ⊎ HasLiteral (negated at.decision) clause

-- so at each decision, for each clause
abbrev pub LevelsBacked : ℕ → List (List Lit) → List Open → Type 0
LevelsBacked count clauses [] = Unit {0}
LevelsBacked count clauses (at ∷ later) = All (IsBacked count at) clauses × LevelsBacked count clauses later

-- each decision is of one of this many variables, and true on these sets
abbrev pub AllCertain : ℕ → List IntSet → List Open → Type 0
AllCertain count sets [] = Unit {0}
AllCertain count sets (at ∷ later) = IsVariable count at.decision.var × IsTrueAtEach sets at.decision × AllCertain count sets later

-- the part that a decision left aside
abbrev pub other_part : Open → List IntSet
other_part at = narrowed at.sets (negated at.decision)

-- the choices beyond one in each part that was left aside
abbrev pub left_open : List Open → ℕ
left_open [] = 0
left_open (at ∷ later) = (volume (other_part at) - 1) + left_open later
