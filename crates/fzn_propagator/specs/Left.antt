-- Which values of a term a clause leaves.
use Rattle.std.specs.Prelude.{◌≡◌, true, false, ℤ, List}
use Rattle.std.specs.List.{All}
use Rattle.fzn_domain.specs.declared.literal.Lit.{Lit}
use Rattle.fzn_domain.specs.Literal.{is_true_at}
use Rattle.fzn_domain.specs.IntSet.{IntSet, contains}
use Rattle.fzn_domain.specs.Narrow.{set_of}
use Rattle.fzn_values.specs.declared.term.Term.{Term}
use Rattle.fzn_values.specs.declared.term.Term.TheVariants.{Constant, Variable}

-- a value of the term at which no literal of the clause is true
abbrev pub IsLeft : List IntSet → List Lit → Term → ℤ → Type 0
IsLeft declared clause (Constant k) value = value ≡ k
IsLeft declared clause (Variable var) value =
    (contains (set_of declared var) value ≡ true) × All (λ lit. lit.var ≡ var → is_true_at lit value ≡ false) clause
