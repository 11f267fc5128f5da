-- The sets of terms with their ends, and the term at an index.
use Rattle.std.specs.Prelude.{◌≡◌, ◌-◌, true, ℤ, pos, negsuc, List, slice_index_or}
use Rattle.fzn_domain.specs.IntSet.{IntSet, contains, least, greatest}
use Rattle.fzn_domain.specs.Narrow.{set_of}
use Rattle.fzn_values.specs.declared.term.Term.{Term}
use Rattle.fzn_values.specs.declared.term.Term.TheVariants.{Constant, Variable}

-- the value is in the set of the term; a constant has its own one value
abbrev pub MayBe : List IntSet → Term → ℤ → Type 0
MayBe sets (Constant k) value = k ≡ value
MayBe sets (Variable var) value = contains (set_of sets var) value ≡ true

-- the least and the greatest value of a term; a constant has its own one value
abbrev pub least_value : List IntSet → Term → ℤ
least_value sets (Constant k) = k
least_value sets (Variable var) = least (set_of sets var)

abbrev pub greatest_value : List IntSet → Term → ℤ
greatest_value sets (Constant k) = k
greatest_value sets (Variable var) = greatest (set_of sets var)

-- the value is the only one
abbrev pub IsFixedTo : List IntSet → Term → ℤ → Type 0
IsFixedTo sets term value = (least_value sets term ≡ value) × (greatest_value sets term ≡ value)

-- the term at an index of a list, which is numbered from 1
abbrev pub term_at : List Term → ℤ → Term
term_at terms (pos index) = slice_index_or terms (index - 1) (Constant (pos 0))
term_at terms (negsuc index) = Constant (pos 0)
