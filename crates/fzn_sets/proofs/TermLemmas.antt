-- The values of terms, and the sets that they come from.
use Rattle.std.proofs.Common.{◌≡◌, ℕ, zero, suc, ◌-◌, List, length, refl, arith, ℤ, pos, negsuc}
use Rattle.std.specs.List.{All}
use Rattle.std.proofs.lemmas.Int.{ints}
use Rattle.std.proofs.Math.ListN.{get_or-map}
use Rattle.fzn_domain.specs.IntSet.{IntSet}
use Rattle.fzn_domain.specs.Narrow.{IsWithin}
use Rattle.fzn_values.specs.declared.term.Term.{Term}
use Rattle.fzn_values.specs.declared.term.Term.TheVariants.{Constant, Variable}
use Rattle.fzn_values.specs.Entries.{IsIndex, entry_at}
use Rattle.fzn_values.specs.Term.{term_value, values_of, IsTerm}
pub use Rattle.fzn_values.proofs.CallerLemmas.{length-values_of}
use Rattle.fzn_sets.specs.Terms.{MayBe, term_at}

-- the value of a term is in its set
pub MayBe-term_value : (sets : List IntSet) (values : List ℤ) (term : Term) → IsWithin sets values → IsTerm (length sets) term → MayBe sets term (term_value values term)
MayBe-term_value sets values (Constant k) within term = refl
MayBe-term_value sets values (Variable var) within term = within.inside (var.0 - 1) (omega arith)

-- the value at an index is that of the term there
pub entry_at-values_of : (values : List ℤ) (terms : List Term) (index : ℤ) → entry_at (values_of values terms) index ≡ term_value values (term_at terms index)
entry_at-values_of values terms (pos index) = get_or-map (term_value values) terms (index - 1) (Constant (pos 0))
entry_at-values_of values terms (negsuc index) = refl

pub IsTerm-term_at : (count : ℕ) (terms : List Term) (index : ℤ) → All (IsTerm count) terms → IsIndex (length terms) index → IsTerm count (term_at terms index)
IsTerm-term_at count terms (pos zero) all at = absurd (omega (arith, ints))
IsTerm-term_at count terms (pos (suc k)) all at = all (suc k - 1) (Constant (pos 0)) (omega (arith, ints))
IsTerm-term_at count terms (negsuc k) all at = absurd (omega (arith, ints))

-- so the value at an index is in the set of the term there
pub MayBe-entry_at : (sets : List IntSet) (values : List ℤ) (terms : List Term) (index : ℤ) → IsWithin sets values → All (IsTerm (length sets)) terms → IsIndex (length terms) index → MayBe sets (term_at terms index) (entry_at (values_of values terms) index)
MayBe-entry_at sets values terms index within all at =
    rw (entry_at-values_of values terms index) (MayBe-term_value sets values (term_at terms index) within (IsTerm-term_at (length sets) terms index all at))
