-- The rule `pair`: one list has a pair that the other cannot have.
use Rattle.std.specs.Prelude.{◌⊎◌, ℤ, List, length}
use Rattle.fzn_domain.specs.IntSet.{IntSet}
use Rattle.fzn_values.specs.declared.term.Term.{Term}
use Rattle.fzn_meaning.specs.declared.constraint.Constraint.{Constraint}
use Rattle.fzn_meaning.specs.declared.constraint.Constraint.TheVariants.{Inverse}
use Rattle.fzn_values.specs.Entries.{IsIndex}
use Rattle.fzn_sets.specs.Terms.{IsFixedTo, MayBe, term_at}

-- one list has the value j at i, and the other cannot have i at j
abbrev pub IsBroken : List IntSet → ℤ → ℤ → List Term → List Term → Type 0
IsBroken sets i j there back = IsFixedTo sets (term_at there i) j × (MayBe sets (term_at back j) i → ⊥)

-- i and j are indices, and the pair is broken on the way there or on the way back
pub record HasBrokenPair (sets : List IntSet) (i j : ℤ) (forward backward : List Term) : Type 0 where
  pub first : IsIndex (length forward) i
  pub second : IsIndex (length backward) j
  pub broken : IsBroken sets i j forward backward ⊎ IsBroken sets j i backward forward

unfoldable pub IsPairMet : Constraint → List IntSet → ℤ → ℤ → Type 0
IsPairMet (Inverse forward backward) sets i j = HasBrokenPair sets i j forward backward
IsPairMet _ sets i j = ⊥
