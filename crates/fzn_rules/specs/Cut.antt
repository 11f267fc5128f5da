-- The rule `cut`: some places, but not all, that lead only to one another.
use Rattle.std.specs.Prelude.{◌<◌, ℤ, List, length}
use Rattle.std.specs.List.{All, Contains}
use Rattle.fzn_domain.specs.IntSet.{IntSet}
use Rattle.fzn_domain.specs.Ascending.{IsAscending}
use Rattle.fzn_values.specs.declared.term.Term.{Term}
use Rattle.fzn_meaning.specs.declared.constraint.Constraint.{Constraint}
use Rattle.fzn_meaning.specs.declared.constraint.Constraint.TheVariants.{Circuit}
use Rattle.fzn_values.specs.Entries.{IsIndex}
use Rattle.fzn_sets.specs.Terms.{MayBe, term_at}

-- each value of the term is one of the places
abbrev pub LeadsInto : List IntSet → List ℤ → Term → Type 0
LeadsInto sets places term = (x : ℤ) → MayBe sets term x → Contains places x

-- some places in rising order, fewer than there are, whose successors lead into them
pub record IsClosed (sets : List IntSet) (successors : List Term) (places : List ℤ) : Type 0 where
  pub some : 0 < length places
  pub rising : IsAscending places
  pub indices : All (IsIndex (length successors)) places
  pub not_all : length places < length successors
  pub closed : All (λ place. LeadsInto sets places (term_at successors place)) places

unfoldable pub IsCutMet : Constraint → List IntSet → List ℤ → Type 0
IsCutMet (Circuit successors) sets places = IsClosed sets successors places
IsCutMet _ sets places = ⊥
