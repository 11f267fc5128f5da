-- What callers may cite: what a part without a list weighs from a number on or up to one, which values are listed, that each part has a
-- least weight or none, how that stands to levels, and that a part weighs it where all variables are fixed.
use Rattle.std.proofs.Common.{◌≡◌, ◌∙◌, sym, ap, subst, ℕ, ℤ, List, length, Some}
use Rattle.fzn_domain.specs.Narrow.{AllFixed, IsWithin}
use Rattle.fzn_values.specs.declared.term.Term.TheVariants as term
use Rattle.fzn_values.specs.Term.{IsTerm}
use Rattle.fzn_meaning.specs.declared.row.Part.{Part}
use Rattle.fzn_meaning.specs.declared.row.Part.TheVariants.{Variable, Table}
use Rattle.fzn_meaning.specs.Separable.{weight_at, weight_of, IsPart}
use Rattle.fzn_rules.specs.Separable.{IsLeastWeight}
use Rattle.fzn_trail.specs.Levels.{Levels}
use Rattle.fzn_terms.proofs.FixedLemmas.{fixed_only}
use Rattle.fzn_levels.proofs.TableLemmas.{table_fixed}
pub use Rattle.fzn_levels.proofs.LeastLemmas.{some_least}
pub use Rattle.fzn_levels.proofs.WeightLemmas.{none_some, from_on, up_to, at_weight, listed_only, of_least, least_above}

-- where all variables are fixed, a part weighs what it weighs at least
pub least_fixed : (trail : Levels) (part : Part) (least : ℤ) → IsPart (length trail.declared) part → IsLeastWeight trail.sets part (Some least) → AllFixed trail.sets → (values : List ℤ) → IsWithin trail.declared values → IsWithin trail.sets values → weight_of values part ≡ Some least
least_fixed trail (Variable part) least formed is fixed values declared present =
    let fits : IsTerm (length trail.sets) (term.Variable part.var) = subst (λ (n : ℕ). IsTerm n (term.Variable part.var)) (sym declared.one_each ∙ present.one_each) formed.variable in
    let only = fixed_only trail.sets values present fixed (term.Variable part.var) fits in
    let at = is.0 in
    ap (weight_at part) (sym (only.only at.0 at.1)) ∙ at.2
least_fixed trail (Table table) least formed is fixed values declared present = table_fixed trail table least formed is fixed values declared present
