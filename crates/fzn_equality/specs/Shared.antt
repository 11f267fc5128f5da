-- What follows where two terms share no value.
use Rattle.std.specs.Prelude.{ℕ, List, [], ◌∷◌}
use Rattle.fzn_domain.specs.IntSet.{IntSet}
use Rattle.fzn_values.specs.declared.term.Term.{Term}
use Rattle.fzn_meaning.specs.declared.constraint.Constraint.{Constraint}
use Rattle.fzn_builtin_rules.specs.Rows.{ShareNone}
use Rattle.fzn_rules.specs.declared.rule.Rule.TheVariants.{Rows}
use Rattle.fzn_rules.specs.Rules.{IsMet}
use Rattle.fzn_terms.specs.declared.claim.Claim.{Claim}
use Rattle.fzn_terms.specs.Denied.{AreDenying}

-- the rule `rows` is met on so many sets that deny the claim and on which the terms share no value
abbrev pub IsMetApart : ℕ → Claim → Term → Term → Constraint → Type 0
IsMetApart count claim one other constraint =
    (sets : List IntSet) → AreDenying count (claim ∷ []) sets → ShareNone sets one other → IsMet constraint sets Rows
