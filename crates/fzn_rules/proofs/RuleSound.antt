-- On sets where a rule is met, no choice of one value from each set meets the constraint.
use Rattle.std.proofs.Common.{List, ℤ, length, inl, inr}
use Rattle.fzn_domain.specs.IntSet.{IntSet}
use Rattle.fzn_domain.specs.Narrow.{IsWithin}
use Rattle.fzn_meaning.specs.declared.constraint.Constraint.{Constraint}
use Rattle.fzn_meaning.specs.Meaning.{Meets, IsWellFormedConstraint, HasBooleanValues}
use Rattle.fzn_rules.specs.declared.rule.Rule.{Rule}
use Rattle.fzn_rules.specs.declared.rule.Rule.TheVariants.{Lin, Rows, Box, Fixed, Enum, Hall, Load, Energy, Cut, Pair, Row}
use Rattle.fzn_rules.specs.Rules.{IsMet}
use Rattle.fzn_builtin_rules.proofs.CallerLemmas.{fixed_sound, enum_sound, lin_sound, box_sound, rows_sound}
use Rattle.fzn_rules.proofs.CutSound.{cut_sound}
use Rattle.fzn_rules.proofs.EnergySound.{energy_sound}
use Rattle.fzn_rules.proofs.GlobalRowsSound.{global_rows_sound}
use Rattle.fzn_rules.proofs.HallSound.{hall_sound}
use Rattle.fzn_rules.proofs.LoadSound.{load_sound}
use Rattle.fzn_rules.proofs.PairSound.{pair_sound}
use Rattle.fzn_rules.proofs.SeparableSound.{row_sound}

pub rule_sound : (constraint : Constraint) (sets : List IntSet) (rule : Rule) (values : List ℤ) → IsWellFormedConstraint (length sets) constraint → IsMet constraint sets rule → IsWithin sets values → HasBooleanValues values constraint → Meets constraint values → ⊥
unfolding IsMet
rule_sound constraint sets Lin values formed rule within bits met = lin_sound constraint sets values rule within bits met
rule_sound constraint sets Rows values formed rule within bits met = elim rule [
  | inl builtin ↦ rows_sound constraint sets values formed builtin within met
  | inr global ↦ global_rows_sound constraint sets values formed global within met
]
rule_sound constraint sets Box values formed rule within bits met = box_sound constraint sets values rule within met
rule_sound constraint sets Fixed values formed rule within bits met = fixed_sound constraint sets values formed rule within met
rule_sound constraint sets Enum values formed rule within bits met = enum_sound constraint sets values formed rule within met
rule_sound constraint sets (Hall low high) values formed rule within bits met = hall_sound constraint sets low high values formed rule within met
rule_sound constraint sets (Load time) values formed rule within bits met = load_sound constraint sets time values rule within met
rule_sound constraint sets (Energy from until) values formed rule within bits met = energy_sound constraint sets from until values rule within met
rule_sound constraint sets (Cut places) values formed rule within bits met = cut_sound constraint sets places values formed rule within met
rule_sound constraint sets (Pair first second) values formed rule within bits met = pair_sound constraint sets first second values formed rule within met
rule_sound constraint sets Row values formed rule within bits met = row_sound constraint sets values formed rule within met
