-- A flag for each variable, set where it is printed.
use Rattle.std.specs.Prelude.{ℕ, ◌+◌, ◌-◌, Bool, true, false, List, [], ◌∷◌, slice_set}
use Rattle.fzn_domain.specs.declared.literal.VarId.{VarId}
use Rattle.fzn_meaning.specs.declared.model.OutputItem.{OutputItem}
use Rattle.fzn_meaning.specs.declared.model.OutputItem.TheVariants as items
use Rattle.fzn_values.specs.declared.term.Term.{Term}
use Rattle.fzn_values.specs.declared.term.Term.TheVariants as terms

abbrev pub with_var : List Bool → VarId → List Bool
with_var flags var = slice_set flags (var.0 - 1) true

-- with the flags of the variables among these terms
abbrev pub with_terms : List Bool → List Term → List Bool
with_terms flags [] = flags
with_terms flags (terms.Constant k ∷ more) = with_terms flags more
with_terms flags (terms.Variable var ∷ more) = with_terms (with_var flags var) more

abbrev pub with_item : List Bool → OutputItem → List Bool
with_item flags (items.Single name kind var) = with_var flags var
with_item flags (items.Array name kind ranges entries) = with_terms flags entries

abbrev pub with_items : List Bool → List OutputItem → List Bool
with_items flags [] = flags
with_items flags (item ∷ more) = with_items (with_item flags item) more

-- the variables whose flags are set, where the first has this number
abbrev pub flagged : ℕ → List Bool → List VarId
flagged number [] = []
flagged number (true ∷ flags) = record { 0 = number } ∷ flagged (number + 1) flags
flagged number (false ∷ flags) = flagged (number + 1) flags
