-- Derivations whose numbers have a spelling.
use Rattle.std.proofs.Common.{ℕ, List, All}
use Rattle.std.specs.Prelude.{ℤ}
use Rattle.std.proofs.lemmas.List.Elements.{recursion_from_All}
use Rattle.fzn_domain.specs.declared.literal.VarId.{VarId}
use Rattle.fzn_cited.specs.declared.multiple.Multiple.{Multiple}
use Rattle.fzn_row.specs.declared.item.RowItem.{RowItem}
use Rattle.fzn_row.specs.declared.item.RowItem.TheVariants.{Multiples}
use Rattle.fzn_derive.specs.declared.derivation.Derivation.TheVariants.{Sum, Parity, AllDifferent, Row}
use Rattle.fzn_cert.specs.Spelling.{IsNumber}
use Rattle.fzn_cert.specs.Derivations.{IsDerivation, IsMultiplier, IsMultiple, IsVariableNumber, IsFirstPriced, ArePriced, IsRowItem}

pub sum_is_spelled : (multiples : List Multiple) → All IsMultiple multiples → IsDerivation (Sum multiples)
sum_is_spelled multiples all = recursion_from_All IsMultiple multiples all

pub parity_is_spelled : (constraints : List ℕ) → All IsNumber constraints → IsDerivation (Parity constraints)
parity_is_spelled constraints all = recursion_from_All IsNumber constraints all

pub apart_is_spelled : (variables : List VarId) (constraints : List ℕ) → All IsVariableNumber variables → All IsNumber constraints → IsDerivation (AllDifferent variables constraints)
apart_is_spelled variables constraints all both = (recursion_from_All IsVariableNumber variables all, recursion_from_All IsNumber constraints both)

pub row_is_spelled : (items : List RowItem) → All IsRowItem items → IsDerivation (Row items)
row_is_spelled items all = recursion_from_All IsRowItem items all

-- ---- items of a row

pub multiples_are_spelled : (multiples : List Multiple) → All IsMultiple multiples → IsRowItem (Multiples multiples)
multiples_are_spelled multiples all = recursion_from_All IsMultiple multiples all

pub prices_are_spelled : (low : ℤ) (prices : List ℤ) → IsFirstPriced low → All IsMultiplier prices → ArePriced low prices
prices_are_spelled low prices first all = (first, recursion_from_All IsMultiplier prices all)
