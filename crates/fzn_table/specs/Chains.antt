-- Rows that have the same number at a place.
use Rattle.std.specs.Prelude.{◌≡◌, ◌≢◌, ℕ, ◌<◌, ℤ, pos, List, length, slice_index_or}
use Rattle.fzn_values.specs.declared.term.Term.{Term}
use Rattle.fzn_table.specs.Supports.{number_at, IsWhole}
use Rattle.fzn_table.specs.declared.chains.Chains.{Chains}

-- the number of a row, where the column has those of all rows in order
abbrev pub column_at : List ℤ → ℕ → ℤ
column_at column row = slice_index_or column row (pos 0)

-- before the first row that is noted for a number no row has it, and between a row and the next that is noted none has that row's number
pub record AreChained (column : List ℤ) (chains : Chains) : Type 0 where
  pub firsts : (i row : ℕ) → row < slice_index_or chains.firsts.items i 0 → column_at column row ≢ slice_index_or chains.numbers.items i (pos 0)
  pub nexts : (row other : ℕ) → row < other → other < slice_index_or chains.nexts.items row 0 → column_at column other ≢ column_at column row

-- the column has the number that each row has at the place
abbrev pub IsColumn : List Term → List ℤ → ℕ → List ℤ → Type 0
IsColumn places rows p column = (r : ℕ) → IsWhole places rows r → column_at column r ≡ number_at places rows r p

-- before the first row that is noted for a number no row has it at the place
abbrev pub AreFirstsAt : List Term → List ℤ → ℕ → Chains → Type 0
AreFirstsAt places rows p chains = (i r : ℕ) → r < slice_index_or chains.firsts.items i 0 → IsWhole places rows r → number_at places rows r p ≢ slice_index_or chains.numbers.items i (pos 0)

-- between a row and the next that is noted no row has the same number there
abbrev pub AreNextsAt : List Term → List ℤ → ℕ → Chains → Type 0
AreNextsAt places rows p chains = (r s : ℕ) → r < s → s < slice_index_or chains.nexts.items r 0 → IsWhole places rows r → IsWhole places rows s → number_at places rows s p ≢ number_at places rows r p

abbrev pub IsChainedAt : List Term → List ℤ → ℕ → Chains → Type 0
IsChainedAt places rows p chains = AreFirstsAt places rows p chains × AreNextsAt places rows p chains

-- so it is of each place that has chains
abbrev pub AreAllChained : List Term → List ℤ → List Chains → Type 0
AreAllChained places rows all = (p : ℕ) (default : Chains) → p < length all → IsChainedAt places rows p (slice_index_or all p default)
