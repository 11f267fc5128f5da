-- Bits that are set in two lists of words, by their places.
use Rattle.std.specs.Prelude.{◌≡◌, true, ℕ, ◌<◌, List, slice_index, bit_and}
use Rattle.fzn_domain.specs.Bits.{has_bit}

-- the bit at the place is set in both lists
abbrev pub IsCommon : List ℕ → List ℕ → ℕ → Type 0
IsCommon words others place = (has_bit words place ≡ true) × (has_bit others place ≡ true)

-- no bit is
abbrev pub NoneCommon : List ℕ → List ℕ → Type 0
NoneCommon words others = (place : ℕ) → IsCommon words others place → ⊥

-- the first place whose bit is
pub record IsFirstCommon (words others : List ℕ) (place : ℕ) : Type 0 where
  pub common : IsCommon words others place
  pub none_below : (before : ℕ) → before < place → IsCommon words others before → ⊥

-- each of the first words has no bit in common with the other list's word of its index
abbrev pub HaveNoCommonBit : List ℕ → List ℕ → ℕ → Type 0
HaveNoCommonBit words others count = (q : ℕ) → q < count → bit_and (slice_index words q) (slice_index others q) ≡ 0
