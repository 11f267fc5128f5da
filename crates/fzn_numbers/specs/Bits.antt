-- Numbers as bits in words of 64, counted from the lowest bit of the first word.
use Rattle.std.specs.Prelude.{◌≡◌, ℕ, zero, suc, ◌+◌, ◌*◌, ◌/◌, ◌%◌, ◌<◌, ◌≤◌, Bool, true, false, nat_eq, ℤ, pos, ◌+ℤ◌, ◌-ℤ◌, FitsSigned, List, length, slice_index, min}
use Rattle.std.specs.Int.{bit_at, w64}
use Rattle.std.specs.FinSet as set
use Rattle.fzn_numbers.specs.IntSet.{IntSet, numbers_from, natural_part}

-- how many bits there are
abbrev pub places : List ℕ → ℕ
places words = length words * 64

-- so many places, filled up to whole words
abbrev pub whole_words : ℕ → ℕ
whole_words n = (n + 63) / 64 * 64

-- whether the bit at a place is set
unfoldable pub has_bit : List ℕ → ℕ → Bool
has_bit words k = nat_eq (bit_at (slice_index words (k / 64)) (k % 64)) 1

-- the first number stands at place 0
unfoldable pub members : ℤ → List ℕ → IntSet
members first words = set.retain (numbers_from first (places words)) (λ v. has_bit words (natural_part (v -ℤ first)))

-- the place of a number: 0 for all before the first, and the number of places for all behind the last
abbrev pub place_from : ℤ → ℕ → ℤ → ℕ
place_from first count v = min (natural_part (v -ℤ first)) count

-- the first bit set from a place on
pub record IsNextBit (words : List ℕ) (from place : ℕ) : Type 0 where
  pub from_there : from ≤ place
  pub in_words : place < places words
  pub set : has_bit words place ≡ true
  pub first : (k : ℕ) → from ≤ k → k < place → has_bit words k ≡ false

-- no bit is set from a place on
abbrev pub NoBitFrom : List ℕ → ℕ → Type 0
NoBitFrom words from = (k : ℕ) → from ≤ k → k < places words → has_bit words k ≡ false

-- the first bit not set from a place on, or the number of places where each is set
pub record IsGap (words : List ℕ) (from place : ℕ) : Type 0 where
  pub from_there : from ≤ place
  pub in_words : place ≤ places words
  pub unset : place < places words → has_bit words place ≡ false
  pub run : (k : ℕ) → from ≤ k → k < place → has_bit words k ≡ true

-- the last bit set below a place
pub record IsLastBit (words : List ℕ) (end place : ℕ) : Type 0 where
  pub below : place < end
  pub set : has_bit words place ≡ true
  pub last : (k : ℕ) → place < k → k < end → has_bit words k ≡ false

-- no bit is set below a place
abbrev pub NoBitBelow : List ℕ → ℕ → Type 0
NoBitBelow words end = (k : ℕ) → k < end → has_bit words k ≡ false

-- how many bits are set below a place
unfoldable pub bits_below : List ℕ → ℕ → ℕ
bits_below words zero = 0
bits_below words (suc n) = bits_below words n + bit_at (slice_index words (n / 64)) (n % 64)

-- how the bits change where one is written
pub record IsWritten (old new : List ℕ) (place : ℕ) (bit : Bool) : Type 0 where
  pub same_length : length new ≡ length old
  pub here : has_bit new place ≡ bit
  pub elsewhere : (k : ℕ) → (k ≡ place → ⊥) → has_bit new k ≡ has_bit old k

-- the number at place 0: the one before it and each that bits can stand for behind it fit in 64 bits
pub record CanBeFirst (first : ℤ) : Type 0 where
  pub before : FitsSigned w64 (first -ℤ pos 1)
  pub behind : FitsSigned w64 (first +ℤ pos 16384)

pub record IsPlaced (first : ℤ) (words : List ℕ) : Type 0 where
  pub can_be_first : CanBeFirst first
  pub some : 1 ≤ length words
  pub few : length words ≤ 256
