-- The entries of a part's list by what they weigh.
use Rattle.std.specs.Prelude.{◌≡◌, ◌⊎◌, ℕ, ◌<◌, ◌≤◌, ℤ, pos, ◌+ℤ◌, ◌≤ℤ◌, List, length, slice_index, slice_index_or, Option, None, Some}
use Rattle.std.specs.List.{All, Contains}
use Rattle.std.proofs.Props.{props}
use Rattle.fzn_meaning.specs.declared.row.Listed.{Listed}
use Rattle.fzn_meaning.specs.declared.row.VariablePart.{VariablePart}
use Rattle.fzn_meaning.specs.declared.row.Part.{Part}
use Rattle.fzn_meaning.specs.declared.row.Part.TheVariants.{Variable}
use Rattle.fzn_meaning.specs.Separable.{weight_at}
use Rattle.fzn_rules.specs.Least.{Reaches}
use Rattle.fzn_levels.specs.declared.by_weight.ByWeight.{ByWeight}

-- the entries at these indices weigh no less one after the other
abbrev pub AreRising : VariablePart → Listed → List ℕ → Type 0
AreRising part listed order =
    (j k : ℕ) (w x : ℤ) → j ≤ k → k < length order → weight_at part (listed.low +ℤ pos (slice_index order j)) ≡ Some w → weight_at part (listed.low +ℤ pos (slice_index order k)) ≡ Some x → w ≤ℤ x

-- each entry that is not barred is among them, at its place
abbrev pub HavePlaces : VariablePart → Listed → List ℕ → List ℕ → Type 0
HavePlaces part listed order places =
    (i : ℕ) (w : ℤ) → i < length listed.weights → weight_at part (listed.low +ℤ pos i) ≡ Some w → (slice_index places i < length order) × (slice_index order (slice_index places i) ≡ i)

-- the order is one of the list by rising weight
pub record IsByWeight (part : VariablePart) (listed : Listed) (by_weight : ByWeight) : Type 0 where
  pub rising : AreRising part listed by_weight.order.items
  pub places : HavePlaces part listed by_weight.order.items by_weight.places.items
  pub inside : All (λ i. i < length listed.weights) by_weight.order.items

-- it is one of the part's list, where the part has one
abbrev pub IsOrderOf : Part → ByWeight → Type 0
IsOrderOf part by_weight = (own : VariablePart) (listed : Listed) → part ≡ Variable own → own.listed ≡ Some listed → IsByWeight own listed by_weight

-- each order that there is is that of the part at its index
abbrev pub AreOrdersOf : List Part → List (Option ByWeight) → Type 0
AreOrdersOf parts orders = (k : ℕ) (p : Part) (by_weight : ByWeight) → k < length parts → slice_index_or orders k None ≡ Some by_weight → IsOrderOf (slice_index_or parts k p) by_weight

-- there is one proof of that at most
pub AreOrdersOf-prop : (parts : List Part) (orders : List (Option ByWeight)) → IsProp (AreOrdersOf parts orders)
AreOrdersOf-prop parts orders = Prim.hlevel props

-- each entry that weighs less than the level is at one of these indices
abbrev pub HaveLighter : VariablePart → Listed → Option ℤ → List ℕ → Type 0
HaveLighter part listed level light =
    (i : ℕ) (w : ℤ) → i < length listed.weights → weight_at part (listed.low +ℤ pos i) ≡ Some w → Contains light i ⊎ Reaches level w
