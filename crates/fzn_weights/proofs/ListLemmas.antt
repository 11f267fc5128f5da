-- Lists whose entries are within the limits.
use Rattle.std.proofs.Common.{◌≡◌, true, List, [], ◌∷◌, arith, ℤ, Option, Some, None, IfSome, All}
use Rattle.std.specs.List.{list_all}
use Rattle.std.proofs.lemmas.Bool.Decides.{nat_tests}
use Rattle.std.proofs.lemmas.List.Elements.{All-nil, All-cons}
use Rattle.std.proofs.lemmas.Bool.{and_parts}
use Rattle.fzn_meaning.specs.Separable.{IsWithinLimit}
use Rattle.fzn_weights.specs.Limits.{is_row_number, is_entry_within}

entry_within : (entry : Option ℤ) → is_entry_within entry ≡ true → IfSome entry IsWithinLimit
entry_within None h = tt
entry_within (Some w) h = within_limit w h
  where
    within_limit : (n : ℤ) → is_row_number n ≡ true → IsWithinLimit n
    within_limit n h = grind (arith, nat_tests)

pub entries-within : (entries : List (Option ℤ)) → list_all is_entry_within entries ≡ true → All (λ (entry : Option ℤ). IfSome entry IsWithinLimit) entries
entries-within [] h = All-nil (λ (entry : Option ℤ). IfSome entry IsWithinLimit)
entries-within (entry ∷ entries) h =
    let parts = and_parts (is_entry_within entry) (list_all is_entry_within entries) h in
    All-cons (λ (entry : Option ℤ). IfSome entry IsWithinLimit) entry entries (entry_within entry parts.0) (entries-within entries parts.1)
