-- A list for a variable, written at the place of its part.
use Rattle.std.proofs.Common.{◌≡◌, ℕ, ◌-◌, ◌<◌, ◌≤◌, ◌⊎◌, Bool, true, false, cond, ◌&&◌, nat_le, List, length, set, refl, sym, ap, ◌∙◌, subst, inl, inr, arith, ℤ, unsigned_abs, Option, Some, Result, Ok, Err}
use Rattle.std.specs.List.{list_all}
use Rattle.std.proofs.lemmas.Int.{ints}
use Rattle.std.proofs.lemmas.Bool.Decides.{nat_tests}
use Rattle.fzn_domain.specs.declared.literal.VarId.{VarId}
use Rattle.fzn_domain.specs.Limits.{IsInLimits}
use Rattle.fzn_cited.specs.declared.fault.DeriveFault.{DeriveFault}
use Rattle.fzn_cited.specs.declared.fault.DeriveFault.TheVariants.{Memory, NotDerived}
use Rattle.fzn_meaning.specs.declared.row.VariablePart.{VariablePart}
use Rattle.fzn_meaning.specs.Separable.{IsVariablePart}
use Rattle.fzn_weights.specs.Limits.{is_entry_within}
use Rattle.fzn_weights.proofs.ListLemmas.{entries-within}
use Rattle.fzn_row.specs.declared.room.BegunTable.{BegunTable}
use Rattle.fzn_row.specs.Draft.{Draft, part_for, with_part}
use Rattle.fzn_row.specs.Prices.{with_list}
use Rattle.fzn_row.specs.Room.{IsPlaceOfPart}
use Rattle.fzn_row.proofs.PartLemmas.{var-part_for}

abbrev pub listed_with : VariablePart → ℤ → List (Option ℤ) → VariablePart
listed_with part low entries = record part { listed = Some (record { low = low; weights = entries }) }

le_true : (m n : ℕ) → m ≤ n → nat_le m n ≡ true
le_true m n h = grind (arith, nat_tests)

le_false : (m n : ℕ) → n < m → nat_le m n ≡ false
le_false m n h = grind (arith, nat_tests)

pub with_list-is : (var : VarId) (draft : Draft) (low : ℤ) (entries : List (Option ℤ)) (after : List VariablePart) (place : ℕ) (new : VariablePart) (tables : List BegunTable) (bound : ℤ) (left : ℕ)
    → IsPlaceOfPart var draft.parts after place → length entries ≤ draft.left → list_all is_entry_within entries ≡ true → new ≡ listed_with (part_for var draft.parts) low entries → tables ≡ draft.tables → bound ≡ draft.bound → left ≡ draft.left - length entries
    → with_list var draft low entries ≡ Ok (record { parts = set after place new; tables = tables; bound = bound; left = left })
with_list-is var draft low entries after place new tables bound left there room within is same_tables bounds lefts =
    let parts : with_part (listed_with (part_for var draft.parts) low entries) draft.parts ≡ set after place new =
    ap (λ (p : VariablePart). with_part p draft.parts) (sym is) ∙ sym (there.replaced new (ap (λ (p : VariablePart). p.var) is ∙ var-part_for var draft.parts)) in
    rw (le_true (length entries) draft.left room, within) (same_draft _ _ _ _ _ _ _ _ parts (sym same_tables) (sym bounds) (sym lefts))
  where
    same_draft : (parts parts' : List VariablePart) (tables tables' : List BegunTable) (bound bound' : ℤ) (left left' : ℕ) → parts ≡ parts' → tables ≡ tables' → bound ≡ bound' → left ≡ left'
        → ◌≡◌ {A = Result Draft DeriveFault} (Ok (record { parts = parts; tables = tables; bound = bound; left = left })) (Ok (record { parts = parts'; tables = tables'; bound = bound'; left = left' }))
    same_draft parts parts' tables tables' bound bound' left left' p t q r = cc

pub with_list-short : (var : VarId) (draft : Draft) (low : ℤ) (entries : List (Option ℤ)) → draft.left < length entries → with_list var draft low entries ≡ Err NotDerived
with_list-short var draft low entries short = rw (le_false (length entries) draft.left short) refl

pub with_list-outside : (var : VarId) (draft : Draft) (low : ℤ) (entries : List (Option ℤ)) (fault : DeriveFault) → (fault ≡ Memory) ⊎ ((fault ≡ NotDerived) × (list_all is_entry_within entries ≡ false)) → (fault ≡ Memory) ⊎ (with_list var draft low entries ≡ Err fault)
with_list-outside var draft low entries fault (inl memory) = inl memory
with_list-outside var draft low entries fault (inr (is, outside)) = inr (rw is (refused (nat_le (length entries) draft.left) (list_all is_entry_within entries) _ outside))
  where
    refused : (a b : Bool) (made : Result Draft DeriveFault) → b ≡ false → cond (a && b) made (Err NotDerived) ≡ Err NotDerived
    refused true b made outside = rw outside refl
    refused false b made outside = refl

in_limits : (low : ℤ) → unsigned_abs low ≤ 1000000000 → IsInLimits low
in_limits low h = (grind (arith, ints), grind (arith, ints))

pub part-listed : (count : ℕ) (old : VariablePart) (low cast : ℤ) (entries : List (Option ℤ)) → IsVariablePart count old → unsigned_abs low ≤ 1000000000 → cast ≡ low → length entries ≤ 65536 → list_all is_entry_within entries ≡ true → IsVariablePart count (listed_with old cast entries)
part-listed count old low cast entries formed small is few within = record {
  variable = formed.variable;
  coefficient = formed.coefficient;
  listed = record { low = subst IsInLimits (sym is) (in_limits low small); few = few; weights = entries-within entries within };
}

pub listed-is : (old other : VariablePart) (low cast : ℤ) (entries weights : List (Option ℤ)) → other ≡ old → cast ≡ low → weights ≡ entries → listed_with old cast weights ≡ listed_with other low entries
listed-is old other low cast entries weights p q r = rw (p, q, r) refl
