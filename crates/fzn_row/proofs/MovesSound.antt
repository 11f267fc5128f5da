-- Moves: values that meet the constraint and the row before meet the row after.
use Rattle.std.proofs.Common.{◌≡◌, ℕ, ◌+◌, ◌<◌, Bool, true, false, cond, List, length, refl, sym, ap, ◌∙◌, subst, arith, ℤ, pos, ◌+ℤ◌, ◌-ℤ◌, ◌≤ℤ◌, unsigned_abs, Option, Some, None, IfSome, option_and_then, Ok, Err, All}
use Rattle.std.specs.Option.{option_map_or}
use Rattle.std.proofs.lemmas.Int.{ints}
use Rattle.fzn_domain.specs.declared.literal.VarId.{VarId}
use Rattle.fzn_domain.specs.IntSet.{IntSet, least, greatest}
use Rattle.fzn_domain.specs.Narrow.{IsWithin, IsVariable, set_of, value_of}
use Rattle.fzn_domain.proofs.SetLemmas.{least_le, le_greatest}
use Rattle.fzn_meaning.specs.declared.constraint.Constraint.{Constraint}
use Rattle.fzn_meaning.specs.declared.constraint.Constraint.TheVariants.{Inverse}
use Rattle.fzn_meaning.specs.Meaning.{Meets, IsWellFormedConstraint, HasBooleanSets}
use Rattle.fzn_meaning.proofs.CallerLemmas.{bits-choice}
use Rattle.fzn_cited.specs.declared.fault.DeriveFault.TheVariants.{NoSuchConstraint, NotDerived}
use Rattle.fzn_cited.specs.Cited.{constraint_at}
use Rattle.fzn_cited.proofs.CitedLemmas.{each_at}
use Rattle.fzn_meaning.specs.declared.row.VariablePart.{VariablePart}
use Rattle.fzn_meaning.specs.Separable.{entry_in, listed_at, weighed, weight_at, RowHolds}
use Rattle.fzn_dependence.specs.Decided.{decider_in, decided_in}
use Rattle.fzn_dependence.proofs.DecidedSound.{decided-value, decided-variables}
use Rattle.fzn_weights.specs.Weights.{both_weights}
use Rattle.fzn_weights.specs.Moves.{weight_within, weight_where, moved_from, span, is_narrow}
use Rattle.fzn_weights.proofs.MoveLemmas.{moved-at}
use Rattle.fzn_row.specs.Draft.{Draft, row_of, part_for}
use Rattle.fzn_row.specs.Weights.{without_part}
use Rattle.fzn_row.specs.Moves.{part_moved_so, decided_moved, part_moved_by, move_added}
use Rattle.fzn_row.proofs.PartLemmas.{var-part_for}
use Rattle.fzn_row.proofs.DraftSound.{Exceeds, exceeds-same, exceeds-holds, holds-exceeds, no_error}
use Rattle.fzn_row.proofs.PricesSound.{dearer, list-exceeds, member}
use Rattle.fzn_row.proofs.WeightsSound.{both-some, taken-exceeds, whole}
use Rattle.fzn_row.proofs.InversesSound.{inverse-sound}

-- a number lies so far behind the first of so many
pub record IsPlaced (low : ℤ) (count : ℕ) (value : ℤ) : Type 0 where
  pub place : ℕ
  pub distance : value -ℤ low ≡ pos place
  pub inside : place < count

back : (v low : ℤ) (k : ℕ) → v -ℤ low ≡ pos k → low +ℤ pos k ≡ v
back v low k e = omega (arith, ints)

pub placed : (low high value : ℤ) → low ≤ℤ value → value ≤ℤ high → IsPlaced low (unsigned_abs (high -ℤ low) + 1) value
placed low high value from to = record {
  place = unsigned_abs (value -ℤ low);
  distance = let h : low ≤ℤ value = from in grind (arith, ints);
  inside = grind (arith, ints);
}

pub moved-weight : (more : ℤ → Option ℤ) (low : ℤ) (count : ℕ) (old : VariablePart) (v w m : ℤ) → IsPlaced low count v → weighed old.coefficient v (listed_at old.listed v) ≡ Some w → more v ≡ Some m
    → weighed old.coefficient v (entry_in (moved_from more low count old.listed) (v -ℤ low)) ≡ Some (w +ℤ m)
moved-weight more low count old v w m has weighs moves =
    ap (weighed old.coefficient v)
    (ap (entry_in (moved_from more low count old.listed)) has.distance ∙ moved-at more old.listed low count has.place has.inside
    ∙ ap (λ (x : ℤ). both_weights (listed_at old.listed x) (more x)) (back v low has.place has.distance)
    ∙ ap (both_weights (listed_at old.listed v)) moves ∙ both-some (listed_at old.listed v) m)
    ∙ dearer old.coefficient v m (listed_at old.listed v) w weighs

module _ (declared : List IntSet) (values : List ℤ) (within : IsWithin declared values) where
  -- the part weighs what it did at its variable's value
  weighs-there : (source : VarId) (part : VariablePart) (decided : ℤ → Option ℤ) (v : ℤ) → IsVariable (length declared) source → decided v ≡ Some (value_of values source)
      → weight_where (set_of declared source) part decided v ≡ weight_at part (value_of values source)
  weighs-there source part decided v variable is =
      ap (option_and_then (weight_within (set_of declared source) part)) is ∙ ap (λ (b : Bool). cond b (weight_at part (value_of values source)) None) (member declared values within source variable)

  part-exceeds : (source by : VarId) (decided : ℤ → Option ℤ) (draft after : Draft) (excess : ℤ) → IsVariable (length declared) source → IsVariable (length declared) by → decided (value_of values by) ≡ Some (value_of values source)
      → Exceeds values draft excess → part_moved_so declared decided source by draft ≡ Ok after → Exceeds values after excess
  part-exceeds source by decided draft after excess source_fits by_fits decides h is =
      let part = part_for source draft.parts in
      let more = weight_where (set_of declared source) part decided in
      let low = least (set_of declared by) in
      let count = span (set_of declared by) in
      let here = member declared values within by by_fits in
      let there = placed low (greatest (set_of declared by)) (value_of values by) (least_le (set_of declared by) (value_of values by) here) (le_greatest (set_of declared by) (value_of values by) here) in
      let taken = taken-exceeds values source draft excess h in
      let moves : more (value_of values by) ≡ Some taken.0 = weighs-there source part decided (value_of values by) source_fits decides ∙ taken.1 in
      let old = part_for by (without_part source draft).parts in
      let of = var-part_for by (without_part source draft).parts in
      let there_too : IsPlaced low count (value_of values old.var) = subst (λ (x : VarId). IsPlaced low count (value_of values x)) (sym of) there in
      let moves_too : more (value_of values old.var) ≡ Some taken.0 = ap (λ (x : VarId). more (value_of values x)) of ∙ moves in
      let last = list-exceeds values low by (moved_from more low count old.listed) taken.0 (without_part source draft) after (excess -ℤ taken.0) taken.2 (λ w weighs. moved-weight more low count old (value_of values old.var) w taken.0 there_too weighs moves_too) is in
      exceeds-same values after _ _ (whole excess taken.0) last

  narrow-sound : (source by : VarId) (decided : ℤ → Option ℤ) (draft after : Draft) (test : Bool) → IsVariable (length declared) source → IsVariable (length declared) by → decided (value_of values by) ≡ Some (value_of values source)
      → RowHolds (row_of draft) values → cond test (part_moved_so declared decided source by draft) (Err NotDerived) ≡ Ok after → RowHolds (row_of after) values
  narrow-sound source by decided draft after true source_fits by_fits decides before is =
      let had = holds-exceeds values draft before in
      exceeds-holds values after had.0 (part-exceeds source by decided draft after had.0 source_fits by_fits decides had.2 is) had.1
  narrow-sound source by decided draft after false source_fits by_fits decides before is = absurd (no_error NotDerived after is)

  decided-sound : (source : VarId) (c : Constraint) (draft after : Draft) → IsWellFormedConstraint (length declared) c → HasBooleanSets declared c → Meets c values → RowHolds (row_of draft) values → decided_moved declared source draft c ≡ Ok after → RowHolds (row_of after) values
  decided-sound source c draft after well bits met before is = found (decider_in source c) refl is
    where
      found : (o : Option VarId) → decider_in source c ≡ o → option_map_or (λ by. cond (is_narrow (set_of declared by)) (part_moved_so declared (λ (value : ℤ). decided_in by value c) source by draft) (Err NotDerived)) o (Err NotDerived) ≡ Ok after → RowHolds (row_of after) values
      found None decider made = absurd (no_error NotDerived after made)
      found (Some by) decider made =
          let fit = decided-variables (length declared) source by c well decider in
          let decided = decided-value values source by c (bits-choice declared values c within bits) met decider in
          narrow-sound source by (λ (value : ℤ). decided_in by value c) draft after (is_narrow (set_of declared by)) fit.1 fit.0 decided before made

  constraint-sound : (var : VarId) (c : Constraint) (draft after : Draft) → IsWellFormedConstraint (length declared) c → HasBooleanSets declared c → Meets c values → RowHolds (row_of draft) values → part_moved_by declared var draft c ≡ Ok after → RowHolds (row_of after) values
  unfolding Meets IsWellFormedConstraint
  constraint-sound var (Inverse forward backward) draft after well bits met before is = inverse-sound values var forward backward draft after well.2 met before is
  constraint-sound var c draft after well bits met before is = decided-sound var c draft after well bits met before is

  maybe-sound : (var : VarId) (o : Option Constraint) (draft after : Draft) → IfSome o (IsWellFormedConstraint (length declared)) → IfSome o (HasBooleanSets declared) → IfSome o (λ (c : Constraint). Meets c values) → RowHolds (row_of draft) values → option_map_or (part_moved_by declared var draft) o (Err NoSuchConstraint) ≡ Ok after → RowHolds (row_of after) values
  maybe-sound var None draft after well bits met before is = absurd (no_error NoSuchConstraint after is)
  maybe-sound var (Some c) draft after well bits met before is = constraint-sound var c draft after well bits met before is

  pub moves-sound : (given : List Constraint) (id : ℕ) (var : VarId) (draft after : Draft) → All (IsWellFormedConstraint (length declared)) given → All (HasBooleanSets declared) given → IfSome (constraint_at given id) (λ (c : Constraint). Meets c values) → RowHolds (row_of draft) values → move_added given declared draft id var ≡ Ok after → RowHolds (row_of after) values
  moves-sound given id var draft after well booleans met before is = maybe-sound var (constraint_at given id) draft after (each_at (IsWellFormedConstraint (length declared)) given id well) (each_at (HasBooleanSets declared) given id booleans) met before is
