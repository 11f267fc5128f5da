use Rattle.std.proofs.Common.{◌≡◌, ◌∙◌, ap, sym, Bool, not, ◌||◌, nat_eq, false}
use Rattle.std.proofs.lemmas.Bool.{or_from, iff_false, ne_eqb}
use Rattle.std.specs.Ordering.{int_eq}
use Rattle.fzn_domain.specs.IntSet.{IntSet, size, least, greatest}
use Rattle.fzn_propagator.specs.declared.event.Change.{Change}
use Rattle.fzn_propagator.specs.Events.{is_either_empty, change_between}
use Rattle.fzn_propagator.proofs.event.Change.between.Goals as goal

-- where neither is empty, each change is by the ends
of_ends : (before present : IntSet) (low high fixed : Bool) → (size present ≡ 0 → ⊥) → (size before ≡ 0 → ⊥) → low ≡ not (int_eq (least present) (least before)) → high ≡ not (int_eq (greatest present) (greatest before)) → fixed ≡ int_eq (least present) (greatest present) → record { low = low; high = high; fixed = fixed } ≡ change_between before present
of_ends before present low high fixed some some_before l h f =
    let none : is_either_empty before present ≡ false = or_from (nat_eq (size present) 0) (nat_eq (size before) 0) (ne_eqb (size present) 0 some) (ne_eqb (size before) 0 some_before) in
    let given : Change = record { low = low; high = high; fixed = fixed } in
    let by_ends : Bool → Change = λ b. record { low = b || not (int_eq (least present) (least before)); high = b || not (int_eq (greatest present) (greatest before)); fixed = b || int_eq (least present) (greatest present) } in
    let same : given ≡ by_ends false = cc in
    same ∙ ap by_ends (sym none)

pub returns : goal.returns
returns c =
    of_ends c.args.before.now c.args.present.now _ _ _ (iff_false c.is_empty.ensures.empty c.if-is_empty.false) (iff_false c.is_empty-else-is_empty.ensures.empty c.if-is_empty-2.false) (ap not c.is_low_same.ensures) (ap not c.is_high_same.ensures) c.is_single.ensures
