use Rattle.std.proofs.Common.{rules, arith, ◌≡◌, ◌<◌, ◌++◌, ◌∷◌, [], get_or, true, false, sym, ap, ◌∙◌, subst, inr, List, Option, None, Bool, nat_eq, ℤ, pos, ◌+ℤ◌, FitsSigned, w64, to_z, of_z}
use Rattle.std.specs.List.{list_all}
use Rattle.std.specs.Ordering.{int_eq}
use Rattle.std.proofs.lemmas.Int.{ints, to_z-of_z}
use Rattle.std.proofs.lemmas.Result.{err_from_is_err_and}
use Rattle.fzn_meaning.specs.Separable.{listed_at}
use Rattle.fzn_weights.specs.Limits.{is_entry_within}
use Rattle.fzn_weights.specs.Inverses.{raised_entry, raised_from}
use Rattle.fzn_weights.proofs.MoveLemmas.{within-push, within-fails}
use Rattle.fzn_weights.proofs.InverseLemmas.{raised-more, raised-at, length-raised, same_test}
use Rattle.fzn_weights.proofs.inverses.raised.Goals as goal

pub loop-i-preserved : goal.loop-i-preserved
loop-i-preserved c =
    let old = c.args.old.now in
    let more = c.args.more in
    let raised_fits : FitsSigned w64 c.args.raised_value = search rules in
    let raised_value : ℤ = to_z w64 (of_z w64 c.args.raised_value) in
    let held : raised_value ≡ c.args.raised_value = to_z-of_z w64 c.args.raised_value raised_fits in
    let i = c.loop-i.i in
    let value : ℤ = to_z w64 (of_z w64 (pos 1 +ℤ to_z w64 i)) in
    let few = c.requires.few in
    let value_is : value ≡ pos 1 +ℤ pos i = omega (arith, ints) in
    let value_fits : FitsSigned w64 (pos 1 +ℤ to_z w64 i) = omega (arith, ints) in
    let test : nat_eq (of_z w64 (pos 1 +ℤ to_z w64 i)) (of_z w64 c.args.raised_value) ≡ int_eq value raised_value =
    same_test (pos 1 +ℤ to_z w64 i) c.args.raised_value value_fits raised_fits ∙ ap (λ (v : ℤ). int_eq v c.args.raised_value) (sym (to_z-of_z w64 (pos 1 +ℤ to_z w64 i) value_fits)) ∙ ap (int_eq value) (sym held) in
    let entry = c.in_ok-entry.entry in
    let e : entry ≡ raised_entry (int_eq value raised_value) (listed_at old value) more =
    c.in_ok-entry.ensures.ok ∙ ap (λ (t : Bool). raised_entry t c.listed_at.result more) test ∙ ap (λ (o : Option ℤ). raised_entry (int_eq value raised_value) o more) c.listed_at.ensures.value in
    record {
      so_far = c.in_ok-push.ensures.ok ∙ ap (λ (es : List (Option ℤ)). es ++ entry ∷ []) c.loop-i.invariant.so_far ∙ sym (raised-more raised_value more old (pos 1) i value entry value_is e);
      within = subst (λ (es : List (Option ℤ)). list_all is_entry_within es ≡ true) (sym c.in_ok-push.ensures.ok) (within-push c.loop-i.entries entry c.loop-i.invariant.within c.in_ok-entry.ensures.within);
    }

pub returns-in_err-entry-clause-err : goal.returns-in_err-entry-clause-err
returns-in_err-entry-clause-err c =
    let p = err_from_is_err_and c.from_residual.result c.from_residual.ensures.1 in
    let old = c.args.old.now in
    let more = c.args.more in
    let raised_value = c.args.raised_value in
    let count = c.args.count in
    let i = c.loop-i.i in
    let inside : i < count = omega arith in
    let value : ℤ = to_z w64 (of_z w64 (pos 1 +ℤ to_z w64 i)) in
    let few = c.requires.few in
    let value_is : value ≡ pos 1 +ℤ pos i = omega (arith, ints) in
    let value_fits : FitsSigned w64 (pos 1 +ℤ to_z w64 i) = omega (arith, ints) in
    let raised_fits : FitsSigned w64 raised_value = search rules in
    let test : nat_eq (of_z w64 (pos 1 +ℤ to_z w64 i)) (of_z w64 raised_value) ≡ int_eq value raised_value = same_test (pos 1 +ℤ to_z w64 i) raised_value value_fits raised_fits ∙ ap (λ (v : ℤ). int_eq v raised_value) (sym (to_z-of_z w64 (pos 1 +ℤ to_z w64 i) value_fits)) in
    let here : raised_entry (nat_eq (of_z w64 (pos 1 +ℤ to_z w64 i)) (of_z w64 raised_value)) c.listed_at.result more ≡ get_or (raised_from (pos 1) count raised_value more old) i None =
    ap (λ (t : Bool). raised_entry t c.listed_at.result more) test
    ∙ ap (λ (o : Option ℤ). raised_entry (int_eq value raised_value) o more) c.listed_at.ensures.value
    ∙ ap (λ (v : ℤ). raised_entry (int_eq v raised_value) (listed_at old v) more) value_is ∙ sym (raised-at raised_value more old (pos 1) count i inside) in
    let fails : is_entry_within (get_or (raised_from (pos 1) count raised_value more old) i None) ≡ false = ap is_entry_within (sym here) ∙ c.in_err-entry.ensures.err.1 in
    rw (p.1, p.2) (inr (c.in_err-entry.ensures.err.0, within-fails (raised_from (pos 1) count raised_value more old) i (rw (length-raised raised_value more old (pos 1) count) inside) fails))
