use Rattle.std.proofs.Common.{◌≡◌, Bool, true, false, not, List, [], ◌∷◌, ◌++◌, ℤ, refl, sym, ap₂, ◌∙◌, arith}
use Rattle.std.specs.Ordering.{int_eq}
use Rattle.std.specs.Cmp.Lexicographic.{pointwise}
use Rattle.std.proofs.lemmas.Bool.Decides.{Decides-int_eq}
use Rattle.std.proofs.lemmas.List.{take_more}
use Rattle.std.proofs.lemmas.Slice.Eq.{slice_eq-Decides}
use Rattle.fzn_core.proofs.trial.are_same.Goals as goal

not-false : (b : Bool) → not b ≡ false → b ≡ true
not-false true e = refl
not-false false e = absurd cc

pub loop-i-preserved : goal.loop-i-preserved
loop-i-preserved c =
    let found = c.args.found.now in
    let wanted = c.args.wanted.now in
    let i = c.loop-i.i in
    let xs = c.as_slice.result.now in
    let ys = c.as_slice-in-loop-i.result.now in
    let test : pointwise int_eq xs ys ≡ true = not-false (pointwise int_eq xs ys) (sym c.ne.ensures ∙ c.if-ne.false) in
    let equal : xs ≡ ys = (slice_eq-Decides Decides-int_eq xs ys (pointwise int_eq xs ys) refl).0 test in
    let same = sym c.index-found-i.is ∙ sym c.as_slice.ensures ∙ equal ∙ c.as_slice-in-loop-i.ensures ∙ c.index-wanted-i.is in
    take_more found i c.index-found-i.result (omega arith) ∙ ap₂ (λ (front : List (List ℤ)) (x : List ℤ). front ++ x ∷ []) c.loop-i.invariant same ∙ sym (take_more wanted i c.index-wanted-i.result (omega arith))
