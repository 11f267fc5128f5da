use Rattle.std.proofs.Common.{◌+◌, ℕ, ◌<◌, length, refl, sym, subst}
use Rattle.std.proofs.lemmas.Bool.{false≢true}
use Rattle.fzn_fixed.proofs.ImageLemmas.{BoundsBefore, still_best, new_best}
use Rattle.fzn_fixed.proofs.image.place_of.Goals as goal
use Rattle.fzn_fixed.proofs.image.place_of.Goals.{then-not-bounds, else-not-bounds}

pub loop-i-preserved : goal.loop-i-preserved
loop-i-preserved c =
    let xs = c.args.entries.now in
    let i = c.loop-i.i in
    elim c.if-not-bounds.branch [
      | then-not-bounds w ↦ record {
        inside = subst (λ (n : ℕ). n < length xs) (sym w.best-is) c.loop-i-test.true;
        bounds = subst (λ (n : ℕ). BoundsBefore c.args.extreme xs n (i + 1)) (sym w.best-is) (new_best c.args.extreme xs c.loop-i.best i c.loop-i.invariant.bounds (λ h. false≢true (w.if-not-bounds.ensures.1 h)));
      }
      | else-not-bounds w ↦ record {
        inside = subst (λ (n : ℕ). n < length xs) (sym w.best-is) c.loop-i.invariant.inside;
        bounds = subst (λ (n : ℕ). BoundsBefore c.args.extreme xs n (i + 1)) (sym w.best-is) (still_best c.args.extreme xs c.loop-i.best i c.loop-i.invariant.bounds (w.if-not-bounds.ensures.0 refl));
      }
    ]
