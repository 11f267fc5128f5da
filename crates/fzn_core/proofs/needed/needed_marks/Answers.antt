use Rattle.std.proofs.Common.{◌≡◌, ◌+◌, ◌-◌, ◌<◌, ℕ, true, false, length, drop, subst, ◌∙◌, arith}
use Rattle.fzn_core.specs.Core.{IsNeeded}
use Rattle.fzn_core.specs.Marks.{AreMarksOf}
use Rattle.fzn_core.proofs.MarksLemmas.{needed-cited, needed-skip, marked-here}
use Rattle.fzn_core.proofs.needed.needed_marks.Goals as goal

pub loop-place-preserved-then-index : goal.loop-place-preserved-then-index
loop-place-preserved-then-index c =
    let own = c.args.own in
    let read = c.args.derivations.now in
    let numbers = c.args.numbers.now in
    let place = c.loop-place.place - 1 in
    let old = c.loop-place.marks.items in
    let new = c.mark_cited.new.marks.items in
    let some : 0 < c.loop-place.place = omega (arith, c.loop-place-test.true) in
    let within : place < length read = omega (arith, some, c.loop-place.invariant.inside) in
    let next : c.loop-place.place ≡ place + 1 = omega (arith, some) in
    let inside : own + place + 1 < length old = omega (arith, within, c.loop-place.invariant.len) in
    let marks : AreMarksOf (IsNeeded (own + (place + 1)) (drop (place + 1) read) numbers) old = subst (λ (n : ℕ). AreMarksOf (IsNeeded (own + n) (drop n read) numbers) old) next c.loop-place.invariant.marks in
    record {
      inside = omega (arith, within);
      len = c.mark_cited.ensures.same_len ∙ c.loop-place.invariant.len;
      marks = needed-cited own read numbers place c.index-derivations-place.result within c.index-derivations-place.is old marks new inside
          (marked-here old (own + place + 1) c.index.result.now true inside c.index.ensures c.if-index.true) c.mark_cited.ensures;
    }

pub loop-place-preserved : goal.loop-place-preserved
loop-place-preserved c =
    let own = c.args.own in
    let read = c.args.derivations.now in
    let numbers = c.args.numbers.now in
    let place = c.loop-place.place - 1 in
    let old = c.loop-place.marks.items in
    let some : 0 < c.loop-place.place = omega (arith, c.loop-place-test.true) in
    let within : place < length read = omega (arith, some, c.loop-place.invariant.inside) in
    let next : c.loop-place.place ≡ place + 1 = omega (arith, some) in
    let inside : own + place + 1 < length old = omega (arith, within, c.loop-place.invariant.len) in
    let marks : AreMarksOf (IsNeeded (own + (place + 1)) (drop (place + 1) read) numbers) old = subst (λ (n : ℕ). AreMarksOf (IsNeeded (own + n) (drop n read) numbers) old) next c.loop-place.invariant.marks in
    record {
      inside = omega (arith, within);
      len = c.loop-place.invariant.len;
      marks = needed-skip own read numbers place old within marks inside (marked-here old (own + place + 1) c.index.result.now false inside c.index.ensures c.if-index.false);
    }

pub returns-clause-needed : goal.returns-clause-needed
returns-clause-needed c =
    let own = c.args.own in
    let read = c.args.derivations.now in
    let numbers = c.args.numbers.now in
    let marks = c.loop-place.marks.items in
    let none : c.loop-place.place ≡ 0 = omega (arith, c.loop-place-test.false) in
    let zero_more : own + 0 ≡ own = omega arith in
    subst (λ (n : ℕ). AreMarksOf (IsNeeded n read numbers) marks) zero_more (subst (λ (n : ℕ). AreMarksOf (IsNeeded (own + n) (drop n read) numbers) marks) none c.loop-place.invariant.marks)
