use Rattle.std.proofs.Common.{sym, ap, subst, ◌∙◌, arith, ℤ, FitsSigned}
use Rattle.std.proofs.lemmas.Int.{to_z-of_z, fits_signed_from_abs}
use Rattle.std.proofs.lemmas.List.{get_or_read}
use mir.Syntax.{w64, w128}
use mir.Val.{to_z, of_z}
use Rattle.fzn_domain.specs.Limits.{IsSmall}
use Rattle.fzn_derive.specs.declared.adder.Cell.{Cell}
use Rattle.fzn_derive.specs.Room.{blank}
use Rattle.fzn_derive.proofs.BoundLemmas.{small-fits}
use Rattle.fzn_derive.proofs.StatingLemmas.{pushed-place}
use Rattle.fzn_derive.proofs.adder.Adder.push_held.Goals as goal

pub returns-clause-pushed : goal.returns-clause-pushed
returns-clause-pushed c =
    let room = c.args.self.now in
    let place = c.args.place in
    let sum = c.index.result.now.sum in
    let sum_is = ap (λ (x : Cell). x.sum) (get_or_read room.cells.items place c.index.result.now c.requires.inside c.index.ensures blank) in
    let small = subst IsSmall (sym sum_is) c.requires.small in
    let wide : FitsSigned w128 sum = fits_signed_from_abs w128 sum (omega (arith, small)) in
    let same = ap (λ (x : ℤ). to_z w64 (of_z w64 x)) (to_z-of_z w128 sum wide) ∙ to_z-of_z w64 sum (small-fits sum small) in
    pushed-place room place (to_z w64 (of_z w64 (to_z w128 (of_z w128 sum)))) c.args.numbers.now c.args.terms.now c.push.new.self c.push-2.new.self (same ∙ sum_is)
    (λ e. c.if-sum-eq0.false (ap (of_z w128) (sym same ∙ e))) c.requires.even c.in_ok-push.ensures.ok c.in_ok-push-2.ensures.ok
