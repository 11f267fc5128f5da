use Rattle.std.proofs.Common.{◌∙◌, subst, arith, rules, FitsSigned, pos}
use Rattle.std.proofs.lemmas.Int.{to_z-of_z, fits_signed_from_abs}
use mir.Syntax.{w128}
use Rattle.fzn_values.specs.Term.{IsTerm}
use Rattle.fzn_derive.specs.Room.{variables_in}
use Rattle.fzn_derive.proofs.BoundLemmas.{product-plain, left-plain, small-fits, limits-fit}
use Rattle.fzn_derive.proofs.RoomLemmas.{constant-adds, constant-left, variable-adds, variable-left}
use Rattle.fzn_derive.proofs.adder.Adder.add_place.Goals as goal

pub returns-in-Constant-clause-added : goal.returns-in-Constant-clause-added
returns-in-Constant-clause-added c =
    let zero_fits : FitsSigned w128 (pos 0) = fits_signed_from_abs w128 (pos 0) (omega arith) in
    let coefficient = c.plus_product-coefficient.result in
    let product = product-plain (pos 0) c.args.place.coefficient c.args.multiplier coefficient zero_fits (small-fits c.args.place.coefficient c.requires.fits.1) c.ranges.multiplier c.plus_product-coefficient.ensures.value in
    constant-adds c.args.self.now c.args.self.now c.args.multiplier coefficient c.args.place product c.in-Constant.k c.in-Constant.is

pub returns-in-Constant-clause-left : goal.returns-in-Constant-clause-left
returns-in-Constant-clause-left c =
    let zero_fits : FitsSigned w128 (pos 0) = fits_signed_from_abs w128 (pos 0) (omega arith) in
    let coefficient = c.plus_product-coefficient.result in
    let product = product-plain (pos 0) c.args.place.coefficient c.args.multiplier coefficient zero_fits (small-fits c.args.place.coefficient c.requires.fits.1) c.ranges.multiplier c.plus_product-coefficient.ensures.value in
    let fits : FitsSigned w128 coefficient = fits_signed_from_abs w128 coefficient (omega (arith, c.plus_product-coefficient.ensures.bound)) in
    let k_fits = limits-fit c.in-Constant.k (subst (IsTerm (variables_in c.args.self.now)) c.in-Constant.is c.requires.fits.0) in
    let left = left-plain c.args.bound coefficient c.in-Constant.k c.less_product.result c.ranges.bound fits k_fits c.less_product.ensures in
    let left_fits : FitsSigned w128 c.less_product.result = search rules in
    to_z-of_z w128 c.less_product.result left_fits ∙ constant-left c.args.self.now c.args.self.now c.args.multiplier coefficient c.args.place product c.in-Constant.k c.args.bound c.less_product.result c.in-Constant.is left

pub returns-in_ok-add-in-Variable-clause-added : goal.returns-in_ok-add-in-Variable-clause-added
returns-in_ok-add-in-Variable-clause-added c =
    let zero_fits : FitsSigned w128 (pos 0) = fits_signed_from_abs w128 (pos 0) (omega arith) in
    let coefficient = c.plus_product-coefficient.result in
    let product = product-plain (pos 0) c.args.place.coefficient c.args.multiplier coefficient zero_fits (small-fits c.args.place.coefficient c.requires.fits.1) c.ranges.multiplier c.plus_product-coefficient.ensures.value in
    let fits : FitsSigned w128 coefficient = fits_signed_from_abs w128 coefficient (omega (arith, c.plus_product-coefficient.ensures.bound)) in
    let some = (subst (IsTerm (variables_in c.args.self.now)) c.in-Variable.is c.requires.fits.0).0 in
    variable-adds c.args.self.now c.add.new.self c.args.multiplier coefficient c.args.place product c.in-Variable.var c.in-Variable.is some (λ k. rw (to_z-of_z w128 coefficient fits) at (c.in_ok-add-in-Variable.ensures.added k))

pub returns-in_ok-add-in-Variable-clause-left : goal.returns-in_ok-add-in-Variable-clause-left
returns-in_ok-add-in-Variable-clause-left c =
    let zero_fits : FitsSigned w128 (pos 0) = fits_signed_from_abs w128 (pos 0) (omega arith) in
    let coefficient = c.plus_product-coefficient.result in
    let product = product-plain (pos 0) c.args.place.coefficient c.args.multiplier coefficient zero_fits (small-fits c.args.place.coefficient c.requires.fits.1) c.ranges.multiplier c.plus_product-coefficient.ensures.value in
    rw (to_z-of_z w128 c.args.bound c.ranges.bound) (variable-left c.args.self.now c.args.self.now c.args.multiplier coefficient c.args.place product c.in-Variable.var c.args.bound c.in-Variable.is)
