use Rattle.std.proofs.Common.{rules, arith, ◌≡◌, sym, ap, ◌∙◌, subst, ℤ, pos, ◌+ℤ◌, ◌-ℤ◌, ◌*ℤ◌, Result, Ok, Err, ◌⊎◌, OnOk, IfErr, FitsSigned, w64, to_z, of_z}
use Rattle.std.proofs.lemmas.Int.{ints, to_z-of_z}
use mir.Syntax.{w128}
use Rattle.fzn_cited.specs.declared.fault.DeriveFault.{DeriveFault}
use Rattle.fzn_cited.specs.declared.fault.DeriveFault.TheVariants.{Memory}
use Rattle.fzn_row.specs.Draft.{Draft, with_bound}
use Rattle.fzn_row.specs.Multiples.{term_added, place_added}
use Rattle.fzn_row.specs.Room.{draft_of}
use Rattle.fzn_row.proofs.room.RowDeriver.add_place.Goals as goal

number : (bound product amount k lp cast : ℤ) → lp ≡ pos 0 -ℤ amount *ℤ k → amount *ℤ k ≡ product → cast ≡ lp → bound +ℤ cast ≡ bound -ℤ product
number bound product amount k lp cast a b d = omega (arith, ints)

pub returns-in-Constant-clause-ok : goal.returns-in-Constant-clause-ok
returns-in-Constant-clause-ok c =
    let draft = draft_of c.args.self.now in
    let place = c.args.place.now in
    let amount = c.product-amount.result in
    let k = c.in-Constant.k in
    let lp = c.less_product.result in
    let amount_fits : FitsSigned w128 amount = search rules in
    let k_fits : FitsSigned w64 k = search rules in
    let lp_fits : FitsSigned w128 lp = search rules in
    let is = simp to_z-of_z at c.less_product.ensures.value in
    let number_is = number draft.bound ((place.coefficient *ℤ c.args.multiplier.now) *ℤ k) amount k lp _ is (ap (λ (x : ℤ). x *ℤ k) c.product-amount.ensures.value) (to_z-of_z w128 lp lp_fits) in
    let same : with_bound (draft.bound +ℤ to_z w128 (of_z w128 lp)) draft ≡ place_added c.args.multiplier.now draft place =
    ap (λ (b : ℤ). with_bound b draft) number_is ∙ sym (ap (term_added (place.coefficient *ℤ c.args.multiplier.now) draft) c.in-Constant.is) in
    subst (λ (r : Result Draft DeriveFault). OnOk c.raise.result (r ≡ Ok (draft_of c.raise.new.self))) same c.raise.ensures.ok

pub returns-in-Constant-clause-err : goal.returns-in-Constant-clause-err
returns-in-Constant-clause-err c =
    let draft = draft_of c.args.self.now in
    let place = c.args.place.now in
    let amount = c.product-amount.result in
    let k = c.in-Constant.k in
    let lp = c.less_product.result in
    let amount_fits : FitsSigned w128 amount = search rules in
    let k_fits : FitsSigned w64 k = search rules in
    let lp_fits : FitsSigned w128 lp = search rules in
    let is = simp to_z-of_z at c.less_product.ensures.value in
    let number_is = number draft.bound ((place.coefficient *ℤ c.args.multiplier.now) *ℤ k) amount k lp _ is (ap (λ (x : ℤ). x *ℤ k) c.product-amount.ensures.value) (to_z-of_z w128 lp lp_fits) in
    let same : with_bound (draft.bound +ℤ to_z w128 (of_z w128 lp)) draft ≡ place_added c.args.multiplier.now draft place =
    ap (λ (b : ℤ). with_bound b draft) number_is ∙ sym (ap (term_added (place.coefficient *ℤ c.args.multiplier.now) draft) c.in-Constant.is) in
    subst (λ (r : Result Draft DeriveFault). IfErr c.raise.result (λ (fault : DeriveFault). (fault ≡ Memory) ⊎ (r ≡ Err fault))) same c.raise.ensures.err
