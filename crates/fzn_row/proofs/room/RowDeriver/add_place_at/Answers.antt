use Rattle.std.proofs.Common.{rules, arith, ◌≡◌, sym, ap, ◌∙◌, subst, ℤ, pos, ◌+ℤ◌, ◌-ℤ◌, Result, Ok, OnOk, FitsSigned, to_z, of_z}
use Rattle.std.proofs.lemmas.Int.{ints, to_z-of_z}
use mir.Syntax.{w128}
use Rattle.fzn_cited.specs.declared.fault.DeriveFault.{DeriveFault}
use Rattle.fzn_weights.specs.Prices.{price_at}
use Rattle.fzn_row.specs.Draft.{Draft, with_bound}
use Rattle.fzn_row.specs.Prices.{price_added}
use Rattle.fzn_row.specs.Room.{draft_of}
use Rattle.fzn_row.proofs.room.RowDeriver.add_place_at.Goals as goal

number : (bound price less cast : ℤ) → less ≡ pos 0 -ℤ price → cast ≡ less → bound +ℤ cast ≡ bound -ℤ price
number bound price less cast a b = omega (arith, ints)

pub returns-in-Constant-clause-ok : goal.returns-in-Constant-clause-ok
returns-in-Constant-clause-ok c =
    let draft = draft_of c.args.self.now in
    let low = c.args.low.now in
    let prices = c.args.prices.now in
    let less = c.less_price.result in
    let fits : FitsSigned w128 less = search rules in
    let same : with_bound (draft.bound +ℤ to_z w128 (of_z w128 less)) draft ≡ price_added low prices draft c.args.place.now =
    ap (λ (b : ℤ). with_bound b draft) (number draft.bound (price_at low prices c.in-Constant.k) less _ c.less_price.ensures.value (to_z-of_z w128 less fits)) ∙ ap (price_added low prices draft) (sym c.in-Constant.is) in
    subst (λ (r : Result Draft DeriveFault). OnOk c.raise.result (r ≡ Ok (draft_of c.raise.new.self))) same c.raise.ensures.ok
