use Rattle.std.proofs.Common.{arith, ◌≡◌, ◌≤◌, get_or, Bool, true, false, sym, ap, ◌∙◌, subst, unsigned_abs, ℤ, pos, cond, int_lt, to_z, w64, FitsSigned}
use Rattle.std.proofs.lemmas.Int.{to_z-of_z, fits_signed_from_abs}
use Rattle.fzn_weights.proofs.PriceLemmas.{prices-small, least-more}
use Rattle.fzn_weights.proofs.prices.least_price.Goals as goal
use Rattle.fzn_weights.proofs.prices.least_price.Goals.{then-price-least, else-price-least}

pub loop-price-preserved : goal.loop-price-preserved
loop-price-preserved c =
    let prices = c.args.prices.now in
    let i = c.loop-price.price-index in
    let price = get_or prices i (pos 0) in
    let inside = c.loop-price-test.true in
    let small : unsigned_abs price ≤ 1000000000000 = prices-small prices i (pos 0) c.requires.prices inside in
    let more = least-more prices i (pos 0) inside (to_z w64 c.loop-price.least-bits) c.loop-price.invariant.so_far in
    let least = to_z w64 c.loop-price.least-bits in
    let fits : FitsSigned w64 price = fits_signed_from_abs w64 price (omega arith) in
    let held = to_z-of_z w64 price fits in
    elim c.if-price-least.branch [
      | then-price-least w ↦
          let lt : int_lt price least ≡ true = ap (λ (x : ℤ). int_lt x least) (sym held) ∙ w.if-price-least.true in
          let is = w.least-is ∙ held in
          record {
            so_far = is ∙ sym (ap (λ (b : Bool). cond b price least) lt) ∙ more;
            bounded = subst (λ (x : ℤ). unsigned_abs x ≤ 1000000000000) (sym is) small;
          }
      | else-price-least w ↦
          let lt : int_lt price least ≡ false = ap (λ (x : ℤ). int_lt x least) (sym held) ∙ w.if-price-least.false in
          record {
            so_far = w.least-is ∙ sym (ap (λ (b : Bool). cond b price least) lt) ∙ more;
            bounded = subst (λ (x : ℤ). unsigned_abs x ≤ 1000000000000) (sym w.least-is) c.loop-price.invariant.bounded;
          }
    ]
