use Rattle.std.proofs.Common.{◌≡◌, true, false, not, ℤ, FitsSigned, w64, rules, sym, ◌∙◌, arith, subst, to_z-of_z}
use Rattle.std.proofs.lemmas.Int.{ints}
use Rattle.std.proofs.lemmas.Bool.{OnTrue_from}
use Rattle.fzn_domain.specs.IntSet.{is_possible}
use Rattle.fzn_domain.specs.declared.literal.Op.TheVariants.{AtMost, AtLeast}
use Rattle.fzn_clauses.proofs.StateLemmas.{outside}
use Rattle.fzn_clauses.proofs.state.is_outside.Goals as goal

pub returns-then-is_false : goal.returns-then-is_false
returns-then-is_false c =
    let fits : FitsSigned w64 c.args.lit.value = search rules in
    OnTrue_from c.is_false.result (is_possible c.args.domain.now c.args.lit ≡ false) (λ e.
    outside c.args.domain.now c.args.lit AtMost c.in-Equal.is (grind (arith, ints))
    (subst (λ (v : ℤ). not (is_possible c.args.domain.now (record { var = c.args.lit.var; op = AtMost; value = v })) ≡ true) (to_z-of_z fits) (sym c.is_false.ensures ∙ e)))

pub returns-else-is_false : goal.returns-else-is_false
returns-else-is_false c =
    let fits : FitsSigned w64 c.args.lit.value = search rules in
    OnTrue_from c.is_false-else-is_false.result (is_possible c.args.domain.now c.args.lit ≡ false) (λ e.
    outside c.args.domain.now c.args.lit AtLeast c.in-Equal.is (grind (arith, ints))
    (subst (λ (v : ℤ). not (is_possible c.args.domain.now (record { var = c.args.lit.var; op = AtLeast; value = v })) ≡ true) (to_z-of_z fits) (sym c.is_false-else-is_false.ensures ∙ e)))
