use Rattle.std.proofs.Common.{◌≡◌, ◌+◌, pos, ◌+ℤ◌, ◌-ℤ◌, nat_abs, get_or, sym, subst, subst₂, arith, rules, to_z, of_z, to_z-of_z, FitsSigned, w64, int_le, true}
use Rattle.fzn_domain.specs.Ascending.{IsPlaceOf}
use Rattle.fzn_domain.proofs.CountLemmas.{width_plus}
use Rattle.fzn_domain.proofs.DomainLemmas.{real, le_test, test_le}
use Rattle.fzn_rules.proofs.RunLemmas.{run_test, run_past_end}
use Rattle.fzn_rules.proofs.cut.has_run.Goals as goal

pub returns-then-places-first : goal.returns-then-places-first
returns-then-places-first c =
    let low = real _ c.requires.low_in_limits in
    let high = real _ c.requires.high_in_limits in
    let place = subst (λ l. IsPlaceOf c.args.places.now l c.place_of-first.result) low c.place_of-first.ensures in
    let wide = subst₂ (λ l h. c.args.low +ℤ pos (nat_abs (to_z w64 (of_z w64 (h -ℤ l)))) ≡ c.args.high) (sym low) (sym high) (width_plus c.args.low c.args.high c.requires.low_in_limits c.requires.high_in_limits c.requires.ordered) in
    ((λ no. absurd cc), (λ all. absurd (run_past_end _ _ _ c.place_of-first.result _ c.requires.rising place wide (omega (arith, place.in_list, c.if-places-first.true)) all)))

pub returns : goal.returns
returns c =
    let low = real _ c.requires.low_in_limits in
    let high = real _ c.requires.high_in_limits in
    let place = subst (λ l. IsPlaceOf c.args.places.now l c.place_of-first.result) low c.place_of-first.ensures in
    let wide = subst₂ (λ l h. c.args.low +ℤ pos (nat_abs (to_z w64 (of_z w64 (h -ℤ l)))) ≡ c.args.high) (sym low) (sym high) (width_plus c.args.low c.args.high c.requires.low_in_limits c.requires.high_in_limits c.requires.ordered) in
    let fits : FitsSigned w64 (get_or c.args.places.now (c.place_of-first.result + nat_abs (to_z w64 (of_z w64 (to_z w64 (of_z w64 c.args.high) -ℤ to_z w64 (of_z w64 c.args.low))))) (pos 0)) = search rules in
    let last = to_z-of_z fits in
    let test = run_test _ _ _ c.place_of-first.result _ c.requires.rising place wide (omega (arith, place.in_list, c.if-places-first.false)) in
    ((λ yes. test.0 (test_le _ _ (subst₂ (λ a b. int_le a b ≡ true) last high yes))), (λ all. subst₂ (λ a b. int_le a b ≡ true) (sym last) (sym high) (le_test _ _ (test.1 all))))
