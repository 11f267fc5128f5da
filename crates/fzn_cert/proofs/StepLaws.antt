-- Steps that are written are read again.
use Rattle.std.proofs.Common.{◌≡◌, ℕ, true, false, eqb, ltb, List, [], ◌∷◌, length, map, Some, refl, sym, subst, arith}
use Rattle.std.specs.Prelude.{ℤ, int_le}
use Rattle.std.specs.List.{list_all, AllByRecursion}
use Rattle.std.specs.Fmt.{decimal, signed_decimal}
use Rattle.std.proofs.lemmas.Int.{ints}
use Rattle.fzn_cert.specs.declared.step.Version.{Version}
use Rattle.fzn_cert.specs.declared.step.Step.{Step}
use Rattle.fzn_cert.specs.declared.step.Step.TheVariants.{Infer, Resolve, Solution, Delete}
use Rattle.fzn_rules.specs.declared.rule.Rule.{Rule}
use Rattle.fzn_rules.specs.declared.rule.Rule.TheVariants.{Lin, Rows, Box, Fixed, Enum, Hall, Load, Energy, Cut, Pair, Row}
use Rattle.fzn_cert.specs.Spelling.{rule_name, hints, literal_text, step_words, IsNumber, IsValue, IsHint, IsLiteral, IsRule, Rises, IdsRise, IsSpelled}
use Rattle.fzn_cert.specs.Words.{positive_of, hint_of, is_value, literal_of}
use Rattle.fzn_cert.specs.Reading.{rises, ids_rise, short_rule_of, rule_spelled, infer_of, resolve_of, solution_of, delete_of, step_of_words}
use Rattle.fzn_cert.proofs.WordLaws.{number_again, hint_again, literal_again, items_again, marked_again, hint_apart, literal_apart}

rises_test : (xs : List ℤ) → Rises xs → rises xs ≡ true
unfolding rises Rises
rises_test [] h = refl
rises_test (x ∷ []) h = refl
rises_test (x ∷ y ∷ rest) h =
    let below : int_le y x ≡ false = grind (arith, ints, h.0) in
    rw (below, rises_test (y ∷ rest) h.1) refl

ids_rise_test : (xs : List ℕ) → IdsRise xs → ids_rise xs ≡ true
unfolding ids_rise IdsRise
ids_rise_test [] h = refl
ids_rise_test (x ∷ []) h = refl
ids_rise_test (x ∷ y ∷ rest) h =
    let below : ltb x y ≡ true = grind (arith, h.0) in
    rw (below, ids_rise_test (y ∷ rest) h.1) refl

pub rule_again : (rule : Rule) → IsRule rule → rule_spelled (rule_name rule) (hints rule) ≡ Some rule
unfolding rule_spelled short_rule_of
rule_again Lin h = refl
rule_again Rows h = refl
rule_again Box h = refl
rule_again Fixed h = refl
rule_again Enum h = refl
rule_again (Hall a b) h = refl
rule_again (Load t) h = refl
rule_again (Energy t u) h = refl
rule_again (Cut ps) h = rw (rises_test ps h.1) refl
rule_again (Pair i j) h = refl
rule_again Row h = refl

pub hints_fit : (rule : Rule) → IsRule rule → AllByRecursion IsHint (hints rule)
hints_fit Lin h = h
hints_fit Rows h = h
hints_fit Box h = h
hints_fit Fixed h = h
hints_fit Enum h = h
hints_fit (Hall a b) h = h
hints_fit (Load t) h = h
hints_fit (Energy t u) h = h
hints_fit (Cut ps) h = h.0
hints_fit (Pair i j) h = h
hints_fit Row h = h

values_pass : (zs : List ℤ) → AllByRecursion IsValue zs → list_all is_value zs ≡ true
values_pass [] h = refl
values_pass (z ∷ zs) h =
    let one : is_value z ≡ true = grind (arith, ints, h.0) in
    rw (one, values_pass zs h.1) refl

values_are_hints : (zs : List ℤ) → AllByRecursion IsValue zs → AllByRecursion IsHint zs
values_are_hints [] h = tt
values_are_hints (z ∷ zs) h = ((omega (arith, ints, h.0), omega (arith, ints, h.0)), values_are_hints zs h.1)

pub step_again : (v : Version) (step : Step) → IsSpelled v step → step_of_words v (step_words step) ≡ Some step
unfolding step_of_words infer_of resolve_of solution_of delete_of
step_again v (Infer it) h =
    rw (
      number_again it.constraint h.0,
      marked_again hint_of signed_decimal IsHint hint_again hint_apart (hints it.rule) (map literal_text it.clause) (hints_fit it.rule h.1),
      rule_again it.rule h.1,
      items_again literal_of literal_text IsLiteral literal_again it.clause h.2,
    ) refl
step_again v (Resolve clause ids) h =
    rw (
      marked_again literal_of literal_text IsLiteral literal_again literal_apart clause (map decimal ids) h.0,
      items_again positive_of decimal IsNumber number_again ids h.1,
    ) refl
step_again v (Solution values) h = rw (items_again hint_of signed_decimal IsHint hint_again values (values_are_hints values h), values_pass values h) refl
step_again v (Delete ids) h =
    let some : eqb (length ids) 0 ≡ false = grind (arith, h.1) in
    subst (λ (w : Version). step_of_words w (step_words (Delete ids)) ≡ Some (Delete ids)) (sym h.0)
    (rw (items_again positive_of decimal IsNumber number_again ids h.2, some, ids_rise_test ids h.3) refl)
