use Rattle.std.proofs.Common.{◌≡◌, ℕ, ◌*◌, ◌<◌, ap, sym, subst, ◌∙◌, arith, IfSome, IfNone}
use Rattle.fzn_builtin_rules.specs.Choices.{choices}
use Rattle.fzn_builtin_rules.proofs.ChoiceLemmas.{some_choice, choices-append}
use Rattle.fzn_builtin_rules.proofs.CountLemmas.{if_none, too_many_parts}
use Rattle.fzn_builtin_rules.proofs.choices.times_both.Goals as goal

whole : (count front back all : ℕ) → count ≡ 1 * front → all ≡ front * back → count * back ≡ all
whole count front back all is split = ap (λ (n : ℕ). n * back) (is ∙ omega arith) ∙ sym split

pub returns-in_err-count-clause-none : goal.returns-in_err-count-clause-none
returns-in_err-count-clause-none c =
    let sets = c.args.sets.now.present in
    let front = c.args.front.now in
    let back = c.args.back.now in
    let many = too_many_parts (choices sets front) (choices sets back) (omega (arith, c.in_err-count.ensures.none)) (some_choice sets back c.requires.nonempty c.requires.back) in
    if_none c.from_residual.result _ (subst (λ (n : ℕ). 4096 < n) (sym (choices-append sets front back)) many)

pub returns-clause-value : goal.returns-clause-value
returns-clause-value c =
    let sets = c.args.sets.now.present in
    let same = whole c.in_ok-count.count (choices sets c.args.front.now) (choices sets c.args.back.now) _ c.in_ok-count.ensures.value (choices-append sets c.args.front.now c.args.back.now) in
    subst (λ (n : ℕ). IfSome c.times_each-2.result (λ product. product ≡ n)) same c.times_each-2.ensures.value

pub returns-clause-none : goal.returns-clause-none
returns-clause-none c =
    let sets = c.args.sets.now.present in
    let same = whole c.in_ok-count.count (choices sets c.args.front.now) (choices sets c.args.back.now) _ c.in_ok-count.ensures.value (choices-append sets c.args.front.now c.args.back.now) in
    subst (λ (n : ℕ). IfNone c.times_each-2.result (4096 < n)) same c.times_each-2.ensures.none
