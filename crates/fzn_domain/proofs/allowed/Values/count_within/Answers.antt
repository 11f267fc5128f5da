use Rattle.std.proofs.Common.{to_z-of_z, refl, sym, ap, ◌∙◌, arith}
use Rattle.fzn_domain.specs.declared.allowed.Values.{Values}
use Rattle.fzn_domain.specs.declared.allowed.Values.TheVariants.{Listed, Bits, Word}
use Rattle.fzn_domain.specs.IntSet.{size, within}
use Rattle.fzn_domain.specs.Allowed.{selected}
use Rattle.fzn_domain.proofs.DomainLemmas.{selected_within, size-selected_all_but, width_computed}
use Rattle.fzn_domain.proofs.allowed.Values.count_within.Goals as goal

pub overflow_sub-result : goal.overflow_sub-result
overflow_sub-result c =
    let low = to_z-of_z c.ranges.low in
    let high = to_z-of_z c.ranges.high in
    let count = c.count_within-in-AllBut.ensures ∙ (λ i. size (within c.in-AllBut.holes (low i) (high i))) in
    omega (arith, width_computed c.args.low c.args.high c.requires.low_in_limits c.requires.high_in_limits c.requires.ordered, count, size-selected_all_but c.args.low c.args.high c.in-AllBut.holes)

pub returns-in-Listed : goal.returns-in-Listed
returns-in-Listed c =
    let low = to_z-of_z c.ranges.low in
    let high = to_z-of_z c.ranges.high in
    c.count_within.ensures ∙ (λ i. size (within c.in-Listed.list (low i) (high i)))
    ∙ ap size (selected_within c.args.low c.args.high (Listed c.in-Listed.list) c.in-Listed.list (λ v. refl)) ∙ ap (λ (v : Values). size (selected c.args.low c.args.high v)) (sym c.in-Listed.is)

pub returns-in-AllBut : goal.returns-in-AllBut
returns-in-AllBut c =
    let low = to_z-of_z c.ranges.low in
    let high = to_z-of_z c.ranges.high in
    let count = c.count_within-in-AllBut.ensures ∙ (λ i. size (within c.in-AllBut.holes (low i) (high i))) in
    let same = ap (λ (v : Values). size (selected c.args.low c.args.high v)) c.in-AllBut.is in
    omega (arith, width_computed c.args.low c.args.high c.requires.low_in_limits c.requires.high_in_limits c.requires.ordered, count, size-selected_all_but c.args.low c.args.high c.in-AllBut.holes, same)

pub returns-in-Bits : goal.returns-in-Bits
returns-in-Bits c =
    let low = to_z-of_z c.ranges.low in
    let high = to_z-of_z c.ranges.high in
    c.count_within-in-Bits.ensures ∙ (λ i. size (within c.in-Bits.bits (low i) (high i)))
    ∙ ap size (selected_within c.args.low c.args.high (Bits c.in-Bits.bits) c.in-Bits.bits (λ v. refl)) ∙ ap (λ (v : Values). size (selected c.args.low c.args.high v)) (sym c.in-Bits.is)

pub returns-in-Word : goal.returns-in-Word
returns-in-Word c =
    let low = to_z-of_z c.ranges.low in
    let high = to_z-of_z c.ranges.high in
    c.count_within-in-Word.ensures ∙ (λ i. size (within c.in-Word.set (low i) (high i)))
    ∙ ap size (selected_within c.args.low c.args.high (Word c.in-Word.set) c.in-Word.set (λ v. refl)) ∙ ap (λ (v : Values). size (selected c.args.low c.args.high v)) (sym c.in-Word.is)
