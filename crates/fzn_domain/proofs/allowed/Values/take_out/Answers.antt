use Rattle.std.proofs.Common.{◌&&◌, not, int_eq, sym, ap, ◌∙◌, to_z-of_z}
use Rattle.std.specs.FinSet as set
use Rattle.fzn_domain.specs.declared.allowed.Values.{Values}
use Rattle.fzn_domain.specs.IntSet.{contains}
use Rattle.fzn_domain.specs.Allowed.{allows}
use Rattle.fzn_domain.proofs.DomainLemmas.{forbidden_listed, forbidden_hole}
use Rattle.fzn_domain.proofs.allowed.Values.take_out.Goals as goal

pub returns-in_ok-remove-in-Listed-clause-ok : goal.returns-in_ok-remove-in-Listed-clause-ok
returns-in_ok-remove-in-Listed-clause-ok c other =
    ap (λ s. contains s other) (c.in_ok-remove-in-Listed.ensures.ok ∙ ap (set.remove c.in-Listed.list) (to_z-of_z c.ranges.value))
    ∙ forbidden_listed c.in-Listed.list c.args.value other
    ∙ ap (λ (v : Values). allows v other && not (int_eq other c.args.value)) (sym c.in-Listed.is)

pub returns-in_ok-insert-in-AllBut-clause-ok : goal.returns-in_ok-insert-in-AllBut-clause-ok
returns-in_ok-insert-in-AllBut-clause-ok c other =
    ap (λ s. not (contains s other)) (c.in_ok-insert-in-AllBut.ensures.ok ∙ ap (set.insert c.in-AllBut.holes) (to_z-of_z c.ranges.value))
    ∙ forbidden_hole c.in-AllBut.holes c.args.value other
    ∙ ap (λ (v : Values). allows v other && not (int_eq other c.args.value)) (sym c.in-AllBut.is)

pub returns-in_ok-remove-in-Bits-clause-ok : goal.returns-in_ok-remove-in-Bits-clause-ok
returns-in_ok-remove-in-Bits-clause-ok c other =
    ap (λ s. contains s other) (c.in_ok-remove-in-Bits.ensures.ok ∙ ap (set.remove c.in-Bits.bits) (to_z-of_z c.ranges.value))
    ∙ forbidden_listed c.in-Bits.bits c.args.value other
    ∙ ap (λ (v : Values). allows v other && not (int_eq other c.args.value)) (sym c.in-Bits.is)

pub returns-in-Word-clause-ok : goal.returns-in-Word-clause-ok
returns-in-Word-clause-ok c other =
    ap (λ s. contains s other) (c.remove-in-Word.ensures ∙ ap (set.remove c.in-Word.set) (to_z-of_z c.ranges.value))
    ∙ forbidden_listed c.in-Word.set c.args.value other
    ∙ ap (λ (v : Values). allows v other && not (int_eq other c.args.value)) (sym c.in-Word.is)
