use Rattle.std.proofs.Common.{◌≡◌, ℤ, suc, pos, length, subst, sym, ap, ◌∙◌, add-one, rules, arith}
use Rattle.std.proofs.lemmas.Int.{ints, to_z-of_z}
use Rattle.fzn_values.specs.Entries.{IsIndex, entry_at}
use Rattle.fzn_values.specs.Circuit.{reached}
use Rattle.fzn_values.proofs.CircuitLemmas.{IsIndex-reached}
use Rattle.fzn_values.proofs.ReturnLemmas.{first_of, first_return, no_return}
use Rattle.fzn_values.proofs.circuit.returns_last.Goals as goal
use mir.Syntax.{w64}
use mir.Val.{of_z, SFits}

pub at-place-requires : goal.at-place-requires
at-place-requires c =
    subst (IsIndex (length c.args.successors.now)) (sym c.loop-step.invariant.at)
    (IsIndex-reached c.args.successors.now c.requires c.loop-step.step (first_of (length c.args.successors.now) (omega arith)))

pub returns-then-place-eq1 : goal.returns-then-place-eq1
returns-then-place-eq1 c =
    let e : c.at-place.result ≡ pos 1 = omega (arith, ints) in
    first_return c.args.successors.now c.len.result c.loop-step.step c.len.ensures (omega arith)
    (ap (entry_at c.args.successors.now) (sym c.loop-step.invariant.at) ∙ sym c.at-place.ensures ∙ e)
    c.loop-step.invariant.not_before

pub loop-step-preserved : goal.loop-step-preserved
loop-step-preserved c =
    let fits : SFits w64 c.at-place.result = search rules in
    let e : c.at-place.result ≡ reached c.args.successors.now (suc c.loop-step.step) = c.at-place.ensures ∙ ap (entry_at c.args.successors.now) c.loop-step.invariant.at in
    record {
      at = rw add-one (to_z-of_z w64 c.at-place.result fits ∙ e);
      not_before = no_return c.args.successors.now c.loop-step.step (λ h. other c.at-place.result (e ∙ h) c.if-place-eq1.false) c.loop-step.invariant.not_before;
    }
  where
    other : (r : ℤ) → r ≡ pos 1 → (of_z w64 r ≡ 1 → ⊥) → ⊥
    other r e h = h (omega (arith, ints))
