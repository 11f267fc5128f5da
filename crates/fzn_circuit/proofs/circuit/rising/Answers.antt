use Rattle.std.proofs.Common.{rules, ◌≡◌, ◌∷◌, [], ◌++◌, ◌+◌, ◌-◌, get_or, arith, ap, sym, subst, ◌∙◌, inl, inr, ℤ, pos, All, w64, FitsSigned}
use Rattle.std.specs.List.{Contains}
use Rattle.std.proofs.lemmas.Int.{to_z-of_z}
use Rattle.std.proofs.lemmas.List.{take_all}
use Rattle.fzn_circuit.proofs.WayLemmas.{IsRisen, risen_push, risen_same, lt_bits, not_lt_bits}
use Rattle.fzn_circuit.proofs.circuit.rising.Goals as goal
use Rattle.fzn_circuit.proofs.circuit.rising.Goals.{then-k-eq0+in_ok-push, then-k-eq0-via-then-k-eq0, then-k-eq0-via-else-k-eq0+then-values-k, else-k-eq0+else-values-k}

pub loop-k-preserved : goal.loop-k-preserved
loop-k-preserved c =
    let values = c.args.values.now in
    let k = c.loop-k.k in
    let before = c.loop-k.invariant in
    let inside = c.loop-k-test.true in
    let fits : FitsSigned w64 (get_or c.args.values.now c.loop-k.k (pos 0)) = search rules in
    let fits_before : FitsSigned w64 (get_or c.args.values.now (c.loop-k.k - 1) (pos 0)) = search rules in
    let is = to_z-of_z w64 (get_or c.args.values.now c.loop-k.k (pos 0)) fits in
    elim c.if-k-eq0.branch [
      | then-k-eq0+in_ok-push w ↦
          let longer : c.if-k-eq0.items ≡ c.loop-k.items ++ get_or c.args.values.now c.loop-k.k (pos 0) ∷ [] = w.items-is ∙ w.in_ok-push.ensures.ok ∙ ap (λ (x : ℤ). c.loop-k.items ++ x ∷ []) is in
          subst (IsRisen c.args.values.now (c.loop-k.k + 1)) (sym longer)
          (elim w.then-k-eq0.branch [
            | then-k-eq0-via-then-k-eq0 w' ↦ risen_push values k c.loop-k.items inside before (inl w'.if-k-eq0.true)
            | then-k-eq0-via-else-k-eq0+then-values-k w' ↦
                let apart = w'.if-k-eq0.false in
                risen_push values k c.loop-k.items inside before (inr (omega arith, lt_bits _ _ fits_before fits w'.if-values-k.true))
          ])
      | else-k-eq0+else-values-k w ↦
          let apart = w.if-k-eq0.false in
          subst (IsRisen c.args.values.now (c.loop-k.k + 1)) (sym w.items-is)
          (risen_same values k c.loop-k.items inside before c.requires (omega arith) (not_lt_bits _ _ fits_before fits w.if-values-k.false))
    ]

pub returns-clause-all : goal.returns-clause-all
returns-clause-all c =
    let past = c.loop-k-test.false in
    subst (All (Contains c.loop-k.items)) (take_all c.loop-k.k c.args.values.now past) c.loop-k.invariant.all
