use Rattle.std.proofs.Common.{◌≡◌, ◌+◌, ◌≤◌, ℕ, List, [], length, get_or, inl, inr, arith, ap, sym, subst, ◌∙◌, pos, ◌+ℤ◌, w64, to_z, of_z}
use Rattle.std.proofs.lemmas.Int.{ints}
use Rattle.std.proofs.lemmas.Bool.{cases_lt}
use Rattle.fzn_domain.specs.declared.literal.Op.TheVariants.{AtLeast}
use Rattle.fzn_values.specs.declared.term.Term.TheVariants.{Constant}
use Rattle.fzn_terms.specs.declared.claim.Claim.{Claim}
use Rattle.fzn_terms.specs.Denied.{that, IsDenied}
use Rattle.fzn_propagator.specs.Inference.{Inference}
use Rattle.fzn_circuit.specs.declared.pass.Pass.{Pass}
use Rattle.fzn_circuit.specs.Passes.{AreFoundOfCircuit}
use Rattle.fzn_circuit.specs.Circuits.{IsSuccessorInside}
use Rattle.fzn_circuit.proofs.CircuitLemmas.{at_default, below_met, above_met}
use Rattle.fzn_circuit.proofs.propagator.find_outside.Goals as goal
use Rattle.fzn_circuit.proofs.propagator.find_outside.Goals.{then-not-is_denied+in_ok-find_not, else-not-is_denied, then-not-is_denied-2+in_ok-find_not-2, else-not-is_denied-2}

number_is : (n : ℕ) → n ≤ 100000 → to_z w64 (of_z w64 (to_z w64 n +ℤ pos 1)) ≡ pos (n + 1)
number_is n h = omega (arith, ints)

pub find_not-requires-clause-refuted : goal.find_not-requires-clause-refuted
find_not-requires-clause-refuted c = rw c.at_most-below.ensures (λ sets all. below_met sets c.args.pass.now.successors.now c.loop-k.k (Constant (pos 0)) c.loop-k-test.true all)

pub find_not-requires-then-not-is_denied-2-clause-refuted : goal.find_not-requires-then-not-is_denied-2-clause-refuted
find_not-requires-then-not-is_denied-2-clause-refuted c =
    let xs = c.args.pass.now.successors.now in
    let claim = c.at_least-above.ensures ∙ ap (that (get_or xs c.loop-k.k (Constant (pos 0))) AtLeast) (number_is (length c.args.pass.now.successors.now) c.args.pass.now.terms.1) in
    rw claim (λ sets all. above_met sets xs c.loop-k.k (Constant (pos 0)) c.loop-k-test.true all)

-- what one look makes of what was found
abbrev IsLooked : Pass → Claim → List Inference → List Inference → Type 0
IsLooked pass claim old new = AreFoundOfCircuit pass new × (new ≡ [] → old ≡ []) × (new ≡ [] → IsDenied pass.trail.now.sets claim)

pub loop-k-preserved : goal.loop-k-preserved
loop-k-preserved c =
    let xs = c.args.pass.now.successors.now in
    let sets = c.args.pass.now.trail.now.sets in
    let beyond = c.at_least-above.ensures ∙ ap (that (get_or xs c.loop-k.k (Constant (pos 0))) AtLeast) (number_is (length c.args.pass.now.successors.now) c.args.pass.now.terms.1) in
    let first : IsLooked c.args.pass.now c.at_most-below.result c.loop-k.found c.if-not-is_denied.found = elim c.if-not-is_denied.branch [
      | then-not-is_denied+in_ok-find_not w ↦ subst (λ (fs : List Inference). IsLooked c.args.pass.now c.at_most-below.result c.loop-k.found fs) (sym w.found-is) (w.in_ok-find_not.ensures.found, w.in_ok-find_not.ensures.kept, w.in_ok-find_not.ensures.none)
      | else-not-is_denied w ↦ subst (λ (fs : List Inference). IsLooked c.args.pass.now c.at_most-below.result c.loop-k.found fs) (sym w.found-is) (c.loop-k.invariant.found, λ empty. empty, λ empty. c.is_denied.ensures.0 w.if-not-is_denied.false)
    ] in
    let second : IsLooked c.args.pass.now c.at_least-above.result c.if-not-is_denied.found c.if-not-is_denied-2.found = elim c.if-not-is_denied-2.branch [
      | then-not-is_denied-2+in_ok-find_not-2 w ↦ subst (λ (fs : List Inference). IsLooked c.args.pass.now c.at_least-above.result c.if-not-is_denied.found fs) (sym w.found-is) (w.in_ok-find_not-2.ensures.found, w.in_ok-find_not-2.ensures.kept, w.in_ok-find_not-2.ensures.none)
      | else-not-is_denied-2 w ↦ subst (λ (fs : List Inference). IsLooked c.args.pass.now c.at_least-above.result c.if-not-is_denied.found fs) (sym w.found-is) (first.0, λ empty. empty, λ empty. c.is_denied-in-loop-k.ensures.0 w.if-not-is_denied-2.false)
    ] in
    record {
      found = second.0;
      none = λ empty k d below.
          let none = second.1 empty in
          elim (cases_lt k c.loop-k.k) [
            | inl before ↦ c.loop-k.invariant.none (first.1 none) k d before
            | inr past ↦
                let here : c.loop-k.k ≡ k = omega arith in
                subst (λ (n : ℕ). IsSuccessorInside c.args.pass.now.trail.now.sets (length c.args.pass.now.successors.now) (get_or c.args.pass.now.successors.now n d)) here
                (at_default xs c.loop-k.k (Constant (pos 0)) d (IsSuccessorInside sets (length xs)) c.loop-k-test.true (rw c.at_most-below.ensures at (first.2 none), rw beyond at (second.2 empty)))
          ];
    }

pub returns-clause-none : goal.returns-clause-none
returns-clause-none c = let past = c.loop-k-test.false in λ empty k d inside. c.loop-k.invariant.none empty k d (omega arith)
