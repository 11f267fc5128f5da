use Rattle.std.proofs.Common.{◌≡◌, ℕ, get_or, inl, inr, arith, sym, subst, ◌∙◌, pos, negsuc}
use Rattle.std.proofs.lemmas.Bool.{cases_lt, MatchBool-at_true, MatchBool-at_false}
use Rattle.std.proofs.lemmas.List.{get_or_default}
use Rattle.fzn_domain.specs.declared.literal.Op.TheVariants.{AtMost}
use Rattle.fzn_values.specs.declared.term.Term.{Term}
use Rattle.fzn_values.specs.declared.term.Term.TheVariants.{Constant}
use Rattle.fzn_terms.specs.Denied.{that, IsDenied}
use Rattle.fzn_cumulative.specs.Loads.{cumulative_of}
use Rattle.fzn_cumulative.specs.Passes.{tasks_of, AreFoundOfCumulative}
use Rattle.fzn_cumulative.proofs.PropagatorLemmas.{some_below}
use Rattle.fzn_cumulative.proofs.propagator.find_below.Goals as goal
use Rattle.fzn_cumulative.proofs.propagator.find_below.Goals.{then-branch+in_ok-hand_over, else-branch}

pub loop-k-preserved : goal.loop-k-preserved
loop-k-preserved c =
    elim c.if-branch.branch [
      | then-branch+in_ok-hand_over w ↦
          let trail = c.args.pass.now.trail.now in
          let forced = MatchBool-at_true _ (IsDenied c.args.pass.now.trail.now.sets (that (get_or c.args.terms.now c.loop-k.k (Constant (pos 0))) AtMost (negsuc 0))) w.if-branch.true (rw c.at_most.ensures at c.in_ok-force.ensures) in
          record {
            found =
                subst (AreFoundOfCumulative c.args.pass.now) (sym w.found-is)
                (w.in_ok-hand_over.ensures.found trail (cumulative_of (tasks_of c.args.pass.now)) (c.requires.inferred c.force.new.clause (some_below trail c.args.terms.now c.loop-k.k (Constant (pos 0)) _ c.force.new.clause c.requires.terms c.loop-k-test.true forced)) c.loop-k.invariant.found);
            kept = λ empty. absurd (w.in_ok-hand_over.ensures.some (sym w.found-is ∙ empty));
            none = λ empty. absurd (w.in_ok-hand_over.ensures.some (sym w.found-is ∙ empty));
          }
      | else-branch w ↦
          let terms = c.args.terms.now in
          let sets = c.args.pass.now.trail.now.sets in
          let denied = MatchBool-at_false _ (IsDenied sets (that (get_or terms c.loop-k.k (Constant (pos 0))) AtMost (negsuc 0))) w.if-branch.false (rw c.at_most.ensures at c.in_ok-force.ensures) in
          record {
            found = subst (AreFoundOfCumulative c.args.pass.now) (sym w.found-is) c.loop-k.invariant.found;
            kept = λ empty. c.loop-k.invariant.kept (sym w.found-is ∙ empty);
            none = λ empty k d below. elim (cases_lt k c.loop-k.k) [
              | inl before ↦ c.loop-k.invariant.none (sym w.found-is ∙ empty) k d before
              | inr past ↦
                  let here : c.loop-k.k ≡ k = omega arith in
                  subst (λ (n : ℕ). IsDenied c.args.pass.now.trail.now.sets (that (get_or c.args.terms.now n d) AtMost (negsuc 0))) here
                  (subst (λ (t : Term). IsDenied c.args.pass.now.trail.now.sets (that t AtMost (negsuc 0))) (get_or_default terms c.loop-k.k (Constant (pos 0)) d c.loop-k-test.true) denied)
            ];
          }
    ]

pub returns-in_err-hand_over-clause-found : goal.returns-in_err-hand_over-clause-found
returns-in_err-hand_over-clause-found c =
    let trail = c.args.pass.now.trail.now in
    let forced = MatchBool-at_true _ (IsDenied c.args.pass.now.trail.now.sets (that (get_or c.args.terms.now c.loop-k.k (Constant (pos 0))) AtMost (negsuc 0))) c.if-branch.true (rw c.at_most.ensures at c.in_ok-force.ensures) in
    c.hand_over.ensures.found trail (cumulative_of (tasks_of c.args.pass.now)) (c.requires.inferred c.force.new.clause (some_below trail c.args.terms.now c.loop-k.k (Constant (pos 0)) _ c.force.new.clause c.requires.terms c.loop-k-test.true forced)) c.loop-k.invariant.found
