use Rattle.std.proofs.Common.{ℕ, ◌+◌, pos, sym, ap, ◌∙◌}
use Rattle.std.proofs.lemmas.Bool.{true≢false}
use Rattle.std.proofs.lemmas.List.Sums.{count_by_more_yes, count_by_more_no}
use Rattle.fzn_rules.specs.Hall.{lies_within}
use Rattle.fzn_values.specs.declared.term.Term.{Term}
use Rattle.fzn_values.specs.declared.term.Term.TheVariants.{Constant}
use Rattle.fzn_globals.proofs.HallLemmas.{within_step}
use Rattle.fzn_globals.proofs.all_different.hall.explain_places.Goals as goal
use Rattle.fzn_globals.proofs.all_different.hall.explain_places.Goals.{then-lies_within+in_ok-explain_within, else-lies_within}

pub loop-k-preserved : goal.loop-k-preserved
loop-k-preserved c =
    let trail = c.args.pass.now.trail.now in
    let places = c.args.pass.now.places.now in
    let low = c.args.span.now.low in
    let high = c.args.span.now.high in
    let k = c.loop-k.k in
    let d : Term = Constant (pos 0) in
    let invariant = c.loop-k.invariant in
    elim c.if-lies_within.branch [
      | then-lies_within+in_ok-explain_within w ↦
          let explained = w.in_ok-explain_within.ensures in
          rw (w.clause-is, w.count-is) (record {
            count = ap (λ (n : ℕ). n + 1) invariant.count ∙ sym (count_by_more_yes (lies_within trail.sets low high) places k d c.loop-k-test.true (sym c.lies_within.ensures.value ∙ w.if-lies_within.true));
            still = explained.still;
            within = within_step trail c.loop-k.clause w.explain_within.new.clause low high places k d c.loop-k-test.true invariant.within explained.keeps (λ lies. explained.says);
          })
      | else-lies_within w ↦
          rw (w.clause-is, w.count-is) (record {
            count = invariant.count ∙ sym (count_by_more_no (lies_within trail.sets low high) places k d c.loop-k-test.true (sym c.lies_within.ensures.value ∙ w.if-lies_within.false));
            still = invariant.still;
            within = within_step trail c.loop-k.clause c.loop-k.clause low high places k d c.loop-k-test.true invariant.within (λ sets left. left)
                (λ lies. absurd (true≢false (sym lies ∙ sym c.lies_within.ensures.value ∙ w.if-lies_within.false)));
          })
    ]
