use Rattle.std.proofs.Common.{rules, ◌≡◌, ◌+◌, ◌≤◌, List, length, get_or, take, arith, ap, sym, subst, ◌∙◌, ℤ, pos, ◌+ℤ◌, ◌-ℤ◌, ◌<ℤ◌, w64, to_z, of_z, FitsSigned}
use Rattle.std.proofs.lemmas.Int.{ints, to_z-of_z}
use Rattle.fzn_domain.specs.declared.literal.Lit.{Lit}
use Rattle.fzn_values.specs.declared.term.Term.{Term}
use Rattle.fzn_values.specs.declared.term.Term.TheVariants.{Constant}
use Rattle.fzn_cumulative.specs.Loads.{least_use_of, AreExplained}
use Rattle.fzn_cumulative.proofs.LoadLemmas.{explained_more, explained_spare, explained_same, explained_wider, explained_all}
use Rattle.fzn_cumulative.proofs.load.explain_uses.Goals as goal
use Rattle.fzn_cumulative.specs.Passes.{tasks_of}
use Rattle.fzn_cumulative.proofs.load.explain_uses.Goals.{then-k-except+then-amount-left, then-k-except+else-amount-left+in_ok-explain_use, else-k-except}

pub explain_use-requires-clause-runs : goal.explain_use-requires-clause-runs
explain_use-requires-clause-runs c =
    let low = c.loop-k.invariant.not_negative in
    let some : pos 0 <ℤ c.use_at-amount.result = omega (arith, ints) in
    c.use_at-amount.ensures.runs some

pub loop-k-preserved : goal.loop-k-preserved
loop-k-preserved c =
    let trail = c.args.pass.now.trail.now in
    let tasks = tasks_of c.args.pass.now in
    let t = c.args.time.now in
    let at : Term = Constant (pos 0) in
    let k = c.loop-k.k in
    let below = c.loop-k-test.true in
    let low = c.loop-k.invariant.not_negative in
    let high = c.loop-k.invariant.no_more in
    let spare = to_z w64 (of_z w64 c.args.spare) in
    let before = c.loop-k.invariant.explained in
    elim c.if-k-except.branch [
      | then-k-except+then-amount-left w ↦
          let amount_low = w.use_at-amount.ensures.not_negative in
          let new_left : to_z w64 c.if-k-except.left-bits ≡ to_z w64 c.loop-k.left-bits -ℤ w.use_at-amount.result = omega (arith, ints) in
          let amount : least_use_of trail.sets t (get_or tasks.starts k at) (get_or tasks.durations k at) (get_or tasks.uses k at) ≡ w.use_at-amount.result = sym w.use_at-amount.ensures.value in
          let more = explained_spare trail t c.args.except tasks.starts tasks.durations tasks.uses k at c.args.pass.now.ready.as_many_durations c.args.pass.now.ready.as_many_uses below c.args.clause.now
          (to_z w64 (of_z w64 c.args.spare) -ℤ to_z w64 c.loop-k.left-bits) c.loop-k.clause w.if-k-except.true before in
          let sum : ((to_z w64 (of_z w64 c.args.spare) -ℤ to_z w64 c.loop-k.left-bits) +ℤ least_use_of trail.sets t (get_or tasks.starts k at) (get_or tasks.durations k at) (get_or tasks.uses k at)) ≡ to_z w64 (of_z w64 c.args.spare) -ℤ to_z w64 c.if-k-except.left-bits =
          ap (λ (x : ℤ). (to_z w64 (of_z w64 c.args.spare) -ℤ to_z w64 c.loop-k.left-bits) +ℤ x) amount ∙ omega (arith, ints) in
          record {
            not_negative = omega (arith, ints);
            no_more = omega (arith, ints);
            explained =
                subst (λ (xs : List Lit). AreExplained trail t c.args.except (to_z w64 (of_z w64 c.args.spare) -ℤ to_z w64 c.if-k-except.left-bits) (take (k + 1) tasks.starts) (take (k + 1) tasks.durations) (take (k + 1) tasks.uses) c.args.clause.now xs) (sym w.clause-is)
                (subst (λ (x : ℤ). AreExplained trail t c.args.except x (take (k + 1) tasks.starts) (take (k + 1) tasks.durations) (take (k + 1) tasks.uses) c.args.clause.now c.loop-k.clause) sum more);
          }
      | then-k-except+else-amount-left+in_ok-explain_use w ↦
          let same_left : to_z w64 c.if-k-except.left-bits ≡ to_z w64 c.loop-k.left-bits = omega (arith, ints) in
          let more = explained_more trail t c.args.except tasks.starts tasks.durations tasks.uses k at c.args.pass.now.ready.as_many_durations c.args.pass.now.ready.as_many_uses below c.args.clause.now
          (to_z w64 (of_z w64 c.args.spare) -ℤ to_z w64 c.loop-k.left-bits) c.loop-k.clause w.explain_use.new.clause w.if-k-except.true before w.in_ok-explain_use.ensures in
          record {
            not_negative = omega (arith, ints);
            no_more = omega (arith, ints);
            explained =
                subst (λ (xs : List Lit). AreExplained trail t c.args.except (to_z w64 (of_z w64 c.args.spare) -ℤ to_z w64 c.if-k-except.left-bits) (take (k + 1) tasks.starts) (take (k + 1) tasks.durations) (take (k + 1) tasks.uses) c.args.clause.now xs) (sym w.clause-is)
                (subst (λ (x : ℤ). AreExplained trail t c.args.except (to_z w64 (of_z w64 c.args.spare) -ℤ x) (take (k + 1) tasks.starts) (take (k + 1) tasks.durations) (take (k + 1) tasks.uses) c.args.clause.now w.explain_use.new.clause) (sym same_left) more);
          }
      | else-k-except w ↦
          let same_left : to_z w64 c.if-k-except.left-bits ≡ to_z w64 c.loop-k.left-bits = omega (arith, ints) in
          let more = explained_same trail t c.args.except tasks.starts tasks.durations tasks.uses k at c.args.pass.now.ready.as_many_durations c.args.pass.now.ready.as_many_uses below c.args.clause.now
          (to_z w64 (of_z w64 c.args.spare) -ℤ to_z w64 c.loop-k.left-bits) c.loop-k.clause w.if-k-except.false before in
          record {
            not_negative = omega (arith, ints);
            no_more = omega (arith, ints);
            explained =
                subst (λ (xs : List Lit). AreExplained trail t c.args.except (to_z w64 (of_z w64 c.args.spare) -ℤ to_z w64 c.if-k-except.left-bits) (take (k + 1) tasks.starts) (take (k + 1) tasks.durations) (take (k + 1) tasks.uses) c.args.clause.now xs) (sym w.clause-is)
                (subst (λ (x : ℤ). AreExplained trail t c.args.except (to_z w64 (of_z w64 c.args.spare) -ℤ x) (take (k + 1) tasks.starts) (take (k + 1) tasks.durations) (take (k + 1) tasks.uses) c.args.clause.now c.loop-k.clause) (sym same_left) more);
          }
    ]

pub returns : goal.returns
returns c =
    let trail = c.args.pass.now.trail.now in
    let tasks = tasks_of c.args.pass.now in
    let past : length c.args.pass.now.starts.now ≤ c.loop-k.k = omega arith in
    let low = c.loop-k.invariant.not_negative in
    let fits : FitsSigned w64 c.args.spare = search rules in
    let spare_is : to_z w64 (of_z w64 c.args.spare) ≡ c.args.spare = to_z-of_z w64 c.args.spare fits in
    explained_wider trail c.args.time.now c.args.except (to_z w64 (of_z w64 c.args.spare) -ℤ to_z w64 c.loop-k.left-bits) c.args.spare tasks.starts tasks.durations tasks.uses c.args.clause.now c.loop-k.clause (omega (arith, ints))
    (explained_all trail c.args.time.now c.args.except c.loop-k.k (to_z w64 (of_z w64 c.args.spare) -ℤ to_z w64 c.loop-k.left-bits) tasks.starts tasks.durations tasks.uses c.args.clause.now c.loop-k.clause c.args.pass.now.ready.as_many_durations c.args.pass.now.ready.as_many_uses past c.loop-k.invariant.explained)
