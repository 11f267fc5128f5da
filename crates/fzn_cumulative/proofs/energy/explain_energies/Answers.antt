use Rattle.std.proofs.Common.{◌≡◌, ◌+◌, ◌≤◌, List, length, get_or, take, arith, ap, sym, subst, ◌∙◌, ℤ, pos, ◌+ℤ◌, ◌-ℤ◌, to_z}
use Rattle.std.proofs.lemmas.Int.{ints}
use Rattle.fzn_domain.specs.declared.literal.Lit.{Lit}
use Rattle.fzn_values.specs.declared.term.Term.{Term}
use Rattle.fzn_values.specs.declared.term.Term.TheVariants.{Constant}
use Rattle.fzn_cumulative.specs.Energies.{energy_of, AreEnergiesExplained}
use Rattle.fzn_cumulative.proofs.EnergyLemmas.{energies_more, energies_spare, energies_all}
use Rattle.fzn_cumulative.proofs.energy.explain_energies.Goals as goal
use Rattle.fzn_cumulative.specs.Passes.{tasks_of}
use Rattle.fzn_cumulative.proofs.energy.explain_energies.Goals.{then-amount-left, else-amount-left+in_ok-explain_cover}
use mir.Syntax.{w128}

pub loop-k-preserved : goal.loop-k-preserved
loop-k-preserved c =
    let trail = c.args.pass.now.trail.now in
    let tasks = tasks_of c.args.pass.now in
    let from = c.args.span.now.from in
    let until = c.args.span.now.until in
    let at : Term = Constant (pos 0) in
    let k = c.loop-k.k in
    let below = c.loop-k-test.true in
    let low = c.loop-k.invariant.not_negative in
    let high = c.loop-k.invariant.no_more in
    let amount_low = c.energy_of-amount.ensures.low in
    let before = c.loop-k.invariant.explained in
    elim c.if-amount-left.branch [
      | then-amount-left w ↦
          let new_left : to_z w128 c.if-amount-left.left-bits ≡ to_z w128 c.loop-k.left-bits -ℤ c.energy_of-amount.result = omega (arith, ints) in
          let amount : energy_of trail.sets from until (get_or tasks.starts k at) (get_or tasks.durations k at) (get_or tasks.uses k at) ≡ c.energy_of-amount.result = sym c.energy_of-amount.ensures.value in
          let more = energies_spare trail from until tasks.starts tasks.durations tasks.uses k at c.args.pass.now.ready.as_many_durations c.args.pass.now.ready.as_many_uses below c.args.clause.now
          (c.args.spare.now -ℤ to_z w128 c.loop-k.left-bits) c.loop-k.clause before in
          let sum : ((c.args.spare.now -ℤ to_z w128 c.loop-k.left-bits) +ℤ energy_of trail.sets from until (get_or tasks.starts k at) (get_or tasks.durations k at) (get_or tasks.uses k at)) ≡ c.args.spare.now -ℤ to_z w128 c.if-amount-left.left-bits =
          ap (λ (x : ℤ). (c.args.spare.now -ℤ to_z w128 c.loop-k.left-bits) +ℤ x) amount ∙ omega (arith, ints) in
          record {
            not_negative = omega (arith, ints);
            no_more = omega (arith, ints);
            explained =
                subst (λ (xs : List Lit). AreEnergiesExplained trail from until (c.args.spare.now -ℤ to_z w128 c.if-amount-left.left-bits) (take (k + 1) tasks.starts) (take (k + 1) tasks.durations) (take (k + 1) tasks.uses) c.args.clause.now xs) (sym w.clause-is)
                (subst (λ (x : ℤ). AreEnergiesExplained trail from until x (take (k + 1) tasks.starts) (take (k + 1) tasks.durations) (take (k + 1) tasks.uses) c.args.clause.now c.loop-k.clause) sum more);
          }
      | else-amount-left+in_ok-explain_cover w ↦
          let same_left : to_z w128 c.if-amount-left.left-bits ≡ to_z w128 c.loop-k.left-bits = omega (arith, ints) in
          let more = energies_more trail from until tasks.starts tasks.durations tasks.uses k at c.args.pass.now.ready.as_many_durations c.args.pass.now.ready.as_many_uses below c.args.clause.now
          (c.args.spare.now -ℤ to_z w128 c.loop-k.left-bits) c.loop-k.clause w.explain_cover.new.clause before w.in_ok-explain_cover.ensures in
          record {
            not_negative = omega (arith, ints);
            no_more = omega (arith, ints);
            explained =
                subst (λ (xs : List Lit). AreEnergiesExplained trail from until (c.args.spare.now -ℤ to_z w128 c.if-amount-left.left-bits) (take (k + 1) tasks.starts) (take (k + 1) tasks.durations) (take (k + 1) tasks.uses) c.args.clause.now xs) (sym w.clause-is)
                (subst (λ (x : ℤ). AreEnergiesExplained trail from until (c.args.spare.now -ℤ x) (take (k + 1) tasks.starts) (take (k + 1) tasks.durations) (take (k + 1) tasks.uses) c.args.clause.now w.explain_cover.new.clause) (sym same_left) more);
          }
    ]

pub returns : goal.returns
returns c =
    let trail = c.args.pass.now.trail.now in
    let tasks = tasks_of c.args.pass.now in
    let past : length c.args.pass.now.starts.now ≤ c.loop-k.k = omega arith in
    let low = c.loop-k.invariant.not_negative in
    energies_all trail c.args.span.now.from c.args.span.now.until (c.args.spare.now -ℤ to_z w128 c.loop-k.left-bits) c.args.spare.now c.loop-k.k tasks.starts tasks.durations tasks.uses c.args.clause.now c.loop-k.clause c.args.pass.now.ready.as_many_durations c.args.pass.now.ready.as_many_uses past (omega (arith, ints)) c.loop-k.invariant.explained
