use Rattle.std.proofs.Common.{◌≡◌, ℕ, get_or, inl, inr, arith, ap, subst, ◌∙◌, pos}
use Rattle.std.proofs.lemmas.Bool.{cases_lt, MatchBool-at_false}
use Rattle.std.proofs.lemmas.List.{get_or_default}
use Rattle.fzn_values.specs.declared.term.Term.{Term}
use Rattle.fzn_values.specs.declared.term.Term.TheVariants.{Constant}
use Rattle.fzn_sets.specs.Terms.{greatest_value}
use Rattle.fzn_cumulative.specs.Loads.{IsKeptAt}
use Rattle.fzn_domain.proofs.DomainLemmas.{real}
use Rattle.fzn_cumulative.specs.Passes.{tasks_of}
use Rattle.fzn_cumulative.proofs.load_pass.find_at_starts.Goals as goal

pub loop-k-preserved : goal.loop-k-preserved
loop-k-preserved c =
    let sets = c.args.pass.now.trail.now.sets in
    let tasks = tasks_of c.args.pass.now in
    let starts = c.args.pass.now.starts.now in
    let told = MatchBool-at_false _ _ c.if-branch.false c.in_ok-find_overload.ensures.told in
    let at_time = subst (IsKeptAt sets tasks) (real _ c.greatest_of-time.ensures.in_limits ∙ c.greatest_of-time.ensures.value ∙ ap (greatest_value sets) c.start.ensures.value) told.1 in
    record {
      found = c.in_ok-find_overload.ensures.found;
      kept = λ k d below. elim (cases_lt k c.loop-k.k) [
        | inl before ↦ c.loop-k.invariant.kept k d before
        | inr past ↦
            let here : c.loop-k.k ≡ k = omega arith in
            subst (λ (n : ℕ). IsKeptAt c.args.pass.now.trail.now.sets (tasks_of c.args.pass.now) (greatest_value c.args.pass.now.trail.now.sets (get_or c.args.pass.now.starts.now n d))) here
            (subst (λ (t : Term). IsKeptAt c.args.pass.now.trail.now.sets (tasks_of c.args.pass.now) (greatest_value c.args.pass.now.trail.now.sets t)) (get_or_default starts c.loop-k.k (Constant (pos 0)) d c.loop-k-test.true) at_time)
      ];
    }
