use mir.Syntax.{w128}
use Rattle.std.proofs.lemmas.Int.{to_z-of_z}
use Rattle.std.proofs.Common.{rules, arith, FitsSigned, ◌++◌, ◌∷◌, [], ◌≡◌, ◌∙◌, sym, ap, subst, ◌≤◌, ◌<◌, length, List, ℤ}
use Rattle.fzn_meaning.specs.declared.row.Part.{Part}
use Rattle.fzn_levels.specs.Levels.{AreLeasts}
use Rattle.fzn_separable.proofs.TotalLemmas.{leasts-more, leasts-all}
use Rattle.fzn_separable.proofs.search.find_all.Goals as goal

pub loop-k-preserved : goal.loop-k-preserved
loop-k-preserved c =
    let inside : c.loop-k.k < length c.args.pass.now.row.now.parts = subst (λ (ps : List Part). c.loop-k.k < length ps) c.as_slice-parts.ensures c.loop-k-test.true in
    let fits : FitsSigned w128 c.in-Some.least = search rules in
    record {
      leasts = leasts-more c.args.pass.now.trail.now.sets c.args.pass.now.row.now.parts c.loop-k.k c.in-Some.least c.loop-k.leasts.items c.push.new.self.items c.loop-k.invariant.leasts c.in-Some.ensures.least c.in-Some.ensures.bounded
          (c.in_ok-push-in-Some.ensures.items ∙ ap (λ (x : ℤ). c.loop-k.leasts.items ++ x ∷ []) (to_z-of_z w128 c.in-Some.least fits));
      within = omega (arith, inside);
      before = c.loop-k.invariant.before;
    }

pub find_by_leasts-requires-clause-leasts : goal.find_by_leasts-requires-clause-leasts
find_by_leasts-requires-clause-leasts c =
    let past : length c.args.pass.now.row.now.parts ≤ c.loop-k.k = subst (λ (ps : List Part). length ps ≤ c.loop-k.k) c.as_slice-parts.ensures c.loop-k-test.false in
    let within = c.loop-k.invariant.within in
    let whole : c.loop-k.k ≡ length c.args.pass.now.row.now.parts = omega (arith, past, within) in
    subst (AreLeasts c.args.pass.now.trail.now.sets c.args.pass.now.row.now.parts) (sym c.as_slice.ensures.value)
    (leasts-all c.args.pass.now.trail.now.sets c.args.pass.now.row.now.parts c.loop-k.k c.loop-k.leasts.items whole c.loop-k.invariant.leasts)
