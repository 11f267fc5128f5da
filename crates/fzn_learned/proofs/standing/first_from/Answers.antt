use Rattle.std.proofs.Common.{◌<◌, length, take, sym, ◌∙◌, arith}
use Rattle.std.proofs.lemmas.List.{length-take}
use Rattle.fzn_learned.proofs.StandingLemmas.{variable_at-take}
use Rattle.fzn_learned.proofs.standing.first_from.Goals as goal

-- the entry before on the variable lies below the count
pub returns-then-older-count-clause-first : goal.returns-then-older-count-clause-first
returns-then-older-count-clause-first c =
    λ k above below same.
    let entries = c.args.trail.now.entries in
    let at : k < length (take c.loop-older.at entries) = omega (arith, length-take c.loop-older.at entries, c.loop-older.invariant.in_list) in
    c.in-Some.ensures.found.last k (omega (arith, c.if-older-count.true)) at
    (variable_at-take entries c.loop-older.at k below ∙ same ∙ sym c.loop-older.invariant.same)

pub loop-older-preserved : goal.loop-older-preserved
loop-older-preserved c =
    let entries = c.args.trail.now.entries in
    let inside : c.in-Some.older < c.loop-older.at = omega (arith, length-take c.loop-older.at entries, c.in-Some.ensures.found.in_list) in
    record {
      in_list = omega (arith, c.loop-older.invariant.in_list);
      from = omega (arith, c.if-older-count.false);
      same = sym (variable_at-take entries c.loop-older.at c.in-Some.older inside) ∙ c.in-Some.ensures.found.there ∙ c.loop-older.invariant.same;
    }

-- there is none before on the variable
pub returns-clause-first : goal.returns-clause-first
returns-clause-first c =
    λ k above below same.
    let entries = c.args.trail.now.entries in
    let at : k < length (take c.loop-older.at entries) = omega (arith, length-take c.loop-older.at entries, c.loop-older.invariant.in_list) in
    c.in_default.ensures.none k at (variable_at-take entries c.loop-older.at k below ∙ same ∙ sym c.loop-older.invariant.same)
