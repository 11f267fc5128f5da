use Rattle.std.proofs.Common.{◌≡◌, ◌∙◌, ◌+ℤ◌, ◌-ℤ◌, arith, rules}
use Rattle.std.specs.Int.{int_min, int_max}
use Rattle.std.proofs.lemmas.Int.{ints, to_z-of_z}
use Rattle.fzn_rules.proofs.EnergyTest.{overlap_is, overlap_bound}
use Rattle.fzn_rules.proofs.energy.overlap.Goals as goal
use mir.Syntax.{w64, w128}
use mir.Val.{to_z, of_z, SFits}

pub returns-clause-value : goal.returns-clause-value
returns-clause-value c =
    let fits : SFits w128 c.max.result = search rules in
    let sum : to_z w64 (of_z w64 (to_z w64 (of_z w64 c.args.start.now) +ℤ to_z w64 (of_z w64 c.args.duration.now))) ≡ c.args.start.now +ℤ c.args.duration.now = omega (arith, ints) in
    let start : to_z w64 (of_z w64 c.args.start.now) ≡ c.args.start.now = omega (arith, ints) in
    let until : to_z w64 (of_z w64 c.args.until.now) ≡ c.args.until.now = search rules in
    let from : to_z w64 (of_z w64 c.args.from.now) ≡ c.args.from.now = search rules in
    let end : c.min-end.result ≡ int_min (c.args.start.now +ℤ c.args.duration.now) c.args.until.now = c.min-end.ensures.value ∙ rw (sum, until) in
    let begin : c.max-begin.result ≡ int_max c.args.start.now c.args.from.now = c.max-begin.ensures.value ∙ rw (start, from) in
    let difference : to_z w128 (of_z w128 (to_z w128 (of_z w128 (to_z w64 (of_z w64 c.min-end.result))) -ℤ to_z w128 (of_z w128 (to_z w64 (of_z w64 c.max-begin.result))))) ≡ c.min-end.result -ℤ c.max-begin.result = search rules in
    to_z-of_z w128 _ fits
    ∙ overlap_is c.args.from.now c.args.until.now c.args.start.now c.args.duration.now c.min-end.result c.max-begin.result c.max.result end begin (c.max.ensures.value ∙ rw difference)

pub returns-clause-bounded : goal.returns-clause-bounded
returns-clause-bounded c =
    rw (returns-clause-value c) (overlap_bound c.args.from.now c.args.until.now c.args.start.now c.args.duration.now c.requires.duration)
