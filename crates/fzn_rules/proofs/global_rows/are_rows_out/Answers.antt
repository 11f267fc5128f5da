use Rattle.std.proofs.Common.{◌+◌, ◌*◌, ◌≤◌, length, below_more, rules, arith}
use Rattle.std.proofs.lemmas.List.{length-map}
use Rattle.fzn_values.specs.Term.{number_in, numbers_in}
use Rattle.fzn_rules.specs.GlobalRows.{IsRowOut}
use Rattle.fzn_rules.proofs.global_rows.are_rows_out.Goals as goal

pub loop-r-preserved : goal.loop-r-preserved
loop-r-preserved c = below_more (λ k. IsRowOut c.args.sets.now.present c.args.places.now (numbers_in c.args.rows.now) k) c.loop-r.r c.loop-r.invariant (c.is_row_out.ensures.0 c.if-not-is_row_out.false)

pub returns-then-not-is_row_out : goal.returns-then-not-is_row_out
returns-then-not-is_row_out c =
    let whole : c.loop-r.r * length c.args.places.now + length c.args.places.now ≤ length c.args.rows.now = search rules in
    let whole_numbers : c.loop-r.r * length c.args.places.now + length c.args.places.now ≤ length (numbers_in c.args.rows.now) = omega (arith, whole, length-map c.args.rows.now number_in) in
    ((λ no. absurd cc), (λ met. absurd (let out = c.is_row_out.ensures.1 (met c.loop-r.r whole_numbers) in cc (out, c.if-not-is_row_out.true))))
