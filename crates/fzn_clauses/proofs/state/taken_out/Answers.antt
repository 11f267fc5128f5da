use Rattle.std.proofs.Common.{FitsSigned, w64, rules, arith, inl, inr}
use Rattle.std.proofs.lemmas.Int.{ints}
use Rattle.fzn_clauses.proofs.FallenLemmas.{absent_over, absent_under, kept_at_most, kept_at_least, kept_beside}
use Rattle.fzn_clauses.proofs.state.taken_out.Goals as goal

pub returns-in-AtMost : goal.returns-in-AtMost
returns-in-AtMost c v outside =
    let fits : FitsSigned w64 c.args.entry.value = search rules in
    elim outside [
      | inl low ↦ inr (kept_at_most c.args.entry.op v c.args.entry.value c.in-AtMost.is (omega (arith, ints)))
      | inr high ↦ inl (absent_over c.args.before.now c.max.result v c.max.ensures.last (omega (arith, ints, c.max.ensures.in_limits)))
    ]

pub returns-in-AtLeast : goal.returns-in-AtLeast
returns-in-AtLeast c v outside =
    let fits : FitsSigned w64 c.args.entry.value = search rules in
    elim outside [
      | inl low ↦ inl (absent_under c.args.before.now c.min.result v c.min.ensures.first (omega (arith, ints, c.min.ensures.in_limits)))
      | inr high ↦ inr (kept_at_least c.args.entry.op v c.args.entry.value c.in-AtLeast.is (omega (arith, ints)))
    ]

pub returns-in-NotEqual : goal.returns-in-NotEqual
returns-in-NotEqual c v outside =
    let fits : FitsSigned w64 c.args.entry.value = search rules in
    elim outside [
      | inl low ↦ inr (kept_beside c.args.entry.op v c.args.entry.value c.in-NotEqual.is (inl (omega (arith, ints))))
      | inr high ↦ inr (kept_beside c.args.entry.op v c.args.entry.value c.in-NotEqual.is (inr (omega (arith, ints, c.requires.value))))
    ]
