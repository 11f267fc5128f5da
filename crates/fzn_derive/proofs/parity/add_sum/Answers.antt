use Rattle.std.proofs.Common.{◌≡◌, Bool, ap, get_or, pos, subst, arith, Option, MatchOption}
use Rattle.std.specs.Option.{is_some}
use Rattle.fzn_values.specs.declared.term.Term.{Term}
use Rattle.fzn_values.specs.declared.term.Term.TheVariants.{Constant}
use Rattle.fzn_meaning.specs.Meaning.{IsBoolean}
use Rattle.fzn_meaning.specs.Solutions.{declared_sets}
use Rattle.fzn_derive.specs.Parity.{is_one}
use Rattle.fzn_derive.proofs.AddedLemmas.{sum_more}
use Rattle.fzn_derive.proofs.parity.add_sum.Goals as goal

pub loop-term-preserved : goal.loop-term-preserved
loop-term-preserved c =
    let declared = declared_sets c.args.vars.now in
    let terms = c.args.terms.now in
    let i = c.loop-term.term-index in
    let none : Term = Constant (pos 0) in
    let found = subst (λ (o : Option Bool). MatchOption o (¬ IsBoolean (declared_sets c.args.vars.now) (get_or c.args.terms.now c.loop-term.term-index (Constant (pos 0)))) (λ one. IsBoolean (declared_sets c.args.vars.now) (get_or c.args.terms.now c.loop-term.term-index (Constant (pos 0))) × (one ≡ is_one (get_or c.args.terms.now c.loop-term.term-index (Constant (pos 0)))))) c.in-Some.is c.in_ok-add_term.ensures.boolean in
    sum_more declared c.args.numbers.now.items c.loop-term.numbers.items c.add_term.new.numbers.items terms i c.args.odd c.loop-term.is_odd c.in-Some.is_one c.is_sum_odd-is_odd.result none (omega arith) c.loop-term.invariant found.0 found.1
    (c.in_ok-add_term.ensures.numbers (ap is_some c.in-Some.is)) c.is_sum_odd-is_odd.ensures
