use Rattle.std.proofs.Common.{ℕ, arith, inl, inr, ⊎_elim}
use Rattle.std.proofs.lemmas.Result.{err_from_is_err_and}
use Rattle.fzn_meaning.specs.Solutions.{declared_sets}
use Rattle.fzn_cited.specs.Cited.{IsCitedAs, IsCitedWrong}
use Rattle.fzn_derive.specs.Parity.{SaysParity}
use Rattle.fzn_cited.proofs.CitedLemmas.{HoldsUpTo-here}
use Rattle.fzn_derive.proofs.AddedLemmas.{all_more}
use Rattle.fzn_derive.proofs.parity.add_all.Goals as goal

pub returns-in_err-more-clause-fault : goal.returns-in_err-more-clause-fault
returns-in_err-more-clause-fault c =
    let given = c.args.given.now in
    let declared = declared_sets c.args.vars.now in
    let fault = c.in_err-more.field-0.0 in
    let p = err_from_is_err_and c.from_residual.result c.from_residual.ensures.1 in
    rw (p.1, p.2)
    (⊎_elim (λ memory. inl memory) (λ wrong. inr (HoldsUpTo-here (IsCitedAs (SaysParity declared) given) (λ (id : ℕ). IsCitedWrong (SaysParity declared) given id fault) c.args.ids.now c.loop-i.i 0 (omega arith) c.loop-i.invariant.cited wrong)) c.in_err-more.ensures.fault)

pub loop-i-preserved : goal.loop-i-preserved
loop-i-preserved c =
    all_more c.args.given.now (declared_sets c.args.vars.now) c.args.ids.now c.loop-i.i c.loop-i.numbers.items c.add_cited.new.numbers.items c.loop-i.is_odd c.in_ok-more.more c.is_sum_odd-is_odd.result (omega arith) c.loop-i.invariant c.in_ok-more.ensures.added c.is_sum_odd-is_odd.ensures
