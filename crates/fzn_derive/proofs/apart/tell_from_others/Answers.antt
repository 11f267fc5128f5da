use Rattle.std.proofs.Common.{sym, subst, arith}
use Rattle.std.specs.List.{All, zip}
use Rattle.std.proofs.lemmas.List.{take_all}
use Rattle.std.proofs.lemmas.List.Elements.{All-more}
use Rattle.std.proofs.lemmas.Result.{err_from_is_err_and}
use Rattle.fzn_domain.specs.declared.literal.VarId.{VarId}
use Rattle.fzn_derive.specs.Apart.{IsPairTold, IsPairWrong}
use Rattle.fzn_derive.proofs.PairLemmas.{paired, get_or-paired, length-paired}
use Rattle.fzn_cited.proofs.CitedLemmas.{HoldsUpTo-here}
use Rattle.fzn_derive.proofs.apart.tell_from_others.Goals as goal

pub returns-in_err-tell_pair-clause-fault : goal.returns-in_err-tell_pair-clause-fault
returns-in_err-tell_pair-clause-fault c =
    let given = c.args.given.now in
    let x = c.args.first in
    let ys = c.args.others.now in
    let ids = c.args.ids.now in
    let none : VarId = record { 0 = 0 } in
    let fault = c.in_err-tell_pair.field-0.0 in
    let long = length-paired x ys ids c.requires in
    let p = err_from_is_err_and c.from_residual.result c.from_residual.ensures.1 in
    rw (p.1, p.2)
    (HoldsUpTo-here (IsPairTold given) (IsPairWrong given fault) (zip (paired x ys) ids) c.loop-i.i ((x, none), 0) (omega arith) c.loop-i.invariant
    (subst (IsPairWrong given fault) (sym (get_or-paired x ys ids c.loop-i.i none 0 c.requires)) c.in_err-tell_pair.ensures.fault))

pub loop-i-preserved : goal.loop-i-preserved
loop-i-preserved c =
    let given = c.args.given.now in
    let x = c.args.first in
    let ys = c.args.others.now in
    let ids = c.args.ids.now in
    let none : VarId = record { 0 = 0 } in
    let long = length-paired x ys ids c.requires in
    All-more (IsPairTold given) (zip (paired x ys) ids) c.loop-i.i ((x, none), 0) (omega arith) c.loop-i.invariant
    (subst (IsPairTold given) (sym (get_or-paired x ys ids c.loop-i.i none 0 c.requires)) c.in_ok-tell_pair.ensures.told)

pub returns-clause-told : goal.returns-clause-told
returns-clause-told c =
    let pairs = zip (paired c.args.first c.args.others.now) c.args.ids.now in
    let long = length-paired c.args.first c.args.others.now c.args.ids.now c.requires in
    subst (All (IsPairTold c.args.given.now)) (take_all c.loop-i.i pairs (omega arith)) c.loop-i.invariant
