use Rattle.std.proofs.Common.{rules, w64, FitsSigned}
use Rattle.std.proofs.lemmas.Int.{to_z-of_z}
use Rattle.std.proofs.lemmas.Option.{IfSome_then}
use Rattle.fzn_sum.specs.Refuted.{IsSumConflict}
use Rattle.fzn_linear.proofs.RefuteLemmas.{as_sum, cause_of_conflict}
use Rattle.fzn_linear.proofs.side.Side.decide.Goals as goal

pub hand_over-requires : goal.hand_over-requires
hand_over-requires c =
    let side = c.args.self.now in
    let fits : FitsSigned w64 c.args.self.now.sum.now.bound = search rules in
    IfSome_then c.in_ok-clause-in-NotEqual.clause c.in_ok-clause-in-NotEqual.ensures.found (λ clause conflict.
    cause_of_conflict side clause (as_sum (λ k ps b. IsSumConflict side.pass.trail.now k ps b clause) side.sum.now _ _ c.in-NotEqual.is c.as_slice-places.ensures (to_z-of_z w64 side.sum.now.bound fits) conflict))
