use Rattle.std.proofs.Common.{List, sym, subst}
use Rattle.fzn_domain.specs.declared.literal.Lit.{Lit}
use Rattle.fzn_fixed.specs.Denial.{IsDenialOr}
use Rattle.fzn_fixed.proofs.DenialLemmas.{forced, true_where_certain, certain_of, uncertain_of}
use Rattle.fzn_fixed.proofs.pass.Pass.force.Goals as goal

pub returns-then-is_false-clause-none : goal.returns-then-is_false-clause-none
returns-then-is_false-clause-none c =
    true_where_certain c.args.self.now.trail.now c.args.lit
    (certain_of c.args.self.now.trail.now _ c.args.lit _ _ c.is_false.ensures c.domain.ensures.value c.negated.ensures.value c.if-is_false.true)

pub returns-clause-found : goal.returns-clause-found
returns-clause-found c =
    let pass = c.args.self.now in
    subst (λ (xs : List Lit). IsDenialOr pass.trail.now pass.inputs.now c.args.lit xs) (sym c.in_ok-push.ensures.ok)
    (forced pass.trail.now pass.inputs.now c.in_ok-clause.clause c.args.lit c.requires.variable c.requires.writable c.in_ok-clause.ensures
    (uncertain_of pass.trail.now _ c.args.lit _ _ c.is_false.ensures c.domain.ensures.value c.negated.ensures.value c.if-is_false.false))
