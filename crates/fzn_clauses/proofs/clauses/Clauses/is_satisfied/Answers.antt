use Rattle.std.proofs.Common.{arith, ◌<◌, length, sym, ◌∙◌, subst}
use Rattle.fzn_domain.specs.declared.literal.Lit.{Lit}
use Rattle.fzn_domain.specs.Narrow.{IsVariable}
use Rattle.fzn_clauses.proofs.KeptLemmas.{first_variable, second_variable}
use Rattle.fzn_clauses.proofs.clauses.Clauses.is_satisfied.Goals as goal

pub is_certain-requires-clause-var : goal.is_certain-requires-clause-var
is_certain-requires-clause-var c =
    let within : c.args.k < length c.args.self.now.arena = omega (arith, c.if-k-len.false, c.len.ensures) in
    subst (λ (lit : Lit). IsVariable (length c.args.trail.now.declared) lit.var) (sym c.slot-slot.ensures.second)
    (second_variable c.args.self.now c.args.trail.now c.args.k c.requires within (sym c.slot-slot.ensures.live ∙ c.if-not-slot.false) (sym c.slot-slot.ensures.listed ∙ c.if-not-slot-2.false))

pub is_certain-requires-then-eq-2-clause-var : goal.is_certain-requires-then-eq-2-clause-var
is_certain-requires-then-eq-2-clause-var c =
    let within : c.args.k < length c.args.self.now.arena = omega (arith, c.if-k-len.false, c.len.ensures) in
    subst (λ (lit : Lit). IsVariable (length c.args.trail.now.declared) lit.var) (sym c.slot-slot.ensures.first)
    (first_variable c.args.self.now c.args.trail.now c.args.k c.requires within (sym c.slot-slot.ensures.live ∙ c.if-not-slot.false) (sym c.slot-slot.ensures.listed ∙ c.if-not-slot-2.false))
