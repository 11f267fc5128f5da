use mir.Syntax.{w128}
use Rattle.std.proofs.Common.{rules, subst, Some, ◌≡◌, ◌∙◌, sym, ap, FitsSigned, w64, pos, ◌+ℤ◌, ℤ}
use Rattle.std.proofs.lemmas.Int.{to_z-of_z}
use Rattle.fzn_domain.specs.declared.literal.Op.TheVariants.{Equal}
use Rattle.fzn_values.specs.declared.term.Term.TheVariants.{Variable}
use Rattle.fzn_terms.specs.Denied.{that}
use Rattle.fzn_separable.proofs.ClaimLemmas.{where_equal, where_barred}
use Rattle.fzn_separable.specs.Passes.{WeighsWhere}
use Rattle.fzn_separable.proofs.values.find_entry.Goals as goal
use Rattle.fzn_separable.proofs.values.find_entry.Goals.{After-equal-claim}

is : (c : After-equal-claim) → c.equal-claim.result ≡ that (Variable c.args.part.now.var) Equal (c.args.listed.now.low +ℤ pos c.args.i)
is c =
    let value : FitsSigned w64 c.value_at.result = search rules in
    c.equal-claim.ensures.value ∙ ap (that (Variable c.args.part.now.var) Equal) (to_z-of_z w64 c.value_at.result value ∙ c.value_at.ensures.value)

pub find_barred-requires-clause-barred : goal.find_barred-requires-clause-barred
find_barred-requires-clause-barred c =
    where_barred c.args.part.now c.equal-claim.result (c.args.listed.now.low +ℤ pos c.args.i) (is (goal.at.find_barred-requires-clause-barred c).After-equal-claim)
    (sym c.entry_weight.ensures.value ∙ c.in-None.is)

pub find_without-requires-clause-heavy : goal.find_without-requires-clause-heavy
find_without-requires-clause-heavy c =
    let fits : FitsSigned w128 c.in-Some.weight = search rules in
    subst (λ (w : ℤ). WeighsWhere c.args.part.now c.equal-claim.result (Some w)) (sym (to_z-of_z w128 c.in-Some.weight fits))
    (where_equal c.args.part.now c.equal-claim.result (c.args.listed.now.low +ℤ pos c.args.i) (is (goal.at.find_without-requires-clause-heavy c).After-equal-claim)
    c.in-Some.weight (sym c.entry_weight.ensures.value ∙ c.in-Some.is))
