use Rattle.std.proofs.Common.{arith, ◌≡◌, ◌∙◌, sym, ap, subst, Some}
use Rattle.std.proofs.lemmas.Int.{ints}
use Rattle.fzn_domain.proofs.DomainLemmas.{real}
use Rattle.fzn_domain.specs.declared.literal.Op.TheVariants.{AtLeast}
use Rattle.fzn_values.specs.declared.term.Term.TheVariants.{Variable}
use Rattle.fzn_meaning.specs.Separable.{weight_at}
use Rattle.fzn_terms.specs.declared.claim.Claim.{Claim}
use Rattle.fzn_terms.specs.Denied.{that, IsNear}
use Rattle.fzn_separable.proofs.ClaimLemmas.{where_from}
use Rattle.fzn_separable.proofs.values.find_low_end.Goals as goal
use Rattle.fzn_separable.proofs.values.find_low_end.Goals.{After-at_least-claim}

is : (c : After-at_least-claim) → c.at_least-claim.result ≡ that (Variable c.args.part.now.var) AtLeast c.first_heavier-number.result
is c = c.at_least-claim.ensures ∙ ap (that (Variable c.args.part.now.var) AtLeast) (real c.first_heavier-number.result c.first_heavier-number.ensures)

pub find_beyond-requires-clause-near : goal.find_beyond-requires-clause-near
find_beyond-requires-clause-near c =
    let claim = is (goal.at.find_beyond-requires-clause-near c).After-at_least-claim in
    let limits = c.first_heavier-number.ensures in
    subst (λ (x : Claim). IsNear x.number) (sym claim) (omega (arith, ints, limits.0), omega (arith, ints, limits.1))

pub find_beyond-requires-clause-heavy : goal.find_beyond-requires-clause-heavy
find_beyond-requires-clause-heavy c = λ weight weighs.
    let claim = is (goal.at.find_beyond-requires-clause-heavy c).After-at_least-claim in
    where_from c.args.part.now c.at_least-claim.result c.first_heavier-number.result c.requires.plain c.requires.sign claim weight
    (subst (λ (x : Claim). weight_at c.args.part.now x.number ≡ Some weight) claim weighs)
