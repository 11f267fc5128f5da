use Rattle.std.proofs.Common.{arith, ◌≡◌, ◌∙◌, sym, ap, subst, Some}
use Rattle.std.proofs.lemmas.Int.{ints}
use Rattle.fzn_domain.proofs.DomainLemmas.{real}
use Rattle.fzn_domain.specs.declared.literal.Op.TheVariants.{AtMost}
use Rattle.fzn_values.specs.declared.term.Term.TheVariants.{Variable}
use Rattle.fzn_meaning.specs.Separable.{weight_at}
use Rattle.fzn_terms.specs.declared.claim.Claim.{Claim}
use Rattle.fzn_terms.specs.Denied.{that, IsNear}
use Rattle.fzn_separable.proofs.ClaimLemmas.{where_to}
use Rattle.fzn_separable.proofs.values.find_high_end.Goals as goal
use Rattle.fzn_separable.proofs.values.find_high_end.Goals.{After-at_most-claim}

is : (c : After-at_most-claim) → c.at_most-claim.result ≡ that (Variable c.args.part.now.var) AtMost c.last_heavier-number.result
is c = c.at_most-claim.ensures ∙ ap (that (Variable c.args.part.now.var) AtMost) (real c.last_heavier-number.result c.last_heavier-number.ensures)

pub find_beyond-requires-clause-near : goal.find_beyond-requires-clause-near
find_beyond-requires-clause-near c =
    let claim = is (goal.at.find_beyond-requires-clause-near c).After-at_most-claim in
    let limits = c.last_heavier-number.ensures in
    subst (λ (x : Claim). IsNear x.number) (sym claim) (omega (arith, ints, limits.0), omega (arith, ints, limits.1))

pub find_beyond-requires-clause-heavy : goal.find_beyond-requires-clause-heavy
find_beyond-requires-clause-heavy c = λ weight weighs.
    let claim = is (goal.at.find_beyond-requires-clause-heavy c).After-at_most-claim in
    where_to c.args.part.now c.at_most-claim.result c.last_heavier-number.result c.requires.plain c.requires.sign claim weight
    (subst (λ (x : Claim). weight_at c.args.part.now x.number ≡ Some weight) claim weighs)
