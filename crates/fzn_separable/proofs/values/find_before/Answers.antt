use Rattle.std.proofs.Common.{arith, ◌≡◌, ◌∙◌, sym, ap, subst, ℤ, pos, ◌-ℤ◌, ◌<ℤ◌, Option, IfSome}
use Rattle.std.proofs.lemmas.Int.{ints}
use Rattle.fzn_domain.specs.declared.literal.Op.TheVariants.{AtMost}
use Rattle.fzn_meaning.specs.declared.row.Listed.{Listed}
use Rattle.fzn_values.specs.declared.term.Term.TheVariants.{Variable}
use Rattle.fzn_meaning.specs.Separable.{IsWeightList}
use Rattle.fzn_terms.specs.declared.claim.Claim.{Claim}
use Rattle.fzn_terms.specs.Denied.{that, IsNear}
use Rattle.fzn_separable.proofs.ClaimLemmas.{where_below}
use Rattle.fzn_separable.proofs.values.find_before.Goals as goal
use Rattle.fzn_separable.proofs.values.find_before.Goals.{After-at_most-claim}

list : (c : After-at_most-claim) → IsWeightList c.args.listed.now
list c = subst (λ (o : Option Listed). IfSome o IsWeightList) c.requires.of c.requires.part.listed

is : (c : After-at_most-claim) → c.at_most-claim.result ≡ that (Variable c.args.part.now.var) AtMost (c.args.listed.now.low -ℤ pos 1)
is c =
    let low = (list c).low in
    c.at_most-claim.ensures ∙ ap (that (Variable c.args.part.now.var) AtMost) (omega (arith, ints, low.0, low.1))

pub find_barred-requires-clause-near : goal.find_barred-requires-clause-near
find_barred-requires-clause-near c =
    let low = (list (goal.at.find_barred-requires-clause-near c).After-at_most-claim).low in
    subst (λ (x : Claim). IsNear x.number) (sym (is (goal.at.find_barred-requires-clause-near c).After-at_most-claim)) (omega (arith, ints, low.0, low.1), omega (arith, ints, low.0, low.1))

less : (low : ℤ) → (low -ℤ pos 1) <ℤ low
less low = omega (arith, ints)

pub find_barred-requires-clause-barred : goal.find_barred-requires-clause-barred
find_barred-requires-clause-barred c =
    where_below c.args.part.now c.at_most-claim.result (c.args.listed.now.low -ℤ pos 1) c.args.listed.now c.requires.of (is (goal.at.find_barred-requires-clause-barred c).After-at_most-claim) (less c.args.listed.now.low)
