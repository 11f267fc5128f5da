use Rattle.std.proofs.Common.{arith, ◌≡◌, ◌∙◌, refl, sym, ap, subst, pos, ◌+ℤ◌, length, Option, IfSome}
use Rattle.std.proofs.lemmas.Int.{ints}
use Rattle.fzn_domain.specs.declared.literal.Op.TheVariants.{AtLeast}
use Rattle.fzn_meaning.specs.declared.row.Listed.{Listed}
use Rattle.fzn_values.specs.declared.term.Term.TheVariants.{Variable}
use Rattle.fzn_meaning.specs.Separable.{IsWeightList}
use Rattle.fzn_terms.specs.declared.claim.Claim.{Claim}
use Rattle.fzn_terms.specs.Denied.{that, IsNear}
use Rattle.fzn_separable.proofs.ClaimLemmas.{where_above}
use Rattle.fzn_separable.proofs.values.find_behind.Goals as goal
use Rattle.fzn_separable.proofs.values.find_behind.Goals.{After-at_least-claim}

list : (c : After-at_least-claim) → IsWeightList c.args.listed.now
list c = subst (λ (o : Option Listed). IfSome o IsWeightList) c.requires.of c.requires.part.listed

is : (c : After-at_least-claim) → c.at_least-claim.result ≡ that (Variable c.args.part.now.var) AtLeast (c.args.listed.now.low +ℤ pos (length c.args.listed.now.weights))
is c =
    let low = (list c).low in
    let few = (list c).few in
    let count = c.len.ensures in
    c.at_least-claim.ensures ∙ ap (that (Variable c.args.part.now.var) AtLeast) (omega (arith, ints, low.0, low.1, few, count))

pub find_barred-requires-clause-near : goal.find_barred-requires-clause-near
find_barred-requires-clause-near c =
    let low = (list (goal.at.find_barred-requires-clause-near c).After-at_least-claim).low in
    let few = (list (goal.at.find_barred-requires-clause-near c).After-at_least-claim).few in
    subst (λ (x : Claim). IsNear x.number) (sym (is (goal.at.find_barred-requires-clause-near c).After-at_least-claim)) (omega (arith, ints, low.0, low.1, few), omega (arith, ints, low.0, low.1, few))

pub find_barred-requires-clause-barred : goal.find_barred-requires-clause-barred
find_barred-requires-clause-barred c =
    where_above c.args.part.now c.at_least-claim.result (c.args.listed.now.low +ℤ pos (length c.args.listed.now.weights)) c.args.listed.now c.requires.of (is (goal.at.find_barred-requires-clause-barred c).After-at_least-claim) refl
