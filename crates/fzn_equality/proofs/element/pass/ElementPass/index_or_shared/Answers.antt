use Rattle.std.proofs.Common.{arith}
use Rattle.std.proofs.lemmas.Int.{ints}
use Rattle.fzn_equality.specs.ElementPasses.{element_constraint}
use Rattle.fzn_equality.proofs.EntryLemmas.{met_at}
use Rattle.fzn_equality.proofs.element.pass.ElementPass.index_or_shared.Goals as goal

pub returns-in-Some : goal.returns-in-Some
returns-in-Some c =
    let pass = c.args.self.now in
    c.explain_apart.ensures (element_constraint pass) (λ sets denying apart.
    met_at pass c.args.place _ _ c.other_than-elsewhere.result c.requires (omega (arith, ints)) c.other_than-elsewhere.ensures.denied sets denying (λ v here there. apart v there here))

pub returns : goal.returns
returns c =
    let pass = c.args.self.now in
    c.explain_shared.ensures (element_constraint pass) (met_at pass c.args.place _ _ c.other_than-elsewhere.result c.requires (omega (arith, ints)) c.other_than-elsewhere.ensures.denied)
