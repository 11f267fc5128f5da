-- Where the inputs are fixed, what their image asks of the result.
use Rattle.std.proofs.Common.{List, subst, ◌∙◌, ℤ, Option, Some, None, IfNone}
use Rattle.std.proofs.lemmas.Bool.{false≢true}
use Rattle.std.proofs.lemmas.Option.{IfSome_then}
use Rattle.std.proofs.lemmas.Result.{IfOk-weaker}
use Rattle.fzn_fixed.specs.Image.{IsImage}
use Rattle.fzn_fixed.specs.Passes.{least_values}
use Rattle.fzn_fixed.proofs.FixedLemmas.{fixed_denied, fixed_forced}
use Rattle.fzn_fixed.proofs.MeaningLemmas.{holds_of_each, holds_of_literal, holds_of_wide}
use Rattle.fzn_fixed.proofs.pass.Pass.refute.Goals as goal
use Rattle.fzn_fixed.proofs.pass.Pass.refute.Goals.{After-image_of-image}

none_then : {X : Type 0} (o : Option X) (A B : Type 0) → IfNone o A → (A → B) → IfNone o B
none_then None A B h so = so h
none_then (Some x) A B h so = h

-- the image is that of the least values
is : (c : After-image_of-image) → IsImage c.args.self.now.constraint.now (least_values c.args.self.now) c.image_of-image.result
is c = subst (λ (xs : List ℤ). IsImage c.args.self.now.constraint.now xs c.image_of-image.result) (c.as_slice.ensures ∙ c.in_ok-values.ensures.values) c.image_of-image.ensures

pub returns-then-not-are_fixed-clause-none : goal.returns-then-not-are_fixed-clause-none
returns-then-not-are_fixed-clause-none c = holds_of_wide c.args.self.now (λ all. false≢true (c.if-not-are_fixed.ensures.1 all))

pub returns-in-Nothing-clause-none : goal.returns-in-Nothing-clause-none
returns-in-Nothing-clause-none c = holds_of_each c.args.self.now _ (is (goal.at.returns-in-Nothing-clause-none c).After-image_of-image) c.in-Nothing.ensures

pub returns-in-Impossible-clause-found : goal.returns-in-Impossible-clause-found
returns-in-Impossible-clause-found c = fixed_denied c.args.self.now _ _ (is (goal.at.returns-in-Impossible-clause-found c).After-image_of-image) c.in-Impossible.ensures c.in_ok-clause-in-Impossible.ensures

pub returns-clause-found : goal.returns-clause-found
returns-clause-found c =
    IfOk-weaker c.force.result _ _ (λ found h. IfSome_then found h (λ clause forcing.
    fixed_forced c.args.self.now _ clause (is (goal.at.returns-clause-found c).After-image_of-image) c.in-Literal.lit c.in-Literal.ensures forcing))
    c.force.ensures.found

pub returns-clause-none : goal.returns-clause-none
returns-clause-none c =
    IfOk-weaker c.force.result _ _ (λ found h. none_then found _ _ h (holds_of_literal c.args.self.now _ (is (goal.at.returns-clause-none c).After-image_of-image) c.in-Literal.lit c.in-Literal.ensures))
    c.force.ensures.none
