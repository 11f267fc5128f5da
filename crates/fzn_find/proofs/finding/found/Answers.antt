-- The sum is derivable as those before it are.
use Rattle.std.proofs.Common.{◌≡◌, List, Option, IfSome, sym, subst}
use Rattle.std.specs.List.{All}
use Rattle.std.proofs.lemmas.List.Elements.{All-push}
use Rattle.fzn_meaning.specs.Solutions.{declared_sets}
use Rattle.fzn_derive.specs.declared.derivation.Derivation.{Derivation}
use Rattle.fzn_derive.specs.Derived.{IsDerivable}
use Rattle.fzn_find.proofs.finding.found.Goals as goal

pub returns-in_ok-push-in-Some : goal.returns-in_ok-push-in-Some
returns-in_ok-push-in-Some c =
    let P : Derivation → Type 0 = λ derivation. IsDerivable c.args.model.now.constraints (declared_sets c.args.model.now.vars) derivation in
    let sum : P c.in-Some.sum = subst (λ (o : Option Derivation). IfSome o P) c.in-Some.is c.in_ok-multipliers.ensures in
    subst (λ (kept : List Derivation). All P kept) (sym c.in_ok-push-in-Some.ensures.ok) (All-push P c.in_ok-found.found c.in-Some.sum c.in_ok-found.ensures sum)
