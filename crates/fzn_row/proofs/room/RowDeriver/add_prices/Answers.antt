use Rattle.std.proofs.Common.{◌≡◌, sym, ap, ◌∙◌, subst, List, Option, Some, IfSome, option_copied}
use Rattle.fzn_values.specs.declared.term.Term.{Term}
use Rattle.fzn_meaning.specs.declared.constraint.Constraint.{Constraint}
use Rattle.fzn_meaning.specs.Meaning.{IsWellFormedConstraint, AreTerms}
use Rattle.fzn_cited.specs.Cited.{constraint_at}
use Rattle.fzn_cited.proofs.CitedLemmas.{each_at}
use Rattle.fzn_weights.specs.Prices.{priced_places}
use Rattle.fzn_row.specs.Room.{room_size}
use Rattle.fzn_row.proofs.PricesSound.{places-formed}
use Rattle.fzn_row.proofs.room.RowDeriver.add_prices.Goals as goal

pub add_places_at-requires-clause-fit : goal.add_places_at-requires-clause-fit
add_places_at-requires-clause-fit c =
    let count = room_size c.args.self.now in
    let given = c.args.given.now in
    let id = c.args.id in
    let at : constraint_at given id ≡ Some c.in-Some.constraint.now = sym c.constraint_at.ensures ∙ ap option_copied c.in-Some.is in
    let well = subst (λ (o : Option Constraint). IfSome o (IsWellFormedConstraint count)) at (each_at (IsWellFormedConstraint count) given id c.requires.given) in
    let places : priced_places c.in-Some.constraint.now ≡ Some c.in-Some-priced_places.places.now = sym c.priced_places.ensures ∙ ap option_copied c.in-Some-priced_places.is in
    (subst (λ (o : Option (List Term)). IfSome o (AreTerms count)) places (places-formed count c.in-Some.constraint.now well)).0

pub most_cost-requires-clause-places : goal.most_cost-requires-clause-places
most_cost-requires-clause-places c =
    let count = room_size c.args.self.now in
    let given = c.args.given.now in
    let id = c.args.id in
    let at : constraint_at given id ≡ Some c.in-Some.constraint.now = sym c.constraint_at.ensures ∙ ap option_copied c.in-Some.is in
    let well = subst (λ (o : Option Constraint). IfSome o (IsWellFormedConstraint count)) at (each_at (IsWellFormedConstraint count) given id c.requires.given) in
    let places : priced_places c.in-Some.constraint.now ≡ Some c.in-Some-priced_places.places.now = sym c.priced_places.ensures ∙ ap option_copied c.in-Some-priced_places.is in
    (subst (λ (o : Option (List Term)). IfSome o (AreTerms count)) places (places-formed count c.in-Some.constraint.now well)).1
