use Rattle.std.proofs.Common.{List, length, refl, sym, subst, pos, ◌+ℤ◌}
use Rattle.std.proofs.lemmas.List.Elements.{All-get_or}
use Rattle.fzn_domain.specs.declared.literal.Lit.{Lit}
use Rattle.fzn_values.specs.declared.term.Place.{Place}
use Rattle.fzn_values.specs.declared.term.Term.TheVariants.{Constant}
use Rattle.fzn_meaning.specs.declared.relation.Comparison.TheVariants.{AtMost}
use Rattle.fzn_values.specs.Term.{IsPlace}
use Rattle.fzn_builtin_rules.specs.Linear.{least_sum}
use Rattle.fzn_sum.specs.Refuted.{IsRefutation}
use Rattle.fzn_sum.proofs.ClauseLemmas.{forcing}
use Rattle.fzn_sum.proofs.at_most.refute_place.Goals as goal

pub returns-clause-found : goal.returns-clause-found
returns-clause-found c =
    let at : Place = record { coefficient = pos 0; term = Constant (pos 0) } in
    let trail = c.args.trail.now in
    let places = c.args.places.now in
    let place = c.args.place in
    subst (λ (xs : List Lit). IsRefutation c.args.trail.now AtMost c.args.places.now (least_sum c.args.trail.now.sets c.args.places.now +ℤ pos c.args.slack) xs) (sym c.in_ok-push.ensures.ok)
    (forcing trail places _ c.args.slack c.in_ok-clause.clause place at c.in-Some.lit refl c.requires.place
    (All-get_or (IsPlace (length c.args.trail.now.declared)) c.args.places.now c.args.place at c.requires.place c.requires.places) c.in-Some.ensures.found (c.in_ok-clause.ensures trail places c.requires.places c.requires.floors))
