use Rattle.std.proofs.Common.{◌<◌, ◌≤◌, length, refl, subst, arith, rules, All, pos}
use Rattle.std.proofs.lemmas.Bool.{not-false}
use Rattle.std.proofs.lemmas.List.{take_all}
use Rattle.std.proofs.lemmas.List.Elements.{All-more}
use Rattle.fzn_values.specs.declared.term.Place.{Place}
use Rattle.fzn_values.specs.declared.term.Term.TheVariants.{Constant}
use Rattle.fzn_builtin_rules.specs.Borrowed.{places_in}
use Rattle.fzn_derive.specs.Room.{IsTermWithin}
use Rattle.fzn_derive.proofs.adder.Adder.are_within.Goals as goal

pub loop-i-preserved : goal.loop-i-preserved
loop-i-preserved c =
    let room = c.args.self.now in
    let places = places_in c.args.places.now in
    let inside : c.loop-i.i < length places = omega arith in
    let here = c.is_term_within.ensures.0 (search (rules, not-false)) in
    All-more (λ (p : Place). IsTermWithin room p.term) places c.loop-i.i (record { coefficient = pos 0; term = Constant (pos 0) }) inside c.loop-i.invariant
    (subst (λ (p : Place). IsTermWithin room p.term) c.place.ensures here)

pub returns : goal.returns
returns c =
    let places = places_in c.args.places.now in
    let past : length places ≤ c.loop-i.i = omega arith in
    (λ _. subst (All (λ (p : Place). IsTermWithin c.args.self.now p.term)) (take_all c.loop-i.i places past) c.loop-i.invariant, λ _. refl)
