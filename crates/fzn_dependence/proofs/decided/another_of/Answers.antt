use Rattle.std.proofs.Common.{arith, ◌<◌, length, pos, sym, ap, ◌∙◌}
use Rattle.fzn_values.specs.declared.term.Term.TheVariants.{Constant}
use Rattle.fzn_values.specs.declared.term.Place.{Place}
use Rattle.fzn_builtin_rules.specs.Borrowed.{places_in}
use Rattle.fzn_dependence.specs.Decided.{another_in}
use Rattle.fzn_dependence.proofs.DecidedLemmas.{another-more, another-found}
use Rattle.fzn_dependence.proofs.decided.another_of.Goals as goal

pub loop-i-preserved : goal.loop-i-preserved
loop-i-preserved c =
    let places = places_in c.args.places.now in
    let i = c.loop-i.i in
    let d : Place = record { coefficient = pos 0; term = Constant (pos 0) } in
    let inside : i < length places = omega arith in
    record {
      none = another-more c.args.one c.args.two places i d inside c.loop-i.invariant.none (ap (λ (p : Place). another_in c.args.one c.args.two p.term) (sym c.place.ensures) ∙ sym c.another_in.ensures ∙ c.in_default.is);
    }

pub returns-in-Some : goal.returns-in-Some
returns-in-Some c =
    let places = places_in c.args.places.now in
    let i = c.loop-i.i in
    let d : Place = record { coefficient = pos 0; term = Constant (pos 0) } in
    let inside : i < length places = omega arith in
    sym (another-found c.args.one c.args.two places i d inside c.loop-i.invariant.none c.in-Some.var (ap (λ (p : Place). another_in c.args.one c.args.two p.term) (sym c.place.ensures) ∙ sym c.another_in.ensures ∙ c.in-Some.is))
