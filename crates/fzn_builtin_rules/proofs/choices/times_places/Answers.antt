use Rattle.std.proofs.Common.{◌≡◌, ◌∷◌, List, drop, map, ap, sym, ◌∙◌, ◌+◌, length, pos, arith}
use Rattle.std.proofs.lemmas.List.Elements.{All-drop}
use Rattle.fzn_values.specs.declared.term.Term.{Term}
use Rattle.fzn_values.specs.declared.term.Term.TheVariants.{Constant}
use Rattle.fzn_values.specs.declared.term.Place.{Place}
use Rattle.fzn_values.specs.Term.{IsPlace}
use Rattle.fzn_builtin_rules.specs.Choices.{choices}
use Rattle.fzn_builtin_rules.proofs.ChoiceLemmas.{some_choice}
use Rattle.fzn_builtin_rules.proofs.CountLemmas.{if_none, drop_next, one_more, too_many, place_terms}
use Rattle.fzn_builtin_rules.proofs.choices.times_places.Goals as goal

abbrev none : Place
none = record { coefficient = pos 0; term = Constant (pos 0) }

abbrev terms : List Place → List Term
terms places = map (λ (place : Place). place.term) places

pub returns-in_err-product-clause-none : goal.returns-in_err-product-clause-none
returns-in_err-product-clause-none c =
    let sets = c.args.sets.now.present in
    let places = c.args.places.now in
    let i = c.loop-i.i in
    let next : terms (drop i places) ≡ c.place.result.term ∷ terms (drop (i + 1) places) =
    ap terms (drop_next places i none (omega arith)) ∙ ap (λ (place : Place). place.term ∷ terms (drop (i + 1) places)) (sym c.place.ensures) in
    if_none c.from_residual.result _
    (too_many sets _ (terms (drop i places)) (terms (drop (i + 1) places)) c.loop-i.product (choices sets (terms places)) next c.loop-i.invariant.product
    (some_choice sets (terms (drop (i + 1) places)) c.requires.nonempty (place_terms (length sets) (drop (i + 1) places) (All-drop (IsPlace (length sets)) (i + 1) places c.requires.places))) c.in_err-product.ensures.none)

pub loop-i-preserved : goal.loop-i-preserved
loop-i-preserved c =
    let sets = c.args.sets.now.present in
    let places = c.args.places.now in
    let i = c.loop-i.i in
    let next : terms (drop i places) ≡ c.place.result.term ∷ terms (drop (i + 1) places) =
    ap terms (drop_next places i none (omega arith)) ∙ ap (λ (place : Place). place.term ∷ terms (drop (i + 1) places)) (sym c.place.ensures) in
    record {
      product = one_more sets _ (terms (drop i places)) (terms (drop (i + 1) places)) c.loop-i.product c.in_ok-product.product (choices sets (terms places)) next c.loop-i.invariant.product c.in_ok-product.ensures.value;
      some = c.in_ok-product.ensures.some;
      few = c.in_ok-product.ensures.few;
    }
