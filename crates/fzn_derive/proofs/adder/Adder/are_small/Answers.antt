use Rattle.std.proofs.Common.{◌<◌, ◌≤◌, ℕ, length, refl, sym, ap, subst, ◌∙◌, arith, rules, FitsSigned, All}
use Rattle.std.proofs.lemmas.Bool.{not-false}
use Rattle.std.proofs.lemmas.Int.{to_z-of_z}
use Rattle.std.proofs.lemmas.List.{get_or_read, take_all}
use Rattle.std.proofs.lemmas.List.Elements.{All-more}
use mir.Syntax.{w128}
use Rattle.fzn_domain.specs.Limits.{IsSmall}
use Rattle.fzn_derive.specs.declared.adder.Cell.{Cell}
use Rattle.fzn_derive.specs.Room.{blank, cell_of}
use Rattle.fzn_derive.proofs.adder.Adder.are_small.Goals as goal

pub loop-i-preserved : goal.loop-i-preserved
loop-i-preserved c =
    let room = c.args.self.now in
    let touched = room.touched.items in
    let place = c.index-place.result.now in
    let inside : c.loop-i.i < length touched = omega (arith, room.touched.ok.0) in
    let place_is = get_or_read touched c.loop-i.i place inside c.index-place.ensures 0 in
    let place_inside : place < length room.cells.items = subst (λ (n : ℕ). n < length room.cells.items) (sym place_is) (c.requires.inside c.loop-i.i 0 inside) in
    let cell_is = get_or_read room.cells.items place c.index.result.now place_inside c.index.ensures blank in
    let fits : FitsSigned w128 c.index.result.now.sum = search rules in
    let told = c.is_small.ensures.0 (search (rules, not-false)) in
    let small = subst IsSmall (to_z-of_z w128 c.index.result.now.sum fits ∙ ap (λ (x : Cell). x.sum) cell_is ∙ ap (λ (n : ℕ). (cell_of room n).sum) place_is) told in
    All-more (λ (n : ℕ). IsSmall (cell_of room n).sum) touched c.loop-i.i 0 inside c.loop-i.invariant small

pub returns : goal.returns
returns c =
    let room = c.args.self.now in
    let past : length room.touched.items ≤ c.loop-i.i = omega (arith, room.touched.ok.0) in
    (λ _. subst (All (λ (n : ℕ). IsSmall (cell_of room n).sum)) (take_all c.loop-i.i room.touched.items past) c.loop-i.invariant, λ _. refl)
