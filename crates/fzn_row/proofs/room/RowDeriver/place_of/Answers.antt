use Rattle.std.proofs.Common.{arith, ◌<◌, ◌-◌, length, sym, ap, ◌∙◌}
use Rattle.std.proofs.lemmas.List.{get_or_read}
use Rattle.std.proofs.lemmas.Bool.{eqb-true}
use Rattle.fzn_meaning.specs.declared.row.VariablePart.{VariablePart}
use Rattle.fzn_row.proofs.PartLemmas.{place-found, slot-first}
use Rattle.fzn_row.proofs.room.RowDeriver.place_of.Goals as goal

pub returns-then-eq-clause-place : goal.returns-then-eq-clause-place
returns-then-eq-clause-place c =
    let room = c.args.self.now in
    let parts = room.parts.items in
    let slot = c.index-slot.result.now in
    let var = c.args.var in
    let inside : slot < length parts = omega arith in
    let some : var.0 - 1 < length room.slots.items = omega arith in
    place-found var parts slot (slot-first var room.slots.items parts slot c.requires.room.found
    (get_or_read room.slots.items (var.0 - 1) slot some c.index-slot.ensures 0) inside
    (λ d. sym (ap (λ (p : VariablePart). p.var.0) (get_or_read parts slot c.index.result.now inside c.index.ensures d)) ∙ eqb-true _ _ (sym c.eq.ensures ∙ c.if-eq.true)))
