use Rattle.std.proofs.Common.{arith, sym, ap, ◌∙◌, subst}
use Rattle.std.proofs.lemmas.List.Elements.{All-set}
use Rattle.fzn_meaning.specs.declared.row.VariablePart.{VariablePart}
use Rattle.fzn_meaning.specs.Separable.{IsVariablePart}
use Rattle.fzn_row.specs.Draft.{blank_part}
use Rattle.fzn_row.specs.Room.{room_size}
use Rattle.fzn_row.proofs.PartLemmas.{found-set, var-part_for}
use Rattle.fzn_row.proofs.room.RowDeriver.take_part.Goals as goal

pub returns-clause-room : goal.returns-clause-room
returns-clause-room c =
    let room = c.place_of.new.self in
    let parts = room.parts.items in
    let place = c.in_ok-place.place in
    let at = c.in_ok-place.ensures.place in
    let var = c.args.var in
    let is = c.replace.ensures.after in
    let formed : IsVariablePart (room_size room) (blank_part var) = record { variable = rw c.place_of.ensures.variables c.requires.var; coefficient = omega arith; listed = tt } in
    record {
      parts = All-set (IsVariablePart (room_size room)) parts place _ (subst (IsVariablePart (room_size room)) (sym is) formed) c.place_of.ensures.room.parts;
      found = found-set room.slots.items parts place _ at.inside (ap (λ (p : VariablePart). p.var) is ∙ sym (ap (λ (p : VariablePart). p.var) (at.here _) ∙ var-part_for var c.args.self.now.parts.items)) c.place_of.ensures.room.found;
      tables = c.place_of.ensures.room.tables;
      bound = c.place_of.ensures.room.bound;
    }
