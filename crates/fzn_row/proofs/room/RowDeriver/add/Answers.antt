use Rattle.std.proofs.Common.{rules, ◌≡◌, true, sym, ap, ◌∙◌, subst, refl, FitsSigned, w64, to_z, of_z, ◌+ℤ◌}
use Rattle.std.proofs.lemmas.Int.{to_z-of_z}
use Rattle.std.proofs.lemmas.List.{get_or_read}
use Rattle.std.proofs.lemmas.List.Elements.{All-set}
use Rattle.fzn_meaning.specs.declared.row.VariablePart.{VariablePart}
use Rattle.fzn_meaning.specs.Separable.{IsVariablePart}
use Rattle.fzn_weights.specs.Limits.{is_coefficient}
use Rattle.fzn_row.specs.Draft.{part_for}
use Rattle.fzn_row.specs.Room.{room_size, draft_of}
use Rattle.fzn_row.proofs.PartLemmas.{found-set, part-set, part-with, with_coefficient-is}
use Rattle.fzn_row.proofs.room.RowDeriver.add.Goals as goal
use mir.Syntax.{w128}

pub returns-clause-room : goal.returns-clause-room
returns-clause-room c =
    let room = c.place_of.new.self in
    let parts = room.parts.items in
    let place = c.in_ok-place.place in
    let old = c.index_mut.result.now in
    let inside = c.in_ok-place.ensures.place.inside in
    let sum = c.in_ok-coefficient.coefficient in
    let fits : FitsSigned w64 sum = search rules in
    let is = to_z-of_z w64 sum fits in
    let within : is_coefficient (to_z w64 (of_z w64 sum)) ≡ true = ap is_coefficient (is ∙ c.in_ok-coefficient.ensures.ok) ∙ c.in_ok-coefficient.ensures.within in
    let there = c.index_mut.ensures.value in
    let formed = subst (IsVariablePart (room_size room)) (sym there) (c.place_of.ensures.room.parts place old inside) in
    record {
      parts = All-set (IsVariablePart (room_size room)) parts place _ (part-set (room_size room) old _ formed refl refl within) c.place_of.ensures.room.parts;
      found = found-set room.slots.items parts place _ inside (ap (λ (p : VariablePart). p.var) (get_or_read parts place old inside there _)) c.place_of.ensures.room.found;
      tables = c.place_of.ensures.room.tables;
      bound = c.place_of.ensures.room.bound;
    }

pub returns-clause-ok : goal.returns-clause-ok
returns-clause-ok c =
    let draft = draft_of c.args.self.now in
    let room = c.place_of.new.self in
    let parts = room.parts.items in
    let place = c.in_ok-place.place in
    let at = c.in_ok-place.ensures.place in
    let sum = c.in_ok-coefficient.coefficient in
    let old = c.index_mut.result.now in
    let read = c.index.result.now in
    let var = c.args.var in
    let before : part_for var draft.parts ≡ read = sym (get_or_read parts place read at.inside c.index.ensures read ∙ at.here read) in
    let before_too : part_for var draft.parts ≡ old = sym (get_or_read parts place old at.inside c.index_mut.ensures.value old ∙ at.here old) in
    let fits : FitsSigned w64 sum = search rules in
    let read_fits : FitsSigned w64 read.coefficient = search rules in
    let amount_fits : FitsSigned w128 c.args.amount = c.ranges.amount in
    let held = to_z-of_z w64 sum fits in
    let same : (part_for var draft.parts).coefficient +ℤ c.args.amount ≡ sum = ap (λ (p : VariablePart). p.coefficient +ℤ c.args.amount) before ∙ sym (simp to_z-of_z at c.in_ok-coefficient.ensures.ok) in
    let within : is_coefficient ((part_for var draft.parts).coefficient +ℤ c.args.amount) ≡ true = ap is_coefficient (same ∙ c.in_ok-coefficient.ensures.ok) ∙ c.in_ok-coefficient.ensures.within in
    with_coefficient-is var draft parts place _ room.tables.items ((part_for var draft.parts).coefficient +ℤ c.args.amount) room.bound room.left at within (part-with old (part_for var draft.parts) _ _ before_too (held ∙ sym same)) c.place_of.ensures.tables c.place_of.ensures.bound c.place_of.ensures.left
