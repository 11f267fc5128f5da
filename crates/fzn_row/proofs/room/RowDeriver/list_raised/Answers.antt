use Rattle.std.proofs.Common.{rules, arith, ◌≡◌, ◌≤◌, length, true, sym, ap, ◌∙◌, subst, refl, inr, List, Option, ℤ, pos, FitsSigned, w64, to_z, of_z}
use Rattle.std.specs.List.{list_all}
use Rattle.std.proofs.lemmas.Int.{to_z-of_z}
use Rattle.std.proofs.lemmas.List.{get_or_read}
use Rattle.std.proofs.lemmas.List.Elements.{All-set}
use Rattle.fzn_meaning.specs.declared.row.VariablePart.{VariablePart}
use Rattle.fzn_meaning.specs.Separable.{IsVariablePart}
use Rattle.fzn_weights.specs.Limits.{is_entry_within}
use Rattle.fzn_weights.specs.Inverses.{raised_from}
use Rattle.fzn_weights.proofs.InverseLemmas.{length-raised}
use Rattle.fzn_row.specs.Draft.{part_for}
use Rattle.fzn_row.specs.Room.{room_size, draft_of}
use Rattle.fzn_row.proofs.PartLemmas.{found-set}
use Rattle.fzn_row.proofs.ListLemmas.{with_list-is, with_list-short, part-listed, listed-is}
use Rattle.fzn_row.proofs.room.RowDeriver.list_raised.Goals as goal

pub returns-then-self-count-clause-err : goal.returns-then-self-count-clause-err
returns-then-self-count-clause-err c =
    let draft = draft_of c.args.self.now in
    let old = (part_for c.args.var draft.parts).listed in
    inr (with_list-short c.args.var draft (pos 1) (raised_from (pos 1) c.args.count c.args.value c.args.more old) (rw (length-raised c.args.value c.args.more old (pos 1) c.args.count) c.if-self-count.true))

pub returns-clause-room : goal.returns-clause-room
returns-clause-room c =
    let room = c.place_of.new.self in
    let parts = room.parts.items in
    let place = c.in_ok-place.place in
    let at = c.in_ok-place.ensures.place in
    let old = c.index_mut.result.now in
    let there = c.index_mut.ensures.value in
    let formed = subst (IsVariablePart (room_size room)) (sym there) (c.place_of.ensures.room.parts place old at.inside) in
    let weights = c.in_ok-weights.weights in
    let few : length weights ≤ 65536 = rw (c.in_ok-weights.ensures.ok, length-raised (to_z w64 (of_z w64 c.args.value)) c.args.more c.index.result.now.listed (pos 1) c.args.count) c.requires.few in
    record {
      parts = All-set (IsVariablePart (room_size room)) parts place _ (part-listed (room_size room) old (pos 1) (pos 1) weights formed (omega arith) refl few c.in_ok-weights.ensures.within) c.place_of.ensures.room.parts;
      found = found-set room.slots.items parts place _ at.inside (ap (λ (p : VariablePart). p.var) (get_or_read parts place old at.inside there _)) c.place_of.ensures.room.found;
      tables = c.place_of.ensures.room.tables;
      bound = c.place_of.ensures.room.bound;
    }

pub returns-clause-ok : goal.returns-clause-ok
returns-clause-ok c =
    let draft = draft_of c.args.self.now in
    let room = c.place_of.new.self in
    let parts = room.parts.items in
    let place = c.in_ok-place.place in
    let at = c.in_ok-place.ensures.place in
    let old = c.index_mut.result.now in
    let read = c.index.result.now in
    let var = c.args.var in
    let count = c.args.count in
    let value = c.args.value in
    let more = c.args.more in
    let before : part_for var draft.parts ≡ read = sym (get_or_read parts place read at.inside c.index.ensures read ∙ at.here read) in
    let before_too : part_for var draft.parts ≡ old = sym (get_or_read parts place old at.inside c.index_mut.ensures.value old ∙ at.here old) in
    let entries = raised_from (pos 1) count value more (part_for var draft.parts).listed in
    let value_fits : FitsSigned w64 value = search rules in
    let weights : c.in_ok-weights.weights ≡ entries = c.in_ok-weights.ensures.ok ∙ ap (λ (v : ℤ). raised_from (pos 1) count v more read.listed) (to_z-of_z w64 value value_fits) ∙ ap (λ (p : VariablePart). raised_from (pos 1) count value more p.listed) (sym before) in
    let within : list_all is_entry_within entries ≡ true = subst (λ (es : List (Option ℤ)). list_all is_entry_within es ≡ true) weights c.in_ok-weights.ensures.within in
    let many : length entries ≡ count = length-raised value more (part_for var draft.parts).listed (pos 1) count in
    with_list-is var draft (pos 1) entries parts place _ room.tables.items room.bound _ at (rw many c.if-self-count.false) within (listed-is old (part_for var draft.parts) (pos 1) (pos 1) entries c.in_ok-weights.weights before_too refl weights) c.place_of.ensures.tables c.place_of.ensures.bound (rw (many, c.place_of.ensures.left) refl)
