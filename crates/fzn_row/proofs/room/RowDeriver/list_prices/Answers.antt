use Rattle.std.proofs.Common.{rules, ◌≡◌, ◌≤◌, length, true, sym, ap, ◌∙◌, subst, refl, inr, List, Option, ℤ, FitsSigned, w64}
use Rattle.std.specs.List.{list_all}
use Rattle.std.proofs.lemmas.Int.{to_z-of_z}
use Rattle.std.proofs.lemmas.List.{get_or_read}
use Rattle.std.proofs.lemmas.List.Elements.{All-set}
use Rattle.fzn_meaning.specs.declared.row.VariablePart.{VariablePart}
use Rattle.fzn_meaning.specs.Separable.{IsVariablePart}
use Rattle.fzn_weights.specs.Prices.{entries_from}
use Rattle.fzn_weights.specs.Limits.{is_entry_within}
use Rattle.fzn_weights.proofs.PriceLemmas.{prices-facts, length-entries}
use Rattle.fzn_row.specs.Draft.{part_for}
use Rattle.fzn_row.specs.Room.{room_size, draft_of}
use Rattle.fzn_row.proofs.PartLemmas.{found-set}
use Rattle.fzn_row.proofs.ListLemmas.{with_list-is, with_list-short, part-listed, listed-is}
use Rattle.fzn_row.proofs.room.RowDeriver.list_prices.Goals as goal

pub returns-then-self-prices-clause-err : goal.returns-then-self-prices-clause-err
returns-then-self-prices-clause-err c =
    let draft = draft_of c.args.self.now in
    let entries = entries_from c.args.low.now c.args.prices.now (part_for c.args.var draft.parts).listed in
    let count = length-entries c.args.low.now c.args.prices.now (part_for c.args.var draft.parts).listed in
    let t = c.if-self-prices.true in
    inr (with_list-short c.args.var draft c.args.low.now entries (rw count t))

pub returns-clause-room : goal.returns-clause-room
returns-clause-room c =
    let room = c.place_of.new.self in
    let parts = room.parts.items in
    let place = c.in_ok-place.place in
    let at = c.in_ok-place.ensures.place in
    let old = c.index_mut.result.now in
    let there = c.index_mut.ensures.value in
    let formed = subst (IsVariablePart (room_size room)) (sym there) (c.place_of.ensures.room.parts place old at.inside) in
    let facts = prices-facts c.args.low.now c.args.prices.now c.requires.prices in
    let low_fits : FitsSigned w64 c.args.low.now = search rules in
    let weights = c.in_ok-weights.weights in
    let few : length weights ≤ 65536 = rw (c.in_ok-weights.ensures, length-entries c.args.low.now c.args.prices.now c.index.result.now.listed) facts.1 in
    let within : list_all is_entry_within weights ≡ true = rw c.as_slice.ensures at (sym c.are_within.ensures ∙ c.if-not-are_within.false) in
    record {
      parts = All-set (IsVariablePart (room_size room)) parts place _ (part-listed (room_size room) old c.args.low.now _ weights formed facts.0 (to_z-of_z w64 c.args.low.now low_fits) few within) c.place_of.ensures.room.parts;
      found = found-set room.slots.items parts place _ at.inside (ap (λ (p : VariablePart). p.var) (get_or_read parts place old at.inside there _)) c.place_of.ensures.room.found;
      tables = c.place_of.ensures.room.tables;
      bound = c.place_of.ensures.room.bound;
    }

pub returns-clause-ok : goal.returns-clause-ok
returns-clause-ok c =
    let draft = draft_of c.args.self.now in
    let room = c.place_of.new.self in
    let parts = room.parts.items in
    let place = c.in_ok-place.place in
    let at = c.in_ok-place.ensures.place in
    let old = c.index_mut.result.now in
    let read = c.index.result.now in
    let var = c.args.var in
    let low = c.args.low.now in
    let prices = c.args.prices.now in
    let low_fits : FitsSigned w64 low = search rules in
    let before : part_for var draft.parts ≡ read = sym (get_or_read parts place read at.inside c.index.ensures read ∙ at.here read) in
    let before_too : part_for var draft.parts ≡ old = sym (get_or_read parts place old at.inside c.index_mut.ensures.value old ∙ at.here old) in
    let entries = entries_from low prices (part_for var draft.parts).listed in
    let count = length-entries low prices (part_for var draft.parts).listed in
    let weights : c.in_ok-weights.weights ≡ entries = c.in_ok-weights.ensures ∙ ap (λ (p : VariablePart). entries_from low prices p.listed) (sym before) in
    let held : list_all is_entry_within c.in_ok-weights.weights ≡ true = rw c.as_slice.ensures at (sym c.are_within.ensures ∙ c.if-not-are_within.false) in
    let within : list_all is_entry_within entries ≡ true = subst (λ (es : List (Option ℤ)). list_all is_entry_within es ≡ true) weights held in
    with_list-is var draft low entries parts place _ room.tables.items room.bound _ at (rw count c.if-self-prices.false) within (listed-is old (part_for var draft.parts) low _ entries c.in_ok-weights.weights before_too (to_z-of_z w64 low low_fits) weights) c.place_of.ensures.tables c.place_of.ensures.bound (rw (count, c.place_of.ensures.left) refl)
