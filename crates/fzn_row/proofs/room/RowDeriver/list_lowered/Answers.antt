use Rattle.std.proofs.Common.{rules, ◌≡◌, ◌⊎◌, ◌≤◌, length, true, false, unsigned_abs, sym, ap, ◌∙◌, subst, refl, inr, List, Option, Some, ℤ, pos, ◌-ℤ◌, FitsSigned, w64, to_z, of_z}
use Rattle.std.specs.List.{list_all}
use Rattle.std.proofs.lemmas.Int.{to_z-of_z}
use Rattle.std.proofs.lemmas.List.{get_or_read}
use Rattle.std.proofs.lemmas.List.Elements.{All-set}
use Rattle.std.proofs.lemmas.Result.{err_from_is_err_and}
use Rattle.fzn_domain.specs.IntSet.{least}
use Rattle.fzn_meaning.specs.declared.row.VariablePart.{VariablePart}
use Rattle.fzn_meaning.specs.Separable.{IsVariablePart}
use Rattle.fzn_cited.specs.declared.fault.DeriveFault.TheVariants.{Memory, NotDerived}
use Rattle.fzn_weights.specs.Prices.{price_at}
use Rattle.fzn_weights.specs.Limits.{is_entry_within}
use Rattle.fzn_weights.specs.Moves.{moved_from, span}
use Rattle.fzn_weights.proofs.MoveLemmas.{length-moved, narrow-few, limits-small}
use Rattle.fzn_weights.proofs.TableLemmas.{moved_alike}
use Rattle.fzn_row.specs.Draft.{part_for}
use Rattle.fzn_row.specs.Room.{room_size, draft_of}
use Rattle.fzn_row.proofs.PartLemmas.{found-set}
use Rattle.fzn_row.proofs.ListLemmas.{with_list-is, with_list-short, with_list-outside, part-listed, listed-is}
use Rattle.fzn_row.proofs.room.RowDeriver.list_lowered.Goals as goal

pub returns-then-self-count-clause-err : goal.returns-then-self-count-clause-err
returns-then-self-count-clause-err c =
    let draft = draft_of c.args.self.now in
    let set = c.args.set.now in
    let more = λ (value : ℤ). Some (pos 0 -ℤ price_at c.args.low.now c.args.prices.now value) in
    let old = (part_for c.args.var draft.parts).listed in
    inr (with_list-short c.args.var draft (least set) (moved_from more (least set) (span set) old) (rw (length-moved more old (least set) (span set), ← c.span-count.ensures.value) c.if-self-count.true))

pub returns-in_err-weights-clause-err : goal.returns-in_err-weights-clause-err
returns-in_err-weights-clause-err c =
    let p = err_from_is_err_and c.from_residual-in_err-weights.result c.from_residual-in_err-weights.ensures.1 in
    let draft = draft_of c.args.self.now in
    let var = c.args.var in
    let set = c.args.set.now in
    let more = λ (value : ℤ). Some (pos 0 -ℤ price_at c.args.low.now c.args.prices.now value) in
    let parts = c.place_of.new.self.parts.items in
    let place = c.in_ok-place.place in
    let at = c.in_ok-place.ensures.place in
    let read = c.index.result.now in
    let old = part_for var draft.parts in
    let fits : FitsSigned w64 c.min-first.result = search rules in
    let first_is : to_z w64 (of_z w64 c.min-first.result) ≡ least set = to_z-of_z w64 c.min-first.result fits ∙ c.min-first.ensures.value in
    let before : read ≡ old = get_or_read parts place read at.inside c.index.ensures read ∙ at.here read in
    let entries = moved_from more (least set) (span set) old.listed in
    let same = moved_alike more (to_z w64 (of_z w64 c.min-first.result)) (least set) c.span-count.result (span set) read.listed old.listed first_is c.span-count.ensures.value (ap (λ (q : VariablePart). q.listed) before) in
    let fault = c.in_err-weights.field-0.0 in
    let err = subst (λ (es : List (Option ℤ)). (fault ≡ Memory) ⊎ ((fault ≡ NotDerived) × (list_all is_entry_within es ≡ false))) same c.in_err-weights.ensures.err in
    rw (p.1, p.2) (with_list-outside var draft (least set) entries fault err)

pub returns-clause-room : goal.returns-clause-room
returns-clause-room c =
    let room = c.place_of.new.self in
    let parts = room.parts.items in
    let place = c.in_ok-place.place in
    let at = c.in_ok-place.ensures.place in
    let old = c.index_mut.result.now in
    let there = c.index_mut.ensures.value in
    let set = c.args.set.now in
    let more = λ (value : ℤ). Some (pos 0 -ℤ price_at c.args.low.now c.args.prices.now value) in
    let formed = subst (IsVariablePart (room_size room)) (sym there) (c.place_of.ensures.room.parts place old at.inside) in
    let weights = c.in_ok-weights.weights in
    let first = to_z w64 (of_z w64 c.min-first.result) in
    let length_is : length weights ≡ span set = ap (λ (es : List (Option ℤ)). length es) c.in_ok-weights.ensures.ok ∙ length-moved more c.index.result.now.listed first c.span-count.result ∙ c.span-count.ensures.value in
    let few : length weights ≤ 65536 = rw length_is (narrow-few set c.requires.narrow) in
    let small : unsigned_abs c.min-first.result ≤ 1000000000 = limits-small c.min-first.result c.min-first.ensures.in_limits in
    let fits : FitsSigned w64 c.min-first.result = search rules in
    let first_is : first ≡ c.min-first.result = to_z-of_z w64 c.min-first.result fits in
    record {
      parts = All-set (IsVariablePart (room_size room)) parts place _ (part-listed (room_size room) old c.min-first.result first weights formed small first_is few c.in_ok-weights.ensures.within) c.place_of.ensures.room.parts;
      found = found-set room.slots.items parts place _ at.inside (ap (λ (p : VariablePart). p.var) (get_or_read parts place old at.inside there _)) c.place_of.ensures.room.found;
      tables = c.place_of.ensures.room.tables;
      bound = c.place_of.ensures.room.bound;
    }

pub returns-clause-ok : goal.returns-clause-ok
returns-clause-ok c =
    let draft = draft_of c.args.self.now in
    let var = c.args.var in
    let set = c.args.set.now in
    let more = λ (value : ℤ). Some (pos 0 -ℤ price_at c.args.low.now c.args.prices.now value) in
    let room = c.place_of.new.self in
    let parts = room.parts.items in
    let place = c.in_ok-place.place in
    let at = c.in_ok-place.ensures.place in
    let changed = c.index_mut.result.now in
    let read = c.index.result.now in
    let old = part_for var draft.parts in
    let first = to_z w64 (of_z w64 c.min-first.result) in
    let fits : FitsSigned w64 c.min-first.result = search rules in
    let first_is : first ≡ least set = to_z-of_z w64 c.min-first.result fits ∙ c.min-first.ensures.value in
    let before : read ≡ old = get_or_read parts place read at.inside c.index.ensures read ∙ at.here read in
    let before_too : old ≡ changed = sym (get_or_read parts place changed at.inside c.index_mut.ensures.value changed ∙ at.here changed) in
    let entries = moved_from more (least set) (span set) old.listed in
    let weights : c.in_ok-weights.weights ≡ entries =
    c.in_ok-weights.ensures.ok ∙ moved_alike more first (least set) c.span-count.result (span set) read.listed old.listed first_is c.span-count.ensures.value (ap (λ (q : VariablePart). q.listed) before) in
    let within : list_all is_entry_within entries ≡ true = subst (λ (es : List (Option ℤ)). list_all is_entry_within es ≡ true) weights c.in_ok-weights.ensures.within in
    let count : length entries ≡ c.span-count.result = length-moved more old.listed (least set) (span set) ∙ sym c.span-count.ensures.value in
    with_list-is var draft (least set) entries parts place _ room.tables.items room.bound _ at (rw count c.if-self-count.false) within (listed-is changed old (least set) first entries c.in_ok-weights.weights before_too first_is weights) c.place_of.ensures.tables c.place_of.ensures.bound (rw (count, c.place_of.ensures.left) refl)
