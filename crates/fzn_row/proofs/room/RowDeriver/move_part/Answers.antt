use Rattle.std.proofs.Common.{rules, ◌≡◌, ◌⊎◌, ◌≤◌, length, true, false, unsigned_abs, sym, ap, ◌∙◌, subst, refl, inr, List, Option, ℤ, FitsSigned, w64, to_z, of_z}
use Rattle.std.specs.List.{list_all}
use Rattle.std.proofs.lemmas.Int.{to_z-of_z}
use Rattle.std.proofs.lemmas.List.{get_or_read}
use Rattle.std.proofs.lemmas.List.Elements.{All-set}
use Rattle.std.proofs.lemmas.Result.{err_from_is_err_and}
use Rattle.fzn_domain.specs.IntSet.{least}
use Rattle.fzn_domain.specs.Narrow.{set_of}
use Rattle.fzn_meaning.specs.declared.row.VariablePart.{VariablePart}
use Rattle.fzn_meaning.specs.Separable.{IsVariablePart}
use Rattle.fzn_meaning.specs.Solutions.{declared_sets}
use Rattle.fzn_cited.specs.declared.fault.DeriveFault.TheVariants.{Memory, NotDerived}
use Rattle.fzn_dependence.specs.Dependence.{dependent_at}
use Rattle.fzn_weights.specs.Limits.{is_entry_within}
use Rattle.fzn_weights.specs.Moves.{weight_where, moved_from, span}
use Rattle.fzn_weights.proofs.MoveLemmas.{length-moved, moved-same, narrow-few, limits-small}
use Rattle.fzn_row.specs.Draft.{part_for, blank_part, with_part}
use Rattle.fzn_row.specs.Weights.{without_part}
use Rattle.fzn_row.specs.Room.{room_size, draft_of, IsPlaceOfPart}
use Rattle.fzn_row.proofs.PartLemmas.{found-set}
use Rattle.fzn_row.proofs.ListLemmas.{with_list-is, with_list-short, with_list-outside, part-listed, listed-is}
use Rattle.fzn_row.proofs.room.RowDeriver.move_part.Goals as goal

pub returns-then-self-count-clause-err : goal.returns-then-self-count-clause-err
returns-then-self-count-clause-err c =
    let draft = draft_of c.args.self.now in
    let declared = declared_sets c.args.vars.now in
    let set = set_of declared c.args.by in
    let more = weight_where (set_of declared c.args.source) (part_for c.args.source draft.parts) (dependent_at c.args.dependence.now) in
    let old = (part_for c.args.by (without_part c.args.source draft).parts).listed in
    let count_is : span set ≡ c.span-count.result = sym (c.span-count.ensures.value ∙ ap span c.declared_set-values.ensures) in
    inr (with_list-short c.args.by (without_part c.args.source draft) (least set) (moved_from more (least set) (span set) old) (rw (length-moved more old (least set) (span set), count_is) c.if-self-count.true))

pub returns-in_err-weights-clause-err : goal.returns-in_err-weights-clause-err
returns-in_err-weights-clause-err c =
    let p = err_from_is_err_and c.from_residual-in_err-weights.result c.from_residual-in_err-weights.ensures.1 in
    let draft = draft_of c.args.self.now in
    let declared = declared_sets c.args.vars.now in
    let source = c.args.source in
    let by = c.args.by in
    let set = set_of declared by in
    let parts = c.place_of.new.self.parts.items in
    let place = c.in_ok-place.place in
    let at = c.in_ok-place.ensures.place in
    let read = c.index.result.now in
    let part = part_for source draft.parts in
    let old = part_for by (without_part source draft).parts in
    let fits : FitsSigned w64 c.min-low.result = search rules in
    let low_is : to_z w64 (of_z w64 c.min-low.result) ≡ least set = to_z-of_z w64 c.min-low.result fits ∙ c.min-low.ensures.value ∙ ap least c.declared_set-values.ensures in
    let count_is : c.span-count.result ≡ span set = c.span-count.ensures.value ∙ ap span c.declared_set-values.ensures in
    let middle : c.take_part.new.self.parts.items ≡ with_part (blank_part source) draft.parts = c.in_ok-part.ensures.parts in
    let before : old ≡ read = ap (part_for by) (sym middle) ∙ sym (get_or_read parts place read at.inside c.index.ensures read ∙ at.here read) in
    let entries = moved_from (weight_where (set_of declared source) part (dependent_at c.args.dependence.now)) (least set) (span set) old.listed in
    let same = moved-same c.declared_set-set.result.now (set_of declared source) c.in_ok-part.part part (dependent_at c.args.dependence.now) (to_z w64 (of_z w64 c.min-low.result)) (least set) c.span-count.result (span set) read.listed old.listed
    c.declared_set-set.ensures c.in_ok-part.ensures.part low_is count_is (ap (λ (q : VariablePart). q.listed) (sym before)) in
    let fault = c.in_err-weights.field-0.0 in
    let err = subst (λ (es : List (Option ℤ)). (fault ≡ Memory) ⊎ ((fault ≡ NotDerived) × (list_all is_entry_within es ≡ false))) same c.in_err-weights.ensures.err in
    rw (p.1, p.2) (with_list-outside by (without_part source draft) (least set) entries fault err)

pub returns-clause-room : goal.returns-clause-room
returns-clause-room c =
    let room = c.place_of.new.self in
    let parts = room.parts.items in
    let place = c.in_ok-place.place in
    let at = c.in_ok-place.ensures.place in
    let old = c.index_mut.result.now in
    let there = c.index_mut.ensures.value in
    let set = set_of (declared_sets c.args.vars.now) c.args.by in
    let formed = subst (IsVariablePart (room_size room)) (sym there) (c.place_of.ensures.room.parts place old at.inside) in
    let weights = c.in_ok-weights.weights in
    let more = weight_where c.declared_set-set.result.now c.in_ok-part.part (dependent_at c.args.dependence.now) in
    let low = to_z w64 (of_z w64 c.min-low.result) in
    let length_is : length weights ≡ c.span-count.result = ap (λ (es : List (Option ℤ)). length es) c.in_ok-weights.ensures.ok ∙ length-moved more c.index.result.now.listed low c.span-count.result in
    let count_is : c.span-count.result ≡ span set = c.span-count.ensures.value ∙ ap span c.declared_set-values.ensures in
    let few : length weights ≤ 65536 = rw (length_is, count_is) (narrow-few set c.requires.narrow) in
    let limits = c.min-low.ensures.in_limits in
    let small : unsigned_abs c.min-low.result ≤ 1000000000 = limits-small c.min-low.result limits in
    let fits : FitsSigned w64 c.min-low.result = search rules in
    let low_is : low ≡ c.min-low.result = to_z-of_z w64 c.min-low.result fits in
    record {
      parts = All-set (IsVariablePart (room_size room)) parts place _ (part-listed (room_size room) old c.min-low.result low weights formed small low_is few c.in_ok-weights.ensures.within) c.place_of.ensures.room.parts;
      found = found-set room.slots.items parts place _ at.inside (ap (λ (p : VariablePart). p.var) (get_or_read parts place old at.inside there _)) c.place_of.ensures.room.found;
      tables = c.place_of.ensures.room.tables;
      bound = c.place_of.ensures.room.bound;
    }

pub returns-clause-ok : goal.returns-clause-ok
returns-clause-ok c =
    let draft = draft_of c.args.self.now in
    let declared = declared_sets c.args.vars.now in
    let source = c.args.source in
    let by = c.args.by in
    let set = set_of declared by in
    let taken = c.take_part.new.self in
    let room = c.place_of.new.self in
    let parts = room.parts.items in
    let place = c.in_ok-place.place in
    let at = c.in_ok-place.ensures.place in
    let changed = c.index_mut.result.now in
    let read = c.index.result.now in
    let part = part_for source draft.parts in
    let old = part_for by (without_part source draft).parts in
    let low = to_z w64 (of_z w64 c.min-low.result) in
    let fits : FitsSigned w64 c.min-low.result = search rules in
    let low_is : low ≡ least set = to_z-of_z w64 c.min-low.result fits ∙ c.min-low.ensures.value ∙ ap least c.declared_set-values.ensures in
    let count_is : c.span-count.result ≡ span set = c.span-count.ensures.value ∙ ap span c.declared_set-values.ensures in
    let middle : taken.parts.items ≡ with_part (blank_part source) draft.parts = c.in_ok-part.ensures.parts in
    let before : old ≡ read = ap (part_for by) (sym middle) ∙ sym (get_or_read parts place read at.inside c.index.ensures read ∙ at.here read) in
    let before_too : old ≡ changed = ap (part_for by) (sym middle) ∙ sym (get_or_read parts place changed at.inside c.index_mut.ensures.value changed ∙ at.here changed) in
    let more = weight_where (set_of declared source) part (dependent_at c.args.dependence.now) in
    let entries = moved_from more (least set) (span set) old.listed in
    let same = moved-same c.declared_set-set.result.now (set_of declared source) c.in_ok-part.part part (dependent_at c.args.dependence.now) low (least set) c.span-count.result (span set) read.listed old.listed
    c.declared_set-set.ensures c.in_ok-part.ensures.part low_is count_is (ap (λ (q : VariablePart). q.listed) (sym before)) in
    let weights : c.in_ok-weights.weights ≡ entries = c.in_ok-weights.ensures.ok ∙ same in
    let within : list_all is_entry_within entries ≡ true = subst (λ (es : List (Option ℤ)). list_all is_entry_within es ≡ true) weights c.in_ok-weights.ensures.within in
    let count : length entries ≡ c.span-count.result = length-moved more old.listed (least set) (span set) ∙ sym count_is in
    with_list-is by (without_part source draft) (least set) entries parts place _ room.tables.items room.bound _ (subst (λ (ps : List VariablePart). IsPlaceOfPart by ps parts place) middle at) (rw count c.if-self-count.false) within (listed-is changed old (least set) low entries c.in_ok-weights.weights before_too low_is weights) (c.place_of.ensures.tables ∙ c.take_part.ensures.tables) (c.place_of.ensures.bound ∙ c.take_part.ensures.bound) (rw (count, c.place_of.ensures.left, c.take_part.ensures.left) refl)
