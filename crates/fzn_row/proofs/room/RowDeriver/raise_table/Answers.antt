use Rattle.std.proofs.Common.{◌≡◌, length, sym, ap, ◌∙◌, subst, List, Option, ℤ}
use Rattle.std.proofs.lemmas.List.{get_or_read}
use Rattle.fzn_weights.specs.Amount.{amount_at}
use Rattle.fzn_weights.proofs.TableLemmas.{length-weights}
use Rattle.fzn_row.specs.declared.room.BegunTable.{BegunTable}
use Rattle.fzn_row.specs.Room.{IsTableKept}
use Rattle.fzn_row.proofs.TableLemmas.{begun-set, kept-raised}
use Rattle.fzn_row.proofs.room.RowDeriver.raise_table.Goals as goal

pub returns-clause-room : goal.returns-clause-room
returns-clause-room c =
    let room = c.args.self.now in
    let tables = room.tables.items in
    let place = c.in-Some.place in
    let at = c.in-Some.ensures in
    let read = c.index.result.now in
    let old = c.index_mut.result.now in
    let there = c.index_mut.ensures.value in
    let same : read ≡ old = get_or_read tables place read at.inside c.index.ensures old ∙ sym (get_or_read tables place old at.inside there old) in
    let kept = subst (λ (b : BegunTable). IsTableKept b.part) (sym there) (c.requires.room.tables.parts place old at.inside) in
    let weights = c.in_ok-weights.weights in
    let many : length weights ≡ length old.part.weights =
    ap (λ (ws : List (Option ℤ)). length ws) c.in_ok-weights.ensures.ok ∙ length-weights (amount_at c.args.more.now) c.args.column (length read.part.places) read.part.rows read.part.weights ∙ ap (λ (b : BegunTable). length b.part.weights) same in
    record {
      parts = c.requires.room.parts;
      found = c.requires.room.found;
      tables = begun-set room.table_slots.items tables place _ at.inside (ap (λ (b : BegunTable). b.constraint) (get_or_read tables place old at.inside there _)) (kept-raised old.part weights kept many) c.requires.room.tables;
      bound = c.requires.room.bound;
    }
