use Rattle.std.proofs.Common.{◌<◌, ◌≤◌, ◌^◌, List, length, get_or, cond, eqb, sym, ap, subst, ◌∙◌, ℤ, pos, ◌+ℤ◌, unsigned_abs}
use Rattle.std.proofs.lemmas.List.{get_or_read, length-set}
use Rattle.fzn_derive.specs.declared.adder.Cell.{Cell}
use Rattle.fzn_derive.specs.Room.{blank}
use Rattle.fzn_derive.proofs.BoundLemmas.{sum-is}
use Rattle.fzn_derive.proofs.RoomLemmas.{listed-write, written-sum}
use Rattle.fzn_derive.proofs.adder.Adder.add.Goals as goal

pub returns-clause-listed : goal.returns-clause-listed
returns-clause-listed c =
    let room = c.list.new.self in
    record {
      listed = listed-write room.cells.items room.touched.items c.args.place _ c.list.ensures.listed.listed c.in_ok-list.ensures.contains;
      inside = λ k d h. simp length-set (c.list.ensures.listed.inside k d h);
    }

pub returns-clause-added : goal.returns-clause-added
returns-clause-added c =
    let cells = c.list.new.self.cells.items in
    let place = c.args.place in
    let inside : place < length cells = subst (λ (cs : List Cell). place < length cs) (sym c.list.ensures.cells) c.requires.inside in
    let was = ap (λ (x : Cell). x.sum) (get_or_read cells place c.index.result.now inside c.index.ensures blank) in
    let was_old = was ∙ ap (λ (cs : List Cell). (get_or cs place blank).sum) c.list.ensures.cells in
    let is = sum-is c.index.result.now.sum c.args.amount (subst (λ (x : ℤ). unsigned_abs x ≤ 2 ^ 125) (sym was_old) c.requires.sum) c.requires.amount in
    λ k. written-sum cells place k c.index.result.now.sum c.args.amount _ inside was is
    ∙ ap (λ (cs : List Cell). (get_or cs k blank).sum +ℤ cond (eqb k place) c.args.amount (pos 0)) c.list.ensures.cells
