use Rattle.std.proofs.Common.{◌≡◌, ◌<◌, ◌≤◌, ℕ, List, length, get_or, refl, sym, ap, subst, ◌∙◌, arith}
use Rattle.std.proofs.lemmas.List.{get_or_read, length-set}
use Rattle.fzn_derive.specs.Room.{variables_in, blank}
use Rattle.fzn_derive.proofs.RoomLemmas.{left_less, cleared}
use Rattle.fzn_derive.proofs.adder.Adder.clear.Goals as goal

pub index_mut-requires : goal.index_mut-requires
index_mut-requires c =
    let old = c.args.self.now in
    let now = c.loop-i.self in
    let place = c.index-place.result.now in
    let same : now.touched.items ≡ old.touched.items = c.loop-i.invariant.same in
    let len : length now.cells.items ≡ length old.cells.items = c.loop-i.invariant.len in
    let inside : c.loop-i.i < length old.touched.items = omega (arith, old.touched.ok.0) in
    let is : place ≡ get_or old.touched.items c.loop-i.i place = c.index-place.ensures ∙ ap (λ (ns : List ℕ). get_or ns c.loop-i.i place) same in
    let below : get_or old.touched.items c.loop-i.i place < length old.cells.items = c.requires.inside c.loop-i.i place inside in
    omega (arith, now.cells.ok.0)

pub loop-i-init : goal.loop-i-init
loop-i-init c = record { len = refl; same = refl; left = c.requires.listed }

pub loop-i-preserved : goal.loop-i-preserved
loop-i-preserved c =
    let old = c.args.self.now in
    let now = c.loop-i.self in
    let place = c.index-place.result.now in
    let same : now.touched.items ≡ old.touched.items = c.loop-i.invariant.same in
    let inside_old : c.loop-i.i < length old.touched.items = omega (arith, old.touched.ok.0) in
    let inside : c.loop-i.i < length now.touched.items = subst (λ (ns : List ℕ). c.loop-i.i < length ns) (sym same) inside_old in
    record {
      len = length-set now.cells.items place blank ∙ c.loop-i.invariant.len;
      same = c.loop-i.invariant.same;
      left = left_less now.cells.items now.touched.items c.loop-i.i place inside (get_or_read now.touched.items c.loop-i.i place inside c.index-place.ensures 0) c.loop-i.invariant.left;
    }

pub returns : goal.returns
returns c =
    let old = c.args.self.now in
    let now = c.loop-i.self in
    let same : now.touched.items ≡ old.touched.items = c.loop-i.invariant.same in
    let past_old : length old.touched.items ≤ c.loop-i.i = omega (arith, old.touched.ok.0) in
    let past : length now.touched.items ≤ c.loop-i.i = subst (λ (ns : List ℕ). length ns ≤ c.loop-i.i) (sym same) past_old in
    record {
      cells = cleared now.cells.items now.touched.items c.loop-i.i (variables_in old) c.loop-i.invariant.len past c.loop-i.invariant.left;
      touched = c.clear.ensures.items;
    }
