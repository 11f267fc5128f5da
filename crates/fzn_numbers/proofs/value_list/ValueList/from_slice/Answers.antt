use Rattle.std.proofs.Common.{rules, ◌≡◌, ◌<◌, ◌≤◌, true, sym, FitsSigned, w64, pos, length, get_or, ap, ◌∙◌, arith, to_z-of_z}
use Rattle.std.specs.FinSet as set
use Rattle.std.proofs.lemmas.List.{take_all}
use Rattle.fzn_numbers.specs.IntSet.{contains}
use Rattle.fzn_numbers.proofs.AscendingLemmas.{added_next, had_next, same_members}
use Rattle.fzn_numbers.proofs.value_list.ValueList.from_slice.Goals as goal
use Rattle.fzn_numbers.proofs.value_list.ValueList.from_slice.Goals.{then-not-has+in_ok-insert, else-not-has}

pub loop-value-preserved : goal.loop-value-preserved
loop-value-preserved c =
    let xs = c.deref-value-items.result.now in
    let within : c.loop-value.value-index < length xs = omega arith in
    let fits : FitsSigned w64 (get_or xs c.loop-value.value-index (pos 0)) = search rules in
    let real = to_z-of_z fits in
    elim c.if-not-has.branch [
      | then-not-has+in_ok-insert w ↦ added_next xs _ _ _ within c.loop-value.invariant (w.list-is ∙ w.in_ok-insert.ensures.ok ∙ ap (set.insert c.loop-value.list) real)
      | else-not-has w ↦
          let there : contains c.loop-value.list (get_or xs c.loop-value.value-index (pos 0)) ≡ true = cc (real, c.has.ensures, w.if-not-has.false) in
          w.list-is ∙ had_next xs _ _ within c.loop-value.invariant there
    ]

pub returns : goal.returns
returns c =
    let xs = c.deref-value-items.result.now in
    let past : length xs ≤ c.loop-value.value-index = omega arith in
    c.loop-value.invariant ∙ ap set.from_list (take_all c.loop-value.value-index xs past) ∙ ap set.from_list c.deref-value-items.ensures.value
    ∙ sym (same_members _ _ c.sort_unstable.ensures.permutation) ∙ ap set.from_list c.in_ok-sorted.ensures.items
