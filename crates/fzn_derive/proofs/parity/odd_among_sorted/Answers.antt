use Rattle.std.proofs.Common.{⊎_elim, arith}
use Rattle.fzn_derive.proofs.SortedLemmas.{odd_all, odd_taken, odd_put}
use Rattle.fzn_derive.proofs.parity.odd_among_sorted.Goals as goal

pub loop-number-preserved : goal.loop-number-preserved
loop-number-preserved c =
    let sorted = c.args.sorted.now in
    let i = c.loop-number.number-index in
    let old = c.loop-number.odd.items in
    let new = c.toggle_last.new.odd.items in
    ⊎_elim (λ taken. odd_taken sorted i old new (omega arith) c.loop-number.invariant taken) (λ put. odd_put sorted i old new c.requires (omega arith) c.loop-number.invariant put.0 put.1) c.in_ok-toggle_last.ensures

pub returns : goal.returns
returns c = odd_all c.args.sorted.now c.loop-number.number-index c.loop-number.odd.items (omega arith) c.loop-number.invariant
