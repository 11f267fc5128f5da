use Rattle.std.proofs.Common.{◌≡◌, ◌*◌, ◌<◌, ℕ, ℤ, pos, ◌+ℤ◌, List, arith, sym, subst, ◌∙◌}
use Rattle.fzn_numbers.specs.Ascending.{IsLastUpTo}
use Rattle.fzn_numbers.specs.Bits.{places, place_from, IsLastBit, NoBitBelow}
use Rattle.fzn_numbers.proofs.AscendingLemmas.{to_next}
use Rattle.fzn_numbers.proofs.NumberLemmas.{real}
use Rattle.fzn_numbers.proofs.BitSetLemmas.{number_at, place_few, last_found, last_none}
use Rattle.fzn_numbers.proofs.bit_set.BitSet.last_up_to.Goals as goal

pub returns-in-Some-clause-found : goal.returns-in-Some-clause-found
returns-in-Some-clause-found c =
    let words = c.self.inside.words.items in
    let first = real _ c.self.invariant.can_be_first in
    let bound = to_next c.args.bound c.ranges.bound c.requires in
    let count : c.len.result * 64 ≡ places words = omega arith in
    let place : c.place_of-end.result ≡ place_from c.self.inside.first (places words) (c.args.bound +ℤ pos 1) = c.place_of-end.ensures ∙ (λ i. place_from (first i) (count i) (bound i)) in
    let found : IsLastBit words (place_from c.self.inside.first (places words) (c.args.bound +ℤ pos 1)) c.in-Some.place =
    subst (λ (n : ℕ). IsLastBit words n c.in-Some.place) place (subst (λ (ws : List ℕ). IsLastBit ws c.place_of-end.result c.in-Some.place) c.deref.ensures.value c.in-Some.ensures.found) in
    let inside : c.in-Some.place < 16384 = omega (arith, found.below, c.self.invariant.few, place_few c.self.inside.first (c.args.bound +ℤ pos 1) (places words)) in
    subst (λ (v : ℤ). IsLastUpTo c.args.self.now c.args.bound v) (sym (number_at c.self.inside.first c.in-Some.place c.self.invariant.can_be_first inside))
    (last_found c.self.inside.first words c.args.self.now c.self.view_is c.args.bound c.in-Some.place found)

pub returns-in-None-clause-none : goal.returns-in-None-clause-none
returns-in-None-clause-none c =
    let words = c.self.inside.words.items in
    let first = real _ c.self.invariant.can_be_first in
    let bound = to_next c.args.bound c.ranges.bound c.requires in
    let count : c.len.result * 64 ≡ places words = omega arith in
    let place : c.place_of-end.result ≡ place_from c.self.inside.first (places words) (c.args.bound +ℤ pos 1) = c.place_of-end.ensures ∙ (λ i. place_from (first i) (count i) (bound i)) in
    last_none c.self.inside.first words c.args.self.now c.self.view_is c.args.bound
    (subst (λ (n : ℕ). NoBitBelow words n) place (subst (λ (ws : List ℕ). NoBitBelow ws c.place_of-end.result) c.deref.ensures.value c.in-None.ensures.none))
