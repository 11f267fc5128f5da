use Rattle.std.proofs.Common.{◌≡◌, ◌*◌, ℕ, ℤ, List, arith, sym, subst, ◌∙◌, to_z-of_z}
use Rattle.fzn_numbers.specs.Ascending.{IsNextFrom}
use Rattle.fzn_numbers.specs.Bits.{places, place_from, IsNextBit, NoBitFrom}
use Rattle.fzn_numbers.proofs.NumberLemmas.{real}
use Rattle.fzn_numbers.proofs.BitSetLemmas.{number_at, next_found, next_none}
use Rattle.fzn_numbers.proofs.bit_set.BitSet.next_from.Goals as goal

pub returns-in-Some-clause-found : goal.returns-in-Some-clause-found
returns-in-Some-clause-found c =
    let words = c.self.inside.words.items in
    let first = real _ c.self.invariant.can_be_first in
    let bound = to_z-of_z c.ranges.bound in
    let count : c.len.result * 64 ≡ places words = omega arith in
    let place : c.place_of-from.result ≡ place_from c.self.inside.first (places words) c.args.bound = c.place_of-from.ensures ∙ (λ i. place_from (first i) (count i) (bound i)) in
    let next : IsNextBit words (place_from c.self.inside.first (places words) c.args.bound) c.in-Some.place =
    subst (λ (n : ℕ). IsNextBit words n c.in-Some.place) place (subst (λ (ws : List ℕ). IsNextBit ws c.place_of-from.result c.in-Some.place) c.deref.ensures.value c.in-Some.ensures.found) in
    subst (λ (v : ℤ). IsNextFrom c.args.self.now c.args.bound v) (sym (number_at c.self.inside.first c.in-Some.place c.self.invariant.can_be_first (omega (arith, next.in_words, c.self.invariant.few))))
    (next_found c.self.inside.first words c.args.self.now c.self.view_is c.args.bound c.in-Some.place next)

pub returns-in-None-clause-none : goal.returns-in-None-clause-none
returns-in-None-clause-none c =
    let words = c.self.inside.words.items in
    let first = real _ c.self.invariant.can_be_first in
    let bound = to_z-of_z c.ranges.bound in
    let count : c.len.result * 64 ≡ places words = omega arith in
    let place : c.place_of-from.result ≡ place_from c.self.inside.first (places words) c.args.bound = c.place_of-from.ensures ∙ (λ i. place_from (first i) (count i) (bound i)) in
    next_none c.self.inside.first words c.args.self.now c.self.view_is c.args.bound
    (subst (λ (n : ℕ). NoBitFrom words n) place (subst (λ (ws : List ℕ). NoBitFrom ws c.place_of-from.result) c.deref.ensures.value c.in-None.ensures.none))
