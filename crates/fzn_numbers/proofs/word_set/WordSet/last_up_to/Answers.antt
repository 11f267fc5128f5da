use Rattle.std.proofs.Common.{◌≡◌, ◌<◌, ℕ, ℤ, pos, ◌+ℤ◌, [], ◌∷◌, arith, sym, subst, ◌∙◌}
use Rattle.fzn_numbers.specs.Ascending.{IsLastUpTo}
use Rattle.fzn_numbers.specs.Bits.{place_from, IsLastBit, NoBitBelow}
use Rattle.fzn_numbers.proofs.AscendingLemmas.{to_next}
use Rattle.fzn_numbers.proofs.NumberLemmas.{real}
use Rattle.fzn_numbers.proofs.BitSetLemmas.{number_at, place_few, last_found, last_none}
use Rattle.fzn_numbers.proofs.word_set.WordSet.last_up_to.Goals as goal

pub returns-in-Some-clause-found : goal.returns-in-Some-clause-found
returns-in-Some-clause-found c =
    let first = real _ c.self.invariant.can_be_first in
    let bound = to_next c.args.bound c.ranges.bound c.requires in
    let place : c.place_of-end.result ≡ place_from c.self.inside.first 64 (c.args.bound +ℤ pos 1) = c.place_of-end.ensures ∙ (λ i. place_from (first i) 64 (bound i)) in
    let found : IsLastBit (c.self.inside.word ∷ []) (place_from c.self.inside.first 64 (c.args.bound +ℤ pos 1)) c.in-Some.place =
    subst (λ (n : ℕ). IsLastBit (c.self.inside.word ∷ []) n c.in-Some.place) place c.in-Some.ensures.found in
    let inside : c.in-Some.place < 16384 = omega (arith, found.below, place_few c.self.inside.first (c.args.bound +ℤ pos 1) 64) in
    subst (λ (v : ℤ). IsLastUpTo c.args.self.now c.args.bound v) (sym (number_at c.self.inside.first c.in-Some.place c.self.invariant.can_be_first inside))
    (last_found c.self.inside.first (c.self.inside.word ∷ []) c.args.self.now c.self.view_is c.args.bound c.in-Some.place found)

pub returns-in-None-clause-none : goal.returns-in-None-clause-none
returns-in-None-clause-none c =
    let first = real _ c.self.invariant.can_be_first in
    let bound = to_next c.args.bound c.ranges.bound c.requires in
    let place : c.place_of-end.result ≡ place_from c.self.inside.first 64 (c.args.bound +ℤ pos 1) = c.place_of-end.ensures ∙ (λ i. place_from (first i) 64 (bound i)) in
    last_none c.self.inside.first (c.self.inside.word ∷ []) c.args.self.now c.self.view_is c.args.bound
    (subst (λ (n : ℕ). NoBitBelow (c.self.inside.word ∷ []) n) place c.in-None.ensures.none)
