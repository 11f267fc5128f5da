use Rattle.std.proofs.Common.{◌≡◌, ℕ, ℤ, [], ◌∷◌, arith, sym, subst, ◌∙◌, to_z-of_z}
use Rattle.fzn_numbers.specs.Ascending.{IsNextFrom}
use Rattle.fzn_numbers.specs.Bits.{place_from, IsNextBit, NoBitFrom}
use Rattle.fzn_numbers.proofs.NumberLemmas.{real}
use Rattle.fzn_numbers.proofs.BitSetLemmas.{number_at, next_found, next_none}
use Rattle.fzn_numbers.proofs.word_set.WordSet.next_from.Goals as goal

pub returns-in-Some-clause-found : goal.returns-in-Some-clause-found
returns-in-Some-clause-found c =
    let first = real _ c.self.invariant.can_be_first in
    let bound = to_z-of_z c.ranges.bound in
    let place : c.place_of-from.result ≡ place_from c.self.inside.first 64 c.args.bound = c.place_of-from.ensures ∙ (λ i. place_from (first i) 64 (bound i)) in
    let next : IsNextBit (c.self.inside.word ∷ []) (place_from c.self.inside.first 64 c.args.bound) c.in-Some.place =
    subst (λ (n : ℕ). IsNextBit (c.self.inside.word ∷ []) n c.in-Some.place) place c.in-Some.ensures.found in
    subst (λ (v : ℤ). IsNextFrom c.args.self.now c.args.bound v) (sym (number_at c.self.inside.first c.in-Some.place c.self.invariant.can_be_first (omega (arith, next.in_words))))
    (next_found c.self.inside.first (c.self.inside.word ∷ []) c.args.self.now c.self.view_is c.args.bound c.in-Some.place next)

pub returns-in-None-clause-none : goal.returns-in-None-clause-none
returns-in-None-clause-none c =
    let first = real _ c.self.invariant.can_be_first in
    let bound = to_z-of_z c.ranges.bound in
    let place : c.place_of-from.result ≡ place_from c.self.inside.first 64 c.args.bound = c.place_of-from.ensures ∙ (λ i. place_from (first i) 64 (bound i)) in
    next_none c.self.inside.first (c.self.inside.word ∷ []) c.args.self.now c.self.view_is c.args.bound
    (subst (λ (n : ℕ). NoBitFrom (c.self.inside.word ∷ []) n) place c.in-None.ensures.none)
