use Rattle.std.proofs.Common.{◌<ℤ◌, ℤ, pos, ◌+ℤ◌, not, ap, ap₂, ◌∙◌, arith}
use Rattle.std.proofs.lemmas.Int.{ints}
use Rattle.fzn_numbers.specs.Bits.{whole_words}
use Rattle.fzn_numbers.proofs.BitSetLemmas.{in_whole_words}
use Rattle.fzn_numbers.proofs.SetLemmas.{in_numbers_from}
use Rattle.fzn_domain.specs.IntSet.{IntSet, contains, numbers_from, width}
use Rattle.fzn_domain.proofs.DomainLemmas.{real}
use Rattle.fzn_domain.proofs.SetLemmas.{contains-no_values}
use Rattle.fzn_domain.proofs.allowed.Values.between.Goals as goal

pub returns-then-high-low-lt-WIDTH : goal.returns-then-high-low-lt-WIDTH
returns-then-high-low-lt-WIDTH c v h l =
    let near : v <ℤ (c.args.low +ℤ pos 64) = omega (arith, ints, c.requires.low_in_limits.0, c.requires.high_in_limits.1) in
    ap (λ (s : IntSet). contains s v) c.full.ensures
    ∙ ap (λ (low : ℤ). contains (numbers_from low 64) v) (real _ c.requires.low_in_limits)
    ∙ in_numbers_from c.args.low v 64 h near

pub returns-in_ok-full : goal.returns-in_ok-full
returns-in_ok-full c v h l =
    ap (λ (s : IntSet). contains s v) c.in_ok-full.ensures
    ∙ ap₂ (λ (a b : ℤ). contains (numbers_from a (whole_words (width a b))) v) (real _ c.requires.low_in_limits) (real _ c.requires.high_in_limits)
    ∙ in_whole_words c.args.low c.args.high v h l

pub returns-in_ok-new : goal.returns-in_ok-new
returns-in_ok-new c v h l = ap (λ (s : IntSet). not (contains s v)) c.in_ok-new.ensures ∙ ap not (contains-no_values v)
