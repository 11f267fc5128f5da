use Rattle.std.proofs.Common.{◌≡◌, true, false, get_or, length, refl, sym, ap, ◌∙◌, arith, below_more}
use Rattle.std.specs.Prelude.{not}
use Rattle.std.specs.Char.{is_ascii_digit}
use Rattle.std.proofs.lemmas.List.Sums.{position_or_len_is}
use Rattle.fzn_cert_line.proofs.literal.digits_len.Goals as goal

pub returns-then-not-is_ascii_digit-clause-value : goal.returns-then-not-is_ascii_digit-clause-value
returns-then-not-is_ascii_digit-clause-value c =
    let none : is_ascii_digit (get_or c.args.word.now c.loop-place.place 0) ≡ false = sym c.is_ascii_digit.ensures.value ∙ c.if-not-is_ascii_digit.true in
    sym (position_or_len_is (λ x. not (is_ascii_digit x)) c.args.word.now c.loop-place.place 0 (omega arith) c.loop-place.invariant (λ lt. rw none refl))

pub returns-clause-value : goal.returns-clause-value
returns-clause-value c =
    sym (position_or_len_is (λ x. not (is_ascii_digit x)) c.args.word.now (length c.args.word.now) 0 (omega arith) (λ k lt. c.loop-place.invariant k (omega arith)) (λ lt. absurd (omega arith)))

pub loop-place-preserved : goal.loop-place-preserved
loop-place-preserved c =
    let digit : is_ascii_digit (get_or c.args.word.now c.loop-place.place 0) ≡ true = sym c.is_ascii_digit.ensures.value ∙ c.if-not-is_ascii_digit.false in
    below_more _ _ c.loop-place.invariant (ap not digit)
