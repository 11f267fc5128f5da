use Rattle.std.proofs.Common.{sym, rules, w64, of_z, to_z, FitsSigned}
use Rattle.std.proofs.lemmas.Int.{to_z-of_z}
use Rattle.fzn_cert_line.proofs.RowLoops.{pricing-letter, pricing-end, pricing-stops, pricing-more}
use Rattle.fzn_cert_line.proofs.row.prices_before_item.Goals as goal

pub returns-in-Some-letter_of : goal.returns-in-Some-letter_of
returns-in-Some-letter_of c =
    pricing-letter c.loop-word.prices c.loop-word.words c.args.words.now c.in-Some.word.now c.next.new.self c.in-Some-letter_of.letter c.loop-word.invariant c.in-Some.ensures.steps c.in-Some-letter_of.ensures.some

pub returns-in_default-multiplier_of : goal.returns-in_default-multiplier_of
returns-in_default-multiplier_of c =
    pricing-stops c.loop-word.prices c.loop-word.words c.args.words.now c.in-Some.word.now c.next.new.self c.loop-word.invariant c.in-Some.ensures.steps c.in_default-letter_of.ensures.none (sym c.in_default-multiplier_of.ensures)

pub loop-word-preserved : goal.loop-word-preserved
loop-word-preserved c =
    let price = c.in-Some-multiplier_of.price in
    let fits : FitsSigned w64 price = search rules in
    rw c.in_ok-push.ensures.ok (pricing-more c.loop-word.prices c.loop-word.words c.args.words.now c.in-Some.word.now c.next.new.self price (to_z w64 (of_z w64 price)) c.loop-word.invariant
    c.in-Some.ensures.steps c.in_default-letter_of.ensures.none (sym c.in-Some-multiplier_of.ensures) (to_z-of_z w64 price fits))

pub returns : goal.returns
returns c = pricing-end c.loop-word.prices c.loop-word.words c.args.words.now c.loop-word.invariant c.in_default.ensures.steps.0
