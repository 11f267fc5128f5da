use Rattle.std.proofs.Common.{ℕ, List, ◌∷◌, sym, ap, ◌∙◌, rules, w64, of_z, to_z, FitsSigned}
use Rattle.std.proofs.lemmas.Int.{to_z-of_z}
use Rattle.fzn_cert_line.proofs.RowLoops.{reading-letter, reading-end, reading-no-multiplier, reading-no-second, reading-no-number, reading-more}
use Rattle.fzn_cert_line.proofs.row.multiples_before_item.Goals as goal

pub returns-in-Some-letter_of : goal.returns-in-Some-letter_of
returns-in-Some-letter_of c =
    reading-letter c.loop-word.multiples c.loop-word.words c.args.words.now c.in-Some.word.now c.next.new.self c.in-Some-letter_of.letter c.loop-word.invariant c.in-Some.ensures.steps c.in-Some-letter_of.ensures.some

pub returns-in_default-multiplier_of : goal.returns-in_default-multiplier_of
returns-in_default-multiplier_of c =
    reading-no-multiplier c.loop-word.multiples c.loop-word.words c.args.words.now c.in-Some.word.now c.next.new.self c.loop-word.invariant c.in-Some.ensures.steps c.in_default-letter_of.ensures.none (sym c.in_default-multiplier_of.ensures)

pub returns-in_default-next : goal.returns-in_default-next
returns-in_default-next c =
    reading-no-second c.loop-word.multiples c.loop-word.words c.args.words.now c.in-Some.word.now c.loop-word.invariant
    (c.in-Some.ensures.steps ∙ ap (λ (ws : List (List ℕ)). c.in-Some.word.now ∷ ws) c.in_default-next.ensures.steps.0) c.in_default-letter_of.ensures.none

pub returns-in_default-number_of : goal.returns-in_default-number_of
returns-in_default-number_of c =
    reading-no-number c.loop-word.multiples c.loop-word.words c.args.words.now c.in-Some.word.now c.in-Some-next.next.now c.next-in-Some.new.self c.in-Some-multiplier_of.multiplier c.loop-word.invariant
    (c.in-Some.ensures.steps ∙ ap (λ (ws : List (List ℕ)). c.in-Some.word.now ∷ ws) c.in-Some-next.ensures.steps) c.in_default-letter_of.ensures.none
    (sym c.in-Some-multiplier_of.ensures) (sym c.in_default-number_of.ensures.value)

pub loop-word-preserved : goal.loop-word-preserved
loop-word-preserved c =
    let k = c.in-Some-multiplier_of.multiplier in
    let fits : FitsSigned w64 k = search rules in
    rw c.in_ok-push.ensures.ok (reading-more c.loop-word.multiples c.loop-word.words c.args.words.now c.in-Some.word.now c.in-Some-next.next.now c.next-in-Some.new.self k (to_z w64 (of_z w64 k)) c.in-Some-number_of.constraint c.loop-word.invariant
    (c.in-Some.ensures.steps ∙ ap (λ (ws : List (List ℕ)). c.in-Some.word.now ∷ ws) c.in-Some-next.ensures.steps) c.in_default-letter_of.ensures.none
    (sym c.in-Some-multiplier_of.ensures) (sym c.in-Some-number_of.ensures.value) (to_z-of_z w64 k fits))

pub returns : goal.returns
returns c = reading-end c.loop-word.multiples c.loop-word.words c.args.words.now c.loop-word.invariant c.in_default.ensures.steps.0
