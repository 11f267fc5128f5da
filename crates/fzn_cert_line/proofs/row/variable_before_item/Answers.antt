use Rattle.std.proofs.Common.{ℕ, List, ◌∷◌, sym, ap, ◌∙◌}
use Rattle.fzn_cert_line.proofs.RowLoops.{variable-none, variable-no-number, variable-end, variable-letter, variable-more}
use Rattle.fzn_cert_line.proofs.row.variable_before_item.Goals as goal

pub returns-in_default : goal.returns-in_default
returns-in_default c = variable-none c.args.words.now c.in_default.ensures.steps.0

pub returns-in_default-number_of : goal.returns-in_default-number_of
returns-in_default-number_of c = variable-no-number c.args.words.now c.in-Some.word.now c.next.new.self c.in-Some.ensures.steps (sym c.in_default-number_of.ensures.value)

pub returns-in_default-next : goal.returns-in_default-next
returns-in_default-next c =
    variable-end c.args.words.now c.in-Some.word.now c.next.new.self c.in-Some-number_of.number c.in-Some.ensures.steps (sym c.in-Some-number_of.ensures.value) c.in_default-next.ensures.steps.0

pub returns-in-Some-letter_of : goal.returns-in-Some-letter_of
returns-in-Some-letter_of c =
    let word = c.in-Some.word.now in
    variable-letter c.args.words.now word c.in-Some-next.behind.now c.next-2.new.self c.in-Some-number_of.number c.in-Some-letter_of.letter
    (c.in-Some.ensures.steps ∙ ap (λ (ws : List (List ℕ)). word ∷ ws) c.in-Some-next.ensures.steps) (sym c.in-Some-number_of.ensures.value) c.in-Some-letter_of.ensures.some

pub returns-in-None : goal.returns-in-None
returns-in-None c =
    let word = c.in-Some.word.now in
    variable-more c.args.words.now word c.in-Some-next.behind.now c.next-2.new.self c.in-Some-number_of.number
    (c.in-Some.ensures.steps ∙ ap (λ (ws : List (List ℕ)). word ∷ ws) c.in-Some-next.ensures.steps) (sym c.in-Some-number_of.ensures.value) c.in-None.ensures.none
