use Rattle.std.proofs.Common.{sym, ap, List, ℕ, ◌∙◌}
use Rattle.std.specs.Str.{bytes_eq}
use Rattle.fzn_cert.specs.Words.{items_before_mark}
use Rattle.fzn_cert_line.proofs.LoopLaws.{marked_goes_on, marked_stops, mark_ends, no_mark}
use Rattle.fzn_cert_line.proofs.words.items_before_mark.Goals as goal

pub returns-then-eq : goal.returns-then-eq
returns-then-eq g c =
    let f = g.T.Item.item_of in
    mark_ends f c.loop-word.items c.loop-word.words c.next.new.self c.in-Some.word.now (items_before_mark f c.args.words.now) c.in-Some.ensures.steps (ap (λ (t : List ℕ). bytes_eq c.in-Some.word.now t) (sym c.as_slice.ensures) ∙ sym c.eq.ensures ∙ c.if-eq.true) c.loop-word.invariant

pub loop-word-preserved : goal.loop-word-preserved
loop-word-preserved g c =
    let f = g.T.Item.item_of in
    rw c.in_ok-push-in-Some-of_word.ensures.ok (marked_goes_on f c.loop-word.items c.loop-word.words c.next.new.self c.in-Some.word.now c.in-Some-of_word.item (items_before_mark f c.args.words.now) c.in-Some.ensures.steps (ap (λ (t : List ℕ). bytes_eq c.in-Some.word.now t) (sym c.as_slice.ensures) ∙ sym c.eq.ensures ∙ c.if-eq.false) (sym c.in-Some-of_word.ensures) c.loop-word.invariant)

pub returns-in-None : goal.returns-in-None
returns-in-None g c =
    let f = g.T.Item.item_of in
    marked_stops f c.loop-word.items c.loop-word.words c.next.new.self c.in-Some.word.now (items_before_mark f c.args.words.now) c.in-Some.ensures.steps (ap (λ (t : List ℕ). bytes_eq c.in-Some.word.now t) (sym c.as_slice.ensures) ∙ sym c.eq.ensures ∙ c.if-eq.false) (sym c.in-None.ensures) c.loop-word.invariant

pub returns : goal.returns
returns g c =
    let f = g.T.Item.item_of in
    no_mark f c.loop-word.items c.loop-word.words (items_before_mark f c.args.words.now) c.in_default.ensures.steps.0 c.loop-word.invariant
