use Rattle.std.proofs.Common.{sym}
use Rattle.fzn_cert.specs.Words.{items_of}
use Rattle.fzn_cert_line.proofs.LoopLaws.{goes_on, stops, ends}
use Rattle.fzn_cert_line.proofs.words.items_of.Goals as goal

pub loop-word-preserved : goal.loop-word-preserved
loop-word-preserved g c =
    let f = g.T.Item.item_of in
    rw c.in_ok-push-in-Some-of_word.ensures.ok (goes_on f c.loop-word.items c.loop-word.words c.next.new.self c.in-Some.word.now c.in-Some-of_word.item (items_of f c.args.words) c.in-Some.ensures.steps (sym c.in-Some-of_word.ensures) c.loop-word.invariant)

pub returns-in-None : goal.returns-in-None
returns-in-None g c =
    let f = g.T.Item.item_of in
    stops f c.loop-word.items c.loop-word.words c.next.new.self c.in-Some.word.now (items_of f c.args.words) c.in-Some.ensures.steps (sym c.in-None.ensures) c.loop-word.invariant

pub returns : goal.returns
returns g c =
    let f = g.T.Item.item_of in
    ends f c.loop-word.items c.loop-word.words (items_of f c.args.words) c.in_default.ensures.steps.0 c.loop-word.invariant
