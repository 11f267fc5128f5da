-- One literal after the other.
use Rattle.std.proofs.Common.{◌≡◌, ◌<◌, List, [], ◌∷◌, ◌++◌, length, take, ap₂, sym, ◌∙◌, arith}
use Rattle.std.proofs.lemmas.List.{take_more, take_all}
use Rattle.fzn_domain.specs.declared.literal.Lit.{Lit}
use Rattle.fzn_reduction.proofs.written.is_same.Goals as goal

pub loop-i-preserved : goal.loop-i-preserved
loop-i-preserved c =
    let one = c.args.one.now in
    let other = c.args.other.now in
    let there : c.loop-i.i < length c.args.other.now = omega arith in
    let so_far : take c.loop-i.i c.args.one.now ≡ take c.loop-i.i c.args.other.now = c.loop-i.invariant in
    let same = c.is_literal.ensures (grind arith) in
    take_more one c.loop-i.i _ c.loop-i-test.true
    ∙ ap₂ (λ (xs : List Lit) (x : Lit). xs ++ x ∷ []) so_far same ∙ sym (take_more other c.loop-i.i _ there)

pub returns : goal.returns
returns c = λ is.
    let one = c.args.one.now in
    let other = c.args.other.now in
    let so_far : take c.loop-i.i c.args.one.now ≡ take c.loop-i.i c.args.other.now = c.loop-i.invariant in
    sym (take_all c.loop-i.i one (omega arith)) ∙ so_far ∙ take_all c.loop-i.i other (omega arith)
