use Rattle.std.proofs.Common.{ℕ, List, ◌∷◌, sym, ap, ◌∙◌, rules, w64, of_z, to_z, FitsSigned}
use Rattle.std.proofs.lemmas.Int.{to_z-of_z}
use Rattle.fzn_cert.specs.Derivations.{multiples_of}
use Rattle.fzn_cert_line.proofs.MultipleLaws.{reads_on, no_multiplier, no_second, no_number, all_read}
use Rattle.fzn_cert_line.proofs.derivation.multiples_of.Goals as goal

pub returns-in_default-multiplier_of : goal.returns-in_default-multiplier_of
returns-in_default-multiplier_of c =
    no_multiplier c.loop-word.multiples c.loop-word.words c.next.new.self c.in-Some.word.now (multiples_of c.args.words) c.in-Some.ensures.steps (sym c.in_default-multiplier_of.ensures) c.loop-word.invariant

pub returns-in_default-next : goal.returns-in_default-next
returns-in_default-next c =
    no_second c.loop-word.multiples c.loop-word.words c.in-Some.word.now (multiples_of c.args.words) (c.in-Some.ensures.steps ∙ ap (λ (ws : List (List ℕ)). c.in-Some.word.now ∷ ws) c.in_default-next.ensures.steps.0) c.loop-word.invariant

pub returns-in_default-number_of : goal.returns-in_default-number_of
returns-in_default-number_of c =
    no_number c.loop-word.multiples c.loop-word.words c.next-in-Some.new.self c.in-Some.word.now c.in-Some-next.next.now c.in-Some-multiplier_of.multiplier (multiples_of c.args.words)
    (c.in-Some.ensures.steps ∙ ap (λ (ws : List (List ℕ)). c.in-Some.word.now ∷ ws) c.in-Some-next.ensures.steps)
    (sym c.in-Some-multiplier_of.ensures) (sym c.in_default-number_of.ensures.value) c.loop-word.invariant

pub loop-word-preserved : goal.loop-word-preserved
loop-word-preserved c =
    let k = c.in-Some-multiplier_of.multiplier in
    let fits : FitsSigned w64 k = search rules in
    rw c.in_ok-push.ensures.ok (reads_on c.loop-word.multiples c.loop-word.words c.next-in-Some.new.self c.in-Some.word.now c.in-Some-next.next.now k (to_z w64 (of_z w64 k)) c.in-Some-number_of.constraint (multiples_of c.args.words)
    (c.in-Some.ensures.steps ∙ ap (λ (ws : List (List ℕ)). c.in-Some.word.now ∷ ws) c.in-Some-next.ensures.steps)
    (sym c.in-Some-multiplier_of.ensures) (sym c.in-Some-number_of.ensures.value) (to_z-of_z w64 k fits) c.loop-word.invariant)

pub returns : goal.returns
returns c = all_read c.loop-word.multiples c.loop-word.words (multiples_of c.args.words) c.in_default.ensures.steps.0 c.loop-word.invariant
