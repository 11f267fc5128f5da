-- The text of a step, part after part.
use Rattle.std.proofs.Common.{◌≡◌, ℕ, List, [], ◌∷◌, ◌++◌, map, sym, ap, ◌∙◌, append_assoc}
use Rattle.std.specs.Prelude.{codes}
use Rattle.std.specs.List.{join_with_byte, flat_map}
use Rattle.std.specs.Fmt.{decimal, signed_decimal}
use Rattle.std.proofs.lemmas.List.{append-nil}
use Rattle.std.proofs.lemmas.List.Concat.{flat_map-append}
use Rattle.fzn_cert.specs.declared.step.Step.{Step}
use Rattle.fzn_cert.specs.declared.step.Step.TheVariants.{Infer, Resolve, Solution, Delete}
use Rattle.fzn_derive.specs.declared.derivation.Derivation.{Derivation}
use Rattle.fzn_derive.specs.declared.derivation.Derivation.TheVariants.{Sum, Parity, AllDifferent, Row}
use Rattle.fzn_cert.specs.Spelling.{rule_name, hints, literal_text, spaced, step_text}
use Rattle.fzn_cert.specs.Derivations.{multiple_words, var_text, item_words, derivation_text}
use Rattle.fzn_cert.specs.Parts.{after_space, after_spaces, step_parts, derivation_parts}

joined : (word : List ℕ) (words : List (List ℕ)) → join_with_byte 32 (word ∷ words) ≡ word ++ after_spaces words
joined word [] = sym (append-nil word)
joined word (next ∷ words) = ap (λ (t : List ℕ). word ++ 32 ∷ t) (joined next words)

spaced-cons : (word : List ℕ) (words : List (List ℕ)) → spaced (word ∷ words) ≡ word ++ after_spaces words
unfolding spaced
spaced-cons word words = joined word words

marked : (xs ys : List (List ℕ)) → after_spaces (xs ++ codes ";" ∷ ys) ≡ after_spaces xs ++ (codes " ;" ++ after_spaces ys)
marked xs ys = flat_map-append after_space xs (codes ";" ∷ ys)

regrouped : (a b c d e f : List ℕ) → (((a ++ b) ++ (c ++ d)) ++ e) ++ f ≡ a ++ (b ++ (c ++ (d ++ (e ++ f))))
regrouped a b c d e f = simp append_assoc

pub step_text_is : (step : Step) → step_text step ≡ step_parts step
step_text_is (Infer it) =
    let hs = map signed_decimal (hints it.rule) in
    let ls = map literal_text it.clause in
    spaced-cons (codes "i") (decimal it.constraint ∷ rule_name it.rule ∷ (hs ++ codes ";" ∷ ls))
    ∙ ap (λ (t : List ℕ). 105 ∷ 32 ∷ (decimal it.constraint ++ 32 ∷ (rule_name it.rule ++ t))) (marked hs ls)
    ∙ ap (λ (t : List ℕ). 105 ∷ 32 ∷ t) (sym (regrouped (decimal it.constraint) (codes " ") (rule_name it.rule) (after_spaces hs) (codes " ;") (after_spaces ls)))
step_text_is (Resolve clause ids) =
    let ls = map literal_text clause in
    spaced-cons (codes "r") (ls ++ codes ";" ∷ map decimal ids)
    ∙ ap (λ (t : List ℕ). 114 ∷ t) (marked ls (map decimal ids))
    ∙ simp append_assoc
step_text_is (Solution values) = spaced-cons (codes "s") (map signed_decimal values)
step_text_is (Delete ids) = spaced-cons (codes "d") (map decimal ids)

pub derivation_text_is : (derivation : Derivation) → derivation_text derivation ≡ derivation_parts derivation
derivation_text_is (Sum multiples) = spaced-cons (codes "c") (codes "lin" ∷ codes ";" ∷ flat_map multiple_words multiples)
derivation_text_is (Parity constraints) = spaced-cons (codes "c") (codes "xor" ∷ codes ";" ∷ map decimal constraints)
derivation_text_is (AllDifferent variables constraints) =
    spaced-cons (codes "c") (codes "alldiff" ∷ codes ";" ∷ (map var_text variables ++ codes ";" ∷ map decimal constraints))
    ∙ ap (λ (t : List ℕ). codes "c alldiff ;" ++ t) (marked (map var_text variables) (map decimal constraints))
    ∙ simp append_assoc
derivation_text_is (Row items) = spaced-cons (codes "c") (codes "row" ∷ codes ";" ∷ flat_map item_words items)
