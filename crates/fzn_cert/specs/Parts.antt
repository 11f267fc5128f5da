-- The text of a step and of a derivation, part after part.
use Rattle.std.specs.Prelude.{ℕ, List, ◌∷◌, ◌++◌, map, codes}
use Rattle.std.specs.List.{flat_map}
use Rattle.std.specs.Fmt.{decimal, signed_decimal}
use Rattle.fzn_cert.specs.declared.step.Step.{Step}
use Rattle.fzn_cert.specs.declared.step.Step.TheVariants.{Infer, Resolve, Solution, Delete}
use Rattle.fzn_derive.specs.declared.derivation.Derivation.{Derivation}
use Rattle.fzn_derive.specs.declared.derivation.Derivation.TheVariants.{Sum, Parity, AllDifferent, Row}
use Rattle.fzn_cert.specs.Spelling.{rule_name, hints, literal_text}
use Rattle.fzn_cert.specs.Derivations.{multiple_words, var_text, item_words}

abbrev pub after_space : List ℕ → List ℕ
after_space word = 32 ∷ word

-- each word after a space
abbrev pub after_spaces : List (List ℕ) → List ℕ
after_spaces words = flat_map after_space words

abbrev pub step_parts : Step → List ℕ
step_parts (Infer it) = codes "i " ++ decimal it.constraint ++ codes " " ++ (rule_name it.rule ++ after_spaces (map signed_decimal (hints it.rule))) ++ codes " ;" ++ after_spaces (map literal_text it.clause)
step_parts (Resolve clause ids) = codes "r" ++ after_spaces (map literal_text clause) ++ codes " ;" ++ after_spaces (map decimal ids)
step_parts (Solution values) = codes "s" ++ after_spaces (map signed_decimal values)
step_parts (Delete ids) = codes "d" ++ after_spaces (map decimal ids)

abbrev pub derivation_parts : Derivation → List ℕ
derivation_parts (Sum multiples) = codes "c lin ;" ++ after_spaces (flat_map multiple_words multiples)
derivation_parts (Parity constraints) = codes "c xor ;" ++ after_spaces (map decimal constraints)
derivation_parts (AllDifferent variables constraints) = codes "c alldiff ;" ++ (after_spaces (map var_text variables) ++ codes " ;" ++ after_spaces (map decimal constraints))
derivation_parts (Row items) = codes "c row ;" ++ after_spaces (flat_map item_words items)
