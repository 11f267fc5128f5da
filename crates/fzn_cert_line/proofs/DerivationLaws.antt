-- Derivations that are read are what is written.
use Rattle.std.proofs.Common.{◌≡◌, ℕ, true, List, [], ◌∷◌, ◌++◌, map, Option, Some, None, sym, ap, subst, ◌∙◌, inl, inr}
use Rattle.std.specs.Prelude.{◌&&◌, Result, Ok, Err, IfOk, IfSome, IfNone, codes}
use Rattle.std.specs.Str.{bytes_eq}
use Rattle.std.specs.Fmt.{decimal}
use Rattle.std.specs.declared.alloc.AllocError.{AllocError}
use Rattle.std.proofs.lemmas.Slice.Eq.{bytes_eq-Decides}
use Rattle.fzn_derive.specs.declared.derivation.Derivation.{Derivation}
use Rattle.fzn_derive.specs.declared.derivation.Derivation.TheVariants.{Sum, Parity, AllDifferent, Row}
use Rattle.fzn_cert.specs.Spelling.{spaced, IsNumber}
use Rattle.fzn_cert.specs.Words.{◌>>=◌, positive_of, items_of, items_before_mark}
use Rattle.fzn_cert.specs.Reading.{words_of}
use Rattle.fzn_cert.specs.Derivations.{var_text, derivation_words, derivation_text, IsVariableNumber, IsDerivation, variable_of, multiples_of, row_items_of, named_derivation, derivation_of_words, derivation_of}
use Rattle.fzn_cert.proofs.CallerLemmas.{and_true, some_is, derivation_again}
use Rattle.fzn_cert_line.proofs.OptionLaws.{bind_some, chosen}
use Rattle.fzn_cert_line.proofs.WordLaws.{number_takes, items_take, marked_take}
use Rattle.fzn_cert_line.proofs.LineLaws.{spaced-words_of}
use Rattle.fzn_cert_line.proofs.MultipleLaws.{variable_takes, multiples_take}
use Rattle.fzn_cert_line.proofs.RowLaws.{row_items_take}

-- the words spell the derivation
record Spells (words : List (List ℕ)) (derivation : Derivation) : Type 0 where
  words_are : words ≡ derivation_words derivation
  is_spelled : IsDerivation derivation

-- so behind the name and the mark
abbrev SpellsBehind : List ℕ → List (List ℕ) → Derivation → Type 0
SpellsBehind name words derivation = Spells (codes "c" ∷ name ∷ codes ";" ∷ words) derivation

is_text : (word text : List ℕ) → bytes_eq word text ≡ true → word ≡ text
is_text word text e = (bytes_eq-Decides word text).0 e

of_name : (name text : List ℕ) (words : List (List ℕ)) (derivation : Derivation) → bytes_eq name text ≡ true → SpellsBehind text words derivation → SpellsBehind name words derivation
of_name name text words derivation e h = subst (λ (n : List ℕ). SpellsBehind n words derivation) (sym (is_text name text e)) h

sum_takes : (words : List (List ℕ)) (derivation : Derivation) → (multiples_of words >>= λ multiples. Some (Sum multiples)) ≡ Some derivation → SpellsBehind (codes "lin") words derivation
sum_takes words derivation e =
    let a = bind_some (multiples_of words) (λ multiples. Some (Sum multiples)) derivation e in
    let t = multiples_take words a.0 a.1 in
    let made : Derivation = Sum a.0 in
    subst (λ (d : Derivation). SpellsBehind (codes "lin") words d) (some_is made derivation a.2) (record {
      words_are = ap (λ (ws : List (List ℕ)). codes "c" ∷ codes "lin" ∷ codes ";" ∷ ws) t.0;
      is_spelled = t.1;
    })

parity_takes : (words : List (List ℕ)) (derivation : Derivation) → (items_of positive_of words >>= λ constraints. Some (Parity constraints)) ≡ Some derivation → SpellsBehind (codes "xor") words derivation
parity_takes words derivation e =
    let a = bind_some (items_of positive_of words) (λ constraints. Some (Parity constraints)) derivation e in
    let t = items_take positive_of decimal IsNumber number_takes words a.0 a.1 in
    let made : Derivation = Parity a.0 in
    subst (λ (d : Derivation). SpellsBehind (codes "xor") words d) (some_is made derivation a.2) (record {
      words_are = ap (λ (ws : List (List ℕ)). codes "c" ∷ codes "xor" ∷ codes ";" ∷ ws) t.0;
      is_spelled = t.1;
    })

different_takes : (words : List (List ℕ)) (derivation : Derivation)
    → (items_before_mark variable_of words >>= λ variables. items_of positive_of variables.1 >>= λ constraints. Some (AllDifferent variables.0 constraints)) ≡ Some derivation
    → SpellsBehind (codes "alldiff") words derivation
different_takes words derivation e =
    let a = bind_some (items_before_mark variable_of words) (λ variables. items_of positive_of variables.1 >>= λ constraints. Some (AllDifferent variables.0 constraints)) derivation e in
    let b = bind_some (items_of positive_of a.0.1) (λ constraints. Some (AllDifferent a.0.0 constraints)) derivation a.2 in
    let variables = marked_take variable_of var_text IsVariableNumber variable_takes words a.0 a.1 in
    let ids = items_take positive_of decimal IsNumber number_takes a.0.1 b.0 b.1 in
    let made : Derivation = AllDifferent a.0.0 b.0 in
    subst (λ (d : Derivation). SpellsBehind (codes "alldiff") words d) (some_is made derivation b.2) (record {
      words_are = ap (λ (ws : List (List ℕ)). codes "c" ∷ codes "alldiff" ∷ codes ";" ∷ ws) (variables.0 ∙ ap (λ (ws : List (List ℕ)). map var_text a.0.0 ++ codes ";" ∷ ws) ids.0);
      is_spelled = (variables.1, ids.1);
    })

row_takes : (words : List (List ℕ)) (derivation : Derivation) → (row_items_of words >>= λ items. Some (Row items)) ≡ Some derivation → SpellsBehind (codes "row") words derivation
row_takes words derivation e =
    let a = bind_some (row_items_of words) (λ items. Some (Row items)) derivation e in
    let t = row_items_take words a.0 a.1 in
    let made : Derivation = Row a.0 in
    subst (λ (d : Derivation). SpellsBehind (codes "row") words d) (some_is made derivation a.2) (record {
      words_are = ap (λ (ws : List (List ℕ)). codes "c" ∷ codes "row" ∷ codes ";" ∷ ws) t.0;
      is_spelled = t.1;
    })

named_takes : (name : List ℕ) (words : List (List ℕ)) (derivation : Derivation) → named_derivation name words ≡ Some derivation → SpellsBehind name words derivation
unfolding named_derivation
named_takes name words derivation e =
    elim (chosen (bytes_eq name (codes "lin")) (multiples_of words >>= λ multiples. Some (Sum multiples)) _ derivation e) [
      | inl h ↦ of_name name (codes "lin") words derivation h.0 (sum_takes words derivation h.1)
      | inr h ↦ elim (chosen (bytes_eq name (codes "xor")) (items_of positive_of words >>= λ constraints. Some (Parity constraints)) _ derivation h.1) [
        | inl h ↦ of_name name (codes "xor") words derivation h.0 (parity_takes words derivation h.1)
        | inr h ↦ elim (chosen (bytes_eq name (codes "alldiff")) (items_before_mark variable_of words >>= λ variables. items_of positive_of variables.1 >>= λ constraints. Some (AllDifferent variables.0 constraints)) _ derivation h.1) [
          | inl h ↦ of_name name (codes "alldiff") words derivation h.0 (different_takes words derivation h.1)
          | inr h ↦ elim (chosen (bytes_eq name (codes "row")) (row_items_of words >>= λ items. Some (Row items)) None derivation h.1) [
            | inl h ↦ of_name name (codes "row") words derivation h.0 (row_takes words derivation h.1)
            | inr h ↦ absurd (none_is_some derivation h.1)
          ]
        ]
      ]
    ]
  where
    none_is_some : (d : Derivation) → None ≡ Some d → ⊥
    none_is_some d e = cc

words_take : (words : List (List ℕ)) (derivation : Derivation) → derivation_of_words words ≡ Some derivation → Spells words derivation
unfolding derivation_of_words
words_take [] derivation e = absurd cc
words_take (kind ∷ []) derivation e = absurd cc
words_take (kind ∷ name ∷ []) derivation e = absurd cc
words_take (kind ∷ name ∷ mark ∷ words) derivation e =
    elim (chosen (bytes_eq kind (codes "c") && bytes_eq mark (codes ";")) (named_derivation name words) None derivation e) [
      | inl h ↦
          let t = and_true (bytes_eq kind (codes "c")) (bytes_eq mark (codes ";")) h.0 in
          subst (λ (k : List ℕ). Spells (k ∷ name ∷ mark ∷ words) derivation) (sym (is_text kind (codes "c") t.0))
          (subst (λ (m : List ℕ). Spells (codes "c" ∷ name ∷ m ∷ words) derivation) (sym (is_text mark (codes ";") t.1)) (named_takes name words derivation h.1))
      | inr h ↦ absurd (none_is_some derivation h.1)
    ]
  where
    none_is_some : (d : Derivation) → None ≡ Some d → ⊥
    none_is_some d e = cc

-- what is read as a derivation is written for it
derivation_takes : (line : List ℕ) (derivation : Derivation) → derivation_of line ≡ Some derivation → (line ≡ derivation_text derivation) × IsDerivation derivation
derivation_takes line derivation e =
    let s = words_take (words_of line) derivation e in
    (sym (spaced-words_of line) ∙ ap spaced s.words_are, s.is_spelled)

pub found_derivation : (line : List ℕ) (r : Result (Option Derivation) AllocError) → IfOk r (λ found. found ≡ derivation_of line) → IfOk r (λ found. IfSome found IsDerivation)
found_derivation line (Ok None) h = tt
found_derivation line (Ok (Some d)) h = (derivation_takes line d (sym h)).1
found_derivation line (Err e) h = tt

pub found_text : (line : List ℕ) (r : Result (Option Derivation) AllocError) → IfOk r (λ found. found ≡ derivation_of line) → IfOk r (λ found. IfSome found (λ d. line ≡ derivation_text d))
found_text line (Ok None) h = tt
found_text line (Ok (Some d)) h = (derivation_takes line d (sym h)).0
found_text line (Err e) h = tt

abbrev some_derivation : Derivation → Option Derivation
some_derivation d = Some d

apart : (d : Derivation) → None ≡ some_derivation d → ⊥
apart d e = cc

pub found_none : (line : List ℕ) (r : Result (Option Derivation) AllocError) → IfOk r (λ found. found ≡ derivation_of line) → IfOk r (λ found. IfNone found ((d : Derivation) → IsDerivation d → line ≡ derivation_text d → ⊥))
found_none line (Ok None) h = λ d spelled same. apart d (h ∙ ap derivation_of same ∙ derivation_again d spelled)
found_none line (Ok (Some d)) h = tt
found_none line (Err e) h = tt
