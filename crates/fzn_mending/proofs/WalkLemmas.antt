-- One token more on the way through a file.
use Rattle.std.proofs.Common.{◌≡◌, ℕ, ◌≤◌, List, [], ◌∷◌, ◌++◌, length, get_or, ℤ, Option, None, refl, sym, ap, ◌∙◌, arith, append_assoc}
use Rattle.fzn_lexer.specs.declared.kept.Kept.{Kept}
use Rattle.fzn_lexer.specs.Kept.{token_of, tokens_of}
use Rattle.fzn_names.proofs.StepLemmas.{rest_of, uncons}
use Rattle.fzn_tree.specs.declared.tree.Param.{Param}
use Rattle.fzn_mending.specs.declared.mending.Seen.{Seen}
use Rattle.fzn_mending.specs.declared.places.Place.{Place}
use Rattle.fzn_mending.specs.Mending.{first_number, next, mended_at, places_from, constant_at, constant_from}

-- a list that has a first
pub uncons-at : {A : Type 0} (xs : List A) (d : A) → 1 ≤ length xs → xs ≡ get_or xs 0 d ∷ rest_of xs
uncons-at [] d some = absurd (omega (arith, some))
uncons-at (x ∷ xs) d some = uncons (x ∷ xs) x some refl

module _ (params : List Param) (bytes : List ℕ) (seen after : Seen) (number : Option ℤ) (tokens : List Kept) (token : Kept) (are : tokens ≡ token ∷ rest_of tokens)
    (number_is : number ≡ first_number params (tokens_of bytes (rest_of tokens))) (after_is : after ≡ next number seen (token_of bytes token)) where
  moved : after ≡ next (first_number params (tokens_of bytes (rest_of tokens))) seen (token_of bytes token)
  moved = after_is ∙ ap (λ (n : Option ℤ). next n seen (token_of bytes token)) number_is

  pub places-step : (old new : List Place) → new ≡ old ++ mended_at seen (token_of bytes token) → new ++ places_from params after (tokens_of bytes (rest_of tokens)) ≡ old ++ places_from params seen (tokens_of bytes tokens)
  places-step old new is =
      let later = tokens_of bytes (rest_of tokens) in
      let behind = places_from params (next (first_number params later) seen (token_of bytes token)) later in
      ap (λ (s : Seen). new ++ places_from params s later) moved
      ∙ (ap (λ (front : List Place). front ++ behind) is ∙ append_assoc old (mended_at seen (token_of bytes token)) behind)
      ∙ ap (λ (ts : List Kept). old ++ places_from params seen (tokens_of bytes ts)) (sym are)

  pub constant-step : constant_at seen (token_of bytes token) ≡ None → constant_from params after (tokens_of bytes (rest_of tokens)) ≡ constant_from params seen (tokens_of bytes tokens)
  constant-step none =
      let later = tokens_of bytes (rest_of tokens) in
      let folded : constant_from params seen (token_of bytes token ∷ later) ≡ constant_from params (next (first_number params later) seen (token_of bytes token)) later = rw none refl in
      ap (λ (s : Seen). constant_from params s later) moved ∙ sym folded ∙ ap (λ (ts : List Kept). constant_from params seen (tokens_of bytes ts)) (sym are)
