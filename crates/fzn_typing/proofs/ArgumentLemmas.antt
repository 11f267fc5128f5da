-- What arguments stand for is within the variables and the limits.
use Rattle.std.proofs.Common.{◌≡◌, ℕ, zero, suc, ◌≤◌, true, ℤ, List, [], ◌∷◌, Option, Some, None, map, length, slice_get, unsigned_abs, refl, arith}
use Rattle.std.specs.List.{All}
use Rattle.std.proofs.lemmas.Int.{ints}
use Rattle.std.proofs.lemmas.List.{length-map}
use Rattle.std.proofs.lemmas.List.Elements.{All-nil, All-cons, All-head, All-tail}
use Rattle.fzn_domain.specs.IntSet.{IntSet}
use Rattle.fzn_domain.specs.Limits.{IsInLimits, IsLimited}
use Rattle.fzn_values.specs.declared.term.Term.{Term}
use Rattle.fzn_values.specs.declared.term.Term.TheVariants as terms
use Rattle.fzn_meaning.specs.Meaning.{IsBoolean, AreTerms}
use Rattle.fzn_values.specs.Term.{number_in, weighted, IsTerm, IsPlace}
use Rattle.fzn_names.specs.Positions.{position_of}
use Rattle.fzn_names.specs.Types.{is_wanted}
use Rattle.fzn_names.specs.Values.{NameList, basic_meaning, terms_meant, set_in}
use Rattle.fzn_names.specs.declared.names.Declared.{Declared}
use Rattle.fzn_names.proofs.FirstLemmas.{left_empty, right_empty}
use Rattle.fzn_names.proofs.MeaningLemmas.{IsMeaning, AreMeanings, value-meaning, when_not, term_of-within, entry_terms-within, boolean_term, boolean_terms}
use Rattle.fzn_names.proofs.ValueSetLemmas.{zero_in_limits, none_limited}
use Rattle.fzn_tree.specs.declared.tree.Arg.{Arg}
use Rattle.fzn_tree.specs.declared.tree.Arg.TheVariants as args
use Rattle.fzn_registry.specs.declared.signature.Argument.{Argument}
use Rattle.fzn_registry.specs.declared.signature.Argument.TheVariants.{Boolean, BooleanList}
use Rattle.fzn_typing.specs.Arguments.{wrong_parts, wrong_arguments, term_given, terms_given, set_given}
use Rattle.fzn_typing.specs.Limits.{IsArgWithin}

-- ---- numbers

pub number-within : (count : ℕ) (x : Term) → IsTerm count x → IsInLimits (number_in x)
number-within count (terms.Constant k) h = h
number-within count (terms.Variable var) h = zero_in_limits

pub amount : (v : ℤ) → IsInLimits v → unsigned_abs v ≤ 1000000000
amount v h = grind (arith, ints)

pub numbers-within : (count : ℕ) (xs : List Term) → All (IsTerm count) xs → All IsInLimits (map number_in xs)
numbers-within count [] within = All-nil IsInLimits
numbers-within count (x ∷ xs) within =
    All-cons IsInLimits (number_in x) (map number_in xs) (number-within count x (All-head (IsTerm count) x xs within)) (numbers-within count xs (All-tail (IsTerm count) x xs within))

pub weighted-within : (count : ℕ) (xs ys : List Term) → All (IsTerm count) xs → All (IsTerm count) ys → All (IsPlace count) (weighted xs ys)
weighted-within count [] ys u v = All-nil (IsPlace count)
weighted-within count (x ∷ xs) [] u v = All-nil (IsPlace count)
weighted-within count (x ∷ xs) (y ∷ ys) u v =
    All-cons (IsPlace count) (record { coefficient = number_in x; term = y }) (weighted xs ys)
    (All-head (IsTerm count) y ys v, amount (number_in x) (number-within count x (All-head (IsTerm count) x xs u)))
    (weighted-within count xs ys (All-tail (IsTerm count) x xs u) (All-tail (IsTerm count) y ys v))

pub weighted-length : (xs ys : List Term) → length (weighted xs ys) ≤ length xs
weighted-length [] ys = omega arith
weighted-length (x ∷ xs) [] = omega arith
weighted-length (x ∷ xs) (y ∷ ys) = let rest = weighted-length xs ys in omega (arith, rest)

-- ---- arguments

abbrev pub IsGivenWithin : Option Arg → Type 0
IsGivenWithin None = Unit {0}
IsGivenWithin (Some arg) = IsArgWithin arg

pub given-within : (all : List Arg) (i : ℕ) → All IsArgWithin all → IsGivenWithin (slice_get all i)
given-within [] i within = tt
given-within (arg ∷ all) zero within = All-head IsArgWithin arg all within
given-within (arg ∷ all) (suc i) within = given-within all i (All-tail IsArgWithin arg all within)

pub right_at : (names : NameList) (wanted : List Argument) (all : List Arg) (i : ℕ) (w : Argument) (arg : Arg) → wrong_arguments names wanted all ≡ [] → slice_get wanted i ≡ Some w → slice_get all i ≡ Some arg → wrong_parts names w arg ≡ []
right_at names [] all i w arg e there here = absurd cc
right_at names (x ∷ wanted) [] i w arg e there here = absurd cc
right_at names (x ∷ wanted) (y ∷ all) zero w arg e there here =
    let same : x ≡ w = cc in
    let given : y ≡ arg = cc in
    rw (← same, ← given) (left_empty (wrong_parts names x y) (wrong_arguments names wanted all) e)
right_at names (x ∷ wanted) (y ∷ all) (suc i) w arg e there here =
    right_at names wanted all i w arg (right_empty (wrong_parts names x y) (wrong_arguments names wanted all) e) there here

module _ (sets : List IntSet) (names : NameList) (known : AreMeanings sets names) where
  array-within : (o : Option Declared) → ((value : Declared) → o ≡ Some value → IsMeaning sets value) → AreTerms (length sets) (terms_meant o)
  array-within None h = (All-nil (IsTerm (length sets)), omega arith)
  array-within (Some value) h = let m = h value refl in (m.terms, m.few)

  set-limited : (o : Option Declared) → ((value : Declared) → o ≡ Some value → IsMeaning sets value) → IsLimited (set_in o)
  set-limited None h = none_limited
  set-limited (Some value) h = (h value refl).set

  array-boolean : (o : Option Declared) → ((value : Declared) → o ≡ Some value → IsMeaning sets value) → is_wanted BooleanList o ≡ true → All (IsBoolean sets) (terms_meant o)
  array-boolean None h fit = cc
  array-boolean (Some value) h fit = (h value refl).booleans fit

  pub term-within : (o : Option Arg) → IsGivenWithin o → IsTerm (length sets) (term_given names o)
  term-within None within = zero_in_limits
  term-within (Some (args.Basic b)) within = term_of-within sets names known b within
  term-within (Some (args.Array array)) within = zero_in_limits

  pub list-within : (o : Option Arg) → IsGivenWithin o → AreTerms (length sets) (terms_given names o)
  list-within None within = (All-nil (IsTerm (length sets)), omega arith)
  list-within (Some (args.Basic b)) within = array-within (basic_meaning names b) (λ value e. value-meaning sets names known b value within e)
  list-within (Some (args.Array array)) within = (entry_terms-within sets names known array.entries within.0, rw length-map within.1)

  pub set-within : (o : Option Arg) → IsGivenWithin o → IsLimited (set_given names o)
  set-within None within = none_limited
  set-within (Some (args.Basic b)) within = set-limited (basic_meaning names b) (λ value e. value-meaning sets names known b value within e)
  set-within (Some (args.Array array)) within = none_limited

  pub boolean-given : (arg : Arg) → IsArgWithin arg → wrong_parts names Boolean arg ≡ [] → IsBoolean sets (term_given names (Some arg))
  boolean-given (args.Basic b) within e = boolean_term sets names known b within (when_not (is_wanted Boolean (basic_meaning names b)) (position_of b) e)
  boolean-given (args.Array array) within e = absurd cc

  pub booleans-given : (arg : Arg) → IsArgWithin arg → wrong_parts names BooleanList arg ≡ [] → All (IsBoolean sets) (terms_given names (Some arg))
  booleans-given (args.Basic b) within e =
      array-boolean (basic_meaning names b) (λ value f. value-meaning sets names known b value within f) (when_not (is_wanted BooleanList (basic_meaning names b)) (position_of b) e)
  booleans-given (args.Array array) within e = boolean_terms sets names known array.entries within.0 e
