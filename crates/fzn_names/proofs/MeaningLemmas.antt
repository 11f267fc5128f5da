-- What names stand for is within the variables and the limits.
use Rattle.std.proofs.Common.{◌≡◌, ℕ, ◌≤◌, Bool, true, false, not, ℤ, pos, List, [], ◌∷◌, Option, Some, None, flat_map, length, inl, inr, refl, subst, arith, cond, bytes_eq}
use Rattle.std.specs.List.{All}
use Rattle.std.specs.Map.{lookup}
use Rattle.std.proofs.lemmas.List.Elements.{All-nil, All-cons, All-head, All-tail}
use Rattle.fzn_domain.specs.IntSet.{IntSet, range}
use Rattle.fzn_domain.specs.Limits.{IsInLimits, IsLimited}
use Rattle.fzn_meaning.specs.declared.model.Kind.{Kind}
use Rattle.fzn_meaning.specs.declared.model.Kind.TheVariants as k
use Rattle.fzn_values.specs.declared.term.Term.{Term}
use Rattle.fzn_meaning.specs.Meaning.{IsBit, IsBoolean, longest}
use Rattle.fzn_values.specs.Term.{IsTerm}
use Rattle.fzn_names.specs.Types.{fits, is_wanted, wrong_in}
use Rattle.fzn_names.specs.Limits.{IsLiteralWithin, IsBasicWithin}
use Rattle.fzn_names.specs.Positions.{when, position_of}
use Rattle.fzn_names.specs.Values.{NameList, listed_set, literal_value, basic_meaning, value_term, term_in, term_of, entry_terms, value_terms, value_set}
use Rattle.fzn_names.specs.declared.names.Declared.{Declared}
use Rattle.fzn_names.specs.declared.names.Declared.TheVariants as d
use Rattle.fzn_names.proofs.FirstLemmas.{left_empty, right_empty}
use Rattle.fzn_tree.specs.declared.tree.Basic.{Basic}
use Rattle.fzn_tree.specs.declared.tree.Basic.TheVariants as basics
use Rattle.fzn_tree.specs.declared.tree.Literal.{Literal}
use Rattle.fzn_tree.specs.declared.tree.Literal.TheVariants as l
use Rattle.fzn_registry.specs.declared.signature.Argument.TheVariants.{Boolean, BooleanList}
use Rattle.fzn_names.proofs.ValueSetLemmas.{range-limited, zero_in_limits, one_in_limits, none_limited, listed_set-limited}

-- its term, its terms and its set are within these variables and the limits, and are Boolean where that is its type
pub record IsMeaning (sets : List IntSet) (value : Declared) : Type 0 where
  pub term : IsTerm (length sets) (value_term value)
  pub terms : All (IsTerm (length sets)) (value_terms value)
  pub few : length (value_terms value) ≤ longest
  pub set : IsLimited (value_set value)
  pub boolean : fits Boolean value ≡ true → IsBoolean sets (value_term value)
  pub booleans : fits BooleanList value ≡ true → All (IsBoolean sets) (value_terms value)

abbrev pub AreMeanings : List IntSet → NameList → Type 0
AreMeanings sets names = All (λ entry. IsMeaning sets entry.1) names

constant_meaning : (sets : List IntSet) (kind : Kind) (x : ℤ) → IsInLimits x → (kind ≡ k.Boolean → IsBit x) → IsMeaning sets (d.Constant kind x)
constant_meaning sets k.Integer x within bit = record { term = within; terms = All-nil (IsTerm (length sets)); few = omega arith; set = none_limited; boolean = λ e. cc; booleans = λ e. cc }
constant_meaning sets k.Boolean x within bit = record { term = within; terms = All-nil (IsTerm (length sets)); few = omega arith; set = none_limited; boolean = λ e. bit refl; booleans = λ e. cc }

set_meaning : (sets : List IntSet) (set : IntSet) → IsLimited set → IsMeaning sets (d.Set set)
set_meaning sets set limited =
    record { term = zero_in_limits; terms = All-nil (IsTerm (length sets)); few = omega arith; set = limited; boolean = λ e. cc; booleans = λ e. cc }

pub constants_meaning : (sets : List IntSet) (kind : Kind) (xs : List Term) → All (IsTerm (length sets)) xs → length xs ≤ longest → (kind ≡ k.Boolean → All (IsBoolean sets) xs) → IsMeaning sets (d.Constants kind xs)
constants_meaning sets k.Integer xs within few booleans = record { term = zero_in_limits; terms = within; few = few; set = none_limited; boolean = λ e. cc; booleans = λ e. cc }
constants_meaning sets k.Boolean xs within few booleans = record { term = zero_in_limits; terms = within; few = few; set = none_limited; boolean = λ e. cc; booleans = λ e. booleans refl }

pub array_meaning : (sets : List IntSet) (kind : Kind) (xs : List Term) → All (IsTerm (length sets)) xs → length xs ≤ longest → (kind ≡ k.Boolean → All (IsBoolean sets) xs) → IsMeaning sets (d.Array kind xs)
array_meaning sets k.Integer xs within few booleans = record { term = zero_in_limits; terms = within; few = few; set = none_limited; boolean = λ e. cc; booleans = λ e. cc }
array_meaning sets k.Boolean xs within few booleans = record { term = zero_in_limits; terms = within; few = few; set = none_limited; boolean = λ e. cc; booleans = λ e. booleans refl }

pub literal_meaning : (sets : List IntSet) (literal : Literal) → IsLiteralWithin literal → IsMeaning sets (literal_value literal)
literal_meaning sets (l.Bool true position) within = constant_meaning sets k.Boolean (pos 1) one_in_limits (λ e. inr refl)
literal_meaning sets (l.Bool false position) within = constant_meaning sets k.Boolean (pos 0) zero_in_limits (λ e. inl refl)
literal_meaning sets (l.Int number) within = constant_meaning sets k.Integer number.value within (λ e. cc)
literal_meaning sets (l.Range r) within = set_meaning sets (range r.low.value r.high) (range-limited r.low.value r.high within.0 within.1)
literal_meaning sets (l.Set position xs) within = set_meaning sets (listed_set xs) (listed_set-limited xs within)

-- ---- names that are declared

pub lookup-meaning : (sets : List IntSet) (test : List ℕ → Bool) (names : NameList) (value : Declared) → AreMeanings sets names → lookup test names ≡ Some value → IsMeaning sets value
lookup-meaning sets test [] value all found = cc
lookup-meaning sets test (entry ∷ names) value all found =
    elim (test entry.0) as (λ t. cond t (Some entry.1) (lookup test names) ≡ Some value → IsMeaning sets value) [
      | true ↦ λ e. let same : entry.1 ≡ value = cc in subst (IsMeaning sets) same (All-head (λ entry. IsMeaning sets entry.1) entry names all)
      | false ↦ λ e. lookup-meaning sets test names value (All-tail (λ entry. IsMeaning sets entry.1) entry names all) e
    ] found

module _ (sets : List IntSet) (names : NameList) (known : AreMeanings sets names) where
  pub value-meaning : (b : Basic) (value : Declared) → IsBasicWithin b → basic_meaning names b ≡ Some value → IsMeaning sets value
  value-meaning (basics.Literal literal) value within e = let same : literal_value literal ≡ value = cc in subst (IsMeaning sets) same (literal_meaning sets literal within)
  value-meaning (basics.Name name) value within e = lookup-meaning sets (bytes_eq name.text) names value known e

term_in-within : (sets : List IntSet) (o : Option Declared) → ((value : Declared) → o ≡ Some value → IsMeaning sets value) → IsTerm (length sets) (term_in o)
term_in-within sets None h = zero_in_limits
term_in-within sets (Some value) h = (h value refl).term

boolean_in : (sets : List IntSet) (o : Option Declared) → ((value : Declared) → o ≡ Some value → IsMeaning sets value) → is_wanted Boolean o ≡ true → IsBoolean sets (term_in o)
boolean_in sets None h fit = cc
boolean_in sets (Some value) h fit = (h value refl).boolean fit

pub when_not : {A : Type 0} (test : Bool) (x : A) → when (not test) x ≡ [] → test ≡ true
when_not true x e = refl
when_not false x e = cc

module _ (sets : List IntSet) (names : NameList) (known : AreMeanings sets names) where
  pub term_of-within : (b : Basic) → IsBasicWithin b → IsTerm (length sets) (term_of names b)
  term_of-within b within = term_in-within sets (basic_meaning names b) (λ value e. value-meaning sets names known b value within e)

  pub entry_terms-within : (bs : List Basic) → All IsBasicWithin bs → All (IsTerm (length sets)) (entry_terms names bs)
  entry_terms-within [] within = All-nil (IsTerm (length sets))
  entry_terms-within (b ∷ bs) within =
      All-cons (IsTerm (length sets)) (term_of names b) (entry_terms names bs) (term_of-within b (All-head IsBasicWithin b bs within)) (entry_terms-within bs (All-tail IsBasicWithin b bs within))

  pub boolean_term : (b : Basic) → IsBasicWithin b → is_wanted Boolean (basic_meaning names b) ≡ true → IsBoolean sets (term_of names b)
  boolean_term b within fit = boolean_in sets (basic_meaning names b) (λ value e. value-meaning sets names known b value within e) fit

  pub boolean_terms : (bs : List Basic) → All IsBasicWithin bs → flat_map (wrong_in names Boolean) bs ≡ [] → All (IsBoolean sets) (entry_terms names bs)
  boolean_terms [] within e = All-nil (IsBoolean sets)
  boolean_terms (b ∷ bs) within e =
      All-cons (IsBoolean sets) (term_of names b) (entry_terms names bs)
      (boolean_term b (All-head IsBasicWithin b bs within) (when_not (is_wanted Boolean (basic_meaning names b)) (position_of b) (left_empty (wrong_in names Boolean b) (flat_map (wrong_in names Boolean) bs) e)))
      (boolean_terms bs (All-tail IsBasicWithin b bs within) (right_empty (wrong_in names Boolean b) (flat_map (wrong_in names Boolean) bs) e))
