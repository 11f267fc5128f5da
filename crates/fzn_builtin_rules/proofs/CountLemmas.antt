-- How many choices there are, and that each of them has its number.
use Rattle.std.proofs.Common.{◌≡◌, ℕ, suc, ◌+◌, ◌*◌, ◌<◌, ◌≤◌, List, [], ◌∷◌, length, get_or, drop, map, false, refl, sym, ap, subst, ◌∙◌, arith, Option, Some, None, IfNone, IfSome, IsSomeAnd, ℤ}
use Rattle.std.specs.List.{All}
use Rattle.std.proofs.lemmas.List.Elements.{All-cons, All-nil, All-append, All-map, All-weaker}
use Rattle.std.proofs.Math.Nat.{mul-le-mul_left}
use Rattle.std.proofs.Math.Seq.{drop-cons}
use Rattle.fzn_domain.specs.IntSet.{IntSet}
use Rattle.fzn_domain.specs.Narrow.{is_some_empty}
use Rattle.fzn_values.specs.declared.term.Term.{Term}
use Rattle.fzn_values.specs.declared.term.Place.{Place}
use Rattle.fzn_meaning.specs.declared.constraint.Constraint.{Constraint}
use Rattle.fzn_meaning.specs.declared.constraint.Constraint.TheVariants as constraint
use Rattle.fzn_values.specs.Term.{IsTerm, IsPlace}
use Rattle.fzn_meaning.specs.Meaning.{IsWellFormedConstraint}
use Rattle.fzn_builtin_rules.specs.Choices.{count_of, choices, inputs_of, result_of, Relates, NoneOf, NoChoiceFits}
use Rattle.fzn_builtin_rules.specs.Numbered.{choice_at}
use Rattle.fzn_builtin_rules.proofs.ChoiceLemmas.{choice_found, IsChoice-choice_at}

pub if_none : {A : Type 0} (found : Option A) (P : Type 0) → P → IfNone found P
if_none None P p = p
if_none (Some a) P p = tt

pub drop_next : {A : Type 0} (xs : List A) (i : ℕ) (d : A) → i < length xs → drop i xs ≡ get_or xs i d ∷ drop (i + 1) xs
drop_next xs i d below = let more : suc i ≡ i + 1 = omega arith in drop-cons xs i d below ∙ ap (λ (n : ℕ). get_or xs i d ∷ drop n xs) more

-- ---- the product of the numbers of values

-- one more factor, where the rest makes up for the whole
pub one_more : (sets : List IntSet) (t : Term) (rest behind : List Term) (product next total : ℕ) → rest ≡ t ∷ behind → product * choices sets rest ≡ total → next ≡ product * count_of sets t → next * choices sets behind ≡ total
one_more sets t rest behind product next total is makes_up more =
    ap (λ (n : ℕ). n * choices sets behind) more ∙ mul_assoc product (count_of sets t) (choices sets behind) ∙ ap (λ (terms : List Term). product * choices sets terms) (sym is) ∙ makes_up
  where
    mul_assoc : (a b c : ℕ) → a * b * c ≡ a * (b * c)
    mul_assoc a b c = omega arith

-- too many already, however few the rest gives
pub too_many : (sets : List IntSet) (t : Term) (rest behind : List Term) (product total : ℕ) → rest ≡ t ∷ behind → product * choices sets rest ≡ total → 0 < choices sets behind → 4096 < product * count_of sets t → 4096 < total
too_many sets t rest behind product total is makes_up some many =
    let whole = one_more sets t rest behind product (product * count_of sets t) total is makes_up refl in
    let least : product * count_of sets t * 1 ≤ product * count_of sets t * choices sets behind = mul-le-mul_left (product * count_of sets t) some in
    omega arith

pub too_many_parts : (a b : ℕ) → 4096 < a → 0 < b → 4096 < a * b
too_many_parts a b many some = let least : a * 1 ≤ a * b = mul-le-mul_left a some in omega arith

-- ---- the inputs

pub place_terms : (count : ℕ) (places : List Place) → All (IsPlace count) places → All (IsTerm count) (map (λ (place : Place). place.term) places)
place_terms count places formed = All-map (IsTerm count) (λ (place : Place). place.term) places (All-weaker (IsPlace count) (λ (place : Place). IsTerm count place.term) (λ place is. is.0) places formed)

pub inputs_formed : (count : ℕ) (c : Constraint) → IsWellFormedConstraint count c → IfSome (inputs_of c) (All (IsTerm count))
unfolding IsWellFormedConstraint inputs_of
inputs_formed count (constraint.Compare relation left right switch) formed = two count left right formed.0 formed.1
  where
    two : (count : ℕ) (a b : Term) → IsTerm count a → IsTerm count b → All (IsTerm count) (a ∷ b ∷ [])
    two count a b first second = All-cons (IsTerm count) a (b ∷ []) first (All-cons (IsTerm count) b [] second (All-nil (IsTerm count)))
inputs_formed count (constraint.BoolNot left right) formed = All-cons (IsTerm count) left (right ∷ []) formed.0 (All-cons (IsTerm count) right [] formed.1 (All-nil (IsTerm count)))
inputs_formed count (constraint.BoolToInt boolean integer) formed = All-cons (IsTerm count) boolean [] formed.0 (All-nil (IsTerm count))
inputs_formed count (constraint.Linear sum comparison bound switch) formed = place_terms count sum formed.0.0
inputs_formed count (constraint.BoolLinEq sum total) formed = place_terms count sum formed.0.0
inputs_formed count (constraint.Arithmetic operation left right result) formed = All-cons (IsTerm count) left (right ∷ []) formed.0 (All-cons (IsTerm count) right [] formed.1 (All-nil (IsTerm count)))
inputs_formed count (constraint.IntAbs of result) formed = All-cons (IsTerm count) of [] formed.0 (All-nil (IsTerm count))
inputs_formed count (constraint.Extremum extreme entries result) formed = formed.0.0
inputs_formed count (constraint.Element index entries value) formed = All-cons (IsTerm count) index entries formed.0 formed.1.0
inputs_formed count (constraint.SetIn term set switch) formed = All-cons (IsTerm count) term [] formed.0 (All-nil (IsTerm count))
inputs_formed count (constraint.Gated gate inputs result) formed = formed.0.0
inputs_formed count (constraint.BoolXor left right result) formed = All-cons (IsTerm count) left (right ∷ []) formed.0 (All-cons (IsTerm count) right [] formed.1 (All-nil (IsTerm count)))
inputs_formed count (constraint.ArrayBoolXor inputs) formed = formed.0
inputs_formed count (constraint.BoolClause positive negative) formed = All-append (IsTerm count) positive negative formed.0.0 formed.1.0
inputs_formed count _ formed = tt

-- ---- choices by number fit where choices fit

-- where no choice fits, the one with this number does not
pub fails_where_none : (c : Constraint) (sets : List IntSet) (n : ℕ) (found : Option (List Term)) → is_some_empty sets ≡ false → IfSome found (All (IsTerm (length sets))) → IsSomeAnd found (NoChoiceFits c sets) → IfSome found (λ inputs. NoneOf sets (result_of c) (Relates c (choice_at sets inputs n)))
fails_where_none c sets n None nonempty formed none = tt
fails_where_none c sets n (Some inputs) nonempty formed none = none (choice_at sets inputs n) (IsChoice-choice_at sets inputs n nonempty formed)

-- where those of all numbers do not, none does
pub none_where_all_fail : (c : Constraint) (sets : List IntSet) (count : ℕ) (found : Option (List Term)) → IsSomeAnd found (λ inputs. count ≡ choices sets inputs) → ((n : ℕ) → n < count → IfSome found (λ inputs. NoneOf sets (result_of c) (Relates c (choice_at sets inputs n)))) → IsSomeAnd found (NoChoiceFits c sets)
none_where_all_fail c sets count None is fail = is
none_where_all_fail c sets count (Some inputs) is fail = λ choice from_sets.
    let number = choice_found sets inputs choice from_sets in
    subst (λ (values : List ℤ). NoneOf sets (result_of c) (Relates c values)) number.2 (fail number.0 (omega (arith, number.1)))
