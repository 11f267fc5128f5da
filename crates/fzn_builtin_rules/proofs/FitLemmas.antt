-- The form of a constraint that a model may have fits.
use Rattle.std.proofs.Common.{◌≡◌, ℕ, ◌+◌, ◌≤◌, List, [], ◌∷◌, ◌++◌, length, length-append, arith, pos, negsuc, ◌-ℤ◌, ℤ, All, IfSome}
use Rattle.std.proofs.lemmas.Int.{ints}
use Rattle.std.proofs.lemmas.List.{length-map}
use Rattle.std.proofs.lemmas.List.Elements.{All-append, All-from_recursion, All-map, All-weaker}
use Rattle.fzn_list.specs.Limits.{longest}
use Rattle.fzn_domain.specs.Limits.{IsSmall}
use Rattle.fzn_values.specs.declared.term.Term.{Term}
use Rattle.fzn_values.specs.declared.term.Place.{Place}
use Rattle.fzn_meaning.specs.declared.relation.Relation.{Relation}
use Rattle.fzn_meaning.specs.declared.relation.Relation.TheVariants as relation
use Rattle.fzn_meaning.specs.declared.arithmetic.Operation.TheVariants.{Plus}
use Rattle.fzn_meaning.specs.declared.boolean.Gate.{Gate}
use Rattle.fzn_meaning.specs.declared.boolean.Gate.TheVariants.{And, Or}
use Rattle.fzn_meaning.specs.declared.constraint.Constraint.{Constraint}
use Rattle.fzn_meaning.specs.declared.constraint.Constraint.TheVariants as constraint
use Rattle.fzn_values.specs.Term.{IsTerm, IsPlace}
use Rattle.fzn_meaning.specs.Meaning.{IsWellFormedConstraint}
use Rattle.fzn_builtin_rules.specs.Form.{place_with, each_with, difference, bound_of, passing_bound, form_of, Fits}

each_fits : (count : ℕ) (c : ℤ) (terms : List Term) → IsSmall c → All (IsTerm count) terms → All (IsPlace count) (each_with c terms)
each_fits count c terms small fit =
    All-map (IsPlace count) (place_with c) terms (All-weaker (IsTerm count) (λ (t : Term). IsPlace count (place_with c t)) (λ t h. (h, small)) terms fit)

clause_fits : (count : ℕ) (positive negative : List Term) → All (IsTerm count) positive → All (IsTerm count) negative → All (IsPlace count) (each_with (pos 1) negative ++ each_with (negsuc 0) positive)
clause_fits count positive negative fit fit_too =
    All-append (IsPlace count) (each_with (pos 1) negative) (each_with (negsuc 0) positive) (each_fits count (pos 1) negative (omega arith) fit_too)
    (each_fits count (negsuc 0) positive (omega arith) fit)

clause_length : (positive negative : List Term) → length (each_with (pos 1) negative ++ each_with (negsuc 0) positive) ≡ length negative + length positive
clause_length positive negative = omega (arith, length-append (each_with (pos 1) negative) (each_with (negsuc 0) positive), length-map negative (place_with (pos 1)), length-map positive (place_with (negsuc 0)))

difference_fits : (count : ℕ) (a b : Term) → IsTerm count a → IsTerm count b → All (IsPlace count) (difference a b)
difference_fits count a b h k = All-from_recursion (IsPlace count) (difference a b) ((h, omega arith), ((k, omega arith), tt))

small_bound : (r : Relation) → IsSmall (bound_of r)
small_bound relation.Equal = omega arith
small_bound relation.NotEqual = omega arith
small_bound relation.AtMost = omega arith
small_bound relation.Below = omega arith

small_count : (n : ℕ) → n ≤ longest → IsSmall (pos 0 -ℤ pos n)
small_count n h = grind (arith, ints)

small_less : (n : ℕ) → n ≤ longest → IsSmall (pos n -ℤ pos 1)
small_less n h = grind (arith, ints)

small_passing : (gate : Gate) (inputs : List Term) → length inputs ≤ longest → IsSmall (passing_bound gate inputs)
small_passing And inputs few = small_count (length inputs) few
small_passing Or inputs few = omega arith

more_fits : (count : ℕ) (sum : List Place) (c : ℤ) (term : Term) → IsSmall c → All (IsPlace count) sum → IsTerm count term → All (IsPlace count) (sum ++ place_with c term ∷ [])
more_fits count sum c term small fit fits = All-append (IsPlace count) sum (place_with c term ∷ []) fit (All-from_recursion (IsPlace count) (place_with c term ∷ []) ((fits, small), tt))

pub form_fits : (count : ℕ) (c : Constraint) → IsWellFormedConstraint count c → IfSome (form_of c) (Fits count)
unfolding form_of IsWellFormedConstraint
form_fits count (constraint.Compare relation left right switch) well = record {
  places_fit = difference_fits count left right well.0 well.1;
  short = omega arith;
  bounded = small_bound relation;
  switch_fits = well.2;
}
form_fits count (constraint.BoolNot left right) well = record {
  places_fit = All-from_recursion (IsPlace count) (place_with (pos 1) left ∷ place_with (pos 1) right ∷ []) ((well.0, omega arith), ((well.1, omega arith), tt));
  short = omega arith;
  bounded = omega arith;
  switch_fits = tt;
}
form_fits count (constraint.BoolToInt boolean integer) well = record {
  places_fit = difference_fits count boolean integer well.0 well.1;
  short = omega arith;
  bounded = omega arith;
  switch_fits = tt;
}
form_fits count (constraint.Linear sum comparison bound switch) well = record {
  places_fit = well.0.0;
  short = let few = well.0.1 in omega arith;
  bounded = well.1;
  switch_fits = well.2;
}
form_fits count (constraint.BoolLinEq sum total) well = record {
  places_fit = more_fits count sum (negsuc 0) total (omega arith) well.0.0 well.1;
  short = let few = well.0.1 in omega (arith, length-append sum (place_with (negsuc 0) total ∷ []));
  bounded = omega arith;
  switch_fits = tt;
}
form_fits count (constraint.Arithmetic Plus left right result) well = record {
  places_fit = All-from_recursion (IsPlace count) (place_with (pos 1) left ∷ place_with (pos 1) right ∷ place_with (negsuc 0) result ∷ []) ((well.0, omega arith), ((well.1, omega arith), ((well.2, omega arith), tt)));
  short = omega arith;
  bounded = omega arith;
  switch_fits = tt;
}
form_fits count (constraint.Gated gate inputs result) well = record {
  places_fit = each_fits count (negsuc 0) inputs (omega arith) well.0.0;
  short = let few = well.0.1 in omega (arith, length-map inputs (place_with (negsuc 0)));
  bounded = small_passing gate inputs well.0.1;
  switch_fits = well.1;
}
form_fits count (constraint.BoolClause positive negative) well = record {
  places_fit = clause_fits count positive negative well.0.0 well.1.0;
  short = let few = well.0.1 in let few_too = well.1.1 in omega (arith, clause_length positive negative);
  bounded = small_less (length negative) well.1.1;
  switch_fits = tt;
}
form_fits count _ well = tt
