-- Constraints that are given what they take are well formed.
use Rattle.std.proofs.Common.{◌≡◌, ℕ, ◌≤◌, ◌%◌, true, false, List, [], ◌∷◌, Option, Some, None, length, slice_get, nat_eq, nat_lt, unsigned_abs, inl, refl, arith}
use Rattle.std.specs.List.{All, list_any}
use Rattle.std.proofs.lemmas.Bool.{and_parts}
use Rattle.std.proofs.lemmas.List.{length-map}
use Rattle.std.proofs.lemmas.List.Elements.{All-nil, All-cons, All-append}
use Rattle.fzn_domain.specs.IntSet.{IntSet}
use Rattle.fzn_domain.specs.Limits.{IsLimited}
use Rattle.fzn_meaning.specs.declared.arithmetic.Operation.{Operation}
use Rattle.fzn_meaning.specs.declared.arithmetic.Operation.TheVariants.{Plus, Times, Quotient, Remainder}
use Rattle.fzn_meaning.specs.declared.boolean.Gate.{Gate}
use Rattle.fzn_meaning.specs.declared.boolean.Gate.TheVariants.{And, Or}
use Rattle.fzn_meaning.specs.declared.constraint.Constraint.{Constraint}
use Rattle.fzn_meaning.specs.declared.constraint.Constraint.TheVariants.{Compare, BoolNot, BoolToInt, Linear, BoolLinEq, Arithmetic, IntAbs, Extremum, Element, SetIn, Gated, BoolXor, ArrayBoolXor, BoolClause, AllDifferent, Table, Cumulative, Circuit, Inverse}
use Rattle.fzn_meaning.specs.declared.extremum.Extreme.{Extreme}
use Rattle.fzn_meaning.specs.declared.extremum.Extreme.TheVariants.{Least, Greatest}
use Rattle.fzn_meaning.specs.declared.relation.Comparison.{Comparison}
use Rattle.fzn_meaning.specs.declared.relation.Comparison.TheVariants as c
use Rattle.fzn_meaning.specs.declared.relation.Relation.{Relation}
use Rattle.fzn_meaning.specs.declared.relation.Relation.TheVariants as r
use Rattle.fzn_values.specs.declared.term.Term.{Term}
use Rattle.fzn_meaning.specs.Meaning.{IsBoolean, HasBooleanSets, booleans_of, AreTerms, IsSum, IsWellFormedConstraint}
use Rattle.fzn_values.specs.Term.{IsTerm}
use Rattle.fzn_names.specs.Values.{NameList}
use Rattle.fzn_names.proofs.MeaningLemmas.{AreMeanings}
use Rattle.fzn_tree.specs.declared.tree.Arg.{Arg}
use Rattle.fzn_registry.specs.declared.name.Name.{Name}
use Rattle.fzn_registry.specs.declared.name.Name.TheVariants as n
use Rattle.fzn_registry.specs.declared.signature.Argument.{Argument}
use Rattle.fzn_registry.specs.declared.signature.Argument.TheVariants.{Boolean, BooleanList}
use Rattle.fzn_registry.specs.Registry.{row, arguments_of, lengths_of, non_negative_of}
use Rattle.fzn_typing.specs.Arguments.{wrong_arguments, term_given, terms_given, set_at, number_given, numbers_at, length_at, has_lengths, has_negative}
use Rattle.fzn_typing.specs.Constraints.{term, list, sum, by, constraint_for}
use Rattle.fzn_typing.specs.Limits.{IsArgWithin}
use Rattle.fzn_typing.proofs.ArgumentLemmas.{amount, number-within, numbers-within, weighted-within, weighted-length, IsGivenWithin, given-within, right_at, term-within, list-within, set-within, boolean-given, booleans-given}

module _ (sets : List IntSet) (names : NameList) (known : AreMeanings sets names) (given : List Arg) (within : All IsArgWithin given) where
  abbrev pub Made : Constraint → Type 0
  Made made = IsWellFormedConstraint (length sets) made × HasBooleanSets sets made

  t : (i : ℕ) → IsTerm (length sets) (term names given i)
  t i = term-within sets names known (slice_get given i) (given-within given i within)

  ts : (i : ℕ) → AreTerms (length sets) (list names given i)
  ts i = list-within sets names known (slice_get given i) (given-within given i within)

  s : (i : ℕ) → IsLimited (set_at names given i)
  s i = set-within sets names known (slice_get given i) (given-within given i within)

  number : (i : ℕ) → unsigned_abs (number_given names given i) ≤ 1000000000
  number i = amount (number_given names given i) (number-within (length sets) (term names given i) (t i))

  products : IsSum (length sets) (sum names given)
  products =
      let few = weighted-length (list names given 0) (list names given 1) in
      (weighted-within (length sets) (list names given 0) (list names given 1) (ts 0).0 (ts 1).0, omega (arith, few, (ts 0).1))

  boolean_if : (wanted : List Argument) (i : ℕ) (o : Option Arg) → wrong_arguments names wanted given ≡ [] → slice_get wanted i ≡ Some Boolean → IsGivenWithin o → slice_get given i ≡ o → IsBoolean sets (term_given names o)
  boolean_if wanted i None right there inside here = inl refl
  boolean_if wanted i (Some arg) right there inside here = boolean-given sets names known arg inside (right_at names wanted given i Boolean arg right there here)

  b : (wanted : List Argument) → wrong_arguments names wanted given ≡ [] → (i : ℕ) → slice_get wanted i ≡ Some Boolean → IsBoolean sets (term names given i)
  b wanted right i there = boolean_if wanted i (slice_get given i) right there (given-within given i within) refl

  booleans_if : (wanted : List Argument) (i : ℕ) (o : Option Arg) → wrong_arguments names wanted given ≡ [] → slice_get wanted i ≡ Some BooleanList → IsGivenWithin o → slice_get given i ≡ o → All (IsBoolean sets) (terms_given names o)
  booleans_if wanted i None right there inside here = All-nil (IsBoolean sets)
  booleans_if wanted i (Some arg) right there inside here = booleans-given sets names known arg inside (right_at names wanted given i BooleanList arg right there here)

  bs : (wanted : List Argument) → wrong_arguments names wanted given ≡ [] → (i : ℕ) → slice_get wanted i ≡ Some BooleanList → All (IsBoolean sets) (list names given i)
  bs wanted right i there = booleans_if wanted i (slice_get given i) right there (given-within given i within) refl

  none : All (IsBoolean sets) []
  none = All-nil (IsBoolean sets)

  one : (x : Term) → IsBoolean sets x → All (IsBoolean sets) (x ∷ [])
  one x h = All-cons (IsBoolean sets) x [] h none

  two : (x y : Term) → IsBoolean sets x → IsBoolean sets y → All (IsBoolean sets) (x ∷ y ∷ [])
  two x y h k = All-cons (IsBoolean sets) x (y ∷ []) h (one y k)

  pair : AreTerms (length sets) (term names given 0 ∷ term names given 1 ∷ [])
  pair = (
    All-cons (IsTerm (length sets)) (term names given 0) (term names given 1 ∷ []) (t 0) (All-cons (IsTerm (length sets)) (term names given 1) [] (t 1) (All-nil (IsTerm (length sets)))),
    omega arith,
  )

  -- ---- each kind of constraint

  pub compared : (relation : Relation) → Made (Compare relation (term names given 0) (term names given 1) None)
  unfolding IsWellFormedConstraint booleans_of
  compared relation = ((t 0, t 1, tt), none)

  compared_by : (relation : Relation) → IsBoolean sets (term names given 2) → Made (Compare relation (term names given 0) (term names given 1) (by names given 2))
  unfolding IsWellFormedConstraint booleans_of
  compared_by relation h = ((t 0, t 1, t 2), one (term names given 2) h)

  summed : (comparison : Comparison) → Made (Linear (sum names given) comparison (number_given names given 2) None)
  unfolding IsWellFormedConstraint booleans_of
  summed comparison = ((products, number 2, tt), none)

  summed_by : (comparison : Comparison) → IsBoolean sets (term names given 3) → Made (Linear (sum names given) comparison (number_given names given 2) (by names given 3))
  unfolding IsWellFormedConstraint booleans_of
  summed_by comparison h = ((products, number 2, t 3), one (term names given 3) h)

  total : Made (BoolLinEq (sum names given) (term names given 2))
  unfolding IsWellFormedConstraint booleans_of
  total = ((products, t 2), none)

  computed : (operation : Operation) → Made (Arithmetic operation (term names given 0) (term names given 1) (term names given 2))
  unfolding IsWellFormedConstraint booleans_of
  computed operation = ((t 0, t 1, t 2), none)

  absolute : Made (IntAbs (term names given 0) (term names given 1))
  unfolding IsWellFormedConstraint booleans_of
  absolute = ((t 0, t 1), none)

  extreme_of_two : (extreme : Extreme) → Made (Extremum extreme (term names given 0 ∷ term names given 1 ∷ []) (term names given 2))
  unfolding IsWellFormedConstraint booleans_of
  extreme_of_two extreme = ((pair, t 2, omega arith), none)

  extreme_of : (extreme : Extreme) → nat_lt 0 (length_at names given 1) ≡ true → Made (Extremum extreme (list names given 1) (term names given 0))
  unfolding IsWellFormedConstraint booleans_of
  extreme_of extreme h = ((ts 1, t 0, grind (arith, h)), none)

  indexed : Made (Element (term names given 0) (list names given 1) (term names given 2))
  unfolding IsWellFormedConstraint booleans_of
  indexed = ((t 0, ts 1, t 2), none)

  member : Made (SetIn (term names given 0) (set_at names given 1) None)
  unfolding IsWellFormedConstraint booleans_of
  member = ((t 0, s 1, tt), none)

  member_by : IsBoolean sets (term names given 2) → Made (SetIn (term names given 0) (set_at names given 1) (by names given 2))
  unfolding IsWellFormedConstraint booleans_of
  member_by h = ((t 0, s 1, t 2), one (term names given 2) h)

  opposite : IsBoolean sets (term names given 0) → IsBoolean sets (term names given 1) → Made (BoolNot (term names given 0) (term names given 1))
  unfolding IsWellFormedConstraint booleans_of
  opposite h k = ((t 0, t 1), two (term names given 0) (term names given 1) h k)

  as_number : IsBoolean sets (term names given 0) → Made (BoolToInt (term names given 0) (term names given 1))
  unfolding IsWellFormedConstraint booleans_of
  as_number h = ((t 0, t 1), one (term names given 0) h)

  gate_of_two : (gate : Gate) → IsBoolean sets (term names given 0) → IsBoolean sets (term names given 1) → IsBoolean sets (term names given 2) → Made (Gated gate (term names given 0 ∷ term names given 1 ∷ []) (term names given 2))
  unfolding IsWellFormedConstraint booleans_of
  gate_of_two gate h k l =
      ((pair, t 2), All-cons (IsBoolean sets) (term names given 2) (term names given 0 ∷ term names given 1 ∷ []) l (two (term names given 0) (term names given 1) h k))

  gate_of : (gate : Gate) → All (IsBoolean sets) (list names given 0) → IsBoolean sets (term names given 1) → Made (Gated gate (list names given 0) (term names given 1))
  unfolding IsWellFormedConstraint booleans_of
  gate_of gate h k = ((ts 0, t 1), All-cons (IsBoolean sets) (term names given 1) (list names given 0) k h)

  exclusive : IsBoolean sets (term names given 0) → IsBoolean sets (term names given 1) → IsBoolean sets (term names given 2) → Made (BoolXor (term names given 0) (term names given 1) (term names given 2))
  unfolding IsWellFormedConstraint booleans_of
  exclusive h k l = ((t 0, t 1, t 2), All-cons (IsBoolean sets) (term names given 0) (term names given 1 ∷ term names given 2 ∷ []) h (two (term names given 1) (term names given 2) k l))

  odd : All (IsBoolean sets) (list names given 0) → Made (ArrayBoolXor (list names given 0))
  unfolding IsWellFormedConstraint booleans_of
  odd h = (ts 0, h)

  clause : All (IsBoolean sets) (list names given 0) → All (IsBoolean sets) (list names given 1) → Made (BoolClause (list names given 0) (list names given 1))
  unfolding IsWellFormedConstraint booleans_of
  clause h k = ((ts 0, ts 1), All-append (IsBoolean sets) (list names given 0) (list names given 1) h k)

  different : Made (AllDifferent (list names given 0))
  unfolding IsWellFormedConstraint booleans_of
  different = (ts 0, none)

  tabled : has_lengths names (lengths_of n.FznTableInt) given ≡ true → Made (Table (list names given 0) (numbers_at names given 1))
  unfolding IsWellFormedConstraint booleans_of lengths_of
  tabled h =
      let parts = and_parts (nat_lt 0 (length_at names given 0)) (nat_eq (length_at names given 1 % length_at names given 0) 0) h in
      ((ts 0, grind (arith, parts.0), numbers-within (length sets) (list names given 1) (ts 1).0, rw length-map (ts 1).1, rw length-map (grind (arith, parts.1))), none)

  scheduled : has_lengths names (lengths_of n.FznCumulative) given ≡ true → Made (Cumulative (list names given 0) (list names given 1) (list names given 2) (term names given 3))
  unfolding IsWellFormedConstraint booleans_of lengths_of
  scheduled h =
      let parts = and_parts (nat_eq (length_at names given 0) (length_at names given 1)) (nat_eq (length_at names given 1) (length_at names given 2)) h in
      let as_many : length (list names given 1) ≡ length (list names given 0) = grind (arith, parts.0) in
      let as_many_uses : length (list names given 2) ≡ length (list names given 0) = grind (arith, parts.0, parts.1) in (
        (ts 0, ts 1, ts 2, t 3, as_many, as_many_uses),
        none,
      )

  circuit : Made (Circuit (list names given 0))
  unfolding IsWellFormedConstraint booleans_of
  circuit = (ts 0, none)

  inverse : nat_eq (length_at names given 0) (length_at names given 1) ≡ true → Made (Inverse (list names given 0) (list names given 1))
  unfolding IsWellFormedConstraint booleans_of
  inverse h = ((ts 0, ts 1, grind (arith, h)), none)

  -- ---- the table

  -- what is given has the types, the lengths and the signs that the name asks for
  pub made_right : (name : Name) → wrong_arguments names (arguments_of name) given ≡ [] → has_lengths names (lengths_of name) given ≡ true → list_any (has_negative names given) (non_negative_of name) ≡ false
      → Made (constraint_for names given name)
  unfolding constraint_for arguments_of row lengths_of
  made_right n.IntEq w l e = compared r.Equal
  made_right n.IntNe w l e = compared r.NotEqual
  made_right n.IntLe w l e = compared r.AtMost
  made_right n.IntLt w l e = compared r.Below
  made_right n.IntLinEq w l e = summed c.Equal
  made_right n.IntLinLe w l e = summed c.AtMost
  made_right n.IntLinNe w l e = summed c.NotEqual
  made_right n.IntPlus w l e = computed Plus
  made_right n.IntTimes w l e = computed Times
  made_right n.IntDiv w l e = computed Quotient
  made_right n.IntMod w l e = computed Remainder
  made_right n.IntMin w l e = extreme_of_two Least
  made_right n.IntMax w l e = extreme_of_two Greatest
  made_right n.IntAbs w l e = absolute
  made_right n.ArrayIntMaximum w l e = extreme_of Greatest l
  made_right n.ArrayIntMinimum w l e = extreme_of Least l
  made_right n.ArrayIntElement w l e = indexed
  made_right n.ArrayVarIntElement w l e = indexed
  made_right n.ArrayBoolElement w l e = indexed
  made_right n.ArrayVarBoolElement w l e = indexed
  made_right n.SetIn w l e = member
  made_right n.BoolEq w l e = compared r.Equal
  made_right n.BoolLe w l e = compared r.AtMost
  made_right n.BoolLt w l e = compared r.Below
  made_right n.BoolNot w l e = opposite (b (arguments_of n.BoolNot) w 0 refl) (b (arguments_of n.BoolNot) w 1 refl)
  made_right n.BoolAnd w l e = gate_of_two And (b (arguments_of n.BoolAnd) w 0 refl) (b (arguments_of n.BoolAnd) w 1 refl) (b (arguments_of n.BoolAnd) w 2 refl)
  made_right n.BoolOr w l e = gate_of_two Or (b (arguments_of n.BoolOr) w 0 refl) (b (arguments_of n.BoolOr) w 1 refl) (b (arguments_of n.BoolOr) w 2 refl)
  made_right n.BoolXor w l e = exclusive (b (arguments_of n.BoolXor) w 0 refl) (b (arguments_of n.BoolXor) w 1 refl) (b (arguments_of n.BoolXor) w 2 refl)
  made_right n.ArrayBoolAnd w l e = gate_of And (bs (arguments_of n.ArrayBoolAnd) w 0 refl) (b (arguments_of n.ArrayBoolAnd) w 1 refl)
  made_right n.ArrayBoolOr w l e = gate_of Or (bs (arguments_of n.ArrayBoolOr) w 0 refl) (b (arguments_of n.ArrayBoolOr) w 1 refl)
  made_right n.ArrayBoolXor w l e = odd (bs (arguments_of n.ArrayBoolXor) w 0 refl)
  made_right n.BoolClause w l e = clause (bs (arguments_of n.BoolClause) w 0 refl) (bs (arguments_of n.BoolClause) w 1 refl)
  made_right n.Bool2Int w l e = as_number (b (arguments_of n.Bool2Int) w 0 refl)
  made_right n.BoolLinEq w l e = total
  made_right n.BoolLinLe w l e = summed c.AtMost
  made_right n.FznAllDifferentInt w l e = different
  made_right n.FznTableInt w l e = tabled l
  made_right n.FznCumulative w l e = scheduled l
  made_right n.FznCircuit w l e = circuit
  made_right n.FznInverse w l e = inverse l
  made_right n.IntEqReif w l e = compared_by r.Equal (b (arguments_of n.IntEqReif) w 2 refl)
  made_right n.IntNeReif w l e = compared_by r.NotEqual (b (arguments_of n.IntNeReif) w 2 refl)
  made_right n.IntLeReif w l e = compared_by r.AtMost (b (arguments_of n.IntLeReif) w 2 refl)
  made_right n.IntLtReif w l e = compared_by r.Below (b (arguments_of n.IntLtReif) w 2 refl)
  made_right n.IntLinEqReif w l e = summed_by c.Equal (b (arguments_of n.IntLinEqReif) w 3 refl)
  made_right n.IntLinLeReif w l e = summed_by c.AtMost (b (arguments_of n.IntLinLeReif) w 3 refl)
  made_right n.IntLinNeReif w l e = summed_by c.NotEqual (b (arguments_of n.IntLinNeReif) w 3 refl)
  made_right n.SetInReif w l e = member_by (b (arguments_of n.SetInReif) w 2 refl)
  made_right n.BoolEqReif w l e = compared_by r.Equal (b (arguments_of n.BoolEqReif) w 2 refl)
  made_right n.BoolLeReif w l e = compared_by r.AtMost (b (arguments_of n.BoolLeReif) w 2 refl)
  made_right n.BoolLtReif w l e = compared_by r.Below (b (arguments_of n.BoolLtReif) w 2 refl)
