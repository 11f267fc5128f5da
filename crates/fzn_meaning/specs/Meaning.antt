-- What each constraint says of the values of its terms.
use Rattle.std.specs.Prelude.{◌≡◌, ◌⊎◌, true, ℕ, ◌%◌, ◌<◌, ◌≤◌, ℤ, pos, List, [], ◌∷◌, ◌++◌, length, Option, IfSome}
use Rattle.std.specs.List.{All}
use Rattle.std.specs.Option.{option_map, option_to_list}
pub use Rattle.fzn_list.specs.Limits.{longest}
use Rattle.fzn_domain.specs.IntSet.{IntSet, contains}
use Rattle.fzn_domain.specs.Limits.{IsInLimits, IsSmall, IsLimited}
use Rattle.fzn_domain.specs.Narrow.{set_of}
use Rattle.fzn_values.specs.declared.term.Term.{Term}
use Rattle.fzn_values.specs.declared.term.Term.TheVariants.{Constant, Variable}
use Rattle.fzn_values.specs.declared.term.Place.{Place}
use Rattle.fzn_meaning.specs.declared.relation.Comparison.TheVariants.{Equal}
use Rattle.fzn_meaning.specs.declared.constraint.Constraint.{Constraint}
use Rattle.fzn_meaning.specs.declared.constraint.Constraint.TheVariants.{Compare, BoolNot, BoolToInt, Linear, BoolLinEq, Arithmetic, IntAbs, Extremum, Element, SetIn, Gated, BoolXor, ArrayBoolXor, BoolClause, AllDifferent, Table, Cumulative, Circuit, Inverse, Row}
use Rattle.fzn_values.specs.Term.{term_value, values_of, sum_at, IsTerm, IsPlace}
use Rattle.fzn_meaning.specs.Comparisons.{IsRelated, IsSwitched}
use Rattle.fzn_meaning.specs.Linear.{IsLinear}
use Rattle.fzn_meaning.specs.Arithmetic.{IsArithmetic, IsIntAbs}
use Rattle.fzn_meaning.specs.Extrema.{IsExtremum}
use Rattle.fzn_meaning.specs.Elements.{IsElement}
use Rattle.fzn_meaning.specs.Sets.{IsInSet}
use Rattle.fzn_meaning.specs.Booleans.{IsBoolNot, IsBoolToInt, IsGated, IsBoolXor, IsArrayBoolXor, IsBoolClause}
use Rattle.fzn_values.specs.AllDifferent.{IsAllDifferent}
use Rattle.fzn_values.specs.Table.{IsTable}
use Rattle.fzn_values.specs.Cumulative.{IsCumulative}
use Rattle.fzn_values.specs.Circuit.{IsCircuit}
use Rattle.fzn_values.specs.Inverse.{IsInverse}
use Rattle.fzn_meaning.specs.Separable.{RowHolds, IsSeparableRow}

-- the value of a switch, where there is one
abbrev pub switch_value : List ℤ → Option Term → Option ℤ
switch_value values switch = option_map (term_value values) switch

-- the values meet the constraint
unfoldable pub Meets : Constraint → List ℤ → Type 0
Meets (Compare relation left right switch) values = IsSwitched (switch_value values switch) (IsRelated relation (term_value values left) (term_value values right))
Meets (BoolNot left right) values = IsBoolNot (term_value values left) (term_value values right)
Meets (BoolToInt boolean integer) values = IsBoolToInt (term_value values boolean) (term_value values integer)
Meets (Linear sum comparison bound switch) values = IsSwitched (switch_value values switch) (IsLinear comparison (sum_at values sum) bound)
Meets (BoolLinEq sum total) values = IsLinear Equal (sum_at values sum) (term_value values total)
Meets (Arithmetic operation left right result) values = IsArithmetic operation (term_value values left) (term_value values right) (term_value values result)
Meets (IntAbs of result) values = IsIntAbs (term_value values of) (term_value values result)
Meets (Extremum extreme entries result) values = IsExtremum extreme (values_of values entries) (term_value values result)
Meets (Element index entries value) values = IsElement (term_value values index) (values_of values entries) (term_value values value)
Meets (SetIn term set switch) values = IsSwitched (switch_value values switch) (IsInSet (term_value values term) set)
Meets (Gated gate inputs result) values = IsGated gate (values_of values inputs) (term_value values result)
Meets (BoolXor left right result) values = IsBoolXor (term_value values left) (term_value values right) (term_value values result)
Meets (ArrayBoolXor inputs) values = IsArrayBoolXor (values_of values inputs)
Meets (BoolClause positive negative) values = IsBoolClause (values_of values positive) (values_of values negative)
Meets (AllDifferent places) values = IsAllDifferent (values_of values places)
Meets (Table places rows) values = IsTable (values_of values places) rows
Meets (Cumulative starts durations uses capacity) values = IsCumulative (values_of values starts) (values_of values durations) (values_of values uses) (term_value values capacity)
Meets (Circuit successors) values = IsCircuit (values_of values successors)
Meets (Inverse forward backward) values = IsInverse (values_of values forward) (values_of values backward)
Meets (Row row) values = RowHolds row values

-- ---- which constraints a model may have

-- constants within the limits or variables among this many, and not too many of them
abbrev pub AreTerms : ℕ → List Term → Type 0
AreTerms count terms = All (IsTerm count) terms × (length terms ≤ longest)

abbrev pub IsSum : ℕ → List Place → Type 0
IsSum count sum = All (IsPlace count) sum × (length sum ≤ longest)

abbrev pub IsSwitch : ℕ → Option Term → Type 0
IsSwitch count switch = IfSome switch (IsTerm count)

-- terms, lists and numbers are within their limits, and lists have the lengths that the constraint asks for
unfoldable pub IsWellFormedConstraint : ℕ → Constraint → Type 0
IsWellFormedConstraint count (Compare relation left right switch) = IsTerm count left × IsTerm count right × IsSwitch count switch
IsWellFormedConstraint count (BoolNot left right) = IsTerm count left × IsTerm count right
IsWellFormedConstraint count (BoolToInt boolean integer) = IsTerm count boolean × IsTerm count integer
IsWellFormedConstraint count (Linear sum comparison bound switch) = IsSum count sum × IsSmall bound × IsSwitch count switch
IsWellFormedConstraint count (BoolLinEq sum total) = IsSum count sum × IsTerm count total
IsWellFormedConstraint count (Arithmetic operation left right result) = IsTerm count left × IsTerm count right × IsTerm count result
IsWellFormedConstraint count (IntAbs of result) = IsTerm count of × IsTerm count result
IsWellFormedConstraint count (Extremum extreme entries result) = AreTerms count entries × IsTerm count result × (0 < length entries)
IsWellFormedConstraint count (Element index entries value) = IsTerm count index × AreTerms count entries × IsTerm count value
IsWellFormedConstraint count (SetIn term set switch) = IsTerm count term × IsLimited set × IsSwitch count switch
IsWellFormedConstraint count (Gated gate inputs result) = AreTerms count inputs × IsTerm count result
IsWellFormedConstraint count (BoolXor left right result) = IsTerm count left × IsTerm count right × IsTerm count result
IsWellFormedConstraint count (ArrayBoolXor inputs) = AreTerms count inputs
IsWellFormedConstraint count (BoolClause positive negative) = AreTerms count positive × AreTerms count negative
IsWellFormedConstraint count (AllDifferent places) = AreTerms count places
IsWellFormedConstraint count (Table places rows) = AreTerms count places × (0 < length places) × All IsInLimits rows × (length rows ≤ longest) × (length rows % length places ≡ 0)
IsWellFormedConstraint count (Cumulative starts durations uses capacity) = AreTerms count starts × AreTerms count durations × AreTerms count uses × IsTerm count capacity
    × (length durations ≡ length starts) × (length uses ≡ length starts)
IsWellFormedConstraint count (Circuit successors) = AreTerms count successors
IsWellFormedConstraint count (Inverse forward backward) = AreTerms count forward × AreTerms count backward × (length backward ≡ length forward)
IsWellFormedConstraint count (Row row) = IsSeparableRow count row

-- the terms that are Boolean wherever the constraint stands in a file: they have to be 0 or 1 for it to say what its name says
unfoldable pub booleans_of : Constraint → List Term
booleans_of (Compare relation left right switch) = option_to_list switch
booleans_of (BoolNot left right) = left ∷ right ∷ []
booleans_of (BoolToInt boolean integer) = boolean ∷ []
booleans_of (Linear sum comparison bound switch) = option_to_list switch
booleans_of (SetIn term set switch) = option_to_list switch
booleans_of (Gated gate inputs result) = result ∷ inputs
booleans_of (BoolXor left right result) = left ∷ right ∷ result ∷ []
booleans_of (ArrayBoolXor inputs) = inputs
booleans_of (BoolClause positive negative) = positive ++ negative
booleans_of _ = []

abbrev pub IsBit : ℤ → Type 0
IsBit x = (x ≡ pos 0) ⊎ (x ≡ pos 1)

-- the term has no value but 0 and 1
abbrev pub IsBoolean : List IntSet → Term → Type 0
IsBoolean sets (Constant k) = IsBit k
IsBoolean sets (Variable var) = (x : ℤ) → contains (set_of sets var) x ≡ true → IsBit x

-- the Boolean terms have no values but 0 and 1 in these sets
abbrev pub HasBooleanSets : List IntSet → Constraint → Type 0
HasBooleanSets sets constraint = All (IsBoolean sets) (booleans_of constraint)

-- the Boolean terms have the value 0 or 1
abbrev pub HasBooleanValues : List ℤ → Constraint → Type 0
HasBooleanValues values constraint = All (λ term. IsBit (term_value values term)) (booleans_of constraint)
