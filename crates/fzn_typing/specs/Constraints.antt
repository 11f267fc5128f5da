-- The constraint that each name states of its arguments.
use Rattle.std.specs.Prelude.{ℕ, List, [], ◌∷◌, Option, Some, None}
use Rattle.fzn_meaning.specs.declared.arithmetic.Operation.TheVariants.{Plus, Times, Quotient, Remainder}
use Rattle.fzn_meaning.specs.declared.boolean.Gate.TheVariants.{And, Or}
use Rattle.fzn_meaning.specs.declared.constraint.Constraint.{Constraint}
use Rattle.fzn_meaning.specs.declared.constraint.Constraint.TheVariants.{Compare, BoolNot, BoolToInt, Linear, BoolLinEq, Arithmetic, IntAbs, Extremum, Element, SetIn, Gated, BoolXor, ArrayBoolXor, BoolClause, AllDifferent, Table, Cumulative, Circuit, Inverse}
use Rattle.fzn_meaning.specs.declared.extremum.Extreme.TheVariants.{Least, Greatest}
use Rattle.fzn_meaning.specs.declared.relation.Comparison.TheVariants as c
use Rattle.fzn_meaning.specs.declared.relation.Relation.TheVariants as r
use Rattle.fzn_values.specs.declared.term.Term.{Term}
use Rattle.fzn_values.specs.declared.term.Place.{Place as Product}
use Rattle.fzn_names.specs.Values.{NameList}
use Rattle.fzn_tree.specs.declared.tree.Arg.{Arg}
use Rattle.fzn_registry.specs.declared.name.Name.{Name}
use Rattle.fzn_registry.specs.declared.name.Name.TheVariants as n
use Rattle.fzn_values.specs.Term.{weighted}
use Rattle.fzn_typing.specs.Arguments.{argument_term, terms_at, set_at, number_given, numbers_at}

module _ (names : NameList) (given : List Arg) where
  abbrev pub term : ℕ → Term
  term i = argument_term names given i

  abbrev pub list : ℕ → List Term
  list i = terms_at names given i

  -- the sum of the products of the lists 0 and 1
  abbrev pub sum : List Product
  sum = weighted (list 0) (list 1)

  -- a form without a switch, or with the Boolean argument at this place
  abbrev pub by : ℕ → Option Term
  by i = Some (term i)

  unfoldable pub constraint_for : Name → Constraint
  constraint_for n.IntEq = Compare r.Equal (term 0) (term 1) None
  constraint_for n.IntNe = Compare r.NotEqual (term 0) (term 1) None
  constraint_for n.IntLe = Compare r.AtMost (term 0) (term 1) None
  constraint_for n.IntLt = Compare r.Below (term 0) (term 1) None
  constraint_for n.IntLinEq = Linear sum c.Equal (number_given names given 2) None
  constraint_for n.IntLinLe = Linear sum c.AtMost (number_given names given 2) None
  constraint_for n.IntLinNe = Linear sum c.NotEqual (number_given names given 2) None
  constraint_for n.IntPlus = Arithmetic Plus (term 0) (term 1) (term 2)
  constraint_for n.IntTimes = Arithmetic Times (term 0) (term 1) (term 2)
  constraint_for n.IntDiv = Arithmetic Quotient (term 0) (term 1) (term 2)
  constraint_for n.IntMod = Arithmetic Remainder (term 0) (term 1) (term 2)
  constraint_for n.IntMin = Extremum Least (term 0 ∷ term 1 ∷ []) (term 2)
  constraint_for n.IntMax = Extremum Greatest (term 0 ∷ term 1 ∷ []) (term 2)
  constraint_for n.IntAbs = IntAbs (term 0) (term 1)
  constraint_for n.ArrayIntMaximum = Extremum Greatest (list 1) (term 0)
  constraint_for n.ArrayIntMinimum = Extremum Least (list 1) (term 0)
  constraint_for n.ArrayIntElement = Element (term 0) (list 1) (term 2)
  constraint_for n.ArrayVarIntElement = Element (term 0) (list 1) (term 2)
  constraint_for n.ArrayBoolElement = Element (term 0) (list 1) (term 2)
  constraint_for n.ArrayVarBoolElement = Element (term 0) (list 1) (term 2)
  constraint_for n.SetIn = SetIn (term 0) (set_at names given 1) None
  constraint_for n.BoolEq = Compare r.Equal (term 0) (term 1) None
  constraint_for n.BoolLe = Compare r.AtMost (term 0) (term 1) None
  constraint_for n.BoolLt = Compare r.Below (term 0) (term 1) None
  constraint_for n.BoolNot = BoolNot (term 0) (term 1)
  constraint_for n.BoolAnd = Gated And (term 0 ∷ term 1 ∷ []) (term 2)
  constraint_for n.BoolOr = Gated Or (term 0 ∷ term 1 ∷ []) (term 2)
  constraint_for n.BoolXor = BoolXor (term 0) (term 1) (term 2)
  constraint_for n.ArrayBoolAnd = Gated And (list 0) (term 1)
  constraint_for n.ArrayBoolOr = Gated Or (list 0) (term 1)
  constraint_for n.ArrayBoolXor = ArrayBoolXor (list 0)
  constraint_for n.BoolClause = BoolClause (list 0) (list 1)
  constraint_for n.Bool2Int = BoolToInt (term 0) (term 1)
  constraint_for n.BoolLinEq = BoolLinEq sum (term 2)
  constraint_for n.BoolLinLe = Linear sum c.AtMost (number_given names given 2) None
  constraint_for n.FznAllDifferentInt = AllDifferent (list 0)
  constraint_for n.FznTableInt = Table (list 0) (numbers_at names given 1)
  constraint_for n.FznCumulative = Cumulative (list 0) (list 1) (list 2) (term 3)
  constraint_for n.FznCircuit = Circuit (list 0)
  constraint_for n.FznInverse = Inverse (list 0) (list 1)
  constraint_for n.IntEqReif = Compare r.Equal (term 0) (term 1) (by 2)
  constraint_for n.IntNeReif = Compare r.NotEqual (term 0) (term 1) (by 2)
  constraint_for n.IntLeReif = Compare r.AtMost (term 0) (term 1) (by 2)
  constraint_for n.IntLtReif = Compare r.Below (term 0) (term 1) (by 2)
  constraint_for n.IntLinEqReif = Linear sum c.Equal (number_given names given 2) (by 3)
  constraint_for n.IntLinLeReif = Linear sum c.AtMost (number_given names given 2) (by 3)
  constraint_for n.IntLinNeReif = Linear sum c.NotEqual (number_given names given 2) (by 3)
  constraint_for n.SetInReif = SetIn (term 0) (set_at names given 1) (by 2)
  constraint_for n.BoolEqReif = Compare r.Equal (term 0) (term 1) (by 2)
  constraint_for n.BoolLeReif = Compare r.AtMost (term 0) (term 1) (by 2)
  constraint_for n.BoolLtReif = Compare r.Below (term 0) (term 1) (by 2)
