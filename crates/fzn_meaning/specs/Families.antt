-- The families of constraints: each is decided in a file of its own.
use Rattle.fzn_meaning.specs.declared.constraint.Constraint.{Constraint}
use Rattle.fzn_meaning.specs.declared.constraint.Constraint.TheVariants.{Compare, Linear, BoolLinEq, Arithmetic, IntAbs, Extremum, Element, SetIn, AllDifferent, Table, Cumulative, Circuit, Inverse, Row}

pub data Family : Type 0 where
  compared : Family
  computed : Family
  boolean : Family
  global : Family
  separable : Family

abbrev pub family_of : Constraint → Family
family_of (Compare relation left right switch) = compared
family_of (Linear sum comparison bound switch) = compared
family_of (BoolLinEq sum total) = compared
family_of (SetIn term set switch) = compared
family_of (Arithmetic operation left right result) = computed
family_of (IntAbs of result) = computed
family_of (Extremum extreme entries result) = computed
family_of (Element index entries value) = computed
family_of (AllDifferent places) = global
family_of (Table places rows) = global
family_of (Cumulative starts durations uses capacity) = global
family_of (Circuit successors) = global
family_of (Inverse forward backward) = global
family_of (Row row) = separable
family_of _ = boolean
