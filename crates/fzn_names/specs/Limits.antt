-- What the reader of a file has made sure of declarations: numbers are within their limits, and lists are not too long.
use Rattle.std.specs.Prelude.{◌≤◌, List, length, Option, Some, None}
use Rattle.std.specs.List.{All}
use Rattle.fzn_domain.specs.Limits.{IsInLimits}
use Rattle.fzn_meaning.specs.Meaning.{longest}
use Rattle.fzn_tree.specs.declared.tree.Base.{Base}
use Rattle.fzn_tree.specs.declared.tree.Base.TheVariants as bases
use Rattle.fzn_tree.specs.declared.tree.Basic.{Basic}
use Rattle.fzn_tree.specs.declared.tree.Basic.TheVariants as basics
use Rattle.fzn_tree.specs.declared.tree.Literal.{Literal}
use Rattle.fzn_tree.specs.declared.tree.Literal.TheVariants as l
use Rattle.fzn_tree.specs.declared.tree.Param.{Param}
use Rattle.fzn_tree.specs.declared.tree.ParamValue.{ParamValue}
use Rattle.fzn_tree.specs.declared.tree.ParamValue.TheVariants as v
use Rattle.fzn_tree.specs.declared.tree.Range.{Range}
use Rattle.fzn_tree.specs.declared.tree.Values.{Values}
use Rattle.fzn_tree.specs.declared.tree.Values.TheVariants as values_are
use Rattle.fzn_tree.specs.declared.tree.Var.{Var}
use Rattle.fzn_tree.specs.declared.tree.Var.TheVariants as vars
use Rattle.fzn_names.specs.Variables.{vars_of}

-- the bounds of a range
abbrev pub IsRangeWithin : Range → Type 0
IsRangeWithin r = IsInLimits r.low.value × IsInLimits r.high

abbrev pub IsLiteralWithin : Literal → Type 0
IsLiteralWithin (l.Bool value position) = Unit {0}
IsLiteralWithin (l.Int number) = IsInLimits number.value
IsLiteralWithin (l.Range r) = IsRangeWithin r
IsLiteralWithin (l.Set position values) = All IsInLimits values

abbrev pub AreValuesWithin : Values → Type 0
AreValuesWithin (values_are.Range r) = IsRangeWithin r
AreValuesWithin (values_are.Listed values) = All IsInLimits values

abbrev pub IsBaseWithin : Base → Type 0
IsBaseWithin (bases.Values values) = AreValuesWithin values
IsBaseWithin _ = Unit {0}

abbrev pub IsBasicWithin : Basic → Type 0
IsBasicWithin (basics.Literal literal) = IsLiteralWithin literal
IsBasicWithin (basics.Name name) = Unit {0}

abbrev pub IsValueWithin : Option Basic → Type 0
IsValueWithin None = Unit {0}
IsValueWithin (Some basic) = IsBasicWithin basic

abbrev pub AreEntriesWithin : List Basic → Type 0
AreEntriesWithin entries = All IsBasicWithin entries × (length entries ≤ longest)

abbrev pub IsParamValueWithin : ParamValue → Type 0
IsParamValueWithin (v.Literal literal) = IsLiteralWithin literal
IsParamValueWithin (v.Array position entries) = All IsLiteralWithin entries × (length entries ≤ longest)

abbrev pub IsParamWithin : Param → Type 0
IsParamWithin param = IsParamValueWithin param.value

abbrev pub IsVarWithin : Var → Type 0
IsVarWithin (vars.Single var) = IsBaseWithin var.base × IsValueWithin var.value
IsVarWithin (vars.Array var) = IsBaseWithin var.base × AreEntriesWithin var.array.entries

pub record AreDeclarationsWithin (all_params : List Param) (all_vars : List Var) : Type 0 where
  pub params : All IsParamWithin all_params
  pub vars : All IsVarWithin all_vars
  pub few_vars : length (vars_of all_vars) ≤ longest
