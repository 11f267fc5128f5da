-- The model of a tree without faults is well formed.
use Rattle.std.proofs.Common.{◌≡◌, ℕ, ◌+◌, ◌≤◌, Bool, true, false, not, List, [], ◌∷◌, ◌++◌, Option, Some, None, map, flat_map, option_map, length, nat_eq, refl, ap, subst, arith, bytes_eq, length-append}
use Rattle.std.specs.List.{All, list_any}
use Rattle.std.proofs.lemmas.List.{length-map}
use Rattle.std.proofs.lemmas.List.Elements.{All-nil, All-cons, All-head, All-tail, All-append}
use Rattle.fzn_domain.specs.declared.literal.VarId.{VarId}
use Rattle.fzn_domain.specs.IntSet.{IntSet}
use Rattle.fzn_domain.specs.Narrow.{IsVariable}
use Rattle.fzn_lexer.specs.declared.fault.FaultKind.TheVariants.{SetRefused, UnknownName, Arity, «Type» as WrongType, Length, Argument}
use Rattle.fzn_meaning.specs.declared.constraint.Constraint.{Constraint}
use Rattle.fzn_meaning.specs.declared.constraint.Constraint.TheVariants.{SetIn}
use Rattle.fzn_meaning.specs.declared.model.Goal.{Goal}
use Rattle.fzn_meaning.specs.declared.model.Goal.TheVariants.{Satisfy, Minimize, Maximize}
use Rattle.fzn_meaning.specs.declared.model.Kind.{Kind}
use Rattle.fzn_meaning.specs.declared.model.Kind.TheVariants as kinds
use Rattle.fzn_meaning.specs.declared.relation.Relation.TheVariants as r
use Rattle.fzn_meaning.specs.Meaning.{HasBooleanSets, IsBoolean, booleans_of, longest, IsWellFormedConstraint}
use Rattle.fzn_meaning.specs.WellFormed.{IsGoal}
use Rattle.fzn_names.specs.Declarations.{added_by_value, added_by_entries, added_by, var_faults, declared_var, number_after, vars_faults}
use Rattle.fzn_names.specs.Limits.{IsBasicWithin, IsValueWithin, IsBaseWithin, IsVarWithin}
use Rattle.fzn_names.specs.Positions.{first, when, at}
use Rattle.fzn_names.specs.Values.{NameList, basic_meaning, term_of}
use Rattle.fzn_names.specs.Variables.{kind_of, values_in}
use Rattle.fzn_names.specs.declared.names.Declared.{Declared}
use Rattle.fzn_names.specs.declared.names.Declared.TheVariants as d
use Rattle.fzn_names.proofs.FirstLemmas.{left_empty, right_empty, at-empty}
use Rattle.fzn_names.proofs.MeaningLemmas.{IsMeaning, AreMeanings, lookup-meaning, when_not, term_of-within}
use Rattle.fzn_names.proofs.ValueSetLemmas.{values_in-limited}
use Rattle.fzn_names.proofs.StepLemmas.{var_room}
use Rattle.fzn_tree.specs.declared.tree.Arg.{Arg}
use Rattle.fzn_tree.specs.declared.tree.Arg.TheVariants as args
use Rattle.fzn_tree.specs.declared.tree.Base.{Base}
use Rattle.fzn_tree.specs.declared.tree.Base.TheVariants as bases
use Rattle.fzn_tree.specs.declared.tree.Basic.{Basic}
use Rattle.fzn_tree.specs.declared.tree.Basic.TheVariants as basics
use Rattle.fzn_tree.specs.declared.tree.Con.{Con}
use Rattle.fzn_tree.specs.declared.tree.Goal.{Goal as Wanted}
use Rattle.fzn_tree.specs.declared.tree.Goal.TheVariants as goals
use Rattle.fzn_tree.specs.declared.tree.Literal.TheVariants as l
use Rattle.fzn_tree.specs.declared.tree.SingleVar.{SingleVar}
use Rattle.fzn_tree.specs.declared.tree.Values.{Values}
use Rattle.fzn_tree.specs.declared.tree.Var.{Var}
use Rattle.fzn_tree.specs.declared.tree.Var.TheVariants as vars
use Rattle.fzn_registry.specs.declared.name.Name.{Name}
use Rattle.fzn_registry.specs.Registry.{name_spelled, arguments_of, lengths_of, non_negative_of}
use Rattle.fzn_typing.specs.Arguments.{set_entries, unknown_names, wrong_arguments, has_lengths, has_negative}
use Rattle.fzn_typing.specs.Constraints.{constraint_for}
use Rattle.fzn_typing.specs.Faults.{named_faults, constraint_faults, integer_variable, objective_of}
use Rattle.fzn_typing.specs.Limits.{IsArgWithin, IsConWithin}
use Rattle.fzn_typing.specs.Models.{named, stated, equality, equalities, element_domains, written, goal_of}
use Rattle.fzn_typing.proofs.MadeLemmas.{compared, made_right}

when_false : {A : Type 0} (test : Bool) (x : A) → when test x ≡ [] → test ≡ false
when_false true x e = cc
when_false false x e = refl

-- ---- lengths

length-named : (names : NameList) (given : List Arg) (found : Option Name) → length (named names given found) ≤ 1
length-named names given None = omega arith
length-named names given (Some name) = omega arith

pub length-stated : (names : NameList) (cons : List Con) → length (flat_map (stated names) cons) ≤ length cons
length-stated names [] = omega arith
length-stated names (con ∷ cons) =
    let here = length-named names con.args (name_spelled con.name.text) in
    let rest = length-stated names cons in
    rw length-append (omega (arith, here, rest))

length-equalities : (names : NameList) (var : SingleVar) (value : Option Basic) → length (equalities names var value) ≡ added_by_value value
length-equalities names var None = refl
length-equalities names var (Some value) = refl

length-domains : (names : NameList) (base : Base) (entries : List Basic) → length (element_domains names base entries) ≡ added_by_entries base entries
length-domains names bases.Bool entries = refl
length-domains names (bases.Int position) entries = refl
length-domains names (bases.Values values) entries = length-map entries (λ entry. SetIn (term_of names entry) (values_in values) None)
length-domains names (bases.Set position values) entries = refl

length-written : (names : NameList) (var : Var) → length (written names var) ≡ added_by var
length-written names (vars.Single var) = length-equalities names var var.value
length-written names (vars.Array var) = length-domains names var.base var.array.entries

-- declarations without faults leave the constraints within their limit
pub few_written : (names : NameList) (all : List Var) (earlier : NameList) (number before : ℕ) → before ≤ longest → vars_faults earlier number before all ≡ [] → before + length (flat_map (written names) all) ≤ longest
few_written names [] earlier number before room none = omega (arith, room)
few_written names (var ∷ more) earlier number before room none =
    let next = earlier ++ declared_var earlier number var ∷ [] in
    let here = left_empty (var_faults earlier before var) (vars_faults next (number_after number var) (before + added_by var) more) none in
    let behind = right_empty (var_faults earlier before var) (vars_faults next (number_after number var) (before + added_by var) more) none in
    let rest = few_written names more next (number_after number var) (before + added_by var) (var_room earlier before var (ap first here) room) behind in
    let same = length-written names var in
    rw length-append (omega (arith, rest, same))

-- ---- constraints

module _ (sets : List IntSet) (names : NameList) (known : AreMeanings sets names) where
  abbrev pub IsGood : Constraint → Type 0
  IsGood made = IsWellFormedConstraint (length sets) made × HasBooleanSets sets made

  named_good : (con : Con) (found : Option Name) → All IsArgWithin con.args → named_faults names con found ≡ [] → All IsGood (named names con.args found)
  named_good con None within right = All-nil IsGood
  named_good con (Some name) within right =
      let arity = at Arity (when (not (nat_eq (length con.args) (length (arguments_of name)))) con.name.position) in
      let wrong = at WrongType (wrong_arguments names (arguments_of name) con.args) in
      let lengths = at Length (when (not (has_lengths names (lengths_of name) con.args)) con.name.position) in
      let signs = at Argument (when (list_any (has_negative names con.args) (non_negative_of name)) con.name.position) in
      let values = right_empty (arity ++ wrong) (lengths ++ signs) right in
      let types = at-empty WrongType (wrong_arguments names (arguments_of name) con.args) (right_empty arity wrong (left_empty (arity ++ wrong) (lengths ++ signs) right)) in
      let fit = when_not (has_lengths names (lengths_of name) con.args) con.name.position
      (at-empty Length (when (not (has_lengths names (lengths_of name) con.args)) con.name.position) (left_empty lengths signs values)) in
      let above = when_false (list_any (has_negative names con.args) (non_negative_of name)) con.name.position
      (at-empty Argument (when (list_any (has_negative names con.args) (non_negative_of name)) con.name.position) (right_empty lengths signs values)) in
      All-cons IsGood (constraint_for names con.args name) [] (made_right sets names known con.args within name types fit above) (All-nil IsGood)

  stated_good : (con : Con) → All IsArgWithin con.args → constraint_faults names con ≡ [] → All IsGood (stated names con)
  unfolding constraint_faults
  stated_good con within right =
      named_good con (name_spelled con.name.text) within
      (right_empty (at SetRefused (flat_map (set_entries names) con.args) ++ at UnknownName (flat_map (unknown_names names) con.args)) (named_faults names con (name_spelled con.name.text)) right)

  pub all_stated : (cons : List Con) → All IsConWithin cons → flat_map (constraint_faults names) cons ≡ [] → All IsGood (flat_map (stated names) cons)
  all_stated [] within right = All-nil IsGood
  all_stated (con ∷ cons) within right =
      All-append IsGood (stated names con) (flat_map (stated names) cons)
      (stated_good con (All-head IsConWithin con cons within) (left_empty (constraint_faults names con) (flat_map (constraint_faults names) cons) right))
      (all_stated cons (All-tail IsConWithin con cons within) (right_empty (constraint_faults names con) (flat_map (constraint_faults names) cons) right))

  equality_good : (kind : Kind) (given : List Arg) → All IsArgWithin given → IsGood (constraint_for names given (equality kind))
  unfolding constraint_for
  equality_good kinds.Integer given within = compared sets names known given within r.Equal
  equality_good kinds.Boolean given within = compared sets names known given within r.Equal

  equalities_good : (var : SingleVar) (value : Option Basic) → IsValueWithin value → All IsGood (equalities names var value)
  equalities_good var None within = All-nil IsGood
  equalities_good var (Some value) within =
      let given = args.Basic (basics.Name var.name) ∷ args.Basic value ∷ [] in
      All-cons IsGood (constraint_for names given (equality (kind_of var.base))) []
      (equality_good (kind_of var.base) given (All-cons IsArgWithin (args.Basic (basics.Name var.name)) (args.Basic value ∷ []) tt (All-cons IsArgWithin (args.Basic value) [] within (All-nil IsArgWithin))))
      (All-nil IsGood)

  domain_good : (values : Values) (entry : Basic) → IsBaseWithin (bases.Values values) → IsBasicWithin entry → IsGood (SetIn (term_of names entry) (values_in values) None)
  unfolding IsWellFormedConstraint booleans_of
  domain_good values entry base within = ((term_of-within sets names known entry within, values_in-limited values base, tt), All-nil (IsBoolean sets))

  domains_good : (values : Values) (entries : List Basic) → IsBaseWithin (bases.Values values) → All IsBasicWithin entries → All IsGood (map (λ entry. SetIn (term_of names entry) (values_in values) None) entries)
  domains_good values [] base within = All-nil IsGood
  domains_good values (entry ∷ entries) base within =
      All-cons IsGood (SetIn (term_of names entry) (values_in values) None) (map (λ entry. SetIn (term_of names entry) (values_in values) None) entries)
      (domain_good values entry base (All-head IsBasicWithin entry entries within)) (domains_good values entries base (All-tail IsBasicWithin entry entries within))

  element_domains_good : (base : Base) (entries : List Basic) → IsBaseWithin base → All IsBasicWithin entries → All IsGood (element_domains names base entries)
  element_domains_good bases.Bool entries base within = All-nil IsGood
  element_domains_good (bases.Int position) entries base within = All-nil IsGood
  element_domains_good (bases.Values values) entries base within = domains_good values entries base within
  element_domains_good (bases.Set position values) entries base within = All-nil IsGood

  written_good : (var : Var) → IsVarWithin var → All IsGood (written names var)
  written_good (vars.Single var) within = equalities_good var var.value within.1
  written_good (vars.Array var) within = element_domains_good var.base var.array.entries within.0 within.1.0

  pub all_written : (all : List Var) → All IsVarWithin all → All IsGood (flat_map (written names) all)
  all_written [] within = All-nil IsGood
  all_written (var ∷ more) within =
      All-append IsGood (written names var) (flat_map (written names) more)
      (written_good var (All-head IsVarWithin var more within)) (all_written more (All-tail IsVarWithin var more within))

  -- ---- the goal

  integer_within : (found : Option Declared) (var : VarId) → ((value : Declared) → found ≡ Some value → IsMeaning sets value) → integer_variable found ≡ Some var → IsVariable (length sets) var
  integer_within None var h e = cc
  integer_within (Some (d.Variable kinds.Integer v)) var h e = let same : v ≡ var = cc in subst (IsVariable (length sets)) same (h (d.Variable kinds.Integer v) refl).term
  integer_within (Some (d.Variable kinds.Boolean v)) var h e = cc
  integer_within (Some (d.Constant kind x)) var h e = cc
  integer_within (Some (d.Set set)) var h e = cc
  integer_within (Some (d.Constants kind xs)) var h e = cc
  integer_within (Some (d.Array kind xs)) var h e = cc

  objective-within : (basic : Basic) (var : VarId) → objective_of names basic ≡ Some var → IsVariable (length sets) var
  objective-within (basics.Literal (l.Bool true position)) var e = cc
  objective-within (basics.Literal (l.Bool false position)) var e = cc
  objective-within (basics.Literal (l.Int number)) var e = cc
  objective-within (basics.Literal (l.Range range)) var e = cc
  objective-within (basics.Literal (l.Set position values)) var e = cc
  objective-within (basics.Name name) var e = integer_within (basic_meaning names (basics.Name name)) var (λ value found. lookup-meaning sets (bytes_eq name.text) names value known found) e

  minimized : (found : Option VarId) (goal : Goal) → ((var : VarId) → found ≡ Some var → IsVariable (length sets) var) → option_map Minimize found ≡ Some goal → IsGoal (length sets) goal
  minimized None goal h e = cc
  minimized (Some var) goal h e = let same : Minimize var ≡ goal = cc in subst (IsGoal (length sets)) same (h var refl)

  maximized : (found : Option VarId) (goal : Goal) → ((var : VarId) → found ≡ Some var → IsVariable (length sets) var) → option_map Maximize found ≡ Some goal → IsGoal (length sets) goal
  maximized None goal h e = cc
  maximized (Some var) goal h e = let same : Maximize var ≡ goal = cc in subst (IsGoal (length sets)) same (h var refl)

  pub goal-within : (wanted : Wanted) (goal : Goal) → goal_of names wanted ≡ Some goal → IsGoal (length sets) goal
  goal-within goals.Satisfy goal e = let same : Satisfy ≡ goal = cc in subst (IsGoal (length sets)) same tt
  goal-within (goals.Minimize basic) goal e = minimized (objective_of names basic) goal (objective-within basic) e
  goal-within (goals.Maximize basic) goal e = maximized (objective_of names basic) goal (objective-within basic) e
