-- What the names of declarations without faults stand for.
use Rattle.std.proofs.Common.{◌≡◌, ℕ, ◌+◌, ◌-◌, ◌≤◌, Bool, true, false, not, pos, List, [], ◌∷◌, ◌++◌, Option, Some, None, map, flat_map, filter, append_assoc, length, nat_eq, inl, inr, refl, sym, ◌∙◌, subst, arith, length-append}
use Rattle.std.proofs.lemmas.List.{length-map}
use Rattle.std.specs.List.{All}
use Rattle.std.proofs.Math.Seq.{get_or-append_seam}
use Rattle.std.proofs.lemmas.List.Elements.{All-nil, All-cons, All-head, All-tail, All-append}
use Rattle.fzn_domain.specs.IntSet.{IntSet, contains, no_values, range}
use Rattle.fzn_domain.specs.Narrow.{IsVariable, set_of}
use Rattle.fzn_lexer.specs.declared.fault.FaultKind.TheVariants.{SetRefused, DuplicateName, UnknownName, «Type» as WrongType, Length, TooMany, OutputAnnotation}
use Rattle.fzn_meaning.specs.declared.model.Kind.{Kind}
use Rattle.fzn_meaning.specs.declared.model.Kind.TheVariants as k
use Rattle.fzn_values.specs.declared.term.Term.{Term}
use Rattle.fzn_meaning.specs.Meaning.{IsBoolean}
use Rattle.fzn_meaning.specs.Solutions.{declared_sets}
use Rattle.fzn_values.specs.Term.{IsTerm}
use Rattle.fzn_names.specs.Annotations.{is_marked, is_array_mark, is_bad_array_mark, mark_faults}
use Rattle.fzn_names.specs.Outputs.{single_item, array_item, output_items, shown_from}
use Rattle.fzn_meaning.specs.declared.model.OutputItem.{OutputItem}
use Rattle.fzn_meaning.specs.WellFormed.{IsOutputItem}
use Rattle.fzn_domain.specs.declared.literal.VarId.{VarId}
use Rattle.fzn_lexer.specs.declared.token.Position.{Position}
use Rattle.fzn_tree.specs.declared.tree.Ann.{Ann}
use Rattle.fzn_names.specs.Declarations.{declared_var, vars_faults, names_from, names_of, declaration_faults}
use Rattle.fzn_names.specs.Faults.{set_types, wanted_of, added_by_entries, added_by, passes_limit, array_faults, var_faults}
use Rattle.fzn_names.specs.Params.{set_elements, set_values, wanted_by, wrong_values, wrong_lengths, param_faults, kind_by, declared_value, declared_param, params_faults, param_names}
use Rattle.fzn_tree.specs.declared.tree.ArrayVar.{ArrayVar}
use Rattle.fzn_tree.specs.declared.tree.Base.{Base}
use Rattle.fzn_tree.specs.declared.tree.Base.TheVariants as bases
use Rattle.fzn_tree.specs.declared.tree.Literal.{Literal}
use Rattle.fzn_tree.specs.declared.tree.Literal.TheVariants as l
use Rattle.fzn_tree.specs.declared.tree.Param.{Param}
use Rattle.fzn_tree.specs.declared.tree.ParamBase.{ParamBase}
use Rattle.fzn_tree.specs.declared.tree.ParamBase.TheVariants as p
use Rattle.fzn_tree.specs.declared.tree.ParamValue.{ParamValue}
use Rattle.fzn_tree.specs.declared.tree.ParamValue.TheVariants as v
use Rattle.fzn_tree.specs.declared.tree.Size.{Size}
use Rattle.fzn_tree.specs.declared.tree.Var.{Var}
use Rattle.fzn_tree.specs.declared.tree.Var.TheVariants as vars
use Rattle.fzn_registry.specs.declared.signature.Argument.TheVariants.{BooleanConstant}
use Rattle.fzn_names.specs.Types.{repeated, fits, sets_in, unknown_in, wrong_literals, wrong_in}
use Rattle.fzn_names.specs.Limits.{IsLiteralWithin, IsBasicWithin, IsParamValueWithin, IsParamWithin, IsVarWithin, AreDeclarationsWithin}
use Rattle.fzn_names.specs.Positions.{when, at, position_of_literal}
use Rattle.fzn_names.specs.Values.{NameList, literal_value, value_term, entry_terms}
use Rattle.fzn_names.specs.Variables.{kind_of, base_values, vars_of}
use Rattle.fzn_names.specs.declared.names.Declared.{Declared}
use Rattle.fzn_names.specs.declared.names.Declared.TheVariants as d
use Rattle.fzn_names.proofs.CallerLemmas.{left_empty, right_empty, at-empty, bit_in_range, none_limited, IsMeaning, AreMeanings, constants_meaning, array_meaning, literal_meaning, when_not, entry_terms-within, boolean_terms}

-- ---- parameters

literal_boolean : (sets : List IntSet) (literal : Literal) → fits BooleanConstant (literal_value literal) ≡ true → IsBoolean sets (value_term (literal_value literal))
literal_boolean sets (l.Bool true position) e = inr refl
literal_boolean sets (l.Bool false position) e = inl refl
literal_boolean sets (l.Int number) e = cc
literal_boolean sets (l.Range r) e = cc
literal_boolean sets (l.Set position xs) e = cc

abbrev literal_term : Literal → Term
literal_term literal = value_term (literal_value literal)

literals_boolean : (sets : List IntSet) (entries : List Literal) → flat_map (wrong_literals BooleanConstant) entries ≡ [] → All (IsBoolean sets) (map literal_term entries)
literals_boolean sets [] e = All-nil (IsBoolean sets)
literals_boolean sets (x ∷ xs) e =
    All-cons (IsBoolean sets) (literal_term x) (map literal_term xs)
    (literal_boolean sets x (when_not (fits BooleanConstant (literal_value x)) (position_of_literal x) (left_empty (wrong_literals BooleanConstant x) (flat_map (wrong_literals BooleanConstant) xs) e)))
    (literals_boolean sets xs (right_empty (wrong_literals BooleanConstant x) (flat_map (wrong_literals BooleanConstant) xs) e))

literals-within : (sets : List IntSet) (entries : List Literal) → All IsLiteralWithin entries → All (IsTerm (length sets)) (map literal_term entries)
literals-within sets [] within = All-nil (IsTerm (length sets))
literals-within sets (x ∷ xs) within =
    All-cons (IsTerm (length sets)) (literal_term x) (map literal_term xs)
    (literal_meaning sets x (All-head IsLiteralWithin x xs within)).term (literals-within sets xs (All-tail IsLiteralWithin x xs within))

constants_boolean : (sets : List IntSet) (size : Option Size) (base : ParamBase) (position : Position) (entries : List Literal) → wrong_values size (wanted_by base) (v.Array position entries) ≡ []
    → kind_by base ≡ k.Boolean → All (IsBoolean sets) (map literal_term entries)
constants_boolean sets None base position entries e kind = absurd cc
constants_boolean sets (Some size) (p.Bool at) position entries e kind = literals_boolean sets entries e
constants_boolean sets (Some size) (p.Int at) position entries e kind = absurd cc
constants_boolean sets (Some size) (p.Set at) position entries e kind = absurd cc

written_meaning : (sets : List IntSet) (size : Option Size) (base : ParamBase) (value : ParamValue) → IsParamValueWithin value → wrong_values size (wanted_by base) value ≡ [] → IsMeaning sets (declared_value base value)
written_meaning sets size base (v.Literal literal) within e = literal_meaning sets literal within
written_meaning sets size base (v.Array position entries) within e =
    constants_meaning sets (kind_by base) (map literal_term entries) (literals-within sets entries within.0) (rw length-map within.1) (constants_boolean sets size base position entries e)

param_meaning : (sets : List IntSet) (earlier : NameList) (param : Param) → IsParamWithin param → param_faults earlier param ≡ [] → IsMeaning sets (declared_value param.base param.value)
unfolding param_faults
param_meaning sets earlier param within none =
    let sets_are = at SetRefused (set_elements param.size param.base ++ set_values param.value) in
    let names = at DuplicateName (repeated earlier param.name) in
    let wrong = at WrongType (wrong_values param.size (wanted_by param.base) param.value) in
    let lengths = at Length (wrong_lengths param.size param.value) in
    written_meaning sets param.size param.base param.value within
    (at-empty WrongType (wrong_values param.size (wanted_by param.base) param.value) (right_empty (sets_are ++ names) wrong (left_empty (sets_are ++ names ++ wrong) lengths none)))

pub params-meanings : (sets : List IntSet) (earlier : NameList) (params : List Param) → All IsParamWithin params → params_faults earlier params ≡ [] → AreMeanings sets (param_names params)
params-meanings sets earlier [] within none = All-nil (λ entry. IsMeaning sets entry.1)
params-meanings sets earlier (param ∷ more) within none =
    All-cons (λ entry. IsMeaning sets entry.1) (declared_param param) (param_names more)
    (param_meaning sets earlier param (All-head IsParamWithin param more within) (left_empty (param_faults earlier param) (params_faults (earlier ++ declared_param param ∷ []) more) none))
    (params-meanings sets (earlier ++ declared_param param ∷ []) more (All-tail IsParamWithin param more within)
    (right_empty (param_faults earlier param) (params_faults (earlier ++ declared_param param ∷ []) more) none))

-- ---- variables and arrays

set_of-seam : (before after : List IntSet) (s : IntSet) (sets : List IntSet) → sets ≡ before ++ s ∷ after → set_of sets (record { 0 = length before + 1 }) ≡ s
set_of-seam before after s sets e =
    let at : length before + 1 - 1 ≡ length before = omega arith in
    rw (e, at) (get_or-append_seam before s after no_values)

count-seam : (before after : List IntSet) (s : IntSet) (sets : List IntSet) → sets ≡ before ++ s ∷ after → length before + 1 ≤ length sets
count-seam before after s sets e = rw (e, length-append) (omega arith)

variable_meaning : (sets : List IntSet) (kind : Kind) (var : VarId) → IsVariable (length sets) var → (kind ≡ k.Boolean → set_of sets var ≡ range (pos 0) (pos 1)) → IsMeaning sets (d.Variable kind var)
variable_meaning sets k.Integer var within set = record { term = within; terms = All-nil (IsTerm (length sets)); few = omega arith; set = none_limited; boolean = λ e. cc; booleans = λ e. cc }
variable_meaning sets k.Boolean var within set = record {
  term = within;
  terms = All-nil (IsTerm (length sets));
  few = omega arith;
  set = none_limited;
  boolean = λ e x inside. bit_in_range x (subst (λ s. contains s x ≡ true) (set refl) inside);
  booleans = λ e. cc;
}

boolean_values : (base : Base) → kind_of base ≡ k.Boolean → base_values base ≡ range (pos 0) (pos 1)
boolean_values bases.Bool e = refl
boolean_values (bases.Int position) e = absurd cc
boolean_values (bases.Values values) e = absurd cc
boolean_values (bases.Set position values) e = absurd cc

single_meaning : (base : Base) (before after sets : List IntSet) → sets ≡ before ++ base_values base ∷ after → IsMeaning sets (d.Variable (kind_of base) (record { 0 = length before + 1 }))
single_meaning base before after sets e =
    variable_meaning sets (kind_of base) (record { 0 = length before + 1 }) (omega arith, count-seam before after (base_values base) sets e)
    (λ kind. set_of-seam before after (base_values base) sets e ∙ boolean_values base kind)

wrong_entries : (earlier : NameList) (before : ℕ) (var : ArrayVar) → array_faults earlier before var ≡ [] → flat_map (wrong_in earlier (wanted_of (kind_of var.base))) var.array.entries ≡ []
unfolding array_faults
wrong_entries earlier before var none =
    let refused = at SetRefused (set_types var.base ++ flat_map (sets_in earlier) var.array.entries) in
    let names = at DuplicateName (repeated earlier var.name) in
    let unknown = at UnknownName (flat_map (unknown_in earlier) var.array.entries) in
    let wrong = at WrongType (flat_map (wrong_in earlier (wanted_of (kind_of var.base))) var.array.entries) in
    let lengths = at Length (when (not (nat_eq (length var.array.entries) var.size.count)) var.array.position) in
    let many = at TooMany (when (passes_limit before (added_by_entries var.base var.array.entries)) var.name.position) in
    let marks = at OutputAnnotation (mark_faults (is_bad_array_mark (length var.array.entries)) var.anns) in
    let upto = refused ++ names ++ unknown in
    at-empty WrongType (flat_map (wrong_in earlier (wanted_of (kind_of var.base))) var.array.entries)
    (right_empty upto wrong (left_empty (upto ++ wrong) lengths (left_empty (upto ++ wrong ++ lengths) many (left_empty (upto ++ wrong ++ lengths ++ many) marks none))))

entries_meaning : (sets : List IntSet) (earlier : NameList) (before : ℕ) (var : ArrayVar) → AreMeanings sets earlier → IsVarWithin (vars.Array var) → array_faults earlier before var ≡ []
    → IsMeaning sets (d.Array (kind_of var.base) (entry_terms earlier var.array.entries))
entries_meaning sets earlier before var known within none =
    array_meaning sets (kind_of var.base) (entry_terms earlier var.array.entries) (entry_terms-within sets earlier known var.array.entries within.1.0) (rw length-map within.1.1)
    (λ kind. boolean_terms sets earlier known var.array.entries within.1.0
    (subst (λ kind. flat_map (wrong_in earlier (wanted_of kind)) var.array.entries ≡ []) kind (wrong_entries earlier before var none)))

All-more : (sets : List IntSet) (names : NameList) (name : List ℕ) (value : Declared) → AreMeanings sets names → IsMeaning sets value → AreMeanings sets (names ++ (name, value) ∷ [])
All-more sets names name value known here =
    All-append (λ entry. IsMeaning sets entry.1) names ((name, value) ∷ []) known (All-cons (λ entry. IsMeaning sets entry.1) (name, value) [] here (All-nil (λ entry. IsMeaning sets entry.1)))

names_from-meanings : (all : List Var) (earlier : NameList) (number stated : ℕ) (before sets : List IntSet) → AreMeanings sets earlier → All IsVarWithin all → vars_faults earlier number stated all ≡ []
    → number ≡ length before + 1 → sets ≡ before ++ declared_sets (vars_of all) → AreMeanings sets (names_from earlier number all)
names_from-meanings [] earlier number stated before sets known within none n e = known
names_from-meanings (vars.Single var ∷ more) earlier number stated before sets known within none n e =
    let here : IsMeaning sets (d.Variable (kind_of var.base) (record { 0 = number })) = rw n (single_meaning var.base before (declared_sets (vars_of more)) sets e) in
    let rest = right_empty (var_faults earlier stated (vars.Single var)) (vars_faults (earlier ++ declared_var earlier number (vars.Single var) ∷ []) (number + 1) (stated + added_by (vars.Single var)) more) none in
    let longer : number + 1 ≡ length (before ++ base_values var.base ∷ []) + 1 = rw (length-append, n) (omega arith) in
    names_from-meanings more (earlier ++ declared_var earlier number (vars.Single var) ∷ []) (number + 1) (stated + added_by (vars.Single var)) (before ++ base_values var.base ∷ []) sets
    (All-more sets earlier var.name.text (d.Variable (kind_of var.base) (record { 0 = number })) known here) (All-tail IsVarWithin (vars.Single var) more within) rest longer
    (e ∙ sym (append_assoc before (base_values var.base ∷ []) (declared_sets (vars_of more))))
names_from-meanings (vars.Array var ∷ more) earlier number stated before sets known within none n e =
    let here = entries_meaning sets earlier stated var known (All-head IsVarWithin (vars.Array var) more within)
    (left_empty (array_faults earlier stated var) (vars_faults (earlier ++ declared_var earlier number (vars.Array var) ∷ []) number (stated + added_by (vars.Array var)) more) none) in
    let rest = right_empty (array_faults earlier stated var) (vars_faults (earlier ++ declared_var earlier number (vars.Array var) ∷ []) number (stated + added_by (vars.Array var)) more) none in
    names_from-meanings more (earlier ++ declared_var earlier number (vars.Array var) ∷ []) number (stated + added_by (vars.Array var)) before sets
    (All-more sets earlier var.name.text (d.Array (kind_of var.base) (entry_terms earlier var.array.entries)) known here) (All-tail IsVarWithin (vars.Array var) more within) rest n e

-- what the names of declarations without faults stand for
pub names-meanings : (params : List Param) (all : List Var) (stated : ℕ) → AreDeclarationsWithin params all → declaration_faults params all stated ≡ [] → AreMeanings (declared_sets (vars_of all)) (names_of params all)
names-meanings params all stated within none =
    names_from-meanings all (param_names params) 1 stated [] (declared_sets (vars_of all))
    (params-meanings (declared_sets (vars_of all)) [] params within.params (left_empty (params_faults [] params) (vars_faults (param_names params) 1 stated all) none))
    within.vars (right_empty (params_faults [] params) (vars_faults (param_names params) 1 stated all) none) refl refl

-- ---- what is printed

item-within : (sets : List IntSet) (names : NameList) (known : AreMeanings sets names) (var : ArrayVar) (anns : List Ann) → All IsBasicWithin var.array.entries → All (IsOutputItem (length sets)) (map (array_item names var) anns)
item-within sets names known var [] within = All-nil (IsOutputItem (length sets))
item-within sets names known var (ann ∷ anns) within =
    All-cons (IsOutputItem (length sets)) (array_item names var ann) (map (array_item names var) anns) (entry_terms-within sets names known var.array.entries within) (item-within sets names known var anns within)

when-within : (count : ℕ) (test : Bool) (item : OutputItem) → IsOutputItem count item → All (IsOutputItem count) (when test item)
when-within count true item h = All-cons (IsOutputItem count) item [] h (All-nil (IsOutputItem count))
when-within count false item h = All-nil (IsOutputItem count)

pub shown-within : (sets : List IntSet) (names : NameList) (known : AreMeanings sets names) (all : List Var) (number : ℕ) → All IsVarWithin all → 1 ≤ number → number + length (vars_of all) ≤ length sets + 1
    → All (IsOutputItem (length sets)) (shown_from names number all)
shown-within sets names known [] number within low few = All-nil (IsOutputItem (length sets))
shown-within sets names known (vars.Single var ∷ more) number within low few =
    All-append (IsOutputItem (length sets)) (output_items names number (vars.Single var)) (shown_from names (number + 1) more)
    (when-within (length sets) (is_marked var.anns) (single_item number var) (low, omega arith))
    (shown-within sets names known more (number + 1) (All-tail IsVarWithin (vars.Single var) more within) (omega arith) (omega arith))
shown-within sets names known (vars.Array var ∷ more) number within low few =
    All-append (IsOutputItem (length sets)) (output_items names number (vars.Array var)) (shown_from names number more)
    (item-within sets names known var (filter (is_array_mark (length var.array.entries)) var.anns) (All-head IsVarWithin (vars.Array var) more within).1.0)
    (shown-within sets names known more number (All-tail IsVarWithin (vars.Array var) more within) low few)
