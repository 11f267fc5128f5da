-- One declaration after another.
use Rattle.std.proofs.Common.{◌≡◌, ℕ, ◌+◌, ◌-◌, ◌≤◌, Bool, true, false, not, List, [], ◌∷◌, ◌++◌, Option, Some, None, is_some, flat_map, nat_eq, length, get_or, take, drop, refl, sym, arith, append_assoc}
use Rattle.std.proofs.lemmas.List.{take_rest}
use Rattle.fzn_lexer.specs.declared.fault.Fault.{Fault}
use Rattle.fzn_lexer.specs.declared.fault.FaultKind.TheVariants.{SetRefused, UnboundedInt, DuplicateName, UnknownName, «Type» as WrongType, Length, TooMany, OutputAnnotation}
use Rattle.fzn_meaning.specs.Meaning.{longest}
use Rattle.fzn_names.specs.Annotations.{is_bad_mark, is_bad_array_mark, mark_faults}
use Rattle.fzn_names.specs.Declarations.{declared_name, var_value, declared_var, number_after, vars_faults, names_from}
use Rattle.fzn_names.specs.Faults.{set_types, unbounded_types, wanted_of, unknown_values, wrong_written, added_by_value, added_by_entries, added_by, passes_limit, single_faults, array_faults, var_faults}
use Rattle.fzn_names.specs.Params.{set_elements, set_values, wanted_by, wrong_values, wrong_lengths, param_faults, declared_value, declared_param, params_faults, param_names}
use Rattle.fzn_meaning.specs.declared.model.OutputItem.{OutputItem}
use Rattle.fzn_names.specs.Outputs.{output_items, shown_from}
use Rattle.fzn_tree.specs.declared.tree.ArrayVar.{ArrayVar}
use Rattle.fzn_tree.specs.declared.tree.Name.{Name}
use Rattle.fzn_tree.specs.declared.tree.Param.{Param}
use Rattle.fzn_tree.specs.declared.tree.SingleVar.{SingleVar}
use Rattle.fzn_tree.specs.declared.tree.Var.{Var}
use Rattle.fzn_tree.specs.declared.tree.Var.TheVariants as vars
use Rattle.fzn_names.specs.Types.{repeated, sets_in, unknown_in, wrong_in}
use Rattle.fzn_names.specs.Positions.{first, when, at}
use Rattle.fzn_names.specs.Values.{NameList, meaning_of}
use Rattle.fzn_names.specs.Variables.{kind_of, vars_of}
use Rattle.fzn_names.specs.declared.names.Declared.{Declared}
use Rattle.fzn_names.proofs.CallerLemmas.{first-append_none, empty-first, left_empty, right_empty, at-empty}

-- ---- lists

-- what is left of a list behind its first item
abbrev pub rest_of : {A : Type 0} → List A → List A
rest_of xs = take (length xs - 1) (drop 1 xs)

pub uncons : {A : Type 0} (xs : List A) (x : A) → 1 ≤ length xs → x ≡ get_or xs 0 x → xs ≡ x ∷ rest_of xs
uncons [] x some is = absurd (omega arith)
uncons (y ∷ xs) x some is =
    let rest : take (length (y ∷ xs) - 1) (drop 1 (y ∷ xs)) ≡ drop 1 (y ∷ xs) = take_rest (y ∷ xs) 1 in
    rw (rest, is) refl

-- ---- names that are new

when_false : {A : Type 0} (test : Bool) (x : A) → when test x ≡ [] → test ≡ false
when_false true x e = cc
when_false false x e = refl

unseen : {A : Type 0} (o : Option A) → is_some o ≡ false → o ≡ None
unseen None e = refl
unseen (Some x) e = cc

new_name : (earlier : NameList) (name : Name) → at DuplicateName (repeated earlier name) ≡ [] → meaning_of earlier name.text ≡ None
new_name earlier name e =
    unseen (meaning_of earlier name.text)
    (when_false (is_some (meaning_of earlier name.text)) name.position (at-empty DuplicateName (repeated earlier name) e))

-- a parameter without faults has a new name
pub param_fresh : (earlier : NameList) (param : Param) → first (param_faults earlier param) ≡ None → meaning_of earlier param.name.text ≡ None
unfolding param_faults
param_fresh earlier param none =
    let sets = at SetRefused (set_elements param.size param.base ++ set_values param.value) in
    let names = at DuplicateName (repeated earlier param.name) in
    let wrong = at WrongType (wrong_values param.size (wanted_by param.base) param.value) in
    let lengths = at Length (wrong_lengths param.size param.value) in
    let all : sets ++ names ++ wrong ++ lengths ≡ [] = empty-first (sets ++ names ++ wrong ++ lengths) none in
    new_name earlier param.name (right_empty sets names (left_empty (sets ++ names) wrong (left_empty (sets ++ names ++ wrong) lengths all)))

few_more : (before more : ℕ) → before ≤ longest → passes_limit before more ≡ false → before + more ≤ longest
few_more before more room e = grind (arith, e)

module _ (earlier : NameList) (before : ℕ) (var : SingleVar) (none : first (single_faults earlier before var) ≡ None) where
  abbrev front : List Fault
  front = at SetRefused (set_types var.base) ++ at UnboundedInt (unbounded_types var.base)

  abbrev middle : List Fault
  middle = front ++ at DuplicateName (repeated earlier var.name) ++ at UnknownName (unknown_values earlier var.value)
      ++ at WrongType (wrong_written earlier (wanted_of (kind_of var.base)) var.value)

  abbrev many : List Fault
  many = at TooMany (when (passes_limit before (added_by_value var.value)) var.name.position)

  upto_many : middle ++ many ≡ []
  unfolding single_faults
  upto_many = left_empty (middle ++ many) (at OutputAnnotation (mark_faults is_bad_mark var.anns)) (empty-first (middle ++ many ++ at OutputAnnotation (mark_faults is_bad_mark var.anns)) none)

  pub single_fresh : meaning_of earlier var.name.text ≡ None
  single_fresh =
      let names = at DuplicateName (repeated earlier var.name) in
      let unknown = at UnknownName (unknown_values earlier var.value) in
      let wrong = at WrongType (wrong_written earlier (wanted_of (kind_of var.base)) var.value) in
      new_name earlier var.name (right_empty front names (left_empty (front ++ names) unknown (left_empty (front ++ names ++ unknown) wrong (left_empty middle many upto_many))))

  pub single_room : before ≤ longest → before + added_by_value var.value ≤ longest
  single_room room =
      few_more before (added_by_value var.value) room
      (when_false (passes_limit before (added_by_value var.value)) var.name.position (at-empty TooMany (when (passes_limit before (added_by_value var.value)) var.name.position) (right_empty middle many upto_many)))

module _ (earlier : NameList) (before : ℕ) (var : ArrayVar) (none : first (array_faults earlier before var) ≡ None) where
  abbrev front_of : List Fault
  front_of = at SetRefused (set_types var.base ++ flat_map (sets_in earlier) var.array.entries)

  abbrev middle_of : List Fault
  middle_of = front_of ++ at DuplicateName (repeated earlier var.name) ++ at UnknownName (flat_map (unknown_in earlier) var.array.entries)
      ++ at WrongType (flat_map (wrong_in earlier (wanted_of (kind_of var.base))) var.array.entries)
      ++ at Length (when (not (nat_eq (length var.array.entries) var.size.count)) var.array.position)

  abbrev many_of : List Fault
  many_of = at TooMany (when (passes_limit before (added_by_entries var.base var.array.entries)) var.name.position)

  array_upto_many : middle_of ++ many_of ≡ []
  unfolding array_faults
  array_upto_many =
      let marks = at OutputAnnotation (mark_faults (is_bad_array_mark (length var.array.entries)) var.anns) in
      left_empty (middle_of ++ many_of) marks (empty-first (middle_of ++ many_of ++ marks) none)

  pub array_fresh : meaning_of earlier var.name.text ≡ None
  array_fresh =
      let names = at DuplicateName (repeated earlier var.name) in
      let unknown = at UnknownName (flat_map (unknown_in earlier) var.array.entries) in
      let wrong = at WrongType (flat_map (wrong_in earlier (wanted_of (kind_of var.base))) var.array.entries) in
      let lengths = at Length (when (not (nat_eq (length var.array.entries) var.size.count)) var.array.position) in
      new_name earlier var.name
      (right_empty front_of names (left_empty (front_of ++ names) unknown (left_empty (front_of ++ names ++ unknown) wrong (left_empty (front_of ++ names ++ unknown ++ wrong) lengths (left_empty middle_of many_of array_upto_many)))))

  pub array_room : before ≤ longest → before + added_by_entries var.base var.array.entries ≤ longest
  array_room room =
      few_more before (added_by_entries var.base var.array.entries) room
      (when_false (passes_limit before (added_by_entries var.base var.array.entries)) var.name.position
      (at-empty TooMany (when (passes_limit before (added_by_entries var.base var.array.entries)) var.name.position) (right_empty middle_of many_of array_upto_many)))

-- a declaration without faults has a new name, and leaves the constraints within their limit
pub var_fresh : (earlier : NameList) (before : ℕ) (var : Var) → first (var_faults earlier before var) ≡ None → meaning_of earlier (declared_name var) ≡ None
var_fresh earlier before (vars.Single var) none = single_fresh earlier before var none
var_fresh earlier before (vars.Array var) none = array_fresh earlier before var none

pub var_room : (earlier : NameList) (before : ℕ) (var : Var) → first (var_faults earlier before var) ≡ None → before ≤ longest → before + added_by var ≤ longest
var_room earlier before (vars.Single var) none room = single_room earlier before var none room
var_room earlier before (vars.Array var) none room = array_room earlier before var none room

-- ---- the faults and names to come

pub params_step : (names new : NameList) (xs ys : List Param) (x : Param) (value : Declared) → xs ≡ x ∷ ys → first (param_faults names x) ≡ None
    → value ≡ declared_value x.base x.value → new ≡ names ++ (x.name.text, value) ∷ [] → first (params_faults new ys) ≡ first (params_faults names xs)
params_step names new xs ys x value all none value_is new_is =
    let next : new ≡ names ++ declared_param x ∷ [] = rw (new_is, value_is) refl in
    rw (all, next) (sym (first-append_none (param_faults names x) (params_faults (names ++ declared_param x ∷ []) ys) none))

pub param_names_step : (names new : NameList) (xs ys : List Param) (x : Param) (value : Declared) → xs ≡ x ∷ ys
    → value ≡ declared_value x.base x.value → new ≡ names ++ (x.name.text, value) ∷ [] → new ++ param_names ys ≡ names ++ param_names xs
param_names_step names new xs ys x value all value_is new_is =
    let next : new ≡ names ++ declared_param x ∷ [] = rw (new_is, value_is) refl in
    rw (all, next) (append_assoc names (declared_param x ∷ []) (param_names ys))

module _ (names new : NameList) (number : ℕ) (xs ys : List Var) (x : Var) (value : Declared) (name : List ℕ)
    (all : xs ≡ x ∷ ys) (name_is : name ≡ declared_name x) (value_is : value ≡ var_value names number x) (new_is : new ≡ names ++ (name, value) ∷ []) where
  var_next : new ≡ names ++ declared_var names number x ∷ []
  var_next = rw (new_is, value_is, name_is) refl

  pub vars_step : (before : ℕ) → first (var_faults names before x) ≡ None
      → first (vars_faults new (number_after number x) (before + added_by x) ys) ≡ first (vars_faults names number before xs)
  vars_step before none =
      rw (all, var_next)
      (sym (first-append_none (var_faults names before x) (vars_faults (names ++ declared_var names number x ∷ []) (number_after number x) (before + added_by x) ys) none))

  pub names_step : names_from new (number_after number x) ys ≡ names_from names number xs
  names_step = rw (all, var_next) refl

number_moves : (number : ℕ) (x : Var) (ys : List Var) → number_after number x + length (vars_of ys) ≡ number + length (vars_of (x ∷ ys))
number_moves number (vars.Single var) ys = omega arith
number_moves number (vars.Array var) ys = refl

pub number_step : (number : ℕ) (xs ys : List Var) (x : Var) → xs ≡ x ∷ ys → number_after number x + length (vars_of ys) ≡ number + length (vars_of xs)
number_step number xs ys x all = rw all (number_moves number x ys)

pub shown_step : (names : NameList) (number : ℕ) (xs ys : List Var) (x : Var) (old new : List OutputItem) → xs ≡ x ∷ ys → new ≡ old ++ output_items names number x
    → new ++ shown_from names (number_after number x) ys ≡ old ++ shown_from names number xs
shown_step names number xs ys x old new all new_is = rw (all, new_is) (append_assoc old (output_items names number x) (shown_from names (number_after number x) ys))
