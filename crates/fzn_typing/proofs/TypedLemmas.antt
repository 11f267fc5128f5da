-- Where the types of arguments are right, each name is declared, and no entry is a set.
use Rattle.std.proofs.Common.{◌≡◌, true, false, List, [], ◌∷◌, Option, Some, None, is_none, flat_map, length, nat_eq, eqb-true, refl, arith}
use Rattle.std.proofs.lemmas.Bool.{and_parts}
use Rattle.fzn_names.specs.Positions.{first, position_of}
use Rattle.fzn_names.specs.Types.{is_wanted, is_set, sets_in, unknown_in, wrong_in}
use Rattle.fzn_names.specs.Values.{NameList, basic_meaning}
use Rattle.fzn_names.proofs.FirstLemmas.{empty-first, left_empty, right_empty}
use Rattle.fzn_names.proofs.MeaningLemmas.{when_not}
use Rattle.fzn_registry.specs.declared.name.Name.{Name}
use Rattle.fzn_registry.specs.declared.signature.Argument.{Argument}
use Rattle.fzn_registry.specs.declared.signature.Argument.TheVariants as types
use Rattle.fzn_registry.specs.Registry.{name_spelled, arguments_of}
use Rattle.fzn_names.specs.declared.names.Declared.{Declared}
use Rattle.fzn_names.specs.declared.names.Declared.TheVariants as d
use Rattle.fzn_tree.specs.declared.tree.Arg.{Arg}
use Rattle.fzn_tree.specs.declared.tree.Arg.TheVariants as args
use Rattle.fzn_tree.specs.declared.tree.Array.{Array}
use Rattle.fzn_tree.specs.declared.tree.Basic.{Basic}
use Rattle.fzn_tree.specs.declared.tree.Con.{Con}
use Rattle.fzn_typing.specs.Arguments.{set_entries, unknown_names, entry_of, wrong_entries, wrong_parts, wrong_arguments, has_types}
use Rattle.fzn_typing.specs.Faults.{value_faults, constraint_faults}

declared : (wanted : Argument) (o : Option Declared) → is_wanted wanted o ≡ true → is_none o ≡ false
declared wanted None fit = cc
declared wanted (Some value) fit = refl

-- no list of sets is wanted
not_a_set : (wanted entry : Argument) (o : Option Declared) → entry_of wanted ≡ Some entry → is_wanted entry o ≡ true → is_set o ≡ false
not_a_set types.IntegerList entry (Some (d.Set values)) is fit = cc
not_a_set types.BooleanList entry (Some (d.Set values)) is fit = cc
not_a_set types.IntegerConstantList entry (Some (d.Set values)) is fit = cc
not_a_set types.BooleanConstantList entry (Some (d.Set values)) is fit = cc
not_a_set wanted entry (Some (d.Constant kind value)) is fit = refl
not_a_set wanted entry (Some (d.Constants kind entries)) is fit = refl
not_a_set wanted entry (Some (d.Array kind entries)) is fit = refl
not_a_set wanted entry (Some (d.Variable kind var)) is fit = refl
not_a_set wanted entry _ is fit = cc

module _ (names : NameList) where
  entries_right : (wanted entry : Argument) (bs : List Basic) → entry_of wanted ≡ Some entry → flat_map (wrong_in names entry) bs ≡ [] → (flat_map (sets_in names) bs ≡ []) × (flat_map (unknown_in names) bs ≡ [])
  entries_right wanted entry [] is right = (refl, refl)
  entries_right wanted entry (b ∷ bs) is right =
      let fit = when_not (is_wanted entry (basic_meaning names b)) (position_of b) (left_empty (wrong_in names entry b) (flat_map (wrong_in names entry) bs) right) in
      let more = entries_right wanted entry bs is (right_empty (wrong_in names entry b) (flat_map (wrong_in names entry) bs) right) in
      (rw (not_a_set wanted entry (basic_meaning names b) is fit) more.0, rw (declared entry (basic_meaning names b) fit) more.1)

  array_right : (wanted : Argument) (o : Option Argument) (array : Array) → entry_of wanted ≡ o → wrong_entries names o array ≡ [] → (flat_map (sets_in names) array.entries ≡ []) × (flat_map (unknown_in names) array.entries ≡ [])
  array_right wanted None array is right = absurd cc
  array_right wanted (Some entry) array is right = entries_right wanted entry array.entries is right

  argument_right : (wanted : Argument) (arg : Arg) → wrong_parts names wanted arg ≡ [] → (set_entries names arg ≡ []) × (unknown_names names arg ≡ [])
  argument_right wanted (args.Basic b) right = (refl, rw (declared wanted (basic_meaning names b) (when_not (is_wanted wanted (basic_meaning names b)) (position_of b) right)) refl)
  argument_right wanted (args.Array array) right = array_right wanted (entry_of wanted) array refl right

  arguments_right : (wanted : List Argument) (all : List Arg) → length all ≡ length wanted → wrong_arguments names wanted all ≡ []
      → (flat_map (set_entries names) all ≡ []) × (flat_map (unknown_names names) all ≡ [])
  arguments_right wanted [] count right = (refl, refl)
  arguments_right [] (arg ∷ all) count right = absurd (omega (arith, count))
  arguments_right (w ∷ wanted) (arg ∷ all) count right =
      let here = argument_right w arg (left_empty (wrong_parts names w arg) (wrong_arguments names wanted all) right) in
      let more = arguments_right wanted all (omega (arith, count)) (right_empty (wrong_parts names w arg) (wrong_arguments names wanted all) right) in
      (rw (here.0, more.0) refl, rw (here.1, more.1) refl)

  none : {A : Type 0} (o : Option A) → is_none o ≡ true → o ≡ None
  none None e = refl
  none (Some x) e = cc

  -- so the faults that are left are those of lengths and signs
  pub typed_faults : (con : Con) (name : Name) → name_spelled con.name.text ≡ Some name → has_types names (arguments_of name) con.args ≡ true → constraint_faults names con ≡ value_faults names con name
  unfolding constraint_faults
  typed_faults con name spelled right =
      let parts = and_parts (nat_eq (length con.args) (length (arguments_of name))) (is_none (first (wrong_arguments names (arguments_of name) con.args))) right in
      let types = empty-first (wrong_arguments names (arguments_of name) con.args) (none (first (wrong_arguments names (arguments_of name) con.args)) parts.1) in
      let rest = arguments_right (arguments_of name) con.args (eqb-true (length con.args) (length (arguments_of name)) parts.0) types in
      rw (rest.0, rest.1, spelled, parts.0, types) refl
