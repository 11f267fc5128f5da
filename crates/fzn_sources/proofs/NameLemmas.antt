-- Where a tree has no fault, each constraint item states one constraint.
use Rattle.std.proofs.Common.{◌≡◌, List, [], ◌∷◌, ◌++◌, length, flat_map, Option, Some, None, refl}
use Rattle.std.specs.Prelude.{IsSome}
use Rattle.std.specs.List.{All}
use Rattle.std.proofs.lemmas.List.Elements.{All-nil, All-cons, All-weaker}
use Rattle.fzn_lexer.specs.declared.fault.FaultKind.TheVariants.{SetRefused, UnknownName}
use Rattle.fzn_names.specs.Declarations.{declaration_faults}
use Rattle.fzn_names.specs.Positions.{at}
use Rattle.fzn_names.specs.Values.{NameList}
use Rattle.fzn_names.proofs.CallerLemmas.{left_empty, right_empty}
use Rattle.fzn_registry.specs.declared.name.Name.{Name}
use Rattle.fzn_registry.specs.Registry.{name_spelled}
use Rattle.fzn_tree.specs.declared.tree.Con.{Con}
use Rattle.fzn_tree.specs.declared.tree.Tree.{Tree}
use Rattle.fzn_typing.specs.Arguments.{set_entries, unknown_names}
use Rattle.fzn_typing.specs.Faults.{named_faults, constraint_faults, goal_faults, tree_names, faults_of}
use Rattle.fzn_typing.specs.Models.{named, stated}
use Rattle.fzn_sources.specs.Items.{IsNamed}

spelled : (names : NameList) (con : Con) (found : Option Name) → named_faults names con found ≡ [] → IsSome found
spelled names con None e = cc
spelled names con (Some name) e = refl

con-named : (names : NameList) (con : Con) → constraint_faults names con ≡ [] → IsNamed con
unfolding constraint_faults
con-named names con e =
    let sets = at SetRefused (flat_map (set_entries names) con.args) in
    let unknown = at UnknownName (flat_map (unknown_names names) con.args) in
    spelled names con (name_spelled con.name.text) (right_empty (sets ++ unknown) (named_faults names con (name_spelled con.name.text)) e)

cons-named : (names : NameList) (cons : List Con) → flat_map (constraint_faults names) cons ≡ [] → All IsNamed cons
cons-named names [] e = All-nil IsNamed
cons-named names (con ∷ cons) e =
    All-cons IsNamed con cons (con-named names con (left_empty (constraint_faults names con) (flat_map (constraint_faults names) cons) e))
    (cons-named names cons (right_empty (constraint_faults names con) (flat_map (constraint_faults names) cons) e))

pub tree-named : (tree : Tree) → faults_of tree ≡ [] → All IsNamed tree.cons
unfolding faults_of
tree-named tree e =
    let declared = declaration_faults tree.params tree.vars (length tree.cons) in
    let constraints = flat_map (constraint_faults (tree_names tree)) tree.cons in
    cons-named (tree_names tree) tree.cons (right_empty declared constraints (left_empty (declared ++ constraints) (goal_faults (tree_names tree) tree.solve.goal) e))

-- ---- one constraint each

one_of : (names : NameList) (con : Con) (found : Option Name) → IsSome found → length (named names con.args found) ≡ 1
one_of names con None some = cc
one_of names con (Some name) some = refl

pub named-one : (names : NameList) (cons : List Con) → All IsNamed cons → All (λ con. length (stated names con) ≡ 1) cons
named-one names cons all = All-weaker IsNamed (λ con. length (stated names con) ≡ 1) (λ con some. one_of names con (name_spelled con.name.text) some) cons all
