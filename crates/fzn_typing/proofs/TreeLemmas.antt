-- The file, from what the calls on its parts answered.
use Rattle.std.proofs.Common.{◌≡◌, ◌↔◌, ℕ, ◌≤◌, ◌<◌, List, [], ◌++◌, Result, Ok, Err, IsErrAnd, Some, flat_map, length, Contains, refl, sym, ◌∙◌, ap, subst, arith, length-append}
use Rattle.std.specs.List.{All, AllPairs}
use Rattle.std.proofs.lemmas.List.Elements.{All-append}
use Rattle.fzn_domain.specs.declared.literal.VarId.{VarId}
use Rattle.fzn_domain.specs.Narrow.{IsVariable}
use Rattle.fzn_lexer.specs.declared.fault.Fault.{Fault}
use Rattle.fzn_lexer.specs.declared.halt.Halt.{Halt}
use Rattle.fzn_meaning.specs.declared.model.Model.{Model}
use Rattle.fzn_meaning.specs.declared.model.OutputItem.{OutputItem}
use Rattle.fzn_meaning.specs.declared.constraint.Constraint.{Constraint}
use Rattle.fzn_meaning.specs.Meaning.{longest, HasBooleanSets, IsWellFormedConstraint}
use Rattle.fzn_meaning.specs.Solutions.{declared_sets}
use Rattle.fzn_meaning.specs.WellFormed.{IsGoal, IsOutputItem, IsWellFormed}
use Rattle.fzn_names.specs.Declarations.{vars_faults, names_of, declaration_faults}
use Rattle.fzn_names.specs.Params.{params_faults, param_names}
use Rattle.fzn_names.specs.Given.{Gives}
use Rattle.fzn_names.specs.Outputs.{IsShown, shown_from}
use Rattle.fzn_names.specs.Values.{NameList}
use Rattle.fzn_names.specs.Variables.{vars_of}
use Rattle.fzn_names.proofs.FirstLemmas.{right_empty}
use Rattle.fzn_names.proofs.GivesLemmas.{err_is, Gives-first, Gives-behind}
use Rattle.fzn_names.proofs.DeclaredLemmas.{names-meanings, shown-within}
use Rattle.fzn_names.proofs.MeaningLemmas.{AreMeanings}
use Rattle.fzn_names.proofs.ValueSetLemmas.{sets-limited, length-declared_sets}
use Rattle.fzn_tree.specs.declared.tree.Con.{Con}
use Rattle.fzn_tree.specs.declared.tree.Param.{Param}
use Rattle.fzn_tree.specs.declared.tree.Tree.{Tree}
use Rattle.fzn_tree.specs.declared.tree.Var.{Var}
use Rattle.fzn_typing.specs.Faults.{constraint_faults, goal_faults, tree_names, faults_of}
use Rattle.fzn_typing.specs.Limits.{IsTreeWithin}
use Rattle.fzn_typing.specs.Models.{IsModelOf, stated, written, numbered, goal_of}
use Rattle.fzn_typing.specs.Typed.{IsTyped, model_in}
use Rattle.fzn_typing.specs.declared.tree.Named.{Named}
use Rattle.fzn_typing.proofs.WellFormedLemmas.{length-stated, few_written, all_stated, all_written, goal-within}

-- ---- without the names

pub model-err : (result : Result Named (Halt Fault)) (P : (Halt Fault) → Type 0) → IsErrAnd result P → IsErrAnd (model_in result) P
model-err (Ok named) P is = is
model-err (Err error) P is = is

-- ---- the tree's own parts

module _ (tree : Tree) where
  abbrev pub in_names : List Fault
  in_names = declaration_faults tree.params tree.vars (length tree.cons)

  abbrev pub in_cons : List Fault
  in_cons = flat_map (constraint_faults (tree_names tree)) tree.cons

  abbrev pub in_goal : List Fault
  in_goal = goal_faults (tree_names tree) tree.solve.goal

  module _ {A : Type 0} (P : A → Type 0) (e : Halt Fault) (result : Result Model (Halt Fault)) (is : IsErrAnd result (λ x. x ≡ e)) where
    fault_in_names : Gives in_names P (Err e) → IsTyped tree result
    unfolding faults_of
    fault_in_names h =
        subst (λ r. IsTyped tree r) (sym (err_is result e is))
        (Gives-first P (IsModelOf tree) (in_names ++ in_cons) in_goal e (Gives-first P P in_names in_cons e h))

    fault_in_cons : in_names ≡ [] → Gives in_cons P (Err e) → IsTyped tree result
    unfolding faults_of
    fault_in_cons none h =
        subst (λ r. IsTyped tree r) (sym (err_is result e is))
        (Gives-first P (IsModelOf tree) (in_names ++ in_cons) in_goal e (Gives-behind P P in_names in_cons e none h))

    fault_in_goal : in_names ≡ [] → in_cons ≡ [] → Gives in_goal P (Err e) → IsTyped tree result
    unfolding faults_of
    fault_in_goal none right h =
        let before : in_names ++ in_cons ≡ [] = rw (none, right) refl in
        subst (λ r. IsTyped tree r) (sym (err_is result e is))
        (Gives-behind P (IsModelOf tree) (in_names ++ in_cons) in_goal e before h)

  no_fault : in_names ≡ [] → in_cons ≡ [] → in_goal ≡ [] → faults_of tree ≡ []
  unfolding faults_of
  no_fault none right aimed = rw (none, right, aimed) refl

  -- the names of a tree without faults in its declarations
  pub tree-meanings : IsTreeWithin tree → in_names ≡ [] → AreMeanings (declared_sets (vars_of tree.vars)) (tree_names tree)
  tree-meanings within none = names-meanings tree.params tree.vars (length tree.cons) within.declarations none

  pub tree_shown : IsTreeWithin tree → in_names ≡ [] → All (IsOutputItem (length (vars_of tree.vars))) (shown_from (tree_names tree) 1 tree.vars)
  tree_shown within none =
      let sets = declared_sets (vars_of tree.vars) in
      let many = length-declared_sets tree.vars in
      subst (λ n. All (IsOutputItem n) (shown_from (tree_names tree) 1 tree.vars)) many
      (shown-within sets (tree_names tree) (tree-meanings within none) tree.vars 1 within.declarations.vars (omega arith) (omega (arith, many)))

  tree_few : IsTreeWithin tree → in_names ≡ [] → length (numbered tree) ≤ longest
  tree_few within none =
      let items = length-stated (tree_names tree) tree.cons in
      let all = few_written (tree_names tree) tree.vars (param_names tree.params) 1 (length tree.cons) within.few_cons
      (right_empty (params_faults [] tree.params) (vars_faults (param_names tree.params) 1 (length tree.cons) tree.vars) none) in
      rw length-append (omega (arith, items, all))

  abbrev IsGoodHere : Constraint → Type 0
  IsGoodHere made = IsWellFormedConstraint (length (declared_sets (vars_of tree.vars))) made × HasBooleanSets (declared_sets (vars_of tree.vars)) made

  tree_good : IsTreeWithin tree → in_names ≡ [] → in_cons ≡ [] → All IsGoodHere (numbered tree)
  tree_good within none right =
      let sets = declared_sets (vars_of tree.vars) in
      let known = tree-meanings within none in
      All-append IsGoodHere (flat_map (stated (tree_names tree)) tree.cons) (flat_map (written (tree_names tree)) tree.vars)
      (all_stated sets (tree_names tree) known tree.cons within.cons right)
      (all_written sets (tree_names tree) known tree.vars within.declarations.vars)

  pub model_formed : (model : Model) → IsTreeWithin tree → in_names ≡ [] → in_cons ≡ [] → IsModelOf tree model → All (IsVariable (length model.vars)) model.outputs
      → IsWellFormed model
  model_formed model within none right is inside =
      let sets = declared_sets (vars_of tree.vars) in
      let known = tree-meanings within none in
      let good = tree_good within none right in
      let many : length (vars_of tree.vars) ≡ length model.vars = ap length (sym is.vars) in
      let count : length sets ≡ length model.vars = length-declared_sets tree.vars ∙ many in
      let each : All IsGoodHere model.constraints = subst (λ cs. All IsGoodHere cs) (sym is.constraints) good in
      record {
        constraints = subst (λ n. All (IsWellFormedConstraint n) model.constraints) count (λ k d h. (each k d h).0);
        booleans = subst (λ all. All (HasBooleanSets (declared_sets all)) model.constraints) (sym is.vars) (λ k d h. (each k d h).1);
        goal = subst (λ n. IsGoal n model.goal) count (goal-within sets (tree_names tree) known tree.solve.goal model.goal is.goal);
        outputs = inside;
        rising = is.rising;
        shown = subst (λ n. All (IsOutputItem n) model.shown) many (subst (λ items. All (IsOutputItem (length (vars_of tree.vars))) items) (sym is.shown) (tree_shown within none));
        values = rw is.vars (sets-limited tree.vars within.declarations.vars);
        few_vars = rw (← many) within.declarations.few_vars;
        few_constraints = subst (λ cs. length cs ≤ longest) (sym is.constraints) (tree_few within none);
      }

-- ---- what the calls answered, on slices of the tree

module _ (tree : Tree) (params : List Param) (declared : List Var) (count : ℕ) (params_are : params ≡ tree.params) (vars_are : declared ≡ tree.vars) (many : count ≡ length tree.cons) where
  names_moved : declaration_faults params declared count ≡ in_names tree
  names_moved = rw (params_are, vars_are, many) refl

  pub err_names : {A : Type 0} (P : A → Type 0) (e : Halt Fault) (result : Result Model (Halt Fault)) → Gives (declaration_faults params declared count) P (Err e) → IsErrAnd result (λ x. x ≡ e) → IsTyped tree result
  err_names P e result h is = fault_in_names tree P e result is (subst (λ fs. Gives fs P (Err e)) names_moved h)

  module _ (names : NameList) (cons : List Con) (faultless : declaration_faults params declared count ≡ []) (names_are : names ≡ names_of params declared) (cons_are : cons ≡ tree.cons) where
    pub names_right : names ≡ tree_names tree
    names_right = names_are ∙ rw (params_are, vars_are) refl

    pub none_in_names : in_names tree ≡ []
    none_in_names = sym names_moved ∙ faultless

    pub shown_inside : IsTreeWithin tree → (n : ℕ) (shown : List OutputItem) → n ≡ length (vars_of declared) → shown ≡ shown_from names 1 declared → All (IsOutputItem n) shown
    shown_inside within n shown n_is shown_is = rw (n_is, shown_is, vars_are, names_right) (tree_shown tree within none_in_names)

    cons_moved : flat_map (constraint_faults names) cons ≡ in_cons tree
    cons_moved = rw (cons_are, names_right) refl

    goal_moved : goal_faults names tree.solve.goal ≡ in_goal tree
    goal_moved = rw names_right refl

    pub err_cons : {A : Type 0} (P : A → Type 0) (e : Halt Fault) (result : Result Model (Halt Fault)) → Gives (flat_map (constraint_faults names) cons) P (Err e) → IsErrAnd result (λ x. x ≡ e) → IsTyped tree result
    err_cons P e result h is = fault_in_cons tree P e result is none_in_names (subst (λ fs. Gives fs P (Err e)) cons_moved h)

    module _ (right : flat_map (constraint_faults names) cons ≡ []) where
      pub none_in_cons : in_cons tree ≡ []
      none_in_cons = sym cons_moved ∙ right

      pub err_goal : {A : Type 0} (P : A → Type 0) (e : Halt Fault) (result : Result Model (Halt Fault)) → Gives (goal_faults names tree.solve.goal) P (Err e) → IsErrAnd result (λ x. x ≡ e) → IsTyped tree result
      err_goal P e result h is = fault_in_goal tree P e result is none_in_names none_in_cons (subst (λ fs. Gives fs P (Err e)) goal_moved h)

      module _ (model : Model) (aimed : goal_faults names tree.solve.goal ≡ []) (goal_is : goal_of names tree.solve.goal ≡ Some model.goal) (vars_is : model.vars ≡ vars_of declared)
          (constraints_are : model.constraints ≡ flat_map (stated names) cons ++ flat_map (written names) declared) (shown_is : model.shown ≡ shown_from names 1 declared)
          (outputs_are : (var : VarId) → Contains model.outputs var ↔ IsShown model.shown var) (rising : AllPairs (λ (a b : VarId). a.0 < b.0) model.outputs) where
        pub is_model : IsModelOf tree model
        is_model = record {
          vars = vars_is ∙ ap vars_of vars_are;
          constraints = constraints_are ∙ rw (cons_are, vars_are, names_right) refl;
          goal = subst (λ all. goal_of all tree.solve.goal ≡ Some model.goal) names_right goal_is;
          shown = shown_is ∙ rw (vars_are, names_right) refl;
          outputs = outputs_are;
          rising = rising;
        }

        pub model_right : (faults_of tree ≡ []) × IsModelOf tree model
        model_right = (no_fault tree none_in_names none_in_cons (sym goal_moved ∙ aimed), is_model)
