-- The items of constraints, one part of a tree after another.
use Rattle.std.proofs.Common.{◌≡◌, ℕ, ◌+◌, ◌<◌, ◌≤◌, List, [], ◌∷◌, ◌++◌, length, map, take, drop, flat_map, get_or, Ok, refl, sym, ap, ap₂, ◌∙◌, arith, append_assoc}
use Rattle.std.specs.Prelude.{replicate}
use Rattle.std.specs.List.{All}
use Rattle.std.proofs.lemmas.List.{length-drop, map-append}
use Rattle.std.proofs.lemmas.List.Elements.{All-head, All-tail}
use Rattle.fzn_lexer.specs.declared.token.Span.{Span}
use Rattle.fzn_lexer.specs.declared.token.Token.{Token}
use Rattle.fzn_lexer.specs.Tokens.{Lexes}
use Rattle.fzn_names.proofs.StepLemmas.{rest_of, uncons}
use Rattle.fzn_meaning.specs.declared.constraint.Constraint.{Constraint}
use Rattle.fzn_parser.specs.Parse.{IsTree}
use Rattle.fzn_tree.specs.declared.tree.Tree.{Tree}
use Rattle.fzn_typing.specs.Faults.{tree_names}
use Rattle.fzn_typing.specs.Models.{stated, written, numbered}
use Rattle.fzn_sources.specs.Items.{item_spans, stated_by, declaration_items, constraint_items, sourced, item_in, constraint_in, AreSources}
use Rattle.fzn_sources.proofs.ItemLemmas.{items-enough}

-- ---- the items

pub uncons-at : {A : Type 0} (xs : List A) (d : A) → 1 ≤ length xs → xs ≡ get_or xs 0 d ∷ rest_of xs
uncons-at [] d some = absurd (omega (arith, some))
uncons-at (x ∷ xs) d some = uncons (x ∷ xs) x some refl

paired-items : (item : Span) (constraints : List Constraint) → map item_in (map (λ c. (item, c)) constraints) ≡ replicate (length constraints) item
paired-items item [] = refl
paired-items item (c ∷ cs) = ap (λ (rest : List Span). item ∷ rest) (paired-items item cs)

paired-constraints : (item : Span) (constraints : List Constraint) → map constraint_in (map (λ c. (item, c)) constraints) ≡ constraints
paired-constraints item [] = refl
paired-constraints item (c ∷ cs) = ap (λ (rest : List Constraint). c ∷ rest) (paired-constraints item cs)

module _ {Part : Type 0} (states : Part → List Constraint) where
  -- one part more, with its item as often as it states a constraint
  pub items-more : (old new : List Span) (part : Part) (parts : List Part) (item : Span) (items : List Span) → new ≡ old ++ replicate (length (states part)) item
      → new ++ map item_in (stated_by states parts items) ≡ old ++ map item_in (stated_by states (part ∷ parts) (item ∷ items))
  items-more old new part parts item items is =
      let here = map (λ c. (item, c)) (states part) in
      let joined = map-append item_in here (stated_by states parts items) in
      rw (is, joined, paired-items item (states part)) (append_assoc old (replicate (length (states part)) item) (map item_in (stated_by states parts items)))

  -- where each states one constraint, the items are theirs
  pub items-single : (parts : List Part) (items : List Span) → All (λ part. length (states part) ≡ 1) parts → map item_in (stated_by states parts items) ≡ take (length parts) items
  items-single [] items one = refl
  items-single (part ∷ parts) [] one = refl
  items-single (part ∷ parts) (item ∷ items) one =
      let here = map (λ c. (item, c)) (states part) in
      map-append item_in here (stated_by states parts items)
      ∙ ap₂ (λ (front back : List Span). front ++ back) (paired-items item (states part) ∙ ap (λ (n : ℕ). replicate n item) (All-head (λ p. length (states p) ≡ 1) part parts one))
      (items-single parts items (All-tail (λ p. length (states p) ≡ 1) part parts one))

  -- where there are enough items, all that the parts state is there
  pub constraints-all : (parts : List Part) (items : List Span) → length parts ≤ length items → map constraint_in (stated_by states parts items) ≡ flat_map states parts
  constraints-all [] items enough = refl
  constraints-all (part ∷ parts) [] enough = absurd (omega (arith, enough))
  constraints-all (part ∷ parts) (item ∷ items) enough =
      let here = map (λ c. (item, c)) (states part) in
      map-append constraint_in here (stated_by states parts items)
      ∙ ap₂ (λ (front back : List Constraint). front ++ back) (paired-constraints item (states part)) (constraints-all parts items (omega (arith, enough)))

  -- nothing is stated by no part, nor without items
  pub stated-no_part : (parts : List Part) (items : List Span) → length parts < 1 → map item_in (stated_by states parts items) ≡ []
  stated-no_part [] items none = refl
  stated-no_part (part ∷ parts) items none = absurd (omega (arith, none))

  pub stated-no_item : (parts : List Part) (items : List Span) → length items < 1 → map item_in (stated_by states parts items) ≡ []
  stated-no_item [] items none = refl
  stated-no_item (part ∷ parts) [] none = refl
  stated-no_item (part ∷ parts) (item ∷ items) none = absurd (omega (arith, none))

  -- the first part and the first item, and those behind them
  pub items-step : (old new : List Span) (parts : List Part) (items : List Span) (part : Part) (item : Span) (count : ℕ) → parts ≡ part ∷ rest_of parts → items ≡ item ∷ rest_of items
      → new ≡ old ++ replicate count item → count ≡ length (states part) → new ++ map item_in (stated_by states (rest_of parts) (rest_of items)) ≡ old ++ map item_in (stated_by states parts items)
  items-step old new parts items part item count parts_are items_are is times =
      items-more old new part (rest_of parts) item (rest_of items) (is ∙ ap (λ (n : ℕ). old ++ replicate n item) times)
      ∙ ap₂ (λ (ps : List Part) (is : List Span). old ++ map item_in (stated_by states ps is)) (sym parts_are) (sym items_are)

-- ---- the tree

pub sourced-items : (tree : Tree) (items found : List Span) → All (λ con. length (stated (tree_names tree) con) ≡ 1) tree.cons
    → found ≡ take (length tree.cons) (constraint_items tree items) ++ map item_in (stated_by (written (tree_names tree)) tree.vars (declaration_items tree items)) → found ≡ map item_in (sourced tree items)
sourced-items tree items found one is =
    is ∙ ap (λ (front : List Span). front ++ map item_in (stated_by (written (tree_names tree)) tree.vars (declaration_items tree items))) (sym (items-single (stated (tree_names tree)) tree.cons (constraint_items tree items) one))
    ∙ sym (map-append item_in (stated_by (stated (tree_names tree)) tree.cons (constraint_items tree items)) (stated_by (written (tree_names tree)) tree.vars (declaration_items tree items)))

-- as many items as there are parts
enough-declared : (tree : Tree) (items : List Span) → length tree.predicates + (length tree.params + (length tree.vars + length tree.cons)) ≤ length items → length tree.vars + length tree.cons ≤ length (declaration_items tree items)
enough-declared tree items enough =
    omega (arith, enough, length-drop (length tree.params) (drop (length tree.predicates) items), length-drop (length tree.predicates) items)

sourced-constraints : (tree : Tree) (items : List Span) → length tree.predicates + (length tree.params + (length tree.vars + length tree.cons)) ≤ length items → map constraint_in (sourced tree items) ≡ numbered tree
sourced-constraints tree items enough =
    let declared = enough-declared tree items enough in
    map-append constraint_in (stated_by (stated (tree_names tree)) tree.cons (constraint_items tree items)) (stated_by (written (tree_names tree)) tree.vars (declaration_items tree items))
    ∙ ap₂ (λ (front back : List Constraint). front ++ back)
    (constraints-all (stated (tree_names tree)) tree.cons (constraint_items tree items) (omega (arith, declared, length-drop (length tree.vars) (declaration_items tree items))))
    (constraints-all (written (tree_names tree)) tree.vars (declaration_items tree items) (omega (arith, declared)))

pub sources-are : (bytes : List ℕ) (tokens : List Token) (tree : Tree) (items sources : List Span) (constraints : List Constraint) → Lexes bytes (Ok tokens) → IsTree tokens tree → items ≡ item_spans tokens
    → sources ≡ map item_in (sourced tree items) → constraints ≡ numbered tree → AreSources bytes constraints sources
sources-are bytes tokens tree items sources constraints lexed parsed items_are sources_are constraints_are = record {
  tokens = tokens;
  lexed = lexed;
  tree = tree;
  parsed = parsed;
  items = sources_are ∙ ap (λ (all : List Span). map item_in (sourced tree all)) items_are;
  states = constraints_are ∙ sym (sourced-constraints tree (item_spans tokens) (items-enough tokens tree parsed.spelled));
}
