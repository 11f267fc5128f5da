-- What was read of a file, as the list of its items.
use Rattle.std.proofs.Common.{◌≡◌, ◌≢◌, ℕ, ◌+◌, ◌≤◌, ◌^◌, List, [], ◌∷◌, ◌++◌, flat_map, length, length-append, Option, Some, None, IfSome, Result, Ok, Err, IfErr, inl, inr, refl, sym, ap, subst, ◌∙◌, arith}
use Rattle.std.specs.Result.{IsErrAnd}
use Rattle.fzn_lexer.specs.declared.fault.Fault.{Fault}
use Rattle.fzn_lexer.specs.declared.halt.Halt.{Halt}
use Rattle.fzn_lexer.specs.declared.halt.Halt.TheVariants as errors
use Rattle.fzn_lexer.specs.declared.token.Span.{Span}
use Rattle.fzn_lexer.specs.declared.token.Token.{Token}
use Rattle.fzn_lexer.specs.Tokens.{Lexes}
use Rattle.fzn_meaning.specs.declared.model.Model.{Model}
use Rattle.fzn_meaning.specs.WellFormed.{IsWellFormed}
use Rattle.fzn_names.specs.Positions.{first}
use Rattle.fzn_parser.specs.Parse.{IsTree}
use Rattle.fzn_reading.specs.Reads.{IsEnoughOf, Reads}
use Rattle.fzn_tree.specs.declared.tree.Tree.{Tree}
use Rattle.fzn_typing.specs.Faults.{faults_of, tree_names}
use Rattle.fzn_typing.specs.Limits.{IsTreeWithin}
use Rattle.fzn_typing.specs.Models.{stated, written}
use Rattle.fzn_typing.specs.Typed.{IsTyped}
use Rattle.fzn_mending.specs.declared.places.ConstantGoal.{ConstantGoal}
use Rattle.fzn_items.specs.declared.counts.Counts.{Counts}
use Rattle.fzn_mending.specs.declared.places.Place.{Place}
use Rattle.fzn_sources.specs.Items.{item_spans}
use Rattle.fzn_items.specs.Listed.{IsFaultOrMemory, IsList, IsListing, IsListingFault, Itemizes}
use Rattle.fzn_mending.specs.Mending.{mended, mended_places, constant}
use Rattle.fzn_sources.proofs.FrontLemmas.{known_tokens}

-- ---- how many constraints

-- few enough to be numbered
pub few-stated : (tree : Tree) (model : Model) → IsTyped tree (Ok model) → IsWellFormed model → IsTreeWithin tree → 1 + length tree.cons + length (flat_map (written (tree_names tree)) tree.vars) ≤ 2 ^ 32
few-stated tree model typed wf within =
    let items = flat_map (stated (tree_names tree)) tree.cons in
    let declared = flat_map (written (tree_names tree)) tree.vars in
    let all : length model.constraints ≡ length items + length declared = ap length typed.1.constraints ∙ length-append items declared in
    omega (arith, all, wf.few_constraints, within.few_cons)

-- ---- the list

-- of a file without faults
pub own-listing : (bytes : List ℕ) (tokens : List Token) (tree : Tree) (items : List Span) (model : Model) (text : List ℕ) (counts : Counts) → Lexes bytes (Ok tokens) → IsTree tokens tree → IsTyped tree (Ok model)
    → items ≡ item_spans tokens → IsList bytes tree items model [] None text counts → IsListing bytes text counts
own-listing bytes tokens tree items model text counts lexed parsed typed items_are list = record {
  tokens = tokens;
  lexed = lexed;
  stated = tree;
  parsed = parsed;
  tree = tree;
  types = [];
  goal = None;
  mending = inl (typed.0, refl, refl, refl);
  model = model;
  typed = typed;
  list = subst (λ (all : List Span). IsList bytes tree all model [] None text counts) items_are list;
}

has_faults : (faults : List Fault) (fault : Fault) → first faults ≡ Some fault → faults ≢ []
has_faults [] fault is = λ e. cc
has_faults (x ∷ more) fault is = λ e. cc

-- of a file mended
pub mended-listing : (bytes : List ℕ) (tokens told : List Token) (own tree : Tree) (items : List Span) (types : List Place) (goal : Option ConstantGoal) (model : Model) (text : List ℕ) (counts : Counts) (fault : Fault)
    → Lexes bytes (Ok tokens) → IsTree tokens own → first (faults_of own) ≡ Some fault → told ≡ mended own.params tokens → IsTree told tree → types ≡ mended_places own.params tokens → goal ≡ constant own.params tokens
    → IsTyped tree (Ok model) → items ≡ item_spans tokens → IsList bytes tree items model types goal text counts → IsListing bytes text counts
mended-listing bytes tokens told own tree items types goal model text counts fault lexed parsed faulty told_are again types_are goal_is typed items_are list = record {
  tokens = tokens;
  lexed = lexed;
  stated = own;
  parsed = parsed;
  tree = tree;
  types = types;
  goal = goal;
  mending = inr (has_faults (faults_of own) fault faulty, subst (λ (z : List Token). IsTree z tree) told_are again, types_are, goal_is);
  model = model;
  typed = typed;
  list = subst (λ (all : List Span). IsList bytes tree all model types goal text counts) items_are list;
}

-- the fault of a file is that of its list
pub told-fault : (bytes : List ℕ) (fault : Fault) (halt : Halt Fault) → Reads bytes (Err (errors.Fault fault)) → IsFaultOrMemory fault halt → IsListingFault bytes halt
told-fault bytes fault errors.Memory read is = tt
told-fault bytes fault (errors.Fault other) read is = subst (λ (f : Fault). Reads bytes (Err (errors.Fault f))) (sym is) read

-- where memory ran out nothing is said
pub memory-told : {A : Type 0} (fault : Fault) (result : Result A (Halt Fault)) → IsErrAnd result (λ e. e ≡ errors.Memory) → IfErr result (IsFaultOrMemory fault)
memory-told fault (Ok value) h = absurd h
memory-told fault (Err e) h = subst (IsFaultOrMemory fault) (sym h) tt

-- ---- the whole file

-- it is that of the whole file
pub itemizes : (known : Option (List ℕ)) (bytes seen text : List ℕ) (counts : Counts) → seen ≡ bytes → IfSome known (λ whole. IsEnoughOf whole bytes) → IsListing seen text counts → Itemizes known text counts
itemizes known bytes seen text counts same enough listing = record {
  bytes = seen;
  whole = known_tokens known bytes seen listing.tokens same enough listing.lexed;
  listing = listing;
}
