-- The tree of a whole list of tokens, or where its first fault stands.
use Rattle.std.specs.Prelude.{◌≡◌, suc, List, [], ◌∷◌, ◌++◌, length, ◌⊎◌}
use Rattle.fzn_lexer.specs.declared.fault.FaultKind.TheVariants.{Syntax}
use Rattle.fzn_lexer.specs.declared.token.Token.{Token}
use Rattle.fzn_tree.specs.declared.tree.Tree.{Tree}
use Rattle.fzn_parser.specs.declared.cursor.Refusal.{Refusal}
use Rattle.fzn_parser.specs.Parse.{IsTree, Begins, NoneBegins, IsPast, EachIsPast}

-- the one tree of the tokens
pub record IsOneTree (tokens : List Token) (t : Tree) : Type 0 where
  pub is_tree : IsTree tokens t
  pub one : (x : Tree) → IsTree tokens x → t ≡ x

-- the tokens have no tree, and their first fault is this one
pub record IsFirstFault (tokens : List Token) (refusal : Refusal) : Type 0 where
  pub before : List Token
  pub token : Token
  pub after : List Token
  pub parts : tokens ≡ before ++ token ∷ after
  pub size : suc (length after) ≡ refusal.left
  pub begins : Begins before
  pub why : ((refusal.kind ≡ Syntax) × NoneBegins (before ++ token ∷ [])) ⊎ (IsPast refusal.kind token begins.more × EachIsPast refusal.kind before token)
  pub none : (t : Tree) → IsTree tokens t → ⊥
