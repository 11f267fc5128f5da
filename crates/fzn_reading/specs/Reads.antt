-- From the bytes of a file to its model.
use Rattle.std.specs.Prelude.{◌≡◌, ◌<◌, ℕ, List, ◌++◌, length, ◌⊎◌, Option, IfSome, Result, Ok, Err}
use Rattle.fzn_lexer.specs.declared.fault.Fault.{Fault}
use Rattle.fzn_lexer.specs.declared.halt.Halt.{Halt}
use Rattle.fzn_lexer.specs.declared.halt.Halt.TheVariants as errors
use Rattle.fzn_lexer.specs.declared.token.Token.{Token}
use Rattle.fzn_lexer.specs.Tokens.{Lexes, max_file}
use Rattle.fzn_meaning.specs.declared.model.Model.{Model}
use Rattle.fzn_tree.specs.declared.tree.Tree.{Tree}
use Rattle.fzn_parser.specs.Parse.{Parses}
use Rattle.fzn_reading.specs.declared.fault.ModelFault.{ModelFault}
use Rattle.fzn_reading.specs.declared.fault.ModelFault.TheVariants as faults
use Rattle.fzn_typing.specs.Typed.{IsTyped}

-- the bytes are those of tokens with this tree
pub record HasTree (bytes : List ℕ) (tree : Tree) : Type 0 where
  pub tokens : List Token
  pub lexed : Lexes bytes (Ok tokens)
  pub parsed : Parses tokens (Ok tree)

-- The model of the tree; or the lexer's fault, else the parser's on the tokens, else that of the tree.
abbrev pub Reads : List ℕ → Result Model (Halt Fault) → Type 0
Reads bytes (Ok model) = (tree : Tree) × HasTree bytes tree × IsTyped tree (Ok model)
Reads bytes (Err errors.Memory) = Unit {0}
Reads bytes (Err (errors.Fault fault)) =
    Lexes bytes (Err (errors.Fault fault))
    ⊎ (((tokens : List Token) × Lexes bytes (Ok tokens) × Parses tokens (Err (errors.Fault fault)))
    ⊎ ((tree : Tree) × HasTree bytes tree × IsTyped tree (Err (errors.Fault fault))))

-- a file's bytes, where the reader tells them, state this model
abbrev pub States : Option (List ℕ) → Model → Type 0
States file model = IfSome file (λ bytes. Reads bytes (Ok model))

-- what a reader of these bytes answers, unless a read fails
abbrev pub Answers : List ℕ → Result Model ModelFault → Type 0
Answers bytes (Ok model) = Reads bytes (Ok model)
Answers bytes (Err faults.Memory) = Unit {0}
Answers bytes (Err faults.Read) = Unit {0}
Answers bytes (Err (faults.File fault)) = Reads bytes (Err (errors.Fault fault))

-- the whole file, or a front of it that is longer than a file may be
abbrev pub IsEnoughOf : List ℕ → List ℕ → Type 0
IsEnoughOf whole bytes = (whole ≡ bytes) ⊎ ((more : List ℕ) × (whole ≡ bytes ++ more) × (max_file < length bytes))
