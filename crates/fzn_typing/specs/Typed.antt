-- What reading a tree answers.
use Rattle.std.specs.Prelude.{Result, Ok, Err}
use Rattle.fzn_lexer.specs.declared.fault.Fault.{Fault}
use Rattle.fzn_lexer.specs.declared.halt.Halt.{Halt}
use Rattle.fzn_meaning.specs.declared.model.Model.{Model}
use Rattle.fzn_names.specs.Given.{Gives}
use Rattle.fzn_tree.specs.declared.tree.Tree.{Tree}
use Rattle.fzn_typing.specs.Faults.{faults_of}
use Rattle.fzn_typing.specs.Models.{IsModelOf}
use Rattle.fzn_typing.specs.declared.tree.Named.{Named}

-- the model, without its names
abbrev pub model_in : Result Named (Halt Fault) → Result Model (Halt Fault)
model_in (Ok named) = Ok named.model
model_in (Err error) = Err error

-- the first fault of the tree, or its model
abbrev pub IsTyped : Tree → Result Model (Halt Fault) → Type 0
IsTyped tree result = Gives (faults_of tree) (IsModelOf tree) result
