-- What was read, without all but the model.
use Rattle.std.specs.Prelude.{Result, Ok, Err}
use Rattle.fzn_lexer.specs.declared.fault.Fault.{Fault}
use Rattle.fzn_lexer.specs.declared.halt.Halt.{Halt}
use Rattle.fzn_meaning.specs.declared.model.Model.{Model}
use Rattle.fzn_reading.specs.declared.fault.ModelFault.{ModelFault}
use Rattle.fzn_sources.specs.declared.located.Located.{Located}
use Rattle.fzn_sources.specs.declared.located.Stated.{Stated}

abbrev pub model_stated : Result Stated (Halt Fault) → Result Model (Halt Fault)
model_stated (Ok file) = Ok file.model
model_stated (Err error) = Err error

abbrev pub model_located : Result Located ModelFault → Result Model ModelFault
model_located (Ok file) = Ok file.model
model_located (Err fault) = Err fault
