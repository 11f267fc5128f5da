-- What was read, without all but the model.
use Rattle.std.specs.Prelude.{Result, Ok, Err}
use Rattle.fzn_lexer.specs.declared.fault.Fault.{Fault}
use Rattle.fzn_lexer.specs.declared.halt.Halt.{Halt}
use Rattle.fzn_meaning.specs.declared.model.Model.{Model}
use Rattle.fzn_reading.specs.declared.fault.ModelFault.{ModelFault}
use Rattle.fzn_reading.specs.declared.annotated.Annotated.{Annotated}
use Rattle.fzn_reading.specs.declared.file.File.{File}

abbrev pub file_model : Result File (Halt Fault) → Result Model (Halt Fault)
file_model (Ok file) = Ok file.model
file_model (Err error) = Err error

abbrev pub model_told : Result File ModelFault → Result Model ModelFault
model_told (Ok file) = Ok file.model
model_told (Err fault) = Err fault

abbrev pub model_read : Result Annotated ModelFault → Result Model ModelFault
model_read (Ok read) = Ok read.model
model_read (Err fault) = Err fault
