-- What reading a part of a tree answers.
use Rattle.std.specs.Prelude.{◌≡◌, List, [], Some, Result, Ok, Err}
use Rattle.fzn_lexer.specs.declared.fault.Fault.{Fault}
use Rattle.fzn_lexer.specs.declared.halt.Halt.{Halt}
use Rattle.fzn_lexer.specs.declared.halt.Halt.TheVariants as errors
use Rattle.fzn_names.specs.Positions.{first}

-- the first of the faults; or a value with this fact, where there is no fault; or that memory ran out
abbrev pub Gives : {A : Type 0} → List Fault → (A → Type 0) → Result A (Halt Fault) → Type 0
Gives faults P (Ok value) = (faults ≡ []) × P value
Gives faults P (Err errors.Memory) = Unit {0}
Gives faults P (Err (errors.Fault fault)) = first faults ≡ Some fault
