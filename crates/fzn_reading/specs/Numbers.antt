-- The numbers of the faults.
use Rattle.std.specs.Prelude.{ℕ}
use Rattle.fzn_lexer.specs.declared.fault.FaultKind.{FaultKind}
use Rattle.fzn_lexer.specs.declared.fault.FaultKind.TheVariants.{BadByte, BadToken, Syntax, TooDeep, Float, SetRefused, UnboundedInt, LiteralRange, DuplicateName, UnknownName, UnknownConstraint, Arity, «Type» as WrongType, Length, Argument, TooMany, OutputAnnotation, FileTooLong}

abbrev pub fault_number : FaultKind → ℕ
fault_number BadByte = 1
fault_number BadToken = 2
fault_number Syntax = 3
fault_number TooDeep = 4
fault_number Float = 5
fault_number SetRefused = 6
fault_number UnboundedInt = 7
fault_number LiteralRange = 8
fault_number DuplicateName = 9
fault_number UnknownName = 10
fault_number UnknownConstraint = 11
fault_number Arity = 12
fault_number WrongType = 13
fault_number Length = 14
fault_number Argument = 15
fault_number TooMany = 16
fault_number OutputAnnotation = 17
fault_number FileTooLong = 18
