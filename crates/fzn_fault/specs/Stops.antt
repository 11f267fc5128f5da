-- The faults that lie neither in a file nor in a certificate.
use Rattle.std.specs.Prelude.{ℕ, List, ◌++◌, codes}
use Rattle.std.specs.Fmt.{decimal}
use Rattle.fzn_fault.specs.declared.stop.Stop.{Stop}
use Rattle.fzn_fault.specs.declared.stop.Stop.TheVariants.{Memory, Read, WriteOutput, WriteCert, CommandLine, StepTooLong}

abbrev pub number_of : Stop → ℕ
number_of Memory = 19
number_of Read = 20
number_of WriteOutput = 21
number_of WriteCert = 22
number_of CommandLine = 23
number_of StepTooLong = 24

abbrev pub name_of : Stop → List ℕ
name_of Memory = codes "Memory"
name_of Read = codes "Read"
name_of WriteOutput = codes "WriteOutput"
name_of WriteCert = codes "WriteCert"
name_of CommandLine = codes "CommandLine"
name_of StepTooLong = codes "StepTooLong"

-- what is printed for it, without a line feed
abbrev pub line_of : Stop → List ℕ
line_of stop = codes "fault " ++ decimal (number_of stop) ++ codes " " ++ name_of stop

-- the exit status of a program that it stops
abbrev pub status_of : Stop → ℕ
status_of Memory = 5
status_of Read = 4
status_of WriteOutput = 4
status_of WriteCert = 4
status_of CommandLine = 3
status_of StepTooLong = 5
