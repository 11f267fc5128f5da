-- Faults of reading a model as those of checking, and their exit statuses.
use Rattle.std.specs.Prelude.{ℕ}
use Rattle.fzn_fault.specs.declared.stop.Stop.TheVariants as stops
use Rattle.fzn_fault.specs.Stops.{status_of as stop_status}
use Rattle.fzn_reading.specs.declared.fault.ModelFault.{ModelFault}
use Rattle.fzn_reading.specs.declared.fault.ModelFault.TheVariants as reading
use Rattle.fzn_checker.specs.declared.fault.CheckFault.{CheckFault}
use Rattle.fzn_checker.specs.declared.fault.CheckFault.TheVariants.{File, Refused, NotVersionOne, Memory, Read, WriteOutput, WriteCert}

abbrev pub fault_from : ModelFault → CheckFault
fault_from (reading.File fault) = File fault
fault_from reading.Memory = Memory
fault_from reading.Read = Read

-- the exit status of a program that answers the fault
abbrev pub check_status : CheckFault → ℕ
check_status (Refused line refusal) = 1
check_status NotVersionOne = 1
check_status (File fault) = 2
check_status Memory = stop_status stops.Memory
check_status Read = stop_status stops.Read
check_status WriteOutput = stop_status stops.WriteOutput
check_status WriteCert = stop_status stops.WriteCert
