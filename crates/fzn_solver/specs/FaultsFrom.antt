-- The faults of the parts as those of a run, and their exit statuses.
use Rattle.std.specs.Prelude.{ℕ}
use Rattle.fzn_cert.specs.declared.write_fault.WriteFault.{WriteFault}
use Rattle.fzn_cert.specs.declared.write_fault.WriteFault.TheVariants as certificate
use Rattle.fzn_state.specs.declared.fault.Fault.{Fault}
use Rattle.fzn_state.specs.declared.fault.Fault.TheVariants as engine
use Rattle.fzn_fault.specs.declared.stop.Stop.TheVariants as stops
use Rattle.fzn_fault.specs.Stops.{status_of as stop_status}
use Rattle.fzn_reading.specs.declared.fault.ModelFault.{ModelFault}
use Rattle.fzn_reading.specs.declared.fault.ModelFault.TheVariants as reading
use Rattle.fzn_solver.specs.declared.fault.RunFault.{RunFault}
use Rattle.fzn_solver.specs.declared.fault.RunFault.TheVariants.{File, Memory, Read, WriteOutput, WriteCert, StepTooLong}

abbrev pub fault_of_model : ModelFault → RunFault
fault_of_model (reading.File fault) = File fault
fault_of_model reading.Memory = Memory
fault_of_model reading.Read = Read

-- that of a certificate's writer
abbrev pub fault_of_certificate : WriteFault → Fault
fault_of_certificate certificate.Memory = engine.Memory
fault_of_certificate certificate.Write = engine.WriteCert
fault_of_certificate certificate.StepTooLong = engine.StepTooLong
fault_of_certificate certificate.Failed = engine.WriteCert

abbrev pub fault_of_engine : Fault → RunFault
fault_of_engine engine.Memory = Memory
fault_of_engine engine.WriteOutput = WriteOutput
fault_of_engine engine.WriteCert = WriteCert
fault_of_engine engine.StepTooLong = StepTooLong

-- the exit status of a program that answers the fault
abbrev pub status_of_run : RunFault → ℕ
status_of_run (File fault) = 2
status_of_run Memory = stop_status stops.Memory
status_of_run Read = stop_status stops.Read
status_of_run WriteOutput = stop_status stops.WriteOutput
status_of_run WriteCert = stop_status stops.WriteCert
status_of_run StepTooLong = stop_status stops.StepTooLong
