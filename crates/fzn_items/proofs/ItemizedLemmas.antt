-- What a fault of a file leaves.
use Rattle.std.proofs.Common.{ℕ, List, Option, IfSome, Err}
use Rattle.std.proofs.KnownBytes.{Keeps-refl}
use Rattle.fzn_reading.specs.declared.fault.ModelFault.{ModelFault}
use Rattle.fzn_reading.specs.declared.fault.ModelFault.TheVariants as reading
use Rattle.fzn_reading.specs.Reads.{Answers}
use Rattle.fzn_checker.specs.FileFaults.{fault_from}
use Rattle.fzn_items.specs.Itemized.{IsItemsFault}

-- the file has a fault, or can't be read
pub read-fault : (file before : Option (List ℕ)) (fault : ModelFault) → IfSome file (λ bytes. Answers bytes (Err fault)) → IsItemsFault file before before (fault_from fault)
read-fault file before (reading.File fault) h = (Keeps-refl before, h)
read-fault file before reading.Memory h = Keeps-refl before
read-fault file before reading.Read h = Keeps-refl before
