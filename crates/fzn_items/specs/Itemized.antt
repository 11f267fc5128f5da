-- What listing the items of a file prints and answers.
use Rattle.std.specs.Prelude.{◌≡◌, ℕ, Bool, true, List, Option, IfSome, Err}
use Rattle.std.specs.Io.KnownBytes.{Appends, Keeps}
use Rattle.fzn_streams.specs.Output.{AppendsFront}
use Rattle.fzn_lexer.specs.declared.halt.Halt.TheVariants as errors
use Rattle.fzn_reading.specs.Reads.{Reads}
use Rattle.fzn_checker.specs.declared.fault.CheckFault.{CheckFault}
use Rattle.fzn_checker.specs.declared.fault.CheckFault.TheVariants.{File, Memory, Read, WriteOutput}
use Rattle.fzn_items.specs.declared.counts.Counts.{Counts}
use Rattle.fzn_items.specs.Listed.{Itemizes}

-- such a text is printed, whole
abbrev pub IsItemized : Option (List ℕ) → Option (List ℕ) → Option (List ℕ) → Counts → Type 0
IsItemized file before after counts = (text : List ℕ) × Itemizes file text counts × Appends before after text

-- The file's first fault; nothing is printed then. After a failed write a beginning of such a text stands.
abbrev pub IsItemsFault : Option (List ℕ) → Option (List ℕ) → Option (List ℕ) → CheckFault → Type 0
IsItemsFault file before after (File fault) = Keeps before after × IfSome file (λ bytes. Reads bytes (Err (errors.Fault fault)))
IsItemsFault file before after Memory = Keeps before after
IsItemsFault file before after Read = Keeps before after
IsItemsFault file before after WriteOutput = (counts : Counts) × (text : List ℕ) × Itemizes file text counts × AppendsFront before after text
IsItemsFault file before after _ = ⊥

-- a failed read is answered only where one of the file failed, and a failed write only where one of the text failed, or its flush
pub record IsItemsDue (file out : Bool) (fault : CheckFault) : Type 0 where
  pub read : fault ≡ Read → file ≡ true
  pub write : fault ≡ WriteOutput → out ≡ true
