-- What a contract sees of a printer.
use Rattle.std.specs.Prelude.{Bool, ℕ, List, Option}
use Rattle.std.specs.Borrow.{GName}
use Rattle.fzn_printer.specs.declared.printer.Printer.{Printer}

-- what the writer below holds
abbrev pub out_contents : {W : Type 0} → (W → Option (List ℕ)) → Printer W → Option (List ℕ)
out_contents contents printer = contents printer.out.now

-- which stream the writer below is
abbrev pub out_stream : {W S : Type 0} → (W → S) → Printer W → S
out_stream stream printer = stream printer.out.now

-- whether a call on the writer below failed
abbrev pub out_failed : {W : Type 0} → (W → Bool) → Printer W → Bool
out_failed has_failed printer = has_failed printer.out.now

-- by this name a caller knows the writer below
abbrev pub out_name : {W : Type 0} → Printer W → GName
out_name printer = printer.out.ghost_name

-- false after a fault, and after the end
abbrev pub is_open : {W : Type 0} → Printer W → Bool
is_open printer = printer.open

-- whether a solution was printed
abbrev pub has_printed : {W : Type 0} → Printer W → Bool
has_printed printer = printer.printed
