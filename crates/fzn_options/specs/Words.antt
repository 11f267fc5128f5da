-- What the words of a command line may say.
use Rattle.std.specs.Prelude.{◌&&◌, if◌then◌else◌, nat_le, ℕ, List, Option, Some, None, length, bytes_eq, codes}
use Rattle.std.specs.List.{list_all}
use Rattle.std.specs.Char.{is_ascii_digit}
use Rattle.std.specs.Str.Parse.{digits_value}
use Rattle.fzn_fault.specs.declared.stop.Stop.TheVariants as stops
use Rattle.fzn_fault.specs.Stops.{status_of as stop_status}
use Rattle.fzn_options.specs.declared.fault.OptionsFault.{OptionsFault}
use Rattle.fzn_options.specs.declared.fault.OptionsFault.TheVariants.{CommandLine, Help, Memory}
use Rattle.fzn_strategy.specs.declared.learn.Learn.{Learn}
use Rattle.fzn_strategy.specs.declared.learn.Learn.TheVariants.{Plain, First}

-- the exit status of a fault
abbrev pub options_status : OptionsFault → ℕ
options_status CommandLine = stop_status stops.CommandLine
options_status (Help text) = 0
options_status Memory = stop_status stops.Memory

-- the number that a word of digits spells, where it is one of these
abbrev pub number_between : ℕ → ℕ → List ℕ → Option ℕ
number_between least most word =
    if nat_le 1 (length word) && list_all is_ascii_digit word && nat_le least (digits_value 10 word) && nat_le (digits_value 10 word) most
    then Some (digits_value 10 word) else None

-- what a word says is learned
abbrev pub learning_of : List ℕ → Option Learn
learning_of word = if bytes_eq word (codes "plain") then Some Plain else (if bytes_eq word (codes "first") then Some First else None)
