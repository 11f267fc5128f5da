-- The command lines of both programs, as clap reads them.
use Rattle.std.specs.Prelude.{true, ℕ, List, [], ◌∷◌, Some, codes}
use Rattle.clap.specs.Simple.{new_shape}
use Rattle.clap.specs.Words.{App, Rule, Text, new_rule}
use Rattle.clap.specs.declared.builder.action.ArgAction.TheVariants.{Append, SetTrue, Help, Version}

-- a flag with one letter
abbrev pub letter_flag : Text → ℕ → Rule
letter_flag id letter = record (new_rule id) { short = Some letter; action = Some SetTrue }

-- a flag with a name
abbrev pub named_flag : Text → Rule
named_flag id = record (new_rule id) { long = Some id; action = Some SetTrue }

-- an option with one letter, and a value
abbrev pub letter_option : Text → ℕ → Rule
letter_option id letter = record (new_rule id) { short = Some letter; value_names = 1 }

-- an option with a name, and a value
abbrev pub named_option : Text → Rule
named_option id = record (new_rule id) { long = Some id; value_names = 1 }

-- an option with a name, and a value, that may be given several times
abbrev pub repeated_option : Text → Rule
repeated_option id = record (new_rule id) { long = Some id; value_names = 1; action = Some Append }

-- a path, which stands by itself and may not be left out
abbrev pub path : Text → Rule
path id = record (new_rule id) { value_names = 1; required = true }

-- a path, which stands by itself and may be left out
abbrev pub optional_path : Text → Rule
optional_path id = record (new_rule id) { value_names = 1 }

abbrev pub all_rule : Rule
all_rule = letter_flag (codes "all") 97

abbrev pub help_rule : Rule
help_rule = record (new_rule (codes "help")) { long = Some (codes "help"); action = Some Help }

abbrev pub version_rule : Rule
version_rule = record (new_rule (codes "version")) { long = Some (codes "version"); action = Some Version }

-- a command of these arguments that is given the words after the program's name, and adds no flag of its own
abbrev pub command_line : Text → List Rule → App
command_line name rules =
    let new = new_shape name in
    record {
      top = record new { rules = rules; no_binary_name = true; disable_help_flag = true; disable_version_flag = true; has_version = true };
      subs = [];
    }

-- -a, -n K, -f, --derive, -r SEED, --nodes N, --learn CLAUSE, --cert FILE, --hints FILE, --tune NAME=NUMBER, --progress, MODEL, --help, --version
unfoldable pub solve_line : App
solve_line =
    command_line (codes "fznsolve") (all_rule ∷ letter_option (codes "limit") 110 ∷ letter_flag (codes "free") 102 ∷ named_flag (codes "derive") ∷ letter_option (codes "seed") 114
    ∷ named_option (codes "nodes") ∷ named_option (codes "learn") ∷ named_option (codes "cert") ∷ named_option (codes "hints") ∷ repeated_option (codes "tune") ∷ named_flag (codes "progress") ∷ path (codes "model") ∷ help_rule ∷ version_rule ∷ [])

-- -a, --to2, --trim NEW, --core, --bound, --items, and two paths, --help, --version
unfoldable pub check_line : App
check_line =
    command_line (codes "fzncheck") (all_rule ∷ named_flag (codes "to2") ∷ named_option (codes "trim") ∷ named_flag (codes "core") ∷ named_flag (codes "bound") ∷ named_flag (codes "items") ∷ path (codes "model") ∷ optional_path (codes "cert") ∷ help_rule ∷ version_rule ∷ [])
