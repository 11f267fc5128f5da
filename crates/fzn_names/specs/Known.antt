-- The names that a map holds.
use Rattle.std.specs.Prelude.{map}
use Rattle.fzn_names.specs.declared.names.Names.{Names}
use Rattle.fzn_names.specs.Values.{NameList}

abbrev pub known : Names → NameList
known names = map (λ entry. (entry.0.items, entry.1)) names.map.entries
