-- Which files are the same.
use Rattle.std.specs.Prelude.{◌&&◌, nat_eq, Bool, false, List, Option, Some, None}
use Rattle.std.specs.List.{list_any}
use Rattle.fzn_paths.specs.declared.identity.FileId.{FileId}

-- one device, and one number there
abbrev pub is_same : FileId → Option FileId → Bool
is_same file None = false
is_same file (Some other) = nat_eq file.device other.device && nat_eq file.number other.number

-- it is a regular file, and one of these
abbrev pub is_one_of : Option FileId → List (Option FileId) → Bool
is_one_of None files = false
is_one_of (Some file) files = list_any (is_same file) files
