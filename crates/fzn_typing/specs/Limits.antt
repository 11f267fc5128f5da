-- What the reader of a file has made sure of: numbers are within their limits, and lists are not too long.
use Rattle.std.specs.Prelude.{◌≤◌, length}
use Rattle.std.specs.List.{All}
use Rattle.fzn_meaning.specs.Meaning.{longest}
use Rattle.fzn_names.specs.Limits.{IsBasicWithin, AreEntriesWithin, AreDeclarationsWithin}
use Rattle.fzn_tree.specs.declared.tree.Arg.{Arg}
use Rattle.fzn_tree.specs.declared.tree.Arg.TheVariants as args
use Rattle.fzn_tree.specs.declared.tree.Con.{Con}
use Rattle.fzn_tree.specs.declared.tree.Tree.{Tree}

abbrev pub IsArgWithin : Arg → Type 0
IsArgWithin (args.Basic basic) = IsBasicWithin basic
IsArgWithin (args.Array array) = AreEntriesWithin array.entries

abbrev pub IsConWithin : Con → Type 0
IsConWithin con = All IsArgWithin con.args

pub record IsTreeWithin (tree : Tree) : Type 0 where
  pub declarations : AreDeclarationsWithin tree.params tree.vars
  pub cons : All IsConWithin tree.cons
  pub few_cons : length tree.cons ≤ longest
