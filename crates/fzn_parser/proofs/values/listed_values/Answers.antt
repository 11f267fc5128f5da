-- The values that a set lists.
use Rattle.fzn_parser.proofs.LiteralLaws.{values_listed}
use Rattle.fzn_parser.proofs.values.listed_values.Goals as goal

pub listed-requires : goal.listed-requires
listed-requires c = record { listed = values_listed }
