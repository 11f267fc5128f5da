use Rattle.fzn_reading.proofs.LimitLemmas.{tree_within}
use Rattle.fzn_reading.proofs.file.file_of.Goals as goal

-- the tokens are small, and the tree is within the limits
pub type_check-requires : goal.type_check-requires
type_check-requires c =
    tree_within c.args.bytes.now c.in_ok-tokens.tokens c.in_ok-tree.tree c.in_ok-tokens.ensures.right c.in_ok-tree.ensures.right
