use Rattle.fzn_items.proofs.read.listing_in.Goals as goal

pub type_check-requires : goal.type_check-requires
type_check-requires c = c.within_limits.ensures c.args.bytes.now c.in_ok-tokens.tokens c.in_ok-tree.tree c.in_ok-tokens.ensures.right c.in_ok-tree.ensures.right
