use Rattle.fzn_reading_tests.proofs.names.tree_of.Goals as goal

-- what the tokens of a file spell keeps the limits
pub returns : goal.returns
returns c = c.within_limits.ensures _ _ _ c.in_ok-list.ensures.right c.in_ok-tree.ensures.right
