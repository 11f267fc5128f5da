use Rattle.std.proofs.Common.{◌∙◌}
use Rattle.fzn_sources.proofs.FrontLemmas.{memory-reads}
use Rattle.fzn_sources.proofs.NameLemmas.{tree-named}
use Rattle.fzn_sources.proofs.SourceLemmas.{sources-are}
use Rattle.fzn_sources.proofs.located.stated_in.Goals as goal

pub type_check-requires : goal.type_check-requires
type_check-requires c = c.within_limits.ensures c.args.bytes.now c.in_ok-tokens.tokens c.in_ok-tree.tree c.in_ok-tokens.ensures.right c.in_ok-tree.ensures.right

pub sources_of-requires : goal.sources_of-requires
sources_of-requires c = tree-named c.in_ok-tree.tree c.in_ok-named.ensures.right.0

pub returns-clause-sources : goal.returns-clause-sources
returns-clause-sources c =
    sources-are c.args.bytes.now c.in_ok-tokens.tokens c.in_ok-tree.tree c.as_slice.result.now c.in_ok-sources.sources.items c.in_ok-named.named.model.constraints c.in_ok-tokens.ensures.right c.in_ok-tree.ensures.right
    (c.as_slice.ensures.value ∙ c.in_ok-items.ensures) c.in_ok-sources.ensures c.in_ok-named.ensures.right.1.constraints

pub returns-in_err-sources-clause-right : goal.returns-in_err-sources-clause-right
returns-in_err-sources-clause-right c = memory-reads c.args.bytes.now c.from_residual-in_err-sources.result c.from_residual-in_err-sources.ensures.1
