use Rattle.std.proofs.Common.{◌≡◌, List, ap, subst, sym, ◌∙◌}
use Rattle.std.specs.List.{All}
use Rattle.fzn_lexer.specs.declared.token.Token.{Token}
use Rattle.fzn_lexer.specs.Lexemes.{HasSmallNumber}
use Rattle.fzn_lexer.specs.Tokens.{EndsInEnd}
use Rattle.fzn_tree.specs.declared.tree.Param.{Param}
use Rattle.fzn_mending.specs.Mending.{mended, mended_places, constant}
use Rattle.fzn_items.proofs.ListedLemmas.{memory-told, mended-listing}
use Rattle.fzn_mending.proofs.MendLemmas.{ends-mended, small-mended}
use Rattle.fzn_items.proofs.read.mended_in.Goals as goal

-- the tokens mended end as those of the file do
pub tree_or-requires : goal.tree_or-requires
tree_or-requires c =
    let told : c.in_ok-told.told ≡ mended c.args.stated.now.params c.args.tokens.now = c.in_ok-told.ensures ∙ ap (λ (ps : List Param). mended ps c.args.tokens.now) c.as_slice-params.ensures in
    subst EndsInEnd (sym told) (ends-mended c.args.stated.now.params c.args.tokens.now c.requires.ends)

-- and their numbers are small, as those of the file are
pub named_or-requires : goal.named_or-requires
named_or-requires c =
    let told : c.in_ok-told.told ≡ mended c.args.stated.now.params c.args.tokens.now = c.in_ok-told.ensures ∙ ap (λ (ps : List Param). mended ps c.args.tokens.now) c.as_slice-params.ensures in
    c.small_within_limits.ensures c.in_ok-told.told c.in_ok-tree.tree
    (subst (λ (z : List Token). All (λ (token : Token). HasSmallNumber token.kind) z) (sym told)
    (small-mended c.args.stated.now.params c.args.tokens.now (c.small_tokens.ensures c.args.bytes.now c.args.tokens.now c.requires.lexed)))
    c.in_ok-tree.ensures.ok

pub returns-clause-ok : goal.returns-clause-ok
returns-clause-ok c =
    let tokens = c.args.tokens.now in
    mended-listing c.args.bytes.now tokens c.in_ok-told.told c.args.stated.now c.in_ok-tree.tree c.args.items.now c.as_slice-listed.result.now c.constant_goal-goal.result c.in_ok-named.named.model
    c.in_ok-listing.listing.text.items c.in_ok-listing.listing.counts c.args.fault c.requires.lexed c.requires.parsed c.requires.faulty
    (c.in_ok-told.ensures ∙ ap (λ (ps : List Param). mended ps tokens) c.as_slice-params.ensures) c.in_ok-tree.ensures.ok
    (c.as_slice-listed.ensures ∙ (c.in_ok-types.ensures ∙ ap (λ (ps : List Param). mended_places ps tokens) c.as_slice-params.ensures))
    (c.constant_goal-goal.ensures ∙ ap (λ (ps : List Param). constant ps tokens) c.as_slice-params.ensures)
    c.in_ok-named.ensures.typed c.requires.items c.in_ok-listing.ensures

pub listing_of-requires-clause-within : goal.listing_of-requires-clause-within
listing_of-requires-clause-within c =
    let told : c.in_ok-told.told ≡ mended c.args.stated.now.params c.args.tokens.now = c.in_ok-told.ensures ∙ ap (λ (ps : List Param). mended ps c.args.tokens.now) c.as_slice-params.ensures in
    c.small_within_limits.ensures c.in_ok-told.told c.in_ok-tree.tree
    (subst (λ (z : List Token). All (λ (token : Token). HasSmallNumber token.kind) z) (sym told)
    (small-mended c.args.stated.now.params c.args.tokens.now (c.small_tokens.ensures c.args.bytes.now c.args.tokens.now c.requires.lexed)))
    c.in_ok-tree.ensures.ok

pub returns-in_err-types-clause-err : goal.returns-in_err-types-clause-err
returns-in_err-types-clause-err c = memory-told c.args.fault c.from_residual-in_err-types.result c.from_residual-in_err-types.ensures.1

pub returns-in_err-listing-clause-err : goal.returns-in_err-listing-clause-err
returns-in_err-listing-clause-err c = memory-told c.args.fault c.from_residual-in_err-listing.result c.from_residual-in_err-listing.ensures.1
