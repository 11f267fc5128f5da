use Rattle.std.proofs.Common.{◌≡◌, ◌++◌, ℕ, List, length, take, drop, map, ap, ap₂, ◌∙◌}
use Rattle.fzn_lexer.specs.declared.token.Span.{Span}
use Rattle.fzn_tree.specs.declared.tree.Var.{Var}
use Rattle.fzn_typing.specs.Faults.{tree_names}
use Rattle.fzn_typing.specs.Models.{written}
use Rattle.fzn_sources.specs.Items.{item_in, stated_by, constraint_items, declaration_items}
use Rattle.fzn_sources.proofs.NameLemmas.{named-one}
use Rattle.fzn_sources.proofs.SourceLemmas.{sourced-items}
use Rattle.fzn_sources.proofs.source.sources_of.Goals as goal

pub returns : goal.returns
returns c =
    let tree = c.args.tree.now in
    let items = c.args.items.now in
    let names = tree_names tree in
    let less : ℕ → List Span → List Span = λ n xs. drop n xs in
    let declared : c.behind-declarations.result.now ≡ declaration_items tree items =
    c.behind-declarations.ensures ∙ ap₂ less c.len-2.ensures (c.behind-behind_predicates.ensures ∙ ap (λ (n : ℕ). drop n items) c.len.ensures) in
    let stated : c.front-stated.result.now ≡ take (length tree.cons) (constraint_items tree items) =
    c.front-stated.ensures ∙ ap₂ (λ (n : ℕ) (xs : List Span). take n xs) c.len-4.ensures (c.behind.ensures ∙ ap₂ less c.len-3.ensures declared) in
    sourced-items tree items c.push_written.new.sources.items (named-one names tree.cons c.requires)
    (c.in_ok-push_written.ensures names
    ∙ ap₂ (λ (front back : List Span). front ++ back) (c.in_ok-sources.ensures.items ∙ stated) (ap₂ (λ (vs : List Var) (xs : List Span). map item_in (stated_by (written names) vs xs)) c.as_slice.ensures declared))
