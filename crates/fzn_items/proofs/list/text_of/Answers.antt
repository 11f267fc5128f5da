use Rattle.std.proofs.Common.{◌++◌, ℕ, List, ap, ◌∙◌}
use Rattle.std.specs.List.{flat_map}
use Rattle.fzn_lexer.specs.declared.token.Span.{Span}
use Rattle.fzn_items.specs.declared.counts.Counts.{Counts}
use Rattle.fzn_items.specs.Ending.{search_line, goal_line, counts_line}
use Rattle.fzn_sources.specs.Items.{goal_items}
use Rattle.fzn_items.specs.Listed.{listed_counts, items_text, mended_text, statements_text}
use Rattle.fzn_items.proofs.TextLemmas.{behind_eq}
use Rattle.fzn_items.proofs.list.text_of.Goals as goal

pub returns : goal.returns
returns c =
    let tree = c.args.tree.now in
    let items = c.args.items.now in
    let model = c.args.named.now.model in
    let start = c.new-text.result.items in
    let end = c.push_counts.new.text.items in
    let statements = statements_text tree items in
    let searches = flat_map search_line c.args.annotations.now in
    let wanted = goal_line c.args.constant model.goal (goal_items tree items) in
    let told = mended_text c.args.bytes.now c.args.places.now c.args.constant in
    let counts = counts_line (listed_counts tree model c.args.places.now c.args.constant) in
    let with_searches = behind_eq start c.push_statements.new.text.items c.push_searches.new.text.items statements searches c.in_ok-push_statements.ensures c.in_ok-push_searches.ensures in
    let with_goal = behind_eq start c.push_searches.new.text.items c.push_goal.new.text.items (statements ++ searches) wanted with_searches
    (c.in_ok-push_goal.ensures ∙ ap (λ (all : List Span). c.push_searches.new.text.items ++ goal_line c.args.constant model.goal all) c.goal_items.ensures) in
    let with_told = behind_eq start c.push_goal.new.text.items c.push_mended.new.text.items (statements ++ searches ++ wanted) told with_goal c.in_ok-push_mended.ensures in
    let all = behind_eq start c.push_mended.new.text.items end (statements ++ searches ++ wanted ++ told) counts with_told
    (c.in_ok-push_counts.ensures ∙ ap (λ (n : Counts). c.push_mended.new.text.items ++ counts_line n) c.counts_of.ensures) in
    all ∙ ap (λ (t : List ℕ). t ++ items_text c.args.bytes.now tree items model c.args.annotations.now c.args.places.now c.args.constant) c.new-text.ensures.items
