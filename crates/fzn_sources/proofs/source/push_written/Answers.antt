use Rattle.std.proofs.Common.{◌++◌, List, sym, ap, ◌∙◌, append-nil}
use Rattle.fzn_lexer.specs.declared.token.Span.{Span}
use Rattle.fzn_typing.specs.Models.{written}
use Rattle.fzn_names.proofs.StepLemmas.{uncons}
use Rattle.fzn_sources.proofs.SourceLemmas.{items-step, uncons-at, stated-no_part, stated-no_item}
use Rattle.fzn_sources.proofs.source.push_written.Goals as goal

pub returns-in_default-items : goal.returns-in_default-items
returns-in_default-items c = λ names.
    let found = c.loop-vars.sources.items in
    sym (append-nil found) ∙ ap (λ (t : List Span). found ++ t) (sym (stated-no_item (written names) c.loop-vars.vars.now c.loop-vars.items.now c.in_default-items.len_below)) ∙ c.loop-vars.invariant names

pub returns : goal.returns
returns c = λ names.
    let found = c.loop-vars.sources.items in
    sym (append-nil found) ∙ ap (λ (t : List Span). found ++ t) (sym (stated-no_part (written names) c.loop-vars.vars.now c.loop-vars.items.now c.in_default.len_below)) ∙ c.loop-vars.invariant names

pub loop-vars-preserved : goal.loop-vars-preserved
loop-vars-preserved c = λ names.
    let vars = c.loop-vars.vars.now in
    let items = c.loop-vars.items.now in
    items-step (written names) c.loop-vars.sources.items c.push_times.new.sources.items vars items c.var-item.result _ c.count_of.result (uncons vars c.var-item.result c.in-len1-up.len_at_least c.var-item.is)
    (uncons-at items _ c.in-len1-up-items.len_at_least) c.in_ok-push_times.ensures (c.count_of.ensures names)
    ∙ c.loop-vars.invariant names
