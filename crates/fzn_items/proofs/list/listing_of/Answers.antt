use Rattle.std.proofs.Common.{ℕ, List, ap, subst, ◌∙◌}
use Rattle.std.specs.List.{All}
use Rattle.fzn_reading.specs.Over.{IsAnnotationOver}
use Rattle.fzn_strategy.specs.declared.annotation.Annotation.{Annotation}
use Rattle.fzn_items.specs.Listed.{items_text}
use Rattle.fzn_items.proofs.ListedLemmas.{few-stated}
use Rattle.fzn_items.proofs.list.listing_of.Goals as goal

pub text_of-requires-clause-within : goal.text_of-requires-clause-within
text_of-requires-clause-within c = c.requires.within.declarations.vars

pub text_of-requires-clause-few : goal.text_of-requires-clause-few
text_of-requires-clause-few c = few-stated c.args.tree.now c.args.named.now.model c.requires.typed c.requires.well_formed c.requires.within

pub returns : goal.returns
returns c =
    let annotations = c.in_ok-annotations.annotations.items in
    record {
      annotations = annotations;
      over = subst (λ (n : ℕ). All (IsAnnotationOver n) annotations) c.len-count.ensures c.in_ok-annotations.ensures;
      is = c.in_ok-text.ensures ∙ ap (λ (all : List Annotation). items_text c.args.bytes.now c.args.tree.now c.args.items.now c.args.named.now.model all c.args.places.now c.args.constant) c.as_slice-listed.ensures.value;
      counted = c.counts_of-counts.ensures;
    }
