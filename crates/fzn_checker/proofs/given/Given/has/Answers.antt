use Rattle.std.proofs.Common.{List, ℤ, ap, sym, ◌∙◌}
use Rattle.std.specs.Ordering.{int_eq}
use Rattle.std.specs.Cmp.Lexicographic.{pointwise}
use Rattle.fzn_checker.specs.Given.{is_given}
use Rattle.fzn_checker.proofs.GivenLemmas.{any-seen}
use Rattle.fzn_checker.proofs.given.Given.has.Goals as goal

-- the lists are seen by their numbers
pub returns : goal.returns
returns c =
    c.contains.ensures
    ∙ sym (any-seen (λ list. list.items) (pointwise int_eq c.args.values.now) c.self.inside.lists.keys)
    ∙ ap (λ (lists : List (List ℤ)). is_given lists c.args.values.now) c.self.view_is
