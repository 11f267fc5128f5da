use Rattle.std.proofs.Common.{◌≡◌, List, [], ◌∷◌, ◌++◌, ℤ, false, ap, sym, subst, ◌∙◌}
use Rattle.std.specs.Ordering.{int_eq}
use Rattle.std.specs.Cmp.Lexicographic.{pointwise}
use Rattle.fzn_checker.specs.Given.{is_given}
use Rattle.fzn_checker.proofs.GivenLemmas.{new-seen}
use Rattle.fzn_checker.proofs.given.Given.insert.Goals as goal

-- a new list goes last
pub returns-clause-ok : goal.returns-clause-ok
returns-clause-ok c =
    let absent = subst (λ (lists : List (List ℤ)). is_given lists c.args.values.items ≡ false) (sym c.self.view_is) c.requires in
    new-seen (λ list. list.items) (pointwise int_eq) c.self.inside.lists.keys c.insert.new.self.keys c.args.values absent c.in_ok-insert.ensures.keys
    ∙ ap (λ (lists : List (List ℤ)). lists ++ c.args.values.items ∷ []) c.self.view_is
