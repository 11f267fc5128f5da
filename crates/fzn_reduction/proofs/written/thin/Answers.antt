-- Those that are kept stood there.
use Rattle.std.proofs.Common.{List, All, Contains, sym, subst, rules}
use Rattle.std.proofs.lemmas.Fn.{All-from_retain}
use Rattle.std.proofs.lemmas.List.Elements.{All-contains_itself}
use Rattle.fzn_reduction.specs.declared.written.Given.{Given}
use Rattle.fzn_reduction.proofs.WrittenLemmas.{All-picked}
use Rattle.fzn_reduction.proofs.written.thin.Goals as goal

pub returns-clause-only : goal.returns-clause-only
returns-clause-only c = All-from_retain _ (λ (step : Given). Contains c.args.numbers.now step.number) _ (λ x b f' k. search rules) _ _ c.retain.ensures.filtered

pub returns-clause-among : goal.returns-clause-among
returns-clause-among c =
    let old = c.args.steps.now.items in
    let filtered = c.retain.ensures.filtered in
    let A : List Given → Type 0 = λ steps. All (Contains c.args.steps.now.items) steps in
    subst A (sym filtered.4) (All-picked (Contains old) filtered.0 old (All-contains_itself old))
