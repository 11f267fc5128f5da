use Rattle.std.proofs.Common.{◌+◌, ⊎_elim, subst, sym, List}
use Rattle.std.specs.List.{Contains}
use Rattle.std.proofs.lemmas.List.{take_rest}
use Rattle.fzn_values.specs.declared.term.Term.{Term}
use Rattle.fzn_values.specs.declared.term.Term.TheVariants.{Variable}
use Rattle.fzn_derive.proofs.PairLemmas.{stand_behind, stand_beside}
use Rattle.fzn_derive.proofs.apart.stand_apart.Goals as goal

pub returns-else-has_variable : goal.returns-else-has_variable
returns-else-has_variable c =
    let terms = c.args.terms.now in
    let at = c.in-Some.ensures.found in
    let rest = take_rest terms (c.in-Some.place + 1) in (
      λ t. stand_behind terms c.args.x c.args.y c.in-Some.place at (subst (λ (ts : List Term). Contains ts (Variable c.args.y)) rest (c.has_variable-else-has_variable.ensures.0 t)),
      λ s. ⊎_elim (λ before. let t = c.has_variable.ensures.1 before in let f = c.if-has_variable.false in absurd (cc)) (λ behind. c.has_variable-else-has_variable.ensures.1 (subst (λ (ts : List Term). Contains ts (Variable c.args.y)) (sym rest) behind)) (stand_beside terms c.args.x c.args.y c.in-Some.place at s),
    )
