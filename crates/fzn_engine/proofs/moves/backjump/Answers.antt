-- No entry rests on more inferences than there are.
use Rattle.std.proofs.Common.{length, refl, subst, sym, ap, ◌∙◌}
use Rattle.fzn_trail.specs.Levels.{Levels}
use Rattle.fzn_state.specs.Search.{stock_of}
use Rattle.fzn_state.specs.declared.solver.Solver.{Solver}
use Rattle.fzn_state.proofs.StackLemmas.{AllBelow, AllBelow-returned}
use Rattle.fzn_engine.proofs.moves.backjump.Goals as goal

pub drop_inferences-requires : goal.drop_inferences-requires
drop_inferences-requires c =
    let count = length c.args.solver.now.inferences in
    let B : Levels → Type 0 = λ t. AllBelow count t.entries in
    subst B (sym c.back_to.ensures) (AllBelow-returned (stock_of c.args.solver.now) c.args.solver.now.trail c.args.level count c.requires.reasoned c.requires.level refl)

pub returns : goal.returns
returns c =
    let is = c.drop_inferences.ensures.is in
    record {
      trail = ap (λ (s : Solver). s.trail) is ∙ c.back_to.ensures;
      count = c.drop_inferences.ensures.count;
      enough = subst (λ (t : Levels). AllBelow c.drop_inferences.ensures.count t.entries) (sym (ap (λ (s : Solver). s.trail) is)) c.drop_inferences.ensures.enough;
      stock = ap stock_of is;
      clauses = ap (λ (s : Solver). s.clauses) is;
      search = ap (λ (s : Solver). s.search) is ∙ c.undo.ensures.same;
      scratch = ap (λ (s : Solver). s.scratch) is;
      learn = ap (λ (s : Solver). s.learn) is;
      found = ap (λ (s : Solver). s.found) is;
      steps = ap (λ (s : Solver). s.steps) is;
    }
