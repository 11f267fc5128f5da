use Rattle.std.proofs.Common.{ℕ, List, sym, ap, subst}
use Rattle.fzn_propagator.specs.declared.inferences.Inferred.{Inferred}
use Rattle.fzn_state.proofs.StackLemmas.{AllBelow}
use Rattle.fzn_state.proofs.solver.Solver.drop_inferences.Goals as goal

pub kept_len-len-requires : goal.kept_len-len-requires
kept_len-len-requires c = subst (λ (n : ℕ). AllBelow n c.args.self.now.trail.entries) (sym c.len.ensures) c.requires

pub returns : goal.returns
returns c = record {
  count = c.kept_len-len.result;
  enough = c.kept_len-len.ensures;
  is = ap (λ (stack : List Inferred). record c.args.self.now { inferences = stack; notes = c.kept_len-len.new.notes }) c.truncate.ensures;
}
