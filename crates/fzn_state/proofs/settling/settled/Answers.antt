-- One clause after the other.
use Rattle.std.proofs.Common.{List, length, sym, subst}
use Rattle.fzn_domain.specs.IntSet.{IntSet}
use Rattle.fzn_domain.specs.Narrow.{IsClauseOver}
use Rattle.fzn_meaning.specs.Solutions.{declared_sets}
use Rattle.fzn_trail.specs.Levels.{fresh}
use Rattle.fzn_clauses.specs.Held.{AllHeld}
use Rattle.fzn_clauses.specs.Watching.{held_by}
use Rattle.fzn_clauses.proofs.CallerLemmas.{declared-Propagates, IsPropagated-append}
use Rattle.fzn_state.proofs.settling.settled.Goals as goal

pub apply-requires-clause-over : goal.apply-requires-clause-over
apply-requires-clause-over c =
    let run = c.loop-place.invariant.propagated in
    let held = held_by c.args.clauses.now in
    let same = declared-Propagates held (fresh (declared_sets c.args.vars.now)) run.0 c.loop-place.settled run.1 in
    let O : List IntSet → Type 0 = λ declared. AllHeld (IsClauseOver (length declared)) (held_by c.args.clauses.now) in
    subst O (sym same) c.requires.over

pub loop-place-preserved-in_ok-apply : goal.loop-place-preserved-in_ok-apply
loop-place-preserved-in_ok-apply c =
    let run = c.in_ok-apply.ensures.propagated in
    record {
      propagated = IsPropagated-append (held_by c.args.clauses.now) (fresh (declared_sets c.args.vars.now)) c.loop-place.settled c.apply.new.trail c.loop-place.invariant.propagated run;
      watching = c.in_ok-apply.ensures.watching;
      filled = c.in_ok-apply.ensures.left;
    }
