use Rattle.std.proofs.lemmas.Bool.{false≢true}
use Rattle.std.proofs.lemmas.List.Elements.{All-more}
use Rattle.fzn_builtin_rules.specs.Rows.{IsBeyond}
use Rattle.fzn_builtin_rules.proofs.RowLemmas.{none_has}
use Rattle.fzn_builtin_rules.proofs.rows.some_passes.Goals as goal

-- the entries so far, and one more
pub loop-entry-preserved : goal.loop-entry-preserved
loop-entry-preserved c =
    All-more (λ entry. IsBeyond c.args.sets.now.present c.args.extreme c.args.bound entry → ⊥) c.args.entries.now c.loop-entry.entry-index _ c.loop-entry-test.true c.loop-entry.invariant (λ beyond. absurd (false≢true (c.if-passes.ensures.1 beyond)))

pub returns : goal.returns
returns c = (λ no. absurd (false≢true no), λ any. absurd (none_has (IsBeyond c.args.sets.now.present c.args.extreme c.args.bound) c.args.entries.now c.loop-entry.entry-index c.loop-entry-test.false c.loop-entry.invariant any))
