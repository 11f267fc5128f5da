use Rattle.std.proofs.Common.{refl, length, arith}
use Rattle.std.proofs.lemmas.Bool.{false≢true}
use Rattle.fzn_builtin_rules.specs.Choices.{inputs_of}
use Rattle.fzn_builtin_rules.proofs.CountLemmas.{inputs_formed, fails_where_none, none_where_all_fail}
use Rattle.fzn_builtin_rules.proofs.choices.no_choice_fits.Goals as goal

-- the choice with this number fits
pub returns-then-not-fails_at : goal.returns-then-not-fails_at
returns-then-not-fails_at c = (
  λ no. absurd (false≢true no),
  λ none. c.if-not-fails_at.ensures.1 (fails_where_none c.args.constraint.now c.args.sets.now.present c.loop-number.number (inputs_of c.args.constraint.now) c.requires.nonempty (inputs_formed (length c.args.sets.now.present) c.args.constraint.now c.requires.constraint) none),
)

pub returns : goal.returns
returns c = (
  λ yes. none_where_all_fail c.args.constraint.now c.args.sets.now.present c.args.count (inputs_of c.args.constraint.now) c.requires.count (λ n below. c.loop-number.invariant n (omega arith)),
  λ none. refl,
)
