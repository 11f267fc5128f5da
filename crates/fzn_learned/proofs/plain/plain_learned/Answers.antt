-- The plain clause is the negated decisions, with all reasons and the conflict.
use Rattle.std.proofs.Common.{◌≡◌, ◌-◌, arith}
use Rattle.fzn_trail.specs.Levels.{level_of}
use Rattle.fzn_learned.specs.declared.learned.Learned.{Learned}
use Rattle.fzn_learned.specs.Reasoned.{known_of}
use Rattle.fzn_learned.proofs.PlainLemmas.{learned_plain, plain_is}
use Rattle.fzn_learned.proofs.plain.plain_learned.Goals as goal

pub returns-clause-learned : goal.returns-clause-learned
returns-clause-learned c =
    let learned : Learned = record { clause = c.in_ok-plain_clause.field-0; antecedents = c.in_ok-plain_antecedents.field-0; level = c.saturating_sub.result; block_distance = c.level-2.result; marked = c.new.result } in
    let level_is : learned.level ≡ level_of c.args.trail.now - 1 = omega (arith, c.saturating_sub.ensures, c.level.ensures) in
    learned_plain (known_of c.args.clauses.now c.args.inferences.now) c.args.trail.now c.args.conflict learned c.requires.reasoned c.requires.limited c.requires.conflict
    c.in_ok-plain_clause.ensures c.in_ok-plain_antecedents.ensures level_is

pub returns-clause-plain : goal.returns-clause-plain
returns-clause-plain c =
    let learned : Learned = record { clause = c.in_ok-plain_clause.field-0; antecedents = c.in_ok-plain_antecedents.field-0; level = c.saturating_sub.result; block_distance = c.level-2.result; marked = c.new.result } in
    let level_is : learned.level ≡ level_of c.args.trail.now - 1 = omega (arith, c.saturating_sub.ensures, c.level.ensures) in
    plain_is (known_of c.args.clauses.now c.args.inferences.now) c.args.trail.now c.args.conflict learned c.requires.reasoned c.requires.limited c.requires.conflict
    c.in_ok-plain_clause.ensures c.in_ok-plain_antecedents.ensures level_is
