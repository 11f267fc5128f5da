-- The matches are those that clap's definition gives.
use Rattle.std.proofs.Common.{List, subst, map}
use Rattle.std.specs.Prelude.{IfOk}
use Rattle.clap.specs.Words.{Row}
use Rattle.fzn_options.specs.CommandLines.{check_line}
use Rattle.fzn_options.specs.Said.{IsCheckSaid}
use Rattle.fzn_options.proofs.LineLemmas.{check-simple, rows-said}
use Rattle.fzn_options.proofs.check.check_options_of.Goals as goal

pub returns-in-Ok-clause-said : goal.returns-in-Ok-clause-said
returns-in-Ok-clause-said g c =
    let S : List Row → Type 0 = λ rows. IfOk c.options_in.result (IsCheckSaid rows) in
    subst S (rows-said check_line c.in_ok-command.command (map g.S.AsStr.text c.args.words.now) c.in-Ok.matches c.in_ok-command.ensures check-simple c.in-Ok.ensures.matches) c.options_in.ensures.said
