-- A value within the limit, or past it.
use Rattle.fzn_parser.specs.GoesOn.{never}
use Rattle.fzn_parser.proofs.FormLaws.{within_limit, over_limit}
use Rattle.fzn_parser.proofs.LiteralLaws.{number_told}
use Rattle.fzn_parser.proofs.Onward.{gives_refused}
use Rattle.std.proofs.lemmas.Bool.{lt-ltb, le-ltb}
use Rattle.fzn_parser.proofs.values.I64Part.read.Goals as goal

pub returns-then-number-lt-MOST_LISTED-clause-reads : goal.returns-then-number-lt-MOST_LISTED-clause-reads
returns-then-number-lt-MOST_LISTED-clause-reads c = within_limit _ (lt-ltb _ _ c.if-number-lt-MOST_LISTED.true) c.number.ensures.reads

pub returns-else-number-lt-MOST_LISTED-clause-reads : goal.returns-else-number-lt-MOST_LISTED-clause-reads
returns-else-number-lt-MOST_LISTED-clause-reads c = gives_refused _ c.refuse_more.ensures (over_limit number_told never _ _ (le-ltb _ _ c.if-number-lt-MOST_LISTED.false))
