-- Two colons, and the annotation.
use Rattle.std.proofs.Common.{refl}
use Rattle.fzn_parser.proofs.AnnLaws.{colons_begun}
use Rattle.fzn_parser.proofs.Onward.{begin, ◌then◌, stop, passes}
use Rattle.fzn_parser.proofs.annotations.AnnPart.read.Goals as goal

pub returns-in_err-symbol-clause-reads : goal.returns-in_err-symbol-clause-reads
returns-in_err-symbol-clause-reads c = stop (begin (colons_begun c.args._number _)) c.in_err-symbol.ensures.reads c.from_residual.ensures.1

pub returns-clause-reads : goal.returns-clause-reads
returns-clause-reads c = passes (begin (colons_begun c.args._number _) then c.in_ok-symbol.ensures.reads) (λ a. refl) c.ann.ensures.reads
