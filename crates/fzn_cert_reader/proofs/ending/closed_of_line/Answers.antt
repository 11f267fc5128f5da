use Rattle.std.proofs.Common.{ℕ, List, sym, ap, ◌∙◌}
use Rattle.std.specs.Str.{bytes_eq}
use Rattle.fzn_cert_reader.proofs.EndingLaws.{no_end}
use Rattle.fzn_cert_reader.proofs.ending.closed_of_line.Goals as goal

pub returns-else-eq-2-clause-none : goal.returns-else-eq-2-clause-none
returns-else-eq-2-clause-none c =
    no_end c.args.line.now
    (ap (λ (t : List ℕ). bytes_eq c.args.line.now t) (sym c.as_slice.ensures) ∙ sym c.eq.ensures ∙ c.if-eq.false)
    (ap (λ (t : List ℕ). bytes_eq c.args.line.now t) (sym c.as_slice-else-eq.ensures) ∙ sym c.eq-else-eq.ensures ∙ c.if-eq-2.false)
