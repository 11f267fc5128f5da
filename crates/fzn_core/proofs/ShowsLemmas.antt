-- What a held certificate shows of its file.
use Rattle.std.proofs.Common.{ℕ, List, ℤ, Option, sym, subst}
use Rattle.fzn_meaning.specs.declared.model.Model.{Model}
use Rattle.fzn_meaning.specs.Solutions.{IsProper, IsExhausted}
use Rattle.fzn_meaning.specs.WellFormed.{IsWellFormed}
use Rattle.fzn_reading.specs.Reads.{States}
use Rattle.fzn_cert.specs.Verdict.{accepted}
use Rattle.fzn_cert.proofs.SoundLaws.{accepted-proper, closed-exhausted}
use Rattle.fzn_head.specs.Outcome.{IsOutcomeOn}
use Rattle.fzn_head.proofs.CallerLemmas.{proper-before, exhausted-before}
use Rattle.fzn_checker.specs.declared.hold.Held.{Held}
use Rattle.fzn_checker.specs.Answered.{Shows}
use Rattle.fzn_checker.specs.Held.{HoldsCertificate}
use Rattle.fzn_checker.proofs.CallerLemmas.{certificate-accepted}

pub shows-of : (file cert : Option (List ℕ)) (model after : Model) → States file model → (held : Held) → IsWellFormed model → IsWellFormed after → HoldsCertificate model after cert held → Shows file cert model held.solutions.items held.closed
shows-of file cert model after states held wf formed is =
    let read = held.derivations.items in
    let extends = is.derives.extends in
    record {
      states = states;
      verdict = subst (λ (found : List (List ℤ)). IsOutcomeOn model cert (accepted found held.closed)) (sym is.stands.found)
          (certificate-accepted model after is.version cert held.steps held.closed wf is.certificate is.stands.accepted is.stands.may_end);
      proper = proper-before model after read wf extends held.solutions.items (subst (IsProper after) (sym is.stands.found) (accepted-proper after held.steps formed is.stands.accepted));
      exhausted = λ closed. exhausted-before model after read wf extends held.solutions.items
          (subst (IsExhausted after) (sym is.stands.found) (closed-exhausted after held.steps formed is.stands.accepted (is.stands.may_end closed)));
    }
