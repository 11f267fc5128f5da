use Rattle.std.proofs.Common.{◌≡◌, length, ap, sym, subst}
use Rattle.std.specs.Prelude.{option_map, string_bytes}
use Rattle.fzn_core.specs.Kept.{kept_steps}
use Rattle.fzn_trim.specs.Behind.{kept_front, front_by, IsTrimBehind}
use Rattle.fzn_trim.specs.Written.{front_of}
use Rattle.fzn_trim.proofs.TrimLemmas.{behind-old}
use Rattle.fzn_trim.proofs.shorter.trimmed_certificate.Goals as goal

-- behind the head that stood the test
pub returns-in-Some : goal.returns-in-Some
returns-in-Some c = λ own wf reads head.
    let behind = rw c.in-Some.is at c.in_ok-front.ensures in
    behind own reads

-- behind the old head
pub returns : goal.returns
returns c = λ own wf reads head.
    let model = c.args.model.now in
    let held = c.args.held in
    let kept = c.in_ok-kept.kept in
    let read = kept.derivations.items in
    let front_is : kept_front model kept ≡ front_of model read = ap (λ front. front_by model read (option_map string_bytes front)) c.in_ok-kept.ensures.front in
    subst (IsTrimBehind own (length model.constraints) held (kept_steps kept)) (sym front_is)
    (behind-old own model held (kept_steps kept) read wf c.requires.model head c.in_ok-kept.ensures.derivations c.in_ok-kept.ensures.steps)
