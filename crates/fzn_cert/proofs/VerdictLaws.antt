-- A verdict from line to line, and what it says where a certificate is accepted.
use Rattle.std.proofs.Common.{◌≡◌, ℕ, suc, ◌+◌, Bool, true, List, [], ◌∷◌, ℤ, length, Option, Some, sym, subst, inl, inr, arith}
use Rattle.std.specs.List.{fold}
use Rattle.std.specs.Io.KnownBytes.{Consumes}
use Rattle.std.proofs.KnownBytes.{Consumes-nil, Consumes-trans}
use Rattle.fzn_meaning.specs.declared.model.Model.{Model}
use Rattle.fzn_meaning.specs.Solutions.{IsProper, IsExhausted}
use Rattle.fzn_meaning.specs.WellFormed.{IsWellFormed}
use Rattle.fzn_cert.specs.declared.step.Step.{Step}
use Rattle.fzn_cert.specs.declared.step.Version.{Version}
use Rattle.fzn_cert.specs.Spelling.{step_line, HasLine}
use Rattle.fzn_cert.specs.Past.{StepsPast}
use Rattle.fzn_cert.specs.Accepted.{IsAccepted, after_step}
use Rattle.fzn_cert.specs.Verdict.{Outcome, accepted, lines_of, EndsIn, VerdictFrom, VerdictOn}
use Rattle.fzn_cert.proofs.SoundLaws.{accepted-proper, closed-exhausted}

-- the end stands here, with no step before it
pub verdict-ends : (model : Model) (version : Version) (past : StepsPast) (count : ℕ) (left : Option (List ℕ)) (outcome : Outcome) → EndsIn model version past count left outcome → VerdictFrom model version past count left outcome
verdict-ends model version past count left outcome h = ([], tt, tt, (left, Consumes-nil left, subst (λ n. EndsIn model version past n left outcome) (omega arith) h))

-- one accepted step, and then the rest
pub verdict-step : (model : Model) (version : Version) (past : StepsPast) (count : ℕ) (left next : Option (List ℕ)) (step : Step) (outcome : Outcome) → HasLine version count step → IsAccepted model past step → Consumes left next (step_line step) → VerdictFrom model version (after_step model past step) (count + 1) next outcome → VerdictFrom model version past count left outcome
verdict-step model version past count left next step outcome line is_accepted taken (later, lines, all, (rest, rest_taken, ends)) = (
  step ∷ later,
  (line, lines),
  (is_accepted, all),
  (
    rest,
    Consumes-trans left next rest (step_line step) (lines_of later) taken rest_taken,
    subst (λ n. EndsIn model version (fold (after_step model) (after_step model past step) later) n rest outcome) (shift count (length later)) ends,
  ),
)
  where
    shift : (m n : ℕ) → m + 1 + n ≡ m + suc n
    shift m n = omega arith

-- the solutions of an accepted certificate are a proper list
pub verdict-proper : (model : Model) (left : List ℕ) (found : List (List ℤ)) (closed : Bool) → IsWellFormed model → VerdictOn model (Some left) (accepted found closed) → IsProper model found
verdict-proper model left found closed wf (inl h) = absurd h
verdict-proper model left found closed wf (inr (version, sized, (rest, taken, (later, lines, all, (last, last_taken, ends))))) =
    subst (IsProper model) (sym ends.2) (accepted-proper model later wf all)

-- and exhausted where it says closed
pub verdict-exhausted : (model : Model) (left : List ℕ) (found : List (List ℤ)) (closed : Bool) → IsWellFormed model → VerdictOn model (Some left) (accepted found closed) → closed ≡ true → IsExhausted model found
verdict-exhausted model left found closed wf (inl h) is_closed = absurd h
verdict-exhausted model left found closed wf (inr (version, sized, (rest, taken, (later, lines, all, (last, last_taken, ends))))) is_closed =
    subst (IsExhausted model) (sym ends.2) (closed-exhausted model later wf all (ends.1 is_closed))
