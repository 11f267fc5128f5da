-- The steps of a certificate lead to one outcome.
use Rattle.std.proofs.Common.{◌≡◌, ℕ, suc, ◌+◌, Bool, true, List, [], ◌∷◌, ◌++◌, ℤ, length, Option, Some, None, refl, sym, ap, ap₂, subst, ◌∙◌, arith, append_assoc}
use Rattle.std.specs.List.{fold}
use Rattle.std.specs.Io.KnownBytes.{IsAtEnd}
use Rattle.fzn_meaning.specs.declared.model.Model.{Model}
use Rattle.fzn_cert.specs.declared.refusal.Refusal.{Refusal}
use Rattle.fzn_cert.specs.declared.refusal.Refusal.TheVariants.{Spelling, Truncated, Trailing, LineTooLong, NotClosed}
use Rattle.fzn_cert.specs.declared.step.Step.{Step}
use Rattle.fzn_cert.specs.declared.step.Version.{Version}
use Rattle.fzn_cert.specs.Spelling.{step_line, end_line, HasLine}
use Rattle.fzn_cert.specs.Stream.{After}
use Rattle.fzn_cert.specs.Past.{StepsPast}
use Rattle.fzn_cert.specs.Accepted.{IsAccepted, HasFault, AllAcceptedAfter, after_step}
use Rattle.fzn_cert.specs.Verdict.{Outcome, accepted, refused, lines_of, AllHaveLines, BeginsWith, IsRefusedNext, line_after, EndsIn, VerdictFrom}
use Rattle.fzn_cert.proofs.LineLaws.{one_line_lem}
use Rattle.fzn_cert.proofs.OneVerdictLines.{other_fault, short_fault, long_fault}
use Rattle.fzn_cert.proofs.OneVerdictEnds.{IsNextText, misspelled, Wrong, line, not_closed, trailing, at_step, same_end, step_or_end, one_wrong, step_or_wrong, end_or_wrong}

-- what is left after a text, where all bytes are known
pub taken_from : (bytes text : List ℕ) (Holds : Option (List ℕ) → Type 0) → After (Some bytes) text Holds → (rest : List ℕ) × (bytes ≡ text ++ rest) × Holds (Some rest)
taken_from bytes text Holds (None, taken, h) = absurd taken
taken_from bytes text Holds (Some rest, taken, h) = (rest, taken, h)

module _ (model : Model) (version : Version) (past : StepsPast) (count : ℕ) (bytes : List ℕ) where
  wrong_step : (a : Refusal) (step : Step) → HasLine version count step → BeginsWith (Some bytes) (step_line step) → HasFault model past step a → Wrong model version past count bytes a
  wrong_step a step has begins f =
      let t = taken_from bytes (step_line step) (λ _. Unit {0}) begins in
      at_step step t.0 has t.1 f

  wrong_next : (a : Refusal) → IsRefusedNext model version past count (Some bytes) a → Wrong model version past count bytes a
  wrong_next Spelling (text, begins, none) = line (other_fault (IsNextText version count) Spelling bytes text begins (misspelled version count text none))
  wrong_next Truncated h = line (short_fault (IsNextText version count) Spelling bytes h)
  wrong_next LineTooLong h = line (long_fault (IsNextText version count) Spelling bytes h)
  wrong_next NotClosed (begins, lacks) =
      let t = taken_from bytes (end_line true) (λ _. Unit {0}) begins in
      not_closed refl t.0 t.1 lacks
  wrong_next Trailing (closed, byte, begins, may) =
      let t = taken_from bytes (end_line closed ++ byte ∷ []) (λ _. Unit {0}) begins in
      trailing refl closed byte t.0 (t.1 ∙ append_assoc (end_line closed) (byte ∷ []) t.0) may
  wrong_next a h = wrong_step a h.0 h.1 h.2 h.3

  right_end : (closed : Bool) → After (Some bytes) (end_line closed) IsAtEnd → bytes ≡ end_line closed ++ []
  right_end closed h =
      let t = taken_from bytes (end_line closed) IsAtEnd h in
      t.1 ∙ ap (λ (rest : List ℕ). end_line closed ++ rest) t.2

  one_end : (x y : Outcome) → EndsIn model version past count (Some bytes) x → EndsIn model version past count (Some bytes) y → x ≡ y
  one_end (accepted found closed) (accepted others said) (e, may, is) (f, might, are) =
      ap₂ (λ (l : List (List ℤ)) (b : Bool). accepted l b) (is ∙ sym are) (same_end bytes closed said [] [] (right_end closed e) (right_end said f)).0
  one_end (accepted found closed) (refused n a) (e, may, is) (at, h) = absurd (end_or_wrong model version past count bytes a closed (right_end closed e) may (wrong_next a h))
  one_end (refused n a) (accepted found closed) (at, h) (e, may, is) = absurd (end_or_wrong model version past count bytes a closed (right_end closed e) may (wrong_next a h))
  one_end (refused n a) (refused m b) (at, h) (stands, k) =
      let same = one_wrong model version past count bytes a b (wrong_next a h) (wrong_next b k) in
      ap₂ (λ (l : ℕ) (r : Refusal). refused l r) (at ∙ ap (λ (r : Refusal). line_after count r) same ∙ sym stands) same

  step_or_ends : (x : Outcome) (step : Step) (rest : List ℕ) → HasLine version count step → IsAccepted model past step → bytes ≡ step_line step ++ rest → EndsIn model version past count (Some bytes) x → ⊥
  step_or_ends (accepted found closed) step rest has is e (f, may, are) = step_or_end bytes version count step closed rest [] has e (right_end closed f)
  step_or_ends (refused n a) step rest has is e (at, h) = step_or_wrong model version past count bytes a step rest has is e (wrong_next a h)

-- ---- step after step

-- these steps stand there, accepted, and then such an end
Reads : Model → Version → StepsPast → ℕ → List ℕ → Outcome → List Step → Type 0
Reads model version past count bytes x [] = EndsIn model version past count (Some bytes) x
Reads model version past count bytes x (step ∷ later) =
    (rest : List ℕ) × (bytes ≡ step_line step ++ rest) × HasLine version count step × IsAccepted model past step
    × Reads model version (after_step model past step) (count + 1) rest x later

reads : (model : Model) (version : Version) (past : StepsPast) (count : ℕ) (bytes last : List ℕ) (x : Outcome) (later : List Step) → AllHaveLines version count later → AllAcceptedAfter model past later → bytes ≡ lines_of later ++ last
    → EndsIn model version (fold (after_step model) past later) (count + length later) (Some last) x → Reads model version past count bytes x later
unfolding Reads
reads model version past count bytes last x [] lines all e ends =
    subst (λ (n : ℕ). EndsIn model version past n (Some bytes) x) (omega arith) (subst (λ (bs : List ℕ). EndsIn model version past (count + 0) (Some bs) x) (sym e) ends)
reads model version past count bytes last x (step ∷ later) lines all e ends = (
  lines_of later ++ last,
  e ∙ append_assoc (step_line step) (lines_of later) last,
  lines.0,
  all.0,
  reads model version (after_step model past step) (count + 1) (lines_of later ++ last) last x later lines.1 all.1 refl
      (subst (λ (n : ℕ). EndsIn model version (fold (after_step model) (after_step model past step) later) n (Some last) x) (shift count (length later)) ends),
)
  where
    shift : (m n : ℕ) → m + suc n ≡ m + 1 + n
    shift m n = omega arith

one_reading : (model : Model) (version : Version) (past : StepsPast) (count : ℕ) (bytes : List ℕ) (x y : Outcome) (later others : List Step) → Reads model version past count bytes x later → Reads model version past count bytes y others → x ≡ y
unfolding Reads
one_reading model version past count bytes x y [] [] h k = one_end model version past count bytes x y h k
one_reading model version past count bytes x y [] (step ∷ others) h k = absurd (step_or_ends model version past count bytes x step k.0 k.2 k.3 k.1 h)
one_reading model version past count bytes x y (step ∷ later) [] h k = absurd (step_or_ends model version past count bytes y step h.0 h.2 h.3 h.1 k)
one_reading model version past count bytes x y (step ∷ later) (other ∷ others) h k =
    let same = one_line_lem version version step other h.0 k.0 h.2.0 k.2.0 (sym h.1 ∙ k.1) in
    one_reading model version (after_step model past step) (count + 1) h.0 x y later others h.4
    (subst (λ (bs : List ℕ). Reads model version (after_step model past step) (count + 1) bs y others) (sym same.1)
    (subst (λ (s : Step). Reads model version (after_step model past s) (count + 1) k.0 y others) (sym same.0) k.4))

pub one_from : (model : Model) (version : Version) (past : StepsPast) (count : ℕ) (bytes : List ℕ) (x y : Outcome) → VerdictFrom model version past count (Some bytes) x → VerdictFrom model version past count (Some bytes) y → x ≡ y
one_from model version past count bytes x y h k = one_reading model version past count bytes x y h.0 k.0 (reading x h) (reading y k)
  where
    reading : (z : Outcome) (v : VerdictFrom model version past count (Some bytes) z) → Reads model version past count bytes z v.0
    reading z (later, lines, all, h) =
        let t = taken_from bytes (lines_of later) (λ rest. EndsIn model version (fold (after_step model) past later) (count + length later) rest z) h in
        reads model version past count bytes t.0 z later lines all t.1 t.2
