-- What reading a line gives.
use Rattle.std.proofs.Common.{◌≡◌, ℕ, List, Option, Some, None, sym, ap, ◌∙◌}
use Rattle.std.specs.Prelude.{Result, Ok, Err, IfOk, IfSome, IfNone}
use Rattle.std.proofs.lemmas.List.Splits.{join_with_byte-slice_split}
use Rattle.std.specs.declared.alloc.AllocError.{AllocError}
use Rattle.fzn_cert.specs.declared.step.Step.{Step}
use Rattle.fzn_cert.specs.declared.step.Version.{Version}
use Rattle.fzn_cert.specs.Spelling.{spaced, step_text, IsSpelled}
use Rattle.fzn_cert.specs.Reading.{words_of, step_of}
use Rattle.fzn_cert.proofs.CallerLemmas.{text_again}
use Rattle.fzn_cert_line.proofs.StepLaws.{step_takes}

pub spaced-words_of : (line : List ℕ) → spaced (words_of line) ≡ line
unfolding spaced
spaced-words_of line = join_with_byte-slice_split 32 line

-- what is read as a step is written for it
pub text_takes : (v : Version) (line : List ℕ) (step : Step) → step_of v line ≡ Some step → (line ≡ step_text step) × IsSpelled v step
text_takes v line step e =
    let s = step_takes v (words_of line) step e in
    (sym (spaced-words_of line) ∙ ap spaced s.words_are, s.is_spelled)

-- ---- a step

pub found_step : (v : Version) (line : List ℕ) (r : Result (Option Step) AllocError) → IfOk r (λ found. found ≡ step_of v line) → IfOk r (λ found. IfSome found (λ step. IsSpelled v step))
found_step v line (Ok None) h = tt
found_step v line (Ok (Some s)) h = (text_takes v line s (sym h)).1
found_step v line (Err e) h = tt

pub found_text : (v : Version) (line : List ℕ) (r : Result (Option Step) AllocError) → IfOk r (λ found. found ≡ step_of v line) → IfOk r (λ found. IfSome found (λ step. line ≡ step_text step))
found_text v line (Ok None) h = tt
found_text v line (Ok (Some s)) h = (text_takes v line s (sym h)).0
found_text v line (Err e) h = tt

abbrev some_step : Step → Option Step
some_step s = Some s

apart : (s : Step) → None ≡ some_step s → ⊥
apart s e = cc

pub found_none : (v : Version) (line : List ℕ) (r : Result (Option Step) AllocError) → IfOk r (λ found. found ≡ step_of v line) → IfOk r (λ found. IfNone found ((s : Step) → IsSpelled v s → line ≡ step_text s → ⊥))
found_none v line (Ok None) h = λ s spelled same. apart s (h ∙ ap (step_of v) same ∙ text_again v s spelled)
found_none v line (Ok (Some s)) h = tt
found_none v line (Err e) h = tt
