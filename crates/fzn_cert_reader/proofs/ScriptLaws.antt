-- Steps that are held as the text of their lines are read again.
use Rattle.std.proofs.Common.{◌≡◌, ℕ, zero, suc, ◌+◌, ◌-◌, ◌<◌, ◌≤◌, List, [], ◌∷◌, ◌++◌, length, get_or, Option, Some, None, refl, sym, ap, ap₂, subst, ◌∙◌, arith, inl, inr, append_assoc, append-nil, length-append}
use Rattle.std.specs.Prelude.{slice_range, slice_get}
use Rattle.std.specs.List.{AllByRecursion, filter_map}
use Rattle.std.proofs.Math.Seq.{take-append_seam, drop-append_seam}
use Rattle.std.proofs.lemmas.Option.{slice_get-get_or, slice_get_cases}
use Rattle.fzn_cert.specs.declared.step.Step.{Step}
use Rattle.fzn_cert.specs.declared.step.Step.TheVariants.{Solution}
use Rattle.fzn_cert.specs.declared.step.Version.TheVariants.{Two}
use Rattle.fzn_cert.specs.Spelling.{step_text, step_line, IsSpelled}
use Rattle.fzn_cert.specs.Reading.{step_of}
use Rattle.fzn_cert.specs.Verdict.{lines_of}
use Rattle.fzn_cert.proofs.CallerLemmas.{text_again}
use Rattle.fzn_cert_reader.specs.Script.{lines_from, steps_spelled, ends_from, IsScript}

-- ---- one line

-- the line that follows the front of a text
line-behind : (front text rest : List ℕ) → slice_range (front ++ ((text ++ 10 ∷ []) ++ rest)) (length front) (length front + length (text ++ 10 ∷ []) - 1) ≡ text
line-behind front text rest =
    let size : length front + length (text ++ 10 ∷ []) - 1 - length front ≡ length text = omega (arith, length-append text (10 ∷ [])) in
    rw (size, drop-append_seam front ((text ++ 10 ∷ []) ++ rest), append_assoc text (10 ∷ []) rest) (take-append_seam text (10 ∷ rest))

-- the text has a line of this step between these places, its line feed included
pub record IsLineAt (text : List ℕ) (start end : ℕ) (step : Step) : Type 0 where
  pub forth : start < end
  pub within : end ≤ length text
  pub is : slice_range text start (end - 1) ≡ step_text step

-- ---- the steps that follow the front of a text

module _ (text : List ℕ) where
  here : (front : List ℕ) (start : ℕ) (step : Step) (steps : List Step) → text ≡ front ++ lines_of (step ∷ steps) → start ≡ length front → IsLineAt text start (start + length (step_line step)) step
  here front start step steps is at =
      let feed : length (step_line step) ≡ length (step_text step) + 1 = length-append (step_text step) (10 ∷ []) in
      let size : length text ≡ length front + length (lines_of (step ∷ steps)) = ap length is ∙ length-append front (lines_of (step ∷ steps)) in
      let line : length (lines_of (step ∷ steps)) ≡ length (step_line step) + length (lines_of steps) = length-append (step_line step) (lines_of steps) in
      record {
        forth = omega (arith, feed);
        within = omega (arith, size, line, at);
        is = subst (λ (t : List ℕ). slice_range t start (start + length (step_line step) - 1) ≡ step_text step) (sym is)
            (subst (λ (n : ℕ). slice_range (front ++ lines_of (step ∷ steps)) n (n + length (step_line step) - 1) ≡ step_text step) (sym at) (line-behind front (step_text step) (lines_of steps)));
      }

  -- the front with one line more
  front-is : (front : List ℕ) (step : Step) (steps : List Step) → text ≡ front ++ lines_of (step ∷ steps) → text ≡ (front ++ step_line step) ++ lines_of steps
  front-is front step steps is = is ∙ sym (append_assoc front (step_line step) (lines_of steps))

  front-at : (front : List ℕ) (start : ℕ) (step : Step) → start ≡ length front → start + length (step_line step) ≡ length (front ++ step_line step)
  front-at front start step at = omega (arith, at, length-append front (step_line step))

  read-behind : (front : List ℕ) (start : ℕ) (steps : List Step) → AllByRecursion (IsSpelled Two) steps → text ≡ front ++ lines_of steps → start ≡ length front
      → filter_map (λ line. step_of Two line) (lines_from text start (ends_from start steps)) ≡ steps
  read-behind front start [] spelled is at = refl
  read-behind front start (step ∷ steps) spelled is at =
      rw ((here front start step steps is at).is, text_again Two step spelled.0)
      (ap (λ (later : List Step). step ∷ later) (read-behind (front ++ step_line step) (start + length (step_line step)) steps spelled.1 (front-is front step steps is) (front-at front start step at)))

  line-behind-at : (front : List ℕ) (start : ℕ) (steps : List Step) (i : ℕ) (d : Step) → text ≡ front ++ lines_of steps → start ≡ length front → i < length steps
      → IsLineAt text (get_or (start ∷ ends_from start steps) i 0) (get_or (ends_from start steps) i 0) (get_or steps i d)
  line-behind-at front start [] i d is at lt = absurd (omega (arith, lt))
  line-behind-at front start (step ∷ steps) zero d is at lt = here front start step steps is at
  line-behind-at front start (step ∷ steps) (suc i) d is at lt =
      line-behind-at (front ++ step_line step) (start + length (step_line step)) steps i d (front-is front step steps is) (front-at front start step at) (omega (arith, lt))

-- ---- a script

length-ends : (start : ℕ) (steps : List Step) → length (ends_from start steps) ≡ length steps
length-ends start [] = refl
length-ends start (step ∷ steps) = ap (λ (n : ℕ). suc n) (length-ends (start + length (step_line step)) steps)

pub steps-read : (text ends : List ℕ) (steps : List Step) → IsScript text ends steps → steps_spelled text ends ≡ steps
unfolding steps_spelled
steps-read text ends steps script =
    rw script.places (read-behind text [] 0 steps script.spelled script.lines refl)

count-read : (text ends : List ℕ) (steps : List Step) → IsScript text ends steps → length ends ≡ length steps
count-read text ends steps script = ap length script.places ∙ length-ends 0 steps

line-at : (text ends : List ℕ) (steps : List Step) (i : ℕ) (d : Step) → IsScript text ends steps → i < length steps → IsLineAt text (get_or (0 ∷ ends) i 0) (get_or ends i 0) (get_or steps i d)
line-at text ends steps i d script lt =
    subst (λ (places : List ℕ). IsLineAt text (get_or (0 ∷ places) i 0) (get_or places i 0) (get_or steps i d)) (sym script.places) (line-behind-at text [] 0 steps i d script.lines refl lt)

-- ---- one step more

lines-more : (steps : List Step) (step : Step) → lines_of (steps ++ step ∷ []) ≡ lines_of steps ++ step_line step
lines-more [] step = append-nil (step_line step)
lines-more (first ∷ steps) step = ap (λ (t : List ℕ). step_line first ++ t) (lines-more steps step) ∙ sym (append_assoc (step_line first) (lines_of steps) (step_line step))

ends-more : (start : ℕ) (steps : List Step) (step : Step) → ends_from start (steps ++ step ∷ []) ≡ ends_from start steps ++ (start + length (lines_of (steps ++ step ∷ []))) ∷ []
ends-more start [] step =
    let same : start + length (step_line step) ≡ start + length (step_line step ++ []) = ap (λ (t : List ℕ). start + length t) (sym (append-nil (step_line step))) in
    ap (λ (n : ℕ). n ∷ []) same
ends-more start (first ∷ steps) step =
    let later = steps ++ step ∷ [] in
    let next = start + length (step_line first) in
    let same : next + length (lines_of later) ≡ start + length (step_line first ++ lines_of later) = omega (arith, length-append (step_line first) (lines_of later)) in
    ap (λ (ends : List ℕ). next ∷ ends) (ends-more next steps step ∙ ap (λ (n : ℕ). ends_from next steps ++ n ∷ []) same)

spelled-more : (steps : List Step) (step : Step) → AllByRecursion (IsSpelled Two) steps → IsSpelled Two step → AllByRecursion (IsSpelled Two) (steps ++ step ∷ [])
spelled-more [] step h k = (k, tt)
spelled-more (first ∷ steps) step h k = (h.0, spelled-more steps step h.1 k)

pub script-more : (text ends : List ℕ) (steps : List Step) (step : Step) → IsScript text ends steps → IsSpelled Two step → IsScript (text ++ step_line step) (ends ++ length (text ++ step_line step) ∷ []) (steps ++ step ∷ [])
script-more text ends steps step script spelled =
    let lines : text ++ step_line step ≡ lines_of (steps ++ step ∷ []) = ap (λ (t : List ℕ). t ++ step_line step) script.lines ∙ sym (lines-more steps step) in
    let size : length (text ++ step_line step) ≡ 0 + length (lines_of (steps ++ step ∷ [])) = omega (arith, ap length lines) in
    record {
      spelled = spelled-more steps step script.spelled spelled;
      lines = lines;
      places = ap₂ (λ (front : List ℕ) (n : ℕ). front ++ n ∷ []) script.places size ∙ sym (ends-more 0 steps step);
    }

-- what it spells stays a script's
pub script-of_itself : (text ends : List ℕ) (steps : List Step) → IsScript text ends steps → IsScript text ends (steps_spelled text ends)
script-of_itself text ends steps script = subst (IsScript text ends) (sym (steps-read text ends steps script)) script

pub script-then : (text ends text_now ends_now : List ℕ) (step : Step) → IsScript text ends (steps_spelled text ends) → IsSpelled Two step → text_now ≡ text ++ step_line step → ends_now ≡ ends ++ length text_now ∷ []
    → IsScript text_now ends_now (steps_spelled text ends ++ step ∷ [])
script-then text ends text_now ends_now step script spelled text_is ends_are =
    let more = script-more text ends (steps_spelled text ends) step script spelled in
    subst (λ (places : List ℕ). IsScript text_now places (steps_spelled text ends ++ step ∷ [])) (sym ends_are)
    (subst (λ (t : List ℕ). IsScript t (ends ++ length t ∷ []) (steps_spelled text ends ++ step ∷ [])) (sym text_is) more)

-- ---- what stands at a place

-- the line between these places is read as this
pub record IsRead (text : List ℕ) (start end : ℕ) (found : Option Step) : Type 0 where
  pub forth : start < end
  pub within : end ≤ length text
  pub is : step_of Two (slice_range text start (end - 1)) ≡ found
  pub spells : (step : Step) × (found ≡ Some step) × (slice_range text start (end - 1) ≡ step_text step)

spelled-each : (steps : List Step) (i : ℕ) (d : Step) → AllByRecursion (IsSpelled Two) steps → i < length steps → IsSpelled Two (get_or steps i d)
spelled-each [] i d h lt = absurd (omega (arith, lt))
spelled-each (step ∷ steps) zero d h lt = h.0
spelled-each (step ∷ steps) (suc i) d h lt = spelled-each steps i d h.1 (omega (arith, lt))

module _ (text ends : List ℕ) (steps : List Step) (script : IsScript text ends (steps_spelled text ends)) (view : steps_spelled text ends ≡ steps) where
  script-viewed : IsScript text ends steps
  script-viewed = subst (IsScript text ends) view script

  pub count-viewed : length ends ≡ length steps
  count-viewed = count-read text ends steps script-viewed

  pub read-at : (i start end : ℕ) → i < length ends → start ≡ get_or (0 ∷ ends) i 0 → end ≡ get_or ends i 0 → IsRead text start end (slice_get steps i)
  read-at i start end lt starts stops =
      let below : i < length steps = omega (arith, lt, count-viewed) in
      let d : Step = Solution [] in
      let line = line-at text ends steps i d script-viewed below in
      subst (λ (n : ℕ). IsRead text n end (slice_get steps i)) (sym starts)
      (subst (λ (n : ℕ). IsRead text (get_or (0 ∷ ends) i 0) n (slice_get steps i)) (sym stops)
      (record {
        forth = line.forth;
        within = line.within;
        is = ap (λ (t : List ℕ). step_of Two t) line.is ∙ text_again Two (get_or steps i d) (spelled-each steps i d script-viewed.spelled below) ∙ sym (slice_get-get_or steps i d below);
        spells = (get_or steps i d, slice_get-get_or steps i d below, line.is);
      }))

  pub none-behind : (i : ℕ) → length ends ≤ i → slice_get steps i ≡ None
  none-behind i le =
      elim (slice_get_cases steps i).1 [
        | inl (step, lt, is, at) ↦ absurd (omega (arith, lt, le, count-viewed))
        | inr past ↦ past.1
      ]
