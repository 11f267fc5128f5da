-- One more step on the writers of a run.
use Rattle.std.proofs.Common.{◌≡◌, ◌≢◌, ℕ, ◌+◌, ◌-◌, Bool, true, false, ℤ, List, [], ◌∷◌, ◌++◌, length, drop, take, Option, Some, None, refl, sym, ap, ◌∙◌, subst, arith, append_assoc}
use Rattle.std.specs.List.{fold}
use Rattle.std.specs.Option.{option_to_list}
use Rattle.std.specs.Io.KnownBytes.{Appends, Keeps}
use Rattle.std.proofs.lemmas.List.{append-nil, length-append}
use Rattle.std.proofs.lemmas.List.Sums.{fold-append}
use Rattle.std.proofs.lemmas.List.Concat.{flat_map-append}
use Rattle.fzn_streams.specs.Output.{AppendsFront}
use Rattle.fzn_streams.proofs.CallerLemmas.{Appends-then, front-left, front-then}
use Rattle.fzn_meaning.specs.declared.model.Model.{Model}
use Rattle.fzn_cert.specs.declared.step.Step.{Step}
use Rattle.fzn_cert.specs.declared.step.Step.TheVariants.{Infer, Resolve, Solution, Delete}
use Rattle.fzn_cert.specs.declared.step.Version.TheVariants.{Two}
use Rattle.fzn_cert.specs.Past.{StepsPast, no_past}
use Rattle.fzn_cert.specs.Accepted.{IsAccepted, AllAcceptedAfter, after_step, past_after}
use Rattle.fzn_cert.specs.Spelling.{step_line, IsSpelled, HasLineRoom, HasLine}
use Rattle.fzn_cert.specs.Verdict.{lines_of, AllHaveLines}
use Rattle.fzn_printer.specs.Shown.{shown}
use Rattle.fzn_solver.specs.Standing.{found_by, early, begun_certificate, shown_all, AreLinesStanding, IsCertInStep, IsOutInStep}

-- ---- the certificate

lines_of-push : (steps : List Step) (step : Step) → lines_of (steps ++ step ∷ []) ≡ lines_of steps ++ step_line step
lines_of-push [] step = append-nil (step_line step)
lines_of-push (first ∷ steps) step = ap (λ (t : List ℕ). step_line first ++ t) (lines_of-push steps step) ∙ sym (append_assoc (step_line first) (lines_of steps) (step_line step))

have-push : (count : ℕ) (steps : List Step) (step : Step) → AllHaveLines Two count steps → HasLine Two (count + length steps) step → AllHaveLines Two count (steps ++ step ∷ [])
have-push count [] step have line =
    let H : ℕ → Type 0 = λ n. HasLine Two n step in
    let same : count + 0 ≡ count = omega arith in
    (subst H same line, tt)
have-push count (first ∷ steps) step have line =
    let H : ℕ → Type 0 = λ n. HasLine Two n step in
    let same : count + length (first ∷ steps) ≡ count + 1 + length steps = omega arith in
    (have.0, have-push (count + 1) steps step have.1 (subst H same line))

begun-push : (opening : List ℕ) (steps : List Step) (step : Step) → begun_certificate opening (steps ++ step ∷ []) ≡ begun_certificate opening steps ++ step_line step
begun-push opening steps step =
    ap (λ (t : List ℕ). opening ++ t) (lines_of-push steps step)
    ∙ sym (append_assoc opening (lines_of steps) (step_line step))

pub cert-push : (opening : List ℕ) (steps : List Step) (step : Step) (first old new : Option (List ℕ)) (written : ℕ) → IsCertInStep opening steps first old written → IsSpelled Two step → HasLineRoom written step → Appends old new (step_line step) → IsCertInStep opening (steps ++ step ∷ []) first new (written + 1)
cert-push opening steps step first old new written in_step spelled room line =
    let H : ℕ → Type 0 = λ n. HasLineRoom n step in
    let count : written ≡ 0 + length steps = omega (arith, in_step.counted) in record {
      lines = rw (begun-push opening steps step) (Appends-then first old new (begun_certificate opening steps) (step_line step) in_step.lines line);
      have_lines = have-push 0 steps step in_step.have_lines (spelled, subst H count room);
      counted = omega (arith, in_step.counted, length-append steps (step ∷ []));
    }

pub Appends-kept : (a b c : Option (List ℕ)) (x : List ℕ) → Appends a b x → Keeps b c → Appends a c x
Appends-kept None b c x h k = tt
Appends-kept (Some p) None c x h k = absurd h
Appends-kept (Some p) (Some q) None x h k = absurd k
Appends-kept (Some p) (Some q) (Some r) x h k = k ∙ h

pub cert-kept : (opening : List ℕ) (steps : List Step) (first old new : Option (List ℕ)) (written : ℕ) → IsCertInStep opening steps first old written → Keeps old new → IsCertInStep opening steps first new written
cert-kept opening steps first old new written in_step kept = record {
  lines = Appends-kept first old new (begun_certificate opening steps) in_step.lines kept;
  have_lines = in_step.have_lines;
  counted = in_step.counted;
}

-- ---- the solutions

pub last-accepted : (model : Model) (past : StepsPast) (steps : List Step) (step : Step) → AllAcceptedAfter model past (steps ++ step ∷ []) → IsAccepted model (fold (after_step model) past steps) step
last-accepted model past [] step accepted = accepted.0
last-accepted model past (first ∷ steps) step accepted = last-accepted model (after_step model past first) steps step accepted.1

past_after-push : (model : Model) (steps : List Step) (step : Step) → past_after model (steps ++ step ∷ []) ≡ after_step model (past_after model steps) step
past_after-push model steps step = fold-append (after_step model) no_past steps (step ∷ [])

pub found-solution : (model : Model) (steps : List Step) (values : List ℤ) → found_by model (steps ++ Solution values ∷ []) ≡ found_by model steps ++ values ∷ []
found-solution model steps values = ap (λ (p : StepsPast). p.solutions) (past_after-push model steps (Solution values))

pub found-infer : (model : Model) (steps : List Step) (step : Step) → ((values : List ℤ) → step ≢ Solution values) → found_by model (steps ++ step ∷ []) ≡ found_by model steps
found-infer model steps step other = ap (λ (p : StepsPast). p.solutions) (past_after-push model steps step) ∙ same step other
  where
    same : (s : Step) → ((values : List ℤ) → s ≢ Solution values) → (after_step model (past_after model steps) s).solutions ≡ (past_after model steps).solutions
    same (Infer it) h = refl
    same (Resolve clause ids) h = refl
    same (Solution values) h = absurd (h values refl)
    same (Delete ids) h = refl

-- ---- the output

shown_all-push : (model : Model) (found : List (List ℤ)) (values : List ℤ) → shown_all model (found ++ values ∷ []) ≡ shown_all model found ++ shown model values
shown_all-push model found values = flat_map-append (shown model) found (values ∷ []) ∙ ap (λ (t : List ℕ). shown_all model found ++ t) (append-nil (shown model values))

drop_all : (found : List (List ℤ)) (values : List ℤ) → drop (length found) (found ++ values ∷ []) ≡ values ∷ []
drop_all [] values = refl
drop_all (first ∷ found) values = drop_all found values

last_of : (found : List (List ℤ)) (values : List ℤ) → values ∷ [] ≡ drop (length (found ++ values ∷ []) - 1) (found ++ values ∷ [])
last_of found values =
    let same : length (found ++ values ∷ []) - 1 ≡ length found = omega (arith, length-append found (values ∷ [])) in
    sym (ap (λ (n : ℕ). drop n (found ++ values ∷ [])) same ∙ drop_all found values)

-- a solution that waits for the end
pub out-held : (model : Model) (found : List (List ℤ)) (values : List ℤ) (first now : Option (List ℕ)) (printed : Bool) (last : Option (List ℤ)) → IsOutInStep model true found first now printed last → IsOutInStep model true (found ++ values ∷ []) first now printed (Some values)
out-held model found values first now printed last in_step = record {
  text = in_step.text;
  has_shown = in_step.has_shown;
  waits = last_of found values;
}

none_waits : (last : Option (List ℤ)) → option_to_list last ≡ [] → last ≡ None
none_waits None h = refl
none_waits (Some values) h = cc

-- a solution that is printed
pub out-printed : (model : Model) (found : List (List ℤ)) (values : List ℤ) (first old new : Option (List ℕ)) (printed : Bool) (last : Option (List ℤ)) → IsOutInStep model false found first old printed last → Appends old new (shown model values) → IsOutInStep model false (found ++ values ∷ []) first new true last
out-printed model found values first old new printed last in_step text = record {
  text = rw (shown_all-push model found values) (Appends-then first old new (shown_all model found) (shown model values) in_step.text text);
  has_shown = grind (arith, length-append found (values ∷ []));
  waits = in_step.waits;
}

pub out-kept : (model : Model) (alone : Bool) (found : List (List ℤ)) (first old new : Option (List ℕ)) (printed : Bool) (last : Option (List ℤ)) → IsOutInStep model alone found first old printed last → Keeps old new → IsOutInStep model alone found first new printed last
out-kept model alone found first old new printed last in_step kept = record {
  text = Appends-kept first old new (shown_all model (early alone found)) in_step.text kept;
  has_shown = in_step.has_shown;
  waits = in_step.waits;
}

-- ---- what stands

pub standing-in_step : (model : Model) (opening : List ℕ) (alone : Bool) (steps : List Step) (cert_first cert_now out_first out_now : Option (List ℕ)) (written : ℕ) → IsCertInStep opening steps cert_first cert_now written → AppendsFront out_first out_now (shown_all model (early alone (found_by model steps))) → AreLinesStanding model opening alone steps cert_first cert_now out_first out_now
standing-in_step model opening alone steps cert_first cert_now out_first out_now written in_step front = record {
  more = [];
  lines = rw (append-nil (begun_certificate opening steps)) in_step.lines;
  shown = front;
}

Appends-front : (a b c : Option (List ℕ)) (x y : List ℕ) → Appends a b x → AppendsFront b c y → (more : List ℕ) × Appends a c (x ++ more)
Appends-front a b c x y h k = (take k.0 y, Appends-then a b c x (take k.0 y) h k.2)

-- a beginning of a line more
pub standing-refused : (model : Model) (opening : List ℕ) (alone : Bool) (steps : List Step) (cert_first cert_old cert_new out_first out_now : Option (List ℕ)) (text : List ℕ) → AreLinesStanding model opening alone steps cert_first cert_old out_first out_now → AppendsFront cert_old cert_new text → AreLinesStanding model opening alone steps cert_first cert_new out_first out_now
standing-refused model opening alone steps cert_first cert_old cert_new out_first out_now text standing front =
    let more = Appends-front cert_first cert_old cert_new (begun_certificate opening steps ++ standing.more) text standing.lines front in record {
      more = standing.more ++ more.0;
      lines = rw (← append_assoc (begun_certificate opening steps) standing.more more.0) more.1;
      shown = standing.shown;
    }

pub front-kept : (a b c : Option (List ℕ)) (x : List ℕ) → AppendsFront a b x → Keeps b c → AppendsFront a c x
front-kept a b c x (n, within, h) k = (n, within, Appends-kept a b c (take n x) h k)

-- the text of one solution more
pub front-found : (model : Model) (alone : Bool) (found : List (List ℤ)) (values : List ℤ) (first now : Option (List ℕ)) → AppendsFront first now (shown_all model (early alone found)) → AppendsFront first now (shown_all model (early alone (found ++ values ∷ [])))
front-found model true found values first now front = front
front-found model false found values first now front = rw (shown_all-push model found values) (front-left first now (shown_all model found) (shown model values) front)

-- a beginning of the text of one solution more
pub front-printed : (model : Model) (found : List (List ℤ)) (values : List ℤ) (first old new : Option (List ℕ)) → Appends first old (shown_all model found) → AppendsFront old new (shown model values) → AppendsFront first new (shown_all model (found ++ values ∷ []))
front-printed model found values first old new text front = rw (shown_all-push model found values) (front-then first old new (shown_all model found) (shown model values) text front)
