-- What is left ends in one way.
use Rattle.std.proofs.Common.{◌≡◌, ℕ, Bool, true, false, List, [], ◌∷◌, ◌++◌, get_or, ◌⊎◌, inl, inr, refl, sym, ap, subst, ◌∙◌, arith, append_assoc}
use Rattle.std.specs.Prelude.{codes}
use Rattle.std.proofs.lemmas.Bool.{true≢false}
use Rattle.fzn_meaning.specs.declared.model.Model.{Model}
use Rattle.fzn_cert.specs.declared.refusal.Refusal.{Refusal}
use Rattle.fzn_cert.specs.declared.refusal.Refusal.TheVariants.{Spelling, Trailing, NotClosed}
use Rattle.fzn_cert.specs.declared.step.Step.{Step}
use Rattle.fzn_cert.specs.declared.step.Step.TheVariants.{Infer, Resolve, Solution, Delete}
use Rattle.fzn_cert.specs.declared.step.Version.{Version}
use Rattle.fzn_cert.specs.Spelling.{step_text, step_line, end_line, HasLine}
use Rattle.fzn_cert.specs.Parts.{step_parts}
use Rattle.fzn_cert.specs.Stream.{IsMisspelled}
use Rattle.fzn_cert.specs.Past.{StepsPast}
use Rattle.fzn_cert.specs.Accepted.{IsAccepted, HasFault}
use Rattle.fzn_cert.specs.Verdict.{MayEnd}
use Rattle.fzn_cert.proofs.SpaceLaws.{step_text_is}
use Rattle.fzn_cert.proofs.LineLaws.{text_is_inside, one_line_lem}
use Rattle.fzn_cert.proofs.RefusalLaws.{not_accepted, one_fault}
use Rattle.fzn_cert.proofs.OneVerdictLines.{IsLine, same_line, LineFault, one_line_fault, no_line_fault}

-- ---- the lines of steps and ends

abbrev pub end_text : Bool → List ℕ
end_text true = codes "e closed"
end_text false = codes "e open"

pub end_is_line : (bytes : List ℕ) (closed : Bool) (rest : List ℕ) → bytes ≡ end_line closed ++ rest → IsLine bytes (end_text closed) rest
end_is_line bytes true rest e = record { taken = e; inside = refl; within = omega arith }
end_is_line bytes false rest e = record { taken = e; inside = refl; within = omega arith }

pub step_is_line : (bytes : List ℕ) (version : Version) (count : ℕ) (step : Step) (rest : List ℕ) → HasLine version count step → bytes ≡ step_line step ++ rest → IsLine bytes (step_text step) rest
step_is_line bytes version count step rest line e =
    record { taken = e ∙ append_assoc (step_text step) (10 ∷ []) rest; inside = text_is_inside version step line.0; within = line.1.0 }

-- a step's text begins with another letter than an end's
other_letter : (step : Step) (closed : Bool) → step_parts step ≡ end_text closed → ⊥
other_letter (Infer it) true e = omega (arith, ap (λ (t : List ℕ). get_or t 0 0) e)
other_letter (Infer it) false e = omega (arith, ap (λ (t : List ℕ). get_or t 0 0) e)
other_letter (Resolve clause ids) true e = omega (arith, ap (λ (t : List ℕ). get_or t 0 0) e)
other_letter (Resolve clause ids) false e = omega (arith, ap (λ (t : List ℕ). get_or t 0 0) e)
other_letter (Solution values) true e = omega (arith, ap (λ (t : List ℕ). get_or t 0 0) e)
other_letter (Solution values) false e = omega (arith, ap (λ (t : List ℕ). get_or t 0 0) e)
other_letter (Delete ids) true e = omega (arith, ap (λ (t : List ℕ). get_or t 0 0) e)
other_letter (Delete ids) false e = omega (arith, ap (λ (t : List ℕ). get_or t 0 0) e)

pub step_or_end : (bytes : List ℕ) (version : Version) (count : ℕ) (step : Step) (closed : Bool) (rest r : List ℕ) → HasLine version count step → bytes ≡ step_line step ++ rest → bytes ≡ end_line closed ++ r → ⊥
step_or_end bytes version count step closed rest r line e f =
    let same = same_line bytes (step_text step) (end_text closed) rest r (step_is_line bytes version count step rest line e) (end_is_line bytes closed r f) in
    other_letter step closed (sym (step_text_is step) ∙ same.0)

same_ending : (a b : Bool) → end_text a ≡ end_text b → a ≡ b
same_ending true true e = refl
same_ending true false e = absurd cc
same_ending false true e = absurd cc
same_ending false false e = refl

pub same_end : (bytes : List ℕ) (a b : Bool) (x y : List ℕ) → bytes ≡ end_line a ++ x → bytes ≡ end_line b ++ y → (a ≡ b) × (x ≡ y)
same_end bytes a b x y e f =
    let same = same_line bytes (end_text a) (end_text b) x y (end_is_line bytes a x e) (end_is_line bytes b y f) in
    (same_ending a b same.0, same.1)

-- ---- what is wrong with the next line

-- what may stand there after so many steps
abbrev pub IsNextText : Version → ℕ → List ℕ → Type 0
IsNextText version count text = ((step : Step) × HasLine version count step × (text ≡ step_text step)) ⊎ ((closed : Bool) × (text ++ 10 ∷ [] ≡ end_line closed))

pub misspelled : (version : Version) (count : ℕ) (text : List ℕ) → IsMisspelled version count text → IsNextText version count text → ⊥
misspelled version count text h (inl (step, has, is)) = h.0 step has is
misspelled version count text h (inr (closed, is)) = h.1 closed is

pub data Wrong (model : Model) (version : Version) (past : StepsPast) (count : ℕ) (bytes : List ℕ) (a : Refusal) : Type 0 where
  line : LineFault (IsNextText version count) Spelling bytes a → Wrong model version past count bytes a
  not_closed : a ≡ NotClosed → (rest : List ℕ) → bytes ≡ end_line true ++ rest → past.refuted ≡ false → Wrong model version past count bytes a
  trailing : a ≡ Trailing → (closed : Bool) (byte : ℕ) (rest : List ℕ) → bytes ≡ end_line closed ++ byte ∷ rest → MayEnd past closed → Wrong model version past count bytes a
  at_step : (step : Step) (rest : List ℕ) → HasLine version count step → bytes ≡ step_line step ++ rest → HasFault model past step a → Wrong model version past count bytes a

module _ (model : Model) (version : Version) (past : StepsPast) (count : ℕ) (bytes : List ℕ) where
  -- a right ending that is no fault of the line
  end_fault : (a : Refusal) (closed : Bool) (rest : List ℕ) → bytes ≡ end_line closed ++ rest → LineFault (IsNextText version count) Spelling bytes a → ⊥
  end_fault a closed rest e f = no_line_fault (IsNextText version count) Spelling bytes a (end_text closed) rest (end_is_line bytes closed rest e) (inr (closed, is closed)) f
    where
      is : (b : Bool) → end_text b ++ 10 ∷ [] ≡ end_line b
      is true = refl
      is false = refl

  step_fault : (a : Refusal) (step : Step) (rest : List ℕ) → HasLine version count step → bytes ≡ step_line step ++ rest → LineFault (IsNextText version count) Spelling bytes a → ⊥
  step_fault a step rest has e f = no_line_fault (IsNextText version count) Spelling bytes a (step_text step) rest (step_is_line bytes version count step rest has e) (inl (step, has, refl)) f

  early_or_late : (closed : Bool) (x y : List ℕ) → bytes ≡ end_line true ++ x → past.refuted ≡ false → bytes ≡ end_line closed ++ y → MayEnd past closed → ⊥
  early_or_late closed x y e lacks f may = true≢false (sym (may (sym (same_end bytes true closed x y e f).0)) ∙ lacks)

  pub one_wrong : (a b : Refusal) → Wrong model version past count bytes a → Wrong model version past count bytes b → a ≡ b
  one_wrong a b (line f) (line g) = one_line_fault (IsNextText version count) Spelling bytes a b f g
  one_wrong a b (line f) (not_closed q r e lacks) = absurd (end_fault a true r e f)
  one_wrong a b (line f) (trailing q closed byte r e may) = absurd (end_fault a closed (byte ∷ r) e f)
  one_wrong a b (line f) (at_step step r has e g) = absurd (step_fault a step r has e f)
  one_wrong a b (not_closed p x d lacks) (line f) = absurd (end_fault b true x d f)
  one_wrong a b (not_closed p x d lacks) (not_closed q r e n) = p ∙ sym q
  one_wrong a b (not_closed p x d lacks) (trailing q closed byte r e may) = absurd (early_or_late closed x (byte ∷ r) d lacks e may)
  one_wrong a b (not_closed p x d lacks) (at_step step r has e g) = absurd (step_or_end bytes version count step true r x has e d)
  one_wrong a b (trailing p closed byte x d may) (line f) = absurd (end_fault b closed (byte ∷ x) d f)
  one_wrong a b (trailing p closed byte x d may) (not_closed q r e lacks) = absurd (early_or_late closed r (byte ∷ x) e lacks d may)
  one_wrong a b (trailing p closed byte x d may) (trailing q said other r e n) = p ∙ sym q
  one_wrong a b (trailing p closed byte x d may) (at_step step r has e g) = absurd (step_or_end bytes version count step closed r (byte ∷ x) has e d)
  one_wrong a b (at_step step x has d f) (line g) = absurd (step_fault b step x has d g)
  one_wrong a b (at_step step x has d f) (not_closed q r e lacks) = absurd (step_or_end bytes version count step true x r has d e)
  one_wrong a b (at_step step x has d f) (trailing q closed byte r e may) = absurd (step_or_end bytes version count step closed x (byte ∷ r) has d e)
  one_wrong a b (at_step step x has d f) (at_step other r has_too e g) =
      let same = one_line_lem version version step other x r has.0 has_too.0 (sym d ∙ e) in
      one_fault model past other a b (subst (λ (s : Step). HasFault model past s a) same.0 f) g

  -- an accepted step is not wrong
  pub step_or_wrong : (a : Refusal) (step : Step) (rest : List ℕ) → HasLine version count step → IsAccepted model past step → bytes ≡ step_line step ++ rest → Wrong model version past count bytes a → ⊥
  step_or_wrong a step rest has is e (line f) = step_fault a step rest has e f
  step_or_wrong a step rest has is e (not_closed p x d lacks) = step_or_end bytes version count step true rest x has e d
  step_or_wrong a step rest has is e (trailing p closed byte x d may) = step_or_end bytes version count step closed rest (byte ∷ x) has e d
  step_or_wrong a step rest has is e (at_step other x has_too d f) =
      let same = one_line_lem version version step other rest x has.0 has_too.0 (sym e ∙ d) in
      not_accepted model past step a (subst (λ (s : Step). HasFault model past s a) (sym same.0) f) is

  -- nor is a right ending
  pub end_or_wrong : (a : Refusal) (closed : Bool) → bytes ≡ end_line closed ++ [] → MayEnd past closed → Wrong model version past count bytes a → ⊥
  end_or_wrong a closed e may (line f) = end_fault a closed [] e f
  end_or_wrong a closed e may (not_closed p x d lacks) = early_or_late closed x [] d lacks e may
  end_or_wrong a closed e may (trailing p said byte x d n) =
      let same : [] ≡ byte ∷ x = (same_end bytes closed said [] (byte ∷ x) e d).1 in
      cc
  end_or_wrong a closed e may (at_step step x has d f) = step_or_end bytes version count step closed x [] has d e
