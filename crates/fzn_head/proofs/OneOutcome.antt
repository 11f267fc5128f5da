-- The bytes of a certificate of any version have one verdict.
use Rattle.std.proofs.Common.{◌≡◌, ℕ, suc, ◌+◌, ◌<◌, ◌≤◌, ◌⊎◌, List, [], ◌∷◌, ◌++◌, length, get_or, Some, refl, sym, ap, subst, ◌∙◌, inl, inr, arith, append_assoc}
use Rattle.std.specs.List.{AllByRecursion}
use Rattle.std.proofs.lemmas.List.Elements.{recursion_from_All}
use Rattle.fzn_meaning.specs.declared.constraint.Constraint.{Constraint}
use Rattle.fzn_meaning.specs.declared.model.Model.{Model}
use Rattle.fzn_meaning.specs.Solutions.{declared_sets}
use Rattle.fzn_derive.specs.declared.derivation.Derivation.{Derivation}
use Rattle.fzn_derive.proofs.DerivedLaws.{one-derived}
use Rattle.fzn_cert.specs.declared.refusal.Refusal.{Refusal}
use Rattle.fzn_cert.specs.declared.refusal.Refusal.TheVariants.{Header as BadHeader}
use Rattle.fzn_cert.specs.declared.step.Version.{Version}
use Rattle.fzn_cert.specs.declared.step.Version.TheVariants.{One, Two}
use Rattle.fzn_cert.specs.Spelling.{version_text}
use Rattle.fzn_cert.specs.Past.{no_past}
use Rattle.fzn_cert.specs.Verdict.{Outcome, refused, VerdictOn}
use Rattle.fzn_cert.proofs.OneVerdict.{one_verdict_lem}
use Rattle.fzn_cert.proofs.OneVerdictHeader.{version_is_line}
use Rattle.fzn_cert.proofs.OneVerdictLines.{IsLine, same_line, LineFault, one_line_fault, no_line_fault}
use Rattle.fzn_cert.proofs.OneVerdictSteps.{taken_from, one_from}
use Rattle.fzn_head.specs.declared.head.Head.{Head}
use Rattle.fzn_head.specs.Extended.{with_constraint, IsDerivedOf, Extends, terms_held, terms_held_in}
use Rattle.fzn_head.specs.Head.{three_text, three_line, head_counts, head_counts_line, derivation_line, derivation_lines, HasDerivationLine, IsFirstText, early as is_early, third as is_third}
use Rattle.fzn_head.specs.Outcome.{most_in_head, further_on, StepsBehind, RefusedBehind, HeadVerdict, VerdictOfThree, IsOutcomeOn, IsOutcomeOf, opening, early, third}
use Rattle.fzn_head.proofs.HeadLaws.{same_head}
use Rattle.fzn_head.proofs.ExtendedLaws.{terms-more, terms-grow}
use Rattle.fzn_head.proofs.OneHead.{opening_fault, head_is_line, wrong_head, one_wrong_head, right_head, derivation_is_line, same_derivation, wrong_derivation, one_wrong_derivation, right_derivation}

-- ---- the lines that derive constraints

-- so many derive one, and what comes behind them
abbrev Behind : ℕ → Model → ℕ → ℕ → List ℕ → Outcome → Type 0
Behind most model done derived bytes x = ((done ≡ derived) × StepsBehind model derived (Some bytes) x) ⊎ ((done < derived) × RefusedBehind most model done (Some bytes) x)

-- these lines stand there, behind so many
Derives : ℕ → Model → ℕ → ℕ → List ℕ → Outcome → List Derivation → Type 0
Derives most model done derived bytes x [] = Behind most model done derived bytes x
Derives most model done derived bytes x (derivation ∷ later) =
    (rest : List ℕ) × (bytes ≡ derivation_line derivation ++ rest) × HasDerivationLine derivation × (constraint : Constraint) × IsDerivedOf model derivation constraint
    × (terms_held_in model.constraints + terms_held constraint ≤ most)
    × Derives most (with_constraint model constraint) (done + 1) derived rest x later

derives : (most : ℕ) (model after : Model) (done derived : ℕ) (bytes last : List ℕ) (x : Outcome) (read : List Derivation) → AllByRecursion HasDerivationLine read → Extends model read after → terms_held_in after.constraints ≤ most → bytes ≡ derivation_lines read ++ last
    → Behind most after (done + length read) derived last x → Derives most model done derived bytes x read
unfolding Derives
derives most model after done derived bytes last x [] lines is few e behind =
    subst (λ (m : Model). Behind most m done derived bytes x) is
    (subst (λ (n : ℕ). Behind most after n derived bytes x) (omega arith) (subst (λ (bs : List ℕ). Behind most after (done + 0) derived bs x) (sym e) behind))
derives most model after done derived bytes last x (derivation ∷ later) lines (constraint, derived_so, extends) few e behind = (
  derivation_lines later ++ last,
  e ∙ append_assoc (derivation_line derivation) (derivation_lines later) last,
  lines.0,
  constraint,
  derived_so,
  omega (arith, few, terms-more model.constraints constraint, terms-grow (with_constraint model constraint) after later extends),
  derives most (with_constraint model constraint) after (done + 1) derived (derivation_lines later ++ last) last x later lines.1 extends few refl
      (subst (λ (n : ℕ). Behind most after n derived last x) (shift done (length later)) behind),
)
  where
    shift : (m n : ℕ) → m + suc n ≡ m + 1 + n
    shift m n = omega arith

-- there are no more than the head tells
no_more : (most : ℕ) (model : Model) (done derived : ℕ) (bytes : List ℕ) (x : Outcome) (read : List Derivation) → Derives most model done derived bytes x read → done + length read ≤ derived
unfolding Derives
no_more most model done derived bytes x [] (inl h) = omega (arith, h.0)
no_more most model done derived bytes x [] (inr h) = omega (arith, h.0)
no_more most model done derived bytes x (derivation ∷ later) (rest, e, has, constraint, derived_so, few_so, more) =
    omega (arith, no_more most (with_constraint model constraint) (done + 1) derived rest x later more)

one_behind : (most : ℕ) (model : Model) (done derived : ℕ) (bytes : List ℕ) (x y : Outcome) → Behind most model done derived bytes x → Behind most model done derived bytes y → x ≡ y
one_behind most model done derived bytes x y (inl (all, (a, f, p))) (inl (all_too, (b, g, q))) = p ∙ ap (further_on derived) (one_from model Two no_past 0 bytes a b f g) ∙ sym q
one_behind most model done derived bytes x y (inl h) (inr k) = absurd (omega (arith, h.0, k.0))
one_behind most model done derived bytes x y (inr h) (inl k) = absurd (omega (arith, h.0, k.0))
one_behind most model done derived bytes x y (inr (few, (a, f, p))) (inr (few_too, (b, g, q))) =
    p ∙ ap (λ (r : Refusal). refused (done + 3) r) (one_wrong_derivation most model bytes a b (wrong_derivation most model bytes a f) (wrong_derivation most model bytes b g)) ∙ sym q

-- where one more line derives a constraint nothing else stands
one_more_or_behind : (most : ℕ) (model : Model) (done derived : ℕ) (bytes : List ℕ) (x y : Outcome) (derivation : Derivation) (later : List Derivation) → Derives most model done derived bytes x (derivation ∷ later) → Behind most model done derived bytes y → ⊥
unfolding Derives
one_more_or_behind most model done derived bytes x y derivation later h (inl k) = omega (arith, k.0, no_more most model done derived bytes x (derivation ∷ later) h)
one_more_or_behind most model done derived bytes x y derivation later (rest, e, has, constraint, derived_so, few_so, more) (inr (few, (a, f, q))) =
    right_derivation most model bytes a derivation constraint rest has derived_so few_so (derivation_is_line bytes derivation rest has e) (wrong_derivation most model bytes a f)

one_derives : (most : ℕ) (model : Model) (done derived : ℕ) (bytes : List ℕ) (x y : Outcome) (read others : List Derivation) → Derives most model done derived bytes x read → Derives most model done derived bytes y others → x ≡ y
unfolding Derives
one_derives most model done derived bytes x y [] [] h k = one_behind most model done derived bytes x y h k
one_derives most model done derived bytes x y [] (other ∷ others) h k = absurd (one_more_or_behind most model done derived bytes y x other others k h)
one_derives most model done derived bytes x y (derivation ∷ later) [] h k = absurd (one_more_or_behind most model done derived bytes x y derivation later h k)
one_derives most model done derived bytes x y (derivation ∷ later) (other ∷ others) (rest, e, has, constraint, derived_so, few_so, more) (r, d, has_too, c, so_too, few_too, more_too) =
    let same = same_derivation bytes derivation other rest r has has_too (derivation_is_line bytes derivation rest has e) (derivation_is_line bytes other r has_too d) in
    let gives = one-derived model.constraints (declared_sets model.vars) other constraint c (subst (λ (o : Derivation). IsDerivedOf model o constraint) same.0 derived_so) so_too in
    one_derives most (with_constraint model constraint) (done + 1) derived rest x y later others more
    (subst (λ (bs : List ℕ). Derives most (with_constraint model constraint) (done + 1) derived bs y others) (sym same.1)
    (subst (λ (k : Constraint). Derives most (with_constraint model k) (done + 1) derived r y others) (sym gives) more_too))

one_head_verdict : (model : Model) (derived : ℕ) (bytes : List ℕ) (x y : Outcome) → HeadVerdict model derived (Some bytes) x → HeadVerdict model derived (Some bytes) y → x ≡ y
one_head_verdict model derived bytes x y h k = one_derives (most_in_head model) model 0 derived bytes x y h.read k.read (reading x h) (reading y k)
  where
    reading : (z : Outcome) (v : HeadVerdict model derived (Some bytes) z) → Derives (most_in_head model) model 0 derived bytes z v.read
    reading z v =
        let t = taken_from bytes (derivation_lines v.read) (λ rest. ((length v.read ≡ derived) × StepsBehind v.after derived rest z) ⊎ ((length v.read < derived) × RefusedBehind (most_in_head model) v.after (length v.read) rest z)) v.behind in
        derives (most_in_head model) model v.after 0 derived bytes t.0 z v.read (recursion_from_All HasDerivationLine v.read v.lines) v.extends v.few t.1
        (subst (λ (n : ℕ). Behind (most_in_head model) v.after n derived t.0 z) (omega arith) t.2)

-- ---- version three

one_three : (model : Model) (bytes : List ℕ) (x y : Outcome) → VerdictOfThree model (Some bytes) x → VerdictOfThree model (Some bytes) y → x ≡ y
one_three model bytes x y (inl (a, f, p)) (inl (b, g, q)) =
    p ∙ ap (λ (r : Refusal). refused 2 r) (one_wrong_head model bytes a b (wrong_head model bytes a f) (wrong_head model bytes b g)) ∙ sym q
one_three model bytes x y (inl (a, f, p)) (inr (head, sized, fits, h)) =
    let t = taken_from bytes (head_counts_line head) (λ rest. HeadVerdict model head.derived rest y) h in
    absurd (right_head model bytes a head t.0 sized fits (head_is_line bytes head t.0 sized t.1) (wrong_head model bytes a f))
one_three model bytes x y (inr (head, sized, fits, h)) (inl (b, g, q)) =
    let t = taken_from bytes (head_counts_line head) (λ rest. HeadVerdict model head.derived rest x) h in
    absurd (right_head model bytes b head t.0 sized fits (head_is_line bytes head t.0 sized t.1) (wrong_head model bytes b g))
one_three model bytes x y (inr (head, sized, fits, h)) (inr (other, sized_too, fits_too, k)) =
    let t = taken_from bytes (head_counts_line head) (λ rest. HeadVerdict model head.derived rest x) h in
    let u = taken_from bytes (head_counts_line other) (λ rest. HeadVerdict model other.derived rest y) k in
    let same = same_line bytes (head_counts head) (head_counts other) t.0 u.0 (head_is_line bytes head t.0 sized t.1) (head_is_line bytes other u.0 sized_too u.1) in
    let heads = same_head head other sized sized_too same.0 in
    one_head_verdict model head.derived t.0 x y t.2
    (subst (λ (bs : List ℕ). HeadVerdict model head.derived (Some bs) y) (sym same.1) (subst (λ (o : Head). HeadVerdict model o.derived (Some u.0) y) (sym heads) u.2))

-- ---- any version

three_is_line : (bytes rest : List ℕ) → bytes ≡ three_line ++ rest → IsLine bytes three_text rest
three_is_line bytes rest e = record { taken = e; inside = refl; within = omega arith }

early_or_three : (version : Version) → version_text version ≡ three_text → ⊥
early_or_three One e = omega (arith, ap (λ (t : List ℕ). get_or t 4 0) e)
early_or_three Two e = omega (arith, ap (λ (t : List ℕ). get_or t 4 0) e)

-- the first line is wrong, or it says which version it is
data Leads (model : Model) (bytes : List ℕ) (x : Outcome) : Type 0 where
  wrong : (a : Refusal) → x ≡ refused 1 a → LineFault IsFirstText BadHeader bytes a → Leads model bytes x
  of_early : (version : Version) (rest : List ℕ) → IsLine bytes (version_text version) rest → VerdictOn model (Some bytes) x → Leads model bytes x
  of_three : (rest : List ℕ) → IsLine bytes three_text rest → VerdictOfThree model (Some rest) x → Leads model bytes x

module _ (model : Model) (bytes : List ℕ) where
  leads : (x : Outcome) → IsOutcomeOn model (Some bytes) x → Leads model bytes x
  leads x (opening a h p) = wrong a p (opening_fault bytes a h)
  leads x (early version begins h) =
      let t = taken_from bytes (version_text version ++ 10 ∷ []) (λ _. Unit {0}) begins in
      of_early version t.0 (version_is_line bytes version t.0 t.1) h
  leads x (third h) =
      let t = taken_from bytes three_line (λ rest. VerdictOfThree model rest x) h in
      of_three t.0 (three_is_line bytes t.0 t.1) t.2

  -- a first line that is right is not wrong
  right_early : (a : Refusal) (version : Version) (rest : List ℕ) → IsLine bytes (version_text version) rest → LineFault IsFirstText BadHeader bytes a → ⊥
  right_early a version rest is f = no_line_fault IsFirstText BadHeader bytes a (version_text version) rest is (is_early (version, refl)) f

  right_three : (a : Refusal) (rest : List ℕ) → IsLine bytes three_text rest → LineFault IsFirstText BadHeader bytes a → ⊥
  right_three a rest is f = no_line_fault IsFirstText BadHeader bytes a three_text rest is (is_third refl) f

  not_both : (version : Version) (rest last : List ℕ) → IsLine bytes (version_text version) rest → IsLine bytes three_text last → ⊥
  not_both version rest last is are = early_or_three version (same_line bytes (version_text version) three_text rest last is are).0

  one_lead : (x y : Outcome) → Leads model bytes x → Leads model bytes y → x ≡ y
  one_lead x y (wrong a p f) (wrong b q g) = p ∙ ap (λ (r : Refusal). refused 1 r) (one_line_fault IsFirstText BadHeader bytes a b f g) ∙ sym q
  one_lead x y (wrong a p f) (of_early v r is h) = absurd (right_early a v r is f)
  one_lead x y (wrong a p f) (of_three r is h) = absurd (right_three a r is f)
  one_lead x y (of_early v r is h) (wrong b q g) = absurd (right_early b v r is g)
  one_lead x y (of_early v r is h) (of_early w o are k) = one_verdict_lem model bytes x y h k
  one_lead x y (of_early v r is h) (of_three o are k) = absurd (not_both v r o is are)
  one_lead x y (of_three r is h) (wrong b q g) = absurd (right_three b r is g)
  one_lead x y (of_three r is h) (of_early w o are k) = absurd (not_both w o r are is)
  one_lead x y (of_three r is h) (of_three o are k) =
      one_three model r x y h (subst (λ (bs : List ℕ). VerdictOfThree model (Some bs) y) (sym (same_line bytes three_text three_text r o is are).1) k)

pub one-outcome : (model : Model) (bytes : List ℕ) (x y : Outcome) → IsOutcomeOf model bytes x → IsOutcomeOf model bytes y → x ≡ y
one-outcome model bytes x y h k = one_lead model bytes x y (leads model bytes x h) (leads model bytes y k)
