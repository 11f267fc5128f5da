-- The bytes of a certificate have one verdict.
use Rattle.std.proofs.Common.{◌≡◌, ℕ, List, [], ◌∷◌, ◌++◌, length, Some, refl, sym, ap, subst, ◌∙◌, append_assoc, inl, inr}
use Rattle.fzn_meaning.specs.declared.model.Model.{Model}
use Rattle.fzn_cert.specs.declared.refusal.Refusal.{Refusal}
use Rattle.fzn_cert.specs.declared.refusal.Refusal.TheVariants.{Header as BadHeader}
use Rattle.fzn_cert.specs.declared.step.Version.{Version}
use Rattle.fzn_cert.specs.Spelling.{version_text, counts_text, header_lines, IsSized}
use Rattle.fzn_cert.specs.Stream.{IsVersionText}
use Rattle.fzn_cert.specs.Past.{no_past}
use Rattle.fzn_cert.specs.Verdict.{Outcome, accepted, refused, VerdictFrom, header_of, IsSecondRefused, VerdictOn, Verdict}
use Rattle.fzn_cert.proofs.OneVerdictLines.{IsLine, same_line, LineFault, one_line_fault, no_line_fault}
use Rattle.fzn_cert.proofs.OneVerdictSteps.{taken_from, one_from}
use Rattle.fzn_cert.proofs.OneVerdictHeader.{version_is_line, same_version, first_fault, counts_is_line, WrongCounts, wrong_counts, one_counts, right_counts}

-- the text of the second line with the model's counts
abbrev own_counts : Model → List ℕ
own_counts model = counts_text (length model.vars) (length model.constraints)

-- the first line is wrong, or the second, or the steps come to it
data Leads (model : Model) (bytes : List ℕ) (x : Outcome) : Type 0 where
  first : (a : Refusal) → x ≡ refused 1 a → LineFault IsVersionText BadHeader bytes a → Leads model bytes x
  second : (a : Refusal) → x ≡ refused 2 a → (version : Version) (rest : List ℕ) → IsLine bytes (version_text version) rest → WrongCounts model rest a → Leads model bytes x
  steps : (version : Version) (rest last : List ℕ) → IsSized (length model.vars) → IsSized (length model.constraints) → IsLine bytes (version_text version) rest → IsLine rest (own_counts model) last
      → VerdictFrom model version no_past 0 (Some last) x → Leads model bytes x

module _ (model : Model) (bytes : List ℕ) where
  leads : (x : Outcome) → VerdictOn model (Some bytes) x → Leads model bytes x
  leads (accepted found closed) (inl h) = absurd h
  leads (refused n a) (inl (inl (is, h))) = first a (ap (λ (l : ℕ). refused l a) is) (first_fault bytes a h)
  leads (refused n a) (inl (inr (is, (version, h)))) =
      let t = taken_from bytes (version_text version ++ 10 ∷ []) (λ rest. IsSecondRefused model rest a) h in
      second a (ap (λ (l : ℕ). refused l a) is) version t.0 (version_is_line bytes version t.0 t.1) (wrong_counts model t.0 a t.2)
  leads x (inr (version, sized, h)) =
      let t = taken_from bytes (header_lines (header_of model version)) (λ rest. VerdictFrom model version no_past 0 rest x) h in
      let front = version_text version ++ 10 ∷ [] in
      let rest = own_counts model ++ 10 ∷ t.0 in
      steps version rest t.0 sized.0 sized.1
      (version_is_line bytes version rest (t.1 ∙ append_assoc (front ++ own_counts model) (10 ∷ []) t.0 ∙ append_assoc front (own_counts model) (10 ∷ t.0)))
      (counts_is_line rest (length model.vars) (length model.constraints) t.0 sized.0 sized.1 refl) t.2

  -- a first line that is right is not wrong
  right_version : (a : Refusal) (version : Version) (rest : List ℕ) → IsLine bytes (version_text version) rest → LineFault IsVersionText BadHeader bytes a → ⊥
  right_version a version rest is f = no_line_fault IsVersionText BadHeader bytes a (version_text version) rest is (version, refl) f

  same_first : (v w : Version) (x y : List ℕ) → IsLine bytes (version_text v) x → IsLine bytes (version_text w) y → (v ≡ w) × (x ≡ y)
  same_first v w x y h k =
      let same = same_line bytes (version_text v) (version_text w) x y h k in
      (same_version v w same.0, same.1)

  -- the counts are wrong or right
  counts_or_steps : (a : Refusal) (v w : Version) (x y last : List ℕ) → IsLine bytes (version_text v) x → WrongCounts model x a → IsSized (length model.vars) → IsSized (length model.constraints) → IsLine bytes (version_text w) y → IsLine y (own_counts model) last → ⊥
  counts_or_steps a v w x y last h f s t k is =
      right_counts model y a last s t is (subst (λ (r : List ℕ). WrongCounts model r a) (same_first v w x y h k).1 f)

  one_lead : (x y : Outcome) → Leads model bytes x → Leads model bytes y → x ≡ y
  one_lead x y (first a p f) (first b q g) = p ∙ ap (λ (r : Refusal). refused 1 r) (one_line_fault IsVersionText BadHeader bytes a b f g) ∙ sym q
  one_lead x y (first a p f) (second b q v r is g) = absurd (right_version a v r is f)
  one_lead x y (first a p f) (steps v r last s t is counts g) = absurd (right_version a v r is f)
  one_lead x y (second a p v r is f) (first b q g) = absurd (right_version b v r is g)
  one_lead x y (second a p v r is f) (second b q w o are g) =
      let same = (same_first v w r o is are).1 in
      p ∙ ap (λ (k : Refusal). refused 2 k) (one_counts model o a b (subst (λ (l : List ℕ). WrongCounts model l a) same f) g) ∙ sym q
  one_lead x y (second a p v r is f) (steps w o last s t are counts g) = absurd (counts_or_steps a v w r o last is f s t are counts)
  one_lead x y (steps v r last s t is counts f) (first b q g) = absurd (right_version b v r is g)
  one_lead x y (steps v r last s t is counts f) (second b q w o are g) = absurd (counts_or_steps b w v o r last are g s t is counts)
  one_lead x y (steps v r last s t is counts f) (steps w o end m n are told g) =
      let same = same_first v w r o is are in
      let behind : last ≡ end = (same_line o (own_counts model) (own_counts model) last end (subst (λ (l : List ℕ). IsLine l (own_counts model) last) same.1 counts) told).1 in
      one_from model v no_past 0 last x y f
      (subst (λ (l : List ℕ). VerdictFrom model v no_past 0 (Some l) y) (sym behind) (subst (λ (u : Version). VerdictFrom model u no_past 0 (Some end) y) (sym same.0) g))

pub one_verdict_lem : (model : Model) (bytes : List ℕ) (x y : Outcome) → Verdict model bytes x → Verdict model bytes y → x ≡ y
one_verdict_lem model bytes x y h k = one_lead model bytes x y (leads model bytes x h) (leads model bytes y k)
