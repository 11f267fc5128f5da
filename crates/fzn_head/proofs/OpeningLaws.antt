-- The lines that open a certificate, one after the other.
use Rattle.std.proofs.Common.{◌≡◌, ℕ, ◌+◌, ◌≤◌, List, [], ◌∷◌, ◌++◌, length, All, Bool, ℤ, Some, inl, inr, refl, sym, ap, subst, ◌∙◌, arith, append_assoc, append-nil}
use Rattle.std.proofs.lemmas.List.{length-append}
use Rattle.std.proofs.lemmas.List.Elements.{All-push}
use Rattle.fzn_meaning.specs.declared.model.Model.{Model}
use Rattle.fzn_meaning.specs.Meaning.{longest, IsWellFormedConstraint}
use Rattle.fzn_meaning.specs.WellFormed.{IsWellFormed}
use Rattle.fzn_derive.specs.declared.derivation.Derivation.{Derivation}
use Rattle.fzn_cert.specs.declared.step.Version.TheVariants.{Two}
use Rattle.fzn_cert.specs.Past.{no_past}
use Rattle.fzn_cert.specs.Verdict.{accepted, VerdictFrom}
use Rattle.fzn_head.specs.declared.head.Head.{Head}
use Rattle.fzn_head.specs.Extended.{Extends, terms_held_in}
use Rattle.fzn_head.specs.Head.{three_line, head_counts_line, derivation_line, derivation_lines, HasDerivationLine, IsSizedHead}
use Rattle.fzn_head.specs.Opening.{head_for, IsOpeningOf, IsLinePushed}
use Rattle.fzn_head.specs.Outcome.{most_in_head, FitsModel, HeadVerdict, IsOutcomeOf, third}
use Rattle.fzn_head.proofs.HeadLaws.{derivation_lines-append}
use Rattle.fzn_head.proofs.ExtendedLaws.{only_constraints, one_for_each, Extends-then, formed-after}

-- these many derivations have given a constraint each, and these are their lines
pub record HasPushed (model after : Model) (lines : List ℕ) (count : ℕ) : Type 0 where
  pub read : List Derivation
  pub have_lines : All HasDerivationLine read
  pub counted : length read ≡ count
  pub extends : Extends model read after
  pub room : length after.constraints ≤ longest
  pub few : count ≤ longest
  pub text : lines ≡ derivation_lines read

pub pushed-none : (model : Model) (lines : List ℕ) → IsWellFormed model → lines ≡ [] → HasPushed model model lines 0
pushed-none model lines formed none = record {
  read = [];
  have_lines = λ k d lt. absurd (omega (arith, lt));
  counted = refl;
  extends = refl;
  room = formed.few_constraints;
  few = omega arith;
  text = none;
}

pub pushed-more : (model after last : Model) (derivation : Derivation) (old new : List ℕ) (count : ℕ) → HasPushed model after old count → IsLinePushed after last derivation old new → HasPushed model last new (count + 1)
pushed-more model after last derivation old new count so_far one = record {
  read = so_far.read ++ derivation ∷ [];
  have_lines = All-push HasDerivationLine so_far.read derivation so_far.have_lines one.line;
  counted = omega (arith, so_far.counted, length-append so_far.read (derivation ∷ []));
  extends = Extends-then model after last so_far.read (derivation ∷ []) so_far.extends one.extends;
  room = one.room;
  few = omega (arith, one.room, so_far.counted, one_for_each model after so_far.read so_far.extends, one_for_each after last (derivation ∷ []) one.extends);
  text = one.text ∙ ap (λ (t : List ℕ). t ++ derivation_line derivation) so_far.text
      ∙ ap (λ (t : List ℕ). derivation_lines so_far.read ++ t) (sym (append-nil (derivation_line derivation)))
      ∙ sym (derivation_lines-append so_far.read (derivation ∷ []));
}

pub pushed-same : (model after last : Model) (old new : List ℕ) (count : ℕ) → HasPushed model after old count → last ≡ after → new ≡ old → HasPushed model last new count
pushed-same model after last old new count so_far is same =
    subst (λ (m : Model). HasPushed model m new count) (sym is) (subst (λ (t : List ℕ). HasPushed model after t count) (sym same) so_far)

pub pushed-formed : (model after : Model) (lines : List ℕ) (count : ℕ) → IsWellFormed model → HasPushed model after lines count → All (IsWellFormedConstraint (length after.vars)) after.constraints
pushed-formed model after lines count formed so_far = (formed-after model after so_far.read formed so_far.room so_far.extends).constraints

-- the variables stay
pub vars-same : (model after : Model) (derivations : List Derivation) → Extends model derivations after → length after.vars ≡ length model.vars
vars-same model after derivations extends = ap (λ (m : Model). length m.vars) (only_constraints model after derivations extends).1

pub pushed-none-yet : (model after : Model) (lines : List ℕ) → HasPushed model after lines 0 → after ≡ model
pushed-none-yet model after lines so_far = of_none so_far.read so_far.counted so_far.extends
  where
    of_none : (read : List Derivation) → length read ≡ 0 → Extends model read after → after ≡ model
    of_none [] none extends = extends
    of_none (derivation ∷ later) none extends = absurd (omega (arith, none))

pub opening-is : (model after : Model) (lines text : List ℕ) (count : ℕ) → HasPushed model after lines count → terms_held_in after.constraints ≤ most_in_head model
    → text ≡ (three_line ++ head_counts_line (head_for model count)) ++ lines → IsOpeningOf model after text
opening-is model after lines text count so_far few is = record {
  read = so_far.read;
  lines = so_far.have_lines;
  extends = so_far.extends;
  few = few;
  room = so_far.room;
  text_is = is ∙ append_assoc three_line (head_counts_line (head_for model count)) lines
      ∙ ap (λ (n : ℕ). three_line ++ (head_counts_line (head_for model n) ++ lines)) (sym so_far.counted)
      ∙ ap (λ (t : List ℕ). three_line ++ (head_counts_line (head_for model (length so_far.read)) ++ t)) so_far.text;
}

-- ---- what it makes of the steps behind it

-- behind such lines accepted steps of the extended model make an accepted certificate of the model
pub opened-outcome : (model after : Model) (opening rest : List ℕ) (found : List (List ℤ)) (closed : Bool) → IsWellFormed model → IsOpeningOf model after opening → VerdictFrom after Two no_past 0 (Some rest) (accepted found closed)
    → IsOutcomeOf model (opening ++ rest) (accepted found closed)
opened-outcome model after opening rest found closed formed opens steps =
    subst (λ (t : List ℕ). IsOutcomeOf model t (accepted found closed)) (sym whole)
    (third (Some (counts ++ (lines ++ rest)), refl, inr (head, sized, fits, (Some (lines ++ rest), refl, behind))))
  where
    head : Head
    head = head_for model (length opens.read)

    counts : List ℕ
    counts = head_counts_line head

    lines : List ℕ
    lines = derivation_lines opens.read

    whole : opening ++ rest ≡ three_line ++ (counts ++ (lines ++ rest))
    whole = ap (λ (t : List ℕ). t ++ rest) opens.text_is ∙ append_assoc three_line (counts ++ lines) rest ∙ ap (λ (t : List ℕ). three_line ++ t) (append_assoc counts lines rest)

    many : length after.constraints ≡ length model.constraints + length opens.read
    many = one_for_each model after opens.read opens.extends

    sized : IsSizedHead head
    sized = (omega (arith, formed.few_vars), omega (arith, formed.few_constraints), omega (arith, many, opens.room))

    fits : FitsModel model head
    fits = record { variables = refl; constraints = refl; room = omega (arith, many, opens.room) }

    behind : HeadVerdict model (length opens.read) (Some (lines ++ rest)) (accepted found closed)
    behind = record {
      read = opens.read;
      lines = opens.lines;
      after = after;
      extends = opens.extends;
      few = opens.few;
      behind = (Some rest, refl, inl (refl, (accepted found closed, steps, refl)));
    }
