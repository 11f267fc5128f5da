-- What an accepted certificate of any version says of its model is true.
use Rattle.std.proofs.Common.{◌≡◌, ℕ, ◌+◌, ◌<◌, ◌≤◌, ◌⊎◌, Bool, true, List, ℤ, length, Option, sym, subst, inl, inr, arith}
use Rattle.fzn_meaning.specs.declared.model.Model.{Model}
use Rattle.fzn_meaning.specs.Meaning.{longest}
use Rattle.fzn_meaning.specs.Solutions.{IsProper, IsExhausted}
use Rattle.fzn_meaning.specs.WellFormed.{IsWellFormed}
use Rattle.fzn_derive.specs.declared.derivation.Derivation.{Derivation}
use Rattle.fzn_cert.specs.declared.refusal.Refusal.{Refusal}
use Rattle.fzn_cert.specs.declared.step.Version.{Version}
use Rattle.fzn_cert.specs.declared.step.Version.TheVariants.{Two}
use Rattle.fzn_cert.specs.Past.{no_past}
use Rattle.fzn_cert.specs.Verdict.{Outcome, accepted, refused, VerdictFrom}
use Rattle.fzn_cert.proofs.SoundLaws.{accepted-proper, closed-exhausted}
use Rattle.fzn_cert.proofs.VerdictLaws.{verdict-proper, verdict-exhausted}
use Rattle.fzn_head.specs.declared.head.Head.{Head}
use Rattle.fzn_head.specs.Extended.{Extends}
use Rattle.fzn_head.specs.Outcome.{most_in_head, FitsModel, further_on, StepsBehind, RefusedBehind, HeadVerdict, VerdictOfThree, IsOutcomeOf, opening, early, third}
use Rattle.fzn_head.proofs.ExtendedLaws.{one_for_each, formed-after, proper-before, exhausted-before}

-- ---- the steps of a model

from-proper : (model : Model) (version : Version) (left : Option (List ℕ)) (found : List (List ℤ)) (closed : Bool) → IsWellFormed model → VerdictFrom model version no_past 0 left (accepted found closed) → IsProper model found
from-proper model version left found closed formed (later, lines, all, (last, taken, ends)) = subst (IsProper model) (sym ends.2) (accepted-proper model later formed all)

from-exhausted : (model : Model) (version : Version) (left : Option (List ℕ)) (found : List (List ℤ)) (closed : Bool) → IsWellFormed model → VerdictFrom model version no_past 0 left (accepted found closed) → closed ≡ true → IsExhausted model found
from-exhausted model version left found closed formed (later, lines, all, (last, taken, ends)) is_closed =
    subst (IsExhausted model) (sym ends.2) (closed-exhausted model later formed all (ends.1 is_closed))

-- ---- version three: such steps, of the model with derived constraints

-- they are accepted as they stand
pub record ComesOf (model : Model) (found : List (List ℤ)) (closed : Bool) : Type 0 where
  pub after : Model
  pub read : List Derivation
  pub extends : Extends model read after
  pub formed : IsWellFormed after
  pub left : Option (List ℕ)
  pub steps : VerdictFrom after Two no_past 0 left (accepted found closed)

accepted_or_refused : (found : List (List ℤ)) (closed : Bool) (line : ℕ) (refusal : Refusal) → accepted found closed ≡ refused line refusal → ⊥
accepted_or_refused found closed line refusal e = cc

-- what is accepted further on is accepted
accepted_before : (after : Model) (left : Option (List ℕ)) (lines : ℕ) (found : List (List ℤ)) (closed : Bool) (inner : Outcome) → VerdictFrom after Two no_past 0 left inner → accepted found closed ≡ further_on lines inner → VerdictFrom after Two no_past 0 left (accepted found closed)
accepted_before after left lines found closed (accepted others said) h e = subst (VerdictFrom after Two no_past 0 left) (sym e) h
accepted_before after left lines found closed (refused line refusal) h e = absurd cc

comes : (model : Model) (head : Head) (left : Option (List ℕ)) (found : List (List ℤ)) (closed : Bool) → IsWellFormed model → FitsModel model head → HeadVerdict model head.derived left (accepted found closed) → ComesOf model found closed
comes model head left found closed formed fits v = by_rest v.behind.0 v.behind.2
  where
    few : length v.read ≡ head.derived → length v.after.constraints ≤ longest
    few all = omega (arith, all, one_for_each model v.after v.read v.extends, fits.room, formed.few_constraints)

    by_rest : (rest : Option (List ℕ)) → ((length v.read ≡ head.derived) × StepsBehind v.after head.derived rest (accepted found closed)) ⊎ ((length v.read < head.derived) × RefusedBehind (most_in_head model) v.after (length v.read) rest (accepted found closed)) → ComesOf model found closed
    by_rest rest (inl (all, (inner, h, e))) = record {
      after = v.after;
      read = v.read;
      extends = v.extends;
      formed = formed-after model v.after v.read formed (few all) v.extends;
      left = rest;
      steps = accepted_before v.after rest head.derived found closed inner h e;
    }
    by_rest rest (inr (few, (refusal, f, e))) = absurd (accepted_or_refused found closed (length v.read + 3) refusal e)

three : (model : Model) (left : Option (List ℕ)) (found : List (List ℤ)) (closed : Bool) → IsWellFormed model → VerdictOfThree model left (accepted found closed) → ComesOf model found closed
three model left found closed formed (inl (refusal, f, e)) = absurd (accepted_or_refused found closed 2 refusal e)
three model left found closed formed (inr (head, sized, fits, (rest, taken, v))) = comes model head rest found closed formed fits v

-- ---- any version

pub outcome-proper : (model : Model) (bytes : List ℕ) (found : List (List ℤ)) (closed : Bool) → IsWellFormed model → IsOutcomeOf model bytes (accepted found closed) → IsProper model found
outcome-proper model bytes found closed formed (opening refusal f e) = absurd (accepted_or_refused found closed 1 refusal e)
outcome-proper model bytes found closed formed (early version begins h) = verdict-proper model bytes found closed formed h
outcome-proper model bytes found closed formed (third (rest, taken, h)) =
    let c = three model rest found closed formed h in
    proper-before model c.after c.read formed c.extends found (from-proper c.after Two c.left found closed c.formed c.steps)

pub outcome-exhausted : (model : Model) (bytes : List ℕ) (found : List (List ℤ)) (closed : Bool) → IsWellFormed model → IsOutcomeOf model bytes (accepted found closed) → closed ≡ true → IsExhausted model found
outcome-exhausted model bytes found closed formed (opening refusal f e) is_closed = absurd (accepted_or_refused found closed 1 refusal e)
outcome-exhausted model bytes found closed formed (early version begins h) is_closed = verdict-exhausted model bytes found closed formed h is_closed
outcome-exhausted model bytes found closed formed (third (rest, taken, h)) is_closed =
    let c = three model rest found closed formed h in
    exhausted-before model c.after c.read formed c.extends found (from-exhausted c.after Two c.left found closed c.formed c.steps is_closed)
