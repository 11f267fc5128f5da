-- The lines of a head, and those that derive constraints, are read in one way.
use Rattle.std.proofs.Common.{◌≡◌, ◌⊎◌, inl, inr, arith, ◌+◌, ◌≤◌, ℕ, List, [], ◌∷◌, ◌++◌, Some, refl, sym, ap, subst, ◌∙◌, append_assoc}
use Rattle.fzn_meaning.specs.declared.constraint.Constraint.{Constraint}
use Rattle.fzn_meaning.specs.declared.model.Model.{Model}
use Rattle.fzn_meaning.specs.Solutions.{declared_sets}
use Rattle.fzn_derive.specs.declared.derivation.Derivation.{Derivation}
use Rattle.fzn_cited.specs.declared.fault.DeriveFault.{DeriveFault}
use Rattle.fzn_cited.specs.declared.fault.DeriveFault.TheVariants as derive
use Rattle.fzn_derive.proofs.DerivedLaws.{no-derive_fault, one-derive_fault, one-derived}
use Rattle.fzn_cert.specs.declared.refusal.Refusal.{Refusal}
use Rattle.fzn_cert.specs.declared.refusal.Refusal.TheVariants.{Header as BadHeader, Spelling, Truncated, LineTooLong, Counts, NoSuchConstraint, NoSuchVariable, NotDerived}
use Rattle.fzn_cert.specs.Derivations.{derivation_text}
use Rattle.fzn_cert.specs.Verdict.{BeginsWith}
use Rattle.fzn_cert.proofs.DerivationLaws.{derivation_is_inside, one_derivation_lem}
use Rattle.fzn_cert.proofs.OneVerdictLines.{IsLine, same_line, LineFault, one_line_fault, no_line_fault, other_fault, short_fault, long_fault}
use Rattle.fzn_cert.proofs.OneVerdictSteps.{taken_from}
use Rattle.fzn_head.specs.declared.head.Head.{Head}
use Rattle.fzn_head.specs.Extended.{IsDerivedOf, IsFaultyOf, IsFaultyWithin, PassesTerms, terms_held, terms_held_in}
use Rattle.fzn_head.specs.Head.{head_counts, head_counts_line, derivation_line, HasDerivationLine, IsSizedHead, IsFirstText, IsHeadCountsText, IsDerivationText}
use Rattle.fzn_head.specs.Outcome.{IsOpeningRefused, FitsModel, IsHeadRefused, IsDerivationRefused}
use Rattle.fzn_head.proofs.HeadLaws.{same_head, head_inside, head_within}

-- ---- the first line

pub opening_fault : (bytes : List ℕ) (a : Refusal) → IsOpeningRefused (Some bytes) a → LineFault IsFirstText BadHeader bytes a
opening_fault bytes BadHeader (text, begins, none) = other_fault IsFirstText BadHeader bytes text begins none
opening_fault bytes Truncated h = short_fault IsFirstText BadHeader bytes h
opening_fault bytes LineTooLong h = long_fault IsFirstText BadHeader bytes h
opening_fault bytes _ h = absurd h

-- ---- the second line of version three

pub head_is_line : (bytes : List ℕ) (head : Head) (rest : List ℕ) → IsSizedHead head → bytes ≡ head_counts_line head ++ rest → IsLine bytes (head_counts head) rest
head_is_line bytes head rest h e = record { taken = e ∙ append_assoc (head_counts head) (10 ∷ []) rest; inside = head_inside head h; within = head_within head h }

-- what is wrong with it
pub data WrongHead (model : Model) (bytes : List ℕ) (a : Refusal) : Type 0 where
  line : LineFault IsHeadCountsText BadHeader bytes a → WrongHead model bytes a
  counts : a ≡ Counts → (head : Head) (rest : List ℕ) → IsSizedHead head → IsLine bytes (head_counts head) rest → (FitsModel model head → ⊥) → WrongHead model bytes a

module _ (model : Model) (bytes : List ℕ) where
  pub wrong_head : (a : Refusal) → IsHeadRefused model (Some bytes) a → WrongHead model bytes a
  wrong_head BadHeader (text, begins, none) = line (other_fault IsHeadCountsText BadHeader bytes text begins none)
  wrong_head Truncated h = line (short_fault IsHeadCountsText BadHeader bytes h)
  wrong_head LineTooLong h = line (long_fault IsHeadCountsText BadHeader bytes h)
  wrong_head Counts (head, sized, begins, apart) =
      let t = taken_from bytes (head_counts_line head) (λ _. Unit {0}) begins in
      counts refl head t.0 sized (head_is_line bytes head t.0 sized t.1) apart
  wrong_head _ h = absurd h

  head_fault : (a : Refusal) (head : Head) (rest : List ℕ) → IsSizedHead head → IsLine bytes (head_counts head) rest → LineFault IsHeadCountsText BadHeader bytes a → ⊥
  head_fault a head rest sized is f = no_line_fault IsHeadCountsText BadHeader bytes a (head_counts head) rest is (head, sized, refl) f

  pub one_wrong_head : (a b : Refusal) → WrongHead model bytes a → WrongHead model bytes b → a ≡ b
  one_wrong_head a b (line f) (line g) = one_line_fault IsHeadCountsText BadHeader bytes a b f g
  one_wrong_head a b (line f) (counts q head rest sized is apart) = absurd (head_fault a head rest sized is f)
  one_wrong_head a b (counts p head rest sized is apart) (line g) = absurd (head_fault b head rest sized is g)
  one_wrong_head a b (counts p head rest sized is apart) (counts q other r s are n) = p ∙ sym q

  -- a line that fits the model is not wrong
  pub right_head : (a : Refusal) (head : Head) (rest : List ℕ) → IsSizedHead head → FitsModel model head → IsLine bytes (head_counts head) rest → WrongHead model bytes a → ⊥
  right_head a head rest sized fits is (line f) = head_fault a head rest sized is f
  right_head a head rest sized fits is (counts q other r s are apart) =
      apart (subst (FitsModel model) (same_head head other sized s (same_line bytes (head_counts head) (head_counts other) rest r is are).0) fits)

-- ---- a line that derives a constraint

pub derivation_is_line : (bytes : List ℕ) (derivation : Derivation) (rest : List ℕ) → HasDerivationLine derivation → bytes ≡ derivation_line derivation ++ rest → IsLine bytes (derivation_text derivation) rest
derivation_is_line bytes derivation rest has e =
    record { taken = e ∙ append_assoc (derivation_text derivation) (10 ∷ []) rest; inside = derivation_is_inside derivation has.0; within = has.1 }

pub same_derivation : (bytes : List ℕ) (a b : Derivation) (x y : List ℕ) → HasDerivationLine a → HasDerivationLine b → IsLine bytes (derivation_text a) x → IsLine bytes (derivation_text b) y → (a ≡ b) × (x ≡ y)
same_derivation bytes a b x y h k is are = one_derivation_lem a b x y h.0 k.0 (sym is.taken ∙ are.taken)

-- how a fault of a derivation is told; that memory ran out is none of them
pub refusal_of : DeriveFault → Refusal
refusal_of derive.Memory = NotDerived
refusal_of derive.NoSuchVariable = NoSuchVariable
refusal_of derive.NoSuchConstraint = NoSuchConstraint
refusal_of derive.NotDerived = NotDerived

-- what is wrong with it
pub data WrongDerivation (most : ℕ) (model : Model) (bytes : List ℕ) (a : Refusal) : Type 0 where
  line : LineFault IsDerivationText Spelling bytes a → WrongDerivation most model bytes a
  faulty : (fault : DeriveFault) → a ≡ refusal_of fault → (derivation : Derivation) (rest : List ℕ) → HasDerivationLine derivation → IsLine bytes (derivation_text derivation) rest → IsFaultyWithin most model derivation fault → WrongDerivation most model bytes a

-- nothing is wrong in two ways with a derivation
one_faulty : (most : ℕ) (model : Model) (derivation : Derivation) (first second : DeriveFault) → IsFaultyWithin most model derivation first → IsFaultyWithin most model derivation second → first ≡ second
one_faulty most model derivation first second (inl f) (inl g) = one-derive_fault model.constraints (declared_sets model.vars) derivation first second f g
one_faulty most model derivation first second (inl f) (inr (is, (constraint, derived, past))) = absurd (no-derive_fault model.constraints (declared_sets model.vars) derivation constraint first derived f)
one_faulty most model derivation first second (inr (is, (constraint, derived, past))) (inl g) = absurd (no-derive_fault model.constraints (declared_sets model.vars) derivation constraint second derived g)
one_faulty most model derivation first second (inr f) (inr g) = f.0 ∙ sym g.0

-- nothing is wrong with one that gives a constraint with so few terms
none_faulty : (most : ℕ) (model : Model) (derivation : Derivation) (constraint : Constraint) (fault : DeriveFault) → IsDerivedOf model derivation constraint → terms_held_in model.constraints + terms_held constraint ≤ most → IsFaultyWithin most model derivation fault → ⊥
none_faulty most model derivation constraint fault derived few (inl f) = no-derive_fault model.constraints (declared_sets model.vars) derivation constraint fault derived f
none_faulty most model derivation constraint fault derived few (inr (is, (other, so, past))) =
    let same = ap terms_held (one-derived model.constraints (declared_sets model.vars) derivation constraint other derived so) in
    omega (arith, same, few, past)

module _ (most : ℕ) (model : Model) (bytes : List ℕ) where
  is_faulty : (fault : DeriveFault) (derivation : Derivation) → HasDerivationLine derivation → BeginsWith (Some bytes) (derivation_line derivation) → IsFaultyWithin most model derivation fault → WrongDerivation most model bytes (refusal_of fault)
  is_faulty fault derivation has begins wrong =
      let t = taken_from bytes (derivation_line derivation) (λ _. Unit {0}) begins in
      faulty fault refl derivation t.0 has (derivation_is_line bytes derivation t.0 has t.1) wrong

  pub wrong_derivation : (a : Refusal) → IsDerivationRefused most model (Some bytes) a → WrongDerivation most model bytes a
  unfolding refusal_of
  wrong_derivation Spelling (text, begins, none) = line (other_fault IsDerivationText Spelling bytes text begins none)
  wrong_derivation Truncated h = line (short_fault IsDerivationText Spelling bytes h)
  wrong_derivation LineTooLong h = line (long_fault IsDerivationText Spelling bytes h)
  wrong_derivation NoSuchVariable (derivation, has, begins, wrong) = is_faulty derive.NoSuchVariable derivation has begins wrong
  wrong_derivation NoSuchConstraint (derivation, has, begins, wrong) = is_faulty derive.NoSuchConstraint derivation has begins wrong
  wrong_derivation NotDerived (derivation, has, begins, wrong) = is_faulty derive.NotDerived derivation has begins wrong
  wrong_derivation _ h = absurd h

  derivation_fault : (a : Refusal) (derivation : Derivation) (rest : List ℕ) → HasDerivationLine derivation → IsLine bytes (derivation_text derivation) rest → LineFault IsDerivationText Spelling bytes a → ⊥
  derivation_fault a derivation rest has is f = no_line_fault IsDerivationText Spelling bytes a (derivation_text derivation) rest is (derivation, has.0, refl) f

  pub one_wrong_derivation : (a b : Refusal) → WrongDerivation most model bytes a → WrongDerivation most model bytes b → a ≡ b
  one_wrong_derivation a b (line f) (line g) = one_line_fault IsDerivationText Spelling bytes a b f g
  one_wrong_derivation a b (line f) (faulty fault q derivation rest has is wrong) = absurd (derivation_fault a derivation rest has is f)
  one_wrong_derivation a b (faulty fault p derivation rest has is wrong) (line g) = absurd (derivation_fault b derivation rest has is g)
  one_wrong_derivation a b (faulty fault p derivation rest has is wrong) (faulty fault_too q other r has_too are wrong_too) =
      let same = (same_derivation bytes derivation other rest r has has_too is are).0 in
      let told = one_faulty most model other fault fault_too (subst (λ (d : Derivation). IsFaultyWithin most model d fault) same wrong) wrong_too in
      p ∙ ap refusal_of told ∙ sym q

  -- a line of which a constraint is derived is not wrong
  pub right_derivation : (a : Refusal) (derivation : Derivation) (constraint : Constraint) (rest : List ℕ) → HasDerivationLine derivation → IsDerivedOf model derivation constraint → terms_held_in model.constraints + terms_held constraint ≤ most → IsLine bytes (derivation_text derivation) rest → WrongDerivation most model bytes a → ⊥
  right_derivation a derivation constraint rest has derived few is (line f) = derivation_fault a derivation rest has is f
  right_derivation a derivation constraint rest has derived few is (faulty fault q other r has_too are wrong) =
      let same = (same_derivation bytes derivation other rest r has has_too is are).0 in
      none_faulty most model derivation constraint fault derived few (subst (λ (d : Derivation). IsFaultyWithin most model d fault) (sym same) wrong)
