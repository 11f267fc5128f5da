-- The lines in front of the first step, and what they make of the steps behind them.
use Rattle.std.proofs.Common.{◌≡◌, ◌⊎◌, ℕ, ◌+◌, ◌<◌, ◌≤◌, Bool, true, false, List, [], ◌∷◌, ◌++◌, length, Option, Some, None, IfSome, All, refl, sym, ap, subst, ◌∙◌, inl, inr, arith, append_assoc, append-nil}
use Rattle.std.specs.Io.KnownBytes.{Consumes}
use Rattle.std.proofs.KnownBytes.{Consumes-trans}
use Rattle.std.proofs.lemmas.List.{length-append}
use Rattle.std.proofs.lemmas.List.Elements.{All-push}
use Rattle.fzn_meaning.specs.declared.model.Var.{Var}
use Rattle.fzn_meaning.specs.declared.model.Model.{Model}
use Rattle.fzn_meaning.specs.Meaning.{longest, IsWellFormedConstraint}
use Rattle.fzn_meaning.specs.WellFormed.{IsWellFormed}
use Rattle.fzn_derive.specs.declared.derivation.Derivation.{Derivation}
use Rattle.fzn_cited.specs.declared.fault.DeriveFault.{DeriveFault}
use Rattle.fzn_cited.specs.declared.fault.DeriveFault.TheVariants as derive
use Rattle.fzn_cert.specs.declared.fault.FaultKind.{FaultKind}
use Rattle.fzn_cert.specs.declared.fault.FaultKind.TheVariants as faults
use Rattle.fzn_cert.specs.declared.header.Header.{Header}
use Rattle.fzn_cert.specs.declared.refusal.Refusal.{Refusal}
use Rattle.fzn_cert.specs.declared.refusal.Refusal.TheVariants as refusals
use Rattle.fzn_cert.specs.declared.step.Version.{Version}
use Rattle.fzn_cert.specs.declared.step.Version.TheVariants.{Two}
use Rattle.fzn_cert.specs.Spelling.{header_lines, version_text, counts_text, IsSized, IsHeader}
use Rattle.fzn_cert.specs.Stream.{After, IsHeaderFaultOf}
use Rattle.fzn_cert.specs.Past.{no_past}
use Rattle.fzn_cert.specs.Verdict.{Outcome, accepted, refused, BeginsWith, IsSecondRefused, VerdictFrom, VerdictOn}
use Rattle.fzn_cert_reader.specs.Reader.{Progress}
use Rattle.fzn_cert_reader.specs.Opening.{IsInHead, BeginsEarly, BeginsHead, IsOpeningFault, GivesDerivation, TurnsToSteps}
use Rattle.fzn_head.specs.declared.head.Head.{Head}
use Rattle.fzn_head.specs.declared.extender.Extender.{Extender}
use Rattle.fzn_head.specs.declared.extender.TheConstants.{TERM_LIMIT}
use Rattle.fzn_head.specs.Extended.{Extends, IsExtended, IsFaultyWithin, terms_held_in}
use Rattle.fzn_head.specs.Extender.{IsReadyFor, most_terms}
use Rattle.fzn_head.specs.Head.{three_line, head_counts_line, derivation_line, derivation_lines, HasDerivationLine, IsDerivationText}
use Rattle.fzn_head.specs.Opening.{IsOpeningOf, head_for, opening_lines}
use Rattle.fzn_head.specs.Outcome.{IsOpeningRefused, IsHeadRefused, FitsModel, HeadVerdict, IsOutcomeOn, opening, early, third, further_on, most_in_head}
use Rattle.fzn_head.proofs.CallerLemmas.{derivation_lines-append, IsCitable, only_constraints, one_for_each, Extends-then, citable-all, formed-after}
use Rattle.fzn_checker.specs.declared.fault.CheckFault.{CheckFault}
use Rattle.fzn_checker.specs.declared.fault.CheckFault.TheVariants.{File, Refused, NotVersionOne, Memory, Read, WriteOutput, WriteCert}
use Rattle.fzn_checker.specs.Checked.{IsFaultWhere, HasCounts, ComesTo}
use Rattle.fzn_checker.specs.Faults.{fault_of_kind}
use Rattle.fzn_checker.specs.Opened.{IsHeadOf, plain, headed, IsOpened, IsTurned, DerivesNext, IsRefusedAt, fault_of_line, fault_of_derivation, fault_further}
use Rattle.fzn_checker.proofs.FaultLaws.{fault-weaker}
use Rattle.fzn_checker.proofs.StandingLaws.{Consumes-split, header_is, standing-told}

-- ---- the first two lines

-- the line that says the version stands first
first-line : (left rest : Option (List ℕ)) (header : Header) → Consumes left rest (header_lines header) → BeginsWith left (version_text header.version ++ 10 ∷ [])
first-line left rest header taken =
    let text = append_assoc (version_text header.version ++ 10 ∷ []) (counts_text header.variables header.constraints) (10 ∷ []) in
    let split = Consumes-split left rest (version_text header.version ++ 10 ∷ []) (counts_text header.variables header.constraints ++ 10 ∷ []) (subst (Consumes left rest) text taken) in
    (split.0, split.1, tt)

refused-first : (model : Model) (left : Option (List ℕ)) (line : ℕ) (refusal : Refusal) → line ≡ 1 → IsOpeningRefused left refusal → IsOutcomeOn model left (refused line refusal)
refused-first model left line refusal at f = opening refusal f (ap (λ (n : ℕ). refused n refusal) at)

refused-second : (model : Model) (left : Option (List ℕ)) (line : ℕ) (refusal : Refusal) → line ≡ 2 → (version : Version) → After left (version_text version ++ 10 ∷ []) (λ rest. IsSecondRefused model rest refusal) → IsOutcomeOn model left (refused line refusal)
refused-second model left line refusal at version (rest, taken, f) = early version (rest, taken, tt) (inl (inr (at, (version, (rest, taken, f)))))

refused-head : (model : Model) (left : Option (List ℕ)) (line : ℕ) (refusal : Refusal) → line ≡ 2 → After left three_line (λ rest. IsHeadRefused model rest refusal) → IsOutcomeOn model left (refused line refusal)
refused-head model left line refusal at (rest, taken, f) = third (rest, taken, inl (refusal, f, ap (λ (n : ℕ). refused n refusal) at))

pub opening-fault : (model : Model) (left : Option (List ℕ)) (kind : FaultKind) (line : ℕ) → IsOpeningFault left (record { kind = kind; line = line }) → IsFaultWhere (IsOutcomeOn model left) (fault_of_kind kind line None false)
opening-fault model left faults.Header line (inl (at, f)) = refused-first model left line refusals.Header at f
opening-fault model left faults.Header line (inr (inl (at, (version, f)))) = refused-second model left line refusals.Header at version f
opening-fault model left faults.Header line (inr (inr (at, f))) = refused-head model left line refusals.Header at f
opening-fault model left faults.Truncated line (inl (at, f)) = refused-first model left line refusals.Truncated at f
opening-fault model left faults.Truncated line (inr (inl (at, (version, f)))) = refused-second model left line refusals.Truncated at version f
opening-fault model left faults.Truncated line (inr (inr (at, f))) = refused-head model left line refusals.Truncated at f
opening-fault model left faults.LineTooLong line (inl (at, f)) = refused-first model left line refusals.LineTooLong at f
opening-fault model left faults.LineTooLong line (inr (inl (at, (version, f)))) = refused-second model left line refusals.LineTooLong at version f
opening-fault model left faults.LineTooLong line (inr (inr (at, f))) = refused-head model left line refusals.LineTooLong at f
opening-fault model left faults.Memory line f = tt
opening-fault model left faults.Read line f = tt
opening-fault model left _ line (inl (at, f)) = absurd f
opening-fault model left _ line (inr (inl (at, (version, (rest, taken, f))))) = absurd f
opening-fault model left _ line (inr (inr (at, (rest, taken, f)))) = absurd f

pub opening-line : (left : Option (List ℕ)) (kind : FaultKind) (line : ℕ) → IsOpeningFault left (record { kind = kind; line = line }) → 1 ≤ line
opening-line left kind line (inl (at, f)) = omega (arith, at)
opening-line left kind line (inr (inl (at, f))) = omega (arith, at)
opening-line left kind line (inr (inr (at, f))) = omega (arith, at)

-- ---- versions one and two

-- no line derives a constraint
pub none-derived : (model : Model) (read : List Derivation) → read ≡ [] → IsHeadOf model model read
none-derived model read is = subst (IsHeadOf model model) (sym is) (record { lines = λ k d lt. absurd (omega (arith, lt)); extends = refl; few = omega arith })

module _ (model : Model) (old new : Progress) (begins : BeginsEarly old new) where
  steps-verdict : HasCounts model begins.header → (outcome : Outcome) → ComesTo model no_past new outcome → VerdictOn model old.left outcome
  steps-verdict counts outcome h =
      let header = begins.header in
      inr (
        header.version,
        (subst IsSized counts.0 counts.2.0, subst IsSized counts.1 counts.2.1),
        (new.left, subst (Consumes old.left new.left) (header_is model header counts) begins.taken, standing-told model no_past new header 0 outcome begins.told begins.no_steps h),
      )

  no_further : (outcome : Outcome) → further_on 0 outcome ≡ outcome
  no_further (accepted found closed) = refl
  no_further (refused line refusal) = ap (λ (n : ℕ). refused n refusal) (omega arith)

  pub opened-early : IsWellFormed model → IfSome new.header (HasCounts model) → IsOpened model model old.left new 0
  opened-early formed counts =
      let fits : HasCounts model begins.header = subst (λ (o : Option Header). IfSome o (HasCounts model)) begins.told counts in
      record {
        formed = formed;
        few = omega arith;
        midway = record { reading = begins.goes_on; counts = counts; fresh = λ none. (refl, begins.no_steps) };
        no_steps = begins.no_steps;
        leads = λ inner h.
            subst (IsOutcomeOn model old.left) (sym (no_further inner))
            (early begins.header.version (first-line old.left new.left begins.header begins.taken) (steps-verdict fits inner h));
        header = begins.header;
        told = begins.told;
        front = header_lines begins.header;
        opens = plain refl (subst IsSized fits.0 fits.2.0, subst IsSized fits.1 fits.2.1) (header_is model begins.header fits);
        taken = begins.taken;
      }

  -- they tell other counts
  pub other-early : (IfSome new.header (HasCounts model) → ⊥) → IsOutcomeOn model old.left (refused 2 refusals.Counts)
  other-early other =
      let header = begins.header in
      let text = append_assoc (version_text header.version ++ 10 ∷ []) (counts_text header.variables header.constraints) (10 ∷ []) in
      let split = Consumes-split old.left new.left (version_text header.version ++ 10 ∷ []) (counts_text header.variables header.constraints ++ 10 ∷ []) (subst (Consumes old.left new.left) text begins.taken) in
      early header.version (split.0, split.1, tt)
      (inl (inr (
        refl,
        (
          header.version,
          (
            split.0,
            split.1,
            (
              header.variables,
              header.constraints,
              begins.sized.0,
              begins.sized.1,
              (new.left, split.2, tt),
              λ same. other (subst (λ (o : Option Header). IfSome o (HasCounts model)) (sym begins.told) (same.0, same.1, begins.sized)),
            ),
          ),
        ),
      )))

-- ---- version three

module _ (model : Model) (old mid : Progress) (head : Head) (begins : BeginsHead old mid head) where
  pub other-head : (FitsModel model head → ⊥) → IsOutcomeOn model old.left (refused 2 refusals.Counts)
  other-head other =
      let split = Consumes-split old.left mid.left three_line (head_counts_line head) begins.taken in
      third (split.0, split.1, inl (refusals.Counts, (head, begins.sized, (mid.left, split.2, tt), other), refl))

  pub head-verdict : FitsModel model head → (outcome : Outcome) → HeadVerdict model head.derived mid.left outcome → IsOutcomeOn model old.left outcome
  head-verdict fits outcome h =
      let split = Consumes-split old.left mid.left three_line (head_counts_line head) begins.taken in
      third (split.0, split.1, inr (head, begins.sized, fits, (mid.left, split.2, h)))

  -- the lines that were read are those that open a certificate so
  opening-text : FitsModel model head → (read : List Derivation) → length read ≡ head.derived → (three_line ++ head_counts_line head) ++ derivation_lines read ≡ opening_lines model read
  opening-text fits read counted =
      append_assoc three_line (head_counts_line head) (derivation_lines read)
      ∙ ap (λ (n : ℕ). three_line ++ (head_counts_line (record { variables = n; constraints = head.constraints; derived = head.derived }) ++ derivation_lines read)) fits.variables
      ∙ ap (λ (n : ℕ). three_line ++ (head_counts_line (record { variables = length model.vars; constraints = n; derived = head.derived }) ++ derivation_lines read)) fits.constraints
      ∙ ap (λ (n : ℕ). three_line ++ (head_counts_line (head_for model n) ++ derivation_lines read)) (sym counted)

  pub opened-head : FitsModel model head → (after : Model) (new : Progress) → IsTurned model after head mid new → IsOpened model after old.left new head.derived
  opened-head fits after new turned =
      let front = (three_line ++ head_counts_line head) ++ derivation_lines turned.read in
      record {
        formed = turned.formed;
        few = omega (arith, fits.room);
        midway = turned.midway;
        no_steps = turned.no_steps;
        leads = λ inner h. head-verdict fits (further_on head.derived inner) (turned.leads inner h);
        header = turned.header;
        told = turned.told;
        front = front;
        opens = headed turned.version (record {
          read = turned.read;
          lines = turned.derives.lines;
          extends = turned.derives.extends;
          few = turned.derives.few;
          room = turned.formed.few_constraints;
          text_is = opening-text fits turned.read turned.counted;
        });
        taken = Consumes-trans old.left mid.left new.left (three_line ++ head_counts_line head) (derivation_lines turned.read) begins.taken turned.taken;
      }

-- ---- the lines that derive constraints

-- these many lines were read, and the model has what they derive; how they derive it may be held
pub record HasDerived (model after : Model) (left rest : Option (List ℕ)) (count : ℕ) (holds : Bool) (held : List Derivation) : Type 0 where
  pub read : List Derivation
  pub lines : All HasDerivationLine read
  pub counted : length read ≡ count
  pub extends : Extends model read after
  pub taken : Consumes left rest (derivation_lines read)
  pub are_held : holds ≡ true → held ≡ read

nothing-taken : (left : Option (List ℕ)) → Consumes left left []
nothing-taken None = tt
nothing-taken (Some bytes) = refl

pub derived-none : (model : Model) (left : Option (List ℕ)) (holds : Bool) (held : List Derivation) → held ≡ [] → HasDerived model model left left 0 holds held
derived-none model left holds held none = record {
  read = [];
  lines = λ k d lt. absurd (omega (arith, lt));
  counted = refl;
  extends = refl;
  taken = nothing-taken left;
  are_held = λ _. none;
}

pub derived-more : (model after last : Model) (left : Option (List ℕ)) (old new : Progress) (count : ℕ) (holds : Bool) (held more : List Derivation) (derivation : Derivation) → HasDerived model after left old.left count holds held → DerivesNext after last old new derivation
    → (holds ≡ true → more ≡ held ++ derivation ∷ []) → HasDerived model last left new.left (count + 1) holds more
derived-more model after last left old new count holds held more derivation so_far (one, gives) is_held = record {
  read = so_far.read ++ derivation ∷ [];
  lines = All-push HasDerivationLine so_far.read derivation so_far.lines gives.has_line;
  counted = omega (arith, so_far.counted, length-append so_far.read (derivation ∷ []));
  extends = Extends-then model after last so_far.read (derivation ∷ []) so_far.extends one;
  taken = subst (Consumes left new.left) (ap (λ (t : List ℕ). derivation_lines so_far.read ++ t) (sym (append-nil (derivation_line derivation))) ∙ sym (derivation_lines-append so_far.read (derivation ∷ [])))
      (Consumes-trans left old.left new.left (derivation_lines so_far.read) (derivation_line derivation) so_far.taken gives.taken);
  are_held = λ wanted. is_held wanted ∙ ap (λ (l : List Derivation). l ++ derivation ∷ []) (so_far.are_held wanted);
}

-- where the next is derived too
pub extended-next : (model after last : Model) (left : Option (List ℕ)) (old new : Progress) (count : ℕ) (holds : Bool) (held : List Derivation) (derivation : Derivation) → HasDerived model after left old.left count holds held → DerivesNext after last old new derivation → IsExtended model last
extended-next model after last left old new count holds held derivation so_far (one, gives) = (so_far.read ++ derivation ∷ [], Extends-then model after last so_far.read (derivation ∷ []) so_far.extends one)

-- ---- what is known of the model in between

same-vars : (model after : Model) (read : List Derivation) → Extends model read after → after.vars ≡ model.vars
same-vars model after read extends = ap (λ (m : Model). m.vars) (only_constraints model after read extends).1

pub derived-vars : (model after : Model) (left rest : Option (List ℕ)) (count : ℕ) (holds : Bool) (held : List Derivation) → HasDerived model after left rest count holds held → after.vars ≡ model.vars
derived-vars model after left rest count holds held so_far = same-vars model after so_far.read so_far.extends

pub derived-formed : (model after : Model) (left rest : Option (List ℕ)) (count : ℕ) (holds : Bool) (held : List Derivation) → IsWellFormed model → HasDerived model after left rest count holds held → All (IsWellFormedConstraint (length after.vars)) after.constraints
derived-formed model after left rest count holds held formed so_far =
    let citable : IsCitable model = record { formed = formed.constraints; booleans = formed.booleans } in
    let citable_after = citable-all model after so_far.read citable so_far.extends in citable_after.formed

-- whoever extends the model is still ready for it
pub ready-next : (model after : Model) (old new : Progress) (derivation : Derivation) (extender : Extender) → DerivesNext model after old new derivation → IsReadyFor (length model.vars) extender → IsReadyFor (length after.vars) extender
ready-next model after old new derivation extender (one, gives) ready =
    subst (λ (vars : List Var). IsReadyFor (length vars) extender) (sym (same-vars model after (derivation ∷ []) one)) ready

pub in-head-next : (model after : Model) (old new : Progress) (derivation : Derivation) → DerivesNext model after old new derivation → IsInHead new
in-head-next model after old new derivation (one, gives) = gives.in_head

pub derived-few : (model after : Model) (head : Head) (left rest : Option (List ℕ)) (count : ℕ) (holds : Bool) (held : List Derivation) → IsWellFormed model → FitsModel model head → count ≤ head.derived → HasDerived model after left rest count holds held → length after.constraints ≤ longest
derived-few model after head left rest count holds held formed fits so_many so_far =
    omega (arith, so_many, so_far.counted, one_for_each model after so_far.read so_far.extends, fits.room, formed.few_constraints)

-- ---- how many terms there are

pub most-at-first : (model : Model) (extender : Extender) → extender.left ≡ TERM_LIMIT → most_terms extender model ≡ most_in_head model
most-at-first model extender left = ap (λ (n : ℕ). n + terms_held_in model.constraints) left

pub few-terms : (model after : Model) (extender : Extender) → most_terms extender after ≡ most_in_head model → terms_held_in after.constraints ≤ most_in_head model
few-terms model after extender most = omega (arith, most)

-- ---- the steps behind them

module _ (model after : Model) (head : Head) (left rest : Option (List ℕ)) (holds : Bool) (held : List Derivation) (constraints : ℕ) (formed : IsWellFormed model) (fits : FitsModel model head) (so_far : HasDerived model after left rest head.derived holds held) (is : constraints ≡ length after.constraints) where
  few_after : length after.constraints ≤ longest
  few_after = derived-few model after head left rest head.derived holds held formed fits (omega arith) so_far

  pub head-sized : IsHeader (record { version = Two; variables = head.variables; constraints = constraints })
  head-sized = (omega (arith, fits.variables, formed.few_vars), omega (arith, few_after, is))

  -- and what was held of them
  pub head-held : terms_held_in after.constraints ≤ most_in_head model → holds ≡ true → IsHeadOf model after held
  head-held terms wanted = subst (IsHeadOf model after) (sym (so_far.are_held wanted)) (record { lines = so_far.lines; extends = so_far.extends; few = terms })

pub turned : (model after : Model) (head : Head) (old now new : Progress) (holds : Bool) (held : List Derivation) (constraints : ℕ) → IsWellFormed model → FitsModel model head → HasDerived model after old.left now.left head.derived holds held → constraints ≡ length after.constraints
    → TurnsToSteps now new (record { version = Two; variables = head.variables; constraints = constraints }) → terms_held_in after.constraints ≤ most_in_head model → IsTurned model after head old new
turned model after head old now new holds held constraints formed fits so_far is turns terms =
    let header : Header = record { version = Two; variables = head.variables; constraints = constraints } in
    let few = derived-few model after head old.left now.left head.derived holds held formed fits (omega arith) so_far in
    let vars = derived-vars model after old.left now.left head.derived holds held so_far in
    record {
      formed = formed-after model after so_far.read formed few so_far.extends;
      midway = record {
        reading = turns.goes_on;
        counts = subst (λ (o : Option Header). IfSome o (HasCounts after)) (sym turns.told)
            (fits.variables ∙ ap (λ (v : List Var). length v) (sym vars), is, head-sized model after head old.left now.left holds held constraints formed fits so_far is);
        fresh = λ none. (refl, turns.no_steps);
      };
      no_steps = turns.no_steps;
      leads = λ inner h. record {
        read = so_far.read;
        lines = so_far.lines;
        after = after;
        extends = so_far.extends;
        few = terms;
        behind = (now.left, so_far.taken, inl (so_far.counted, (inner, subst (λ (left : Option (List ℕ)). VerdictFrom after Two no_past 0 left inner) turns.left (standing-told after no_past new header 0 inner turns.told turns.no_steps h), refl)));
      };
      header = header;
      told = turns.told;
      version = refl;
      read = so_far.read;
      counted = so_far.counted;
      derives = record { lines = so_far.lines; extends = so_far.extends; few = terms };
      taken = subst (λ (left : Option (List ℕ)). Consumes old.left left (derivation_lines so_far.read)) (sym turns.left) so_far.taken;
    }

-- ---- a line that derives none

pub head-fault : (model after : Model) (extender : Extender) (derived : ℕ) (left rest : Option (List ℕ)) (count line : ℕ) (holds : Bool) (held : List Derivation) (fault : CheckFault) → line ≡ count + 3 → count < derived → HasDerived model after left rest count holds held
    → most_terms extender after ≡ most_in_head model → IsFaultWhere (IsRefusedAt (most_terms extender after) after line rest) fault → IsFaultWhere (HeadVerdict model derived left) fault
head-fault model after extender derived left rest count line holds held fault at below so_far most f =
    fault-weaker (IsRefusedAt (most_in_head model) after line rest) (HeadVerdict model derived left) fault behind (subst (λ (n : ℕ). IsFaultWhere (IsRefusedAt n after line rest) fault) most f)
  where
    behind : (outcome : Outcome) → IsRefusedAt (most_in_head model) after line rest outcome → HeadVerdict model derived left outcome
    behind outcome (refusal, wrong, is) = record {
      read = so_far.read;
      lines = so_far.lines;
      after = after;
      extends = so_far.extends;
      few = few-terms model after extender most;
      behind = (rest, so_far.taken, inr (omega (arith, so_far.counted, below), (refusal, wrong, is ∙ ap (λ (n : ℕ). refused n refusal) (omega (arith, at, so_far.counted)))));
    }

pub line-refused : (most : ℕ) (model : Model) (line : ℕ) (left : Option (List ℕ)) (kind : FaultKind) → IsHeaderFaultOf IsDerivationText left kind → IsFaultWhere (IsRefusedAt most model line left) (fault_of_line kind line)
line-refused most model line left faults.Header f = (refusals.Spelling, f, refl)
line-refused most model line left faults.Truncated f = (refusals.Truncated, f, refl)
line-refused most model line left faults.LineTooLong f = (refusals.LineTooLong, f, refl)
line-refused most model line left faults.Memory f = tt
line-refused most model line left faults.Read f = tt
line-refused most model line left _ f = absurd f

pub derive-refused : (most : ℕ) (model : Model) (line : ℕ) (old new : Progress) (derivation : Derivation) (fault : DeriveFault) → GivesDerivation old new derivation → (fault ≡ derive.Memory) ⊎ IsFaultyWithin most model derivation fault
    → IsFaultWhere (IsRefusedAt most model line old.left) (fault_of_derivation fault line)
derive-refused most model line old new derivation derive.Memory gives f = tt
derive-refused most model line old new derivation derive.NoSuchVariable gives (inl f) = absurd cc
derive-refused most model line old new derivation derive.NoSuchVariable gives (inr f) = (refusals.NoSuchVariable, (derivation, gives.has_line, (new.left, gives.taken, tt), f), refl)
derive-refused most model line old new derivation derive.NoSuchConstraint gives (inl f) = absurd cc
derive-refused most model line old new derivation derive.NoSuchConstraint gives (inr f) = (refusals.NoSuchConstraint, (derivation, gives.has_line, (new.left, gives.taken, tt), f), refl)
derive-refused most model line old new derivation derive.NotDerived gives (inl f) = absurd cc
derive-refused most model line old new derivation derive.NotDerived gives (inr f) = (refusals.NotDerived, (derivation, gives.has_line, (new.left, gives.taken, tt), f), refl)

-- only a failed read is told as one
pub line-read : (kind : FaultKind) (line : ℕ) → fault_of_line kind line ≡ Read → kind ≡ faults.Read
line-read faults.Read line is = refl
line-read faults.Header line is = absurd cc
line-read faults.Spelling line is = absurd cc
line-read faults.Truncated line is = absurd cc
line-read faults.LineTooLong line is = absurd cc
line-read faults.Memory line is = absurd cc
line-read faults.Trailing line is = absurd cc
line-read faults.Failed line is = absurd cc

pub derive-read : (fault : DeriveFault) (line : ℕ) → fault_of_derivation fault line ≡ Read → ⊥
derive-read derive.Memory line is = absurd cc
derive-read derive.NoSuchVariable line is = absurd cc
derive-read derive.NoSuchConstraint line is = absurd cc
derive-read derive.NotDerived line is = absurd cc

-- ---- so many lines further on

pub fault-further : (P Q : Outcome → Type 0) (lines : ℕ) (fault : CheckFault) → ((inner : Outcome) → P inner → Q (further_on lines inner)) → IsFaultWhere P fault → IsFaultWhere Q (fault_further lines fault)
fault-further P Q lines (Refused line refusal) leads f = subst (λ (n : ℕ). Q (refused n refusal)) (omega arith) (leads (refused line refusal) f)
fault-further P Q lines Memory leads f = tt
fault-further P Q lines Read leads f = tt
fault-further P Q lines NotVersionOne leads f = f
fault-further P Q lines WriteOutput leads f = f
fault-further P Q lines WriteCert leads f = f
fault-further P Q lines (File fault) leads f = f

pub further-read : (lines : ℕ) (fault : CheckFault) → fault_further lines fault ≡ Read → fault ≡ Read
further-read lines (Refused line refusal) is = absurd cc
further-read lines Memory is = is
further-read lines Read is = is
further-read lines NotVersionOne is = is
further-read lines WriteOutput is = is
further-read lines WriteCert is = is
further-read lines (File fault) is = is
