-- A step and an ending carry a verdict on.
use Rattle.std.proofs.Common.{◌≡◌, ℕ, ◌+◌, Bool, true, false, List, [], ◌∷◌, ◌++◌, Option, Some, None, IsSome, IfSome, unwrap_or, refl, sym, ap, ap₂, subst, ◌∙◌, inl, inr, append_assoc}
use Rattle.std.specs.Prelude.{MatchOption}
use Rattle.std.specs.List.{AllByRecursion}
use Rattle.std.specs.Io.KnownBytes.{Consumes}
use Rattle.std.proofs.KnownBytes.{Consumes-trans}
use Rattle.std.proofs.lemmas.Bool.{true≢false, false≢true}
use Rattle.std.proofs.lemmas.List.Elements.{All-from_recursion}
use Rattle.fzn_domain.specs.declared.literal.Lit.{Lit}
use Rattle.fzn_meaning.specs.declared.model.Model.{Model}
use Rattle.fzn_cert.specs.declared.header.Header.{Header}
use Rattle.fzn_cert.specs.declared.refusal.Refusal.{Refusal}
use Rattle.fzn_cert.specs.declared.refusal.Refusal.TheVariants as refusals
use Rattle.fzn_cert.specs.declared.step.Step.{Step}
use Rattle.fzn_cert.specs.declared.step.Step.TheVariants.{Infer, Resolve, Solution, Delete}
use Rattle.fzn_cert.specs.declared.step.Version.{Version}
use Rattle.fzn_cert.specs.Spelling.{step_line, end_line, version_text, counts_text, header_text, header_lines, IsSized, IsHeader, IsLiteral, IsSpelled, HasLine}
use Rattle.fzn_cert.specs.Stream.{After}
use Rattle.fzn_cert.specs.Past.{StepsPast, no_past}
use Rattle.fzn_cert.specs.Accepted.{HasFault, after_step}
use Rattle.fzn_cert_reader.specs.Reader.{Progress, lines_read, GivesStep, Ends}
use Rattle.fzn_cert.specs.Verdict.{Outcome, accepted, refused, lines_of, MayEnd, EndsIn, VerdictFrom, header_of, VerdictOn}
use Rattle.fzn_cert.proofs.VerdictLaws.{verdict-ends, verdict-step}
use Rattle.fzn_sets.specs.Link.{IsBound}
use Rattle.fzn_checker.specs.Judged.{HasLitsInRange}
use Rattle.fzn_checker.specs.Checked.{HasCounts, ComesTo, IsMidway, Offers, Accepts}
use Rattle.fzn_checker.specs.Faults.{may_end}

-- ---- bytes

pub Consumes-split : (a c : Option (List ℕ)) (x y : List ℕ) → Consumes a c (x ++ y) → (b : Option (List ℕ)) × Consumes a b x × Consumes b c y
Consumes-split None c x y h = (None, tt, tt)
Consumes-split (Some p) None x y h = absurd h
Consumes-split (Some p) (Some q) x y h = (Some (y ++ q), h ∙ append_assoc x y q, refl)

verdict-kept : (model : Model) (version : Version) (past : StepsPast) (count : ℕ) (left rest : Option (List ℕ)) (outcome : Outcome) → Consumes left rest [] → VerdictFrom model version past count rest outcome → VerdictFrom model version past count left outcome
verdict-kept model version past count left rest outcome nothing (later, lines, all, (last, taken, ends)) =
    (later, lines, all, (last, Consumes-trans left rest last [] (lines_of later) nothing taken, ends))

-- ---- the first two lines

pub header_is : (model : Model) (header : Header) → HasCounts model header → header_lines header ≡ header_lines (header_of model header.version)
header_is model header h = ap₂ (λ n m. header_text header.version n m) h.0 h.1

some_is : {A : Type 0} (a b : A) → Some a ≡ Some b → a ≡ b
some_is a b h = ap (λ o. unwrap_or o b) h

pub none_is : {A : Type 0} (a : A) → None ≡ Some a → ⊥
none_is a h = cc

-- after the first two lines, where this call read them or not
pub standing-from : (model : Model) (past : StepsPast) (left : Option (List ℕ)) (old new : Option Header) (steps : ℕ) (header : Header) (outcome : Outcome) → new ≡ Some header → HasCounts model header → (IsSome old → new ≡ old) → (old ≡ None → (past ≡ no_past) × (steps ≡ 0)) → After left (lines_read old new) (λ rest. VerdictFrom model header.version past steps rest outcome) → MatchOption old (VerdictOn model left outcome) (λ h. VerdictFrom model h.version past steps left outcome)
standing-from model past left None None steps header outcome told counts same fresh (rest, taken, verdict) = absurd (none_is header told)
standing-from model past left None (Some found) steps header outcome told counts same fresh (rest, taken, verdict) =
    let found_is : found ≡ header = some_is found header told in
    let nothing = fresh refl in
    inr (
      header.version,
      (subst IsSized counts.0 counts.2.0, subst IsSized counts.1 counts.2.1),
      (
        rest,
        subst (Consumes left rest) (ap header_lines found_is ∙ header_is model header counts) taken,
        subst (λ p. VerdictFrom model header.version p 0 rest outcome) nothing.0 (subst (λ n. VerdictFrom model header.version past n rest outcome) nothing.1 verdict),
      ),
    )
standing-from model past left (Some before) None steps header outcome told counts same fresh (rest, taken, verdict) = absurd (none_is header told)
standing-from model past left (Some before) (Some found) steps header outcome told counts same fresh (rest, taken, verdict) =
    let before_is : header ≡ before = sym (some_is found header told) ∙ some_is found before (same refl) in
    subst (λ (h : Header). VerdictFrom model h.version past steps left outcome) before_is (verdict-kept model header.version past steps left rest outcome taken verdict)

-- they tell other counts
pub other-counts : (model : Model) (past : StepsPast) (left : Option (List ℕ)) (old new : Option Header) (steps : ℕ) (header : Header) → new ≡ Some header → IsHeader header → (HasCounts model header → ⊥) → IfSome old (HasCounts model) → (IsSome old → new ≡ old) → After left (lines_read old new) (λ _. Unit {0}) → MatchOption old (VerdictOn model left (refused 2 refusals.Counts)) (λ h. VerdictFrom model h.version past steps left (refused 2 refusals.Counts))
other-counts model past left None None steps header told sized other counts same (rest, taken, _) = absurd (none_is header told)
other-counts model past left None (Some found) steps header told sized other counts same (rest, taken, _) =
    let text : header_lines found ≡ (version_text header.version ++ 10 ∷ []) ++ (counts_text header.variables header.constraints ++ 10 ∷ []) =
    ap header_lines (some_is found header told) ∙ append_assoc (version_text header.version ++ 10 ∷ []) (counts_text header.variables header.constraints) (10 ∷ []) in
    let split = Consumes-split left rest (version_text header.version ++ 10 ∷ []) (counts_text header.variables header.constraints ++ 10 ∷ []) (subst (Consumes left rest) text taken) in
    inl (inr (refl, (header.version, (split.0, split.1, (header.variables, header.constraints, sized.0, sized.1, (rest, split.2, tt), λ same_counts. other (same_counts.0, same_counts.1, sized))))))
other-counts model past left (Some before) None steps header told sized other counts same (rest, taken, _) = absurd (none_is header told)
other-counts model past left (Some before) (Some found) steps header told sized other counts same (rest, taken, _) =
    absurd (other (subst (HasCounts model) (sym (some_is found before (same refl)) ∙ some_is found header told) counts))

-- ---- a step

in_bounds : (clause : List Lit) → AllByRecursion IsLiteral clause → AllByRecursion IsBound clause
in_bounds [] h = tt
in_bounds (lit ∷ rest) h = (h.0.1, in_bounds rest h.1)

pub bounds-spelled : (version : Version) (step : Step) → IsSpelled version step → HasLitsInRange step
bounds-spelled version (Infer it) h = All-from_recursion IsBound it.clause (in_bounds it.clause h.2)
bounds-spelled version (Resolve clause ids) h = All-from_recursion IsBound clause (in_bounds clause h.0)
bounds-spelled version (Solution values) h = tt
bounds-spelled version (Delete ids) h = tt

-- its line, and its fault
refused-step : (model : Model) (version : Version) (past : StepsPast) (count : ℕ) (left next : Option (List ℕ)) (step : Step) (refusal : Refusal) → HasLine version count step → Consumes left next (step_line step) → HasFault model past step refusal → EndsIn model version past count left (refused (count + 3) refusal)
refused-step model version past count left next (Infer it) refusals.NoSuchVariable line taken f = (refl, (Infer it, line, (next, taken, tt), f))
refused-step model version past count left next (Infer it) refusals.NoSuchConstraint line taken f = (refl, (Infer it, line, (next, taken, tt), f))
refused-step model version past count left next (Infer it) refusals.RuleFails line taken f = (refl, (Infer it, line, (next, taken, tt), f))
refused-step model version past count left next (Infer it) _ line taken f = absurd f
refused-step model version past count left next (Resolve clause ids) refusals.NoSuchVariable line taken f = (refl, (Resolve clause ids, line, (next, taken, tt), f))
refused-step model version past count left next (Resolve clause ids) refusals.NoSuchClause line taken f = (refl, (Resolve clause ids, line, (next, taken, tt), f))
refused-step model version past count left next (Resolve clause ids) refusals.NotUnit line taken f = (refl, (Resolve clause ids, line, (next, taken, tt), f))
refused-step model version past count left next (Resolve clause ids) refusals.NoConflict line taken f = (refl, (Resolve clause ids, line, (next, taken, tt), f))
refused-step model version past count left next (Resolve clause ids) _ line taken f = absurd f
refused-step model version past count left next (Solution values) refusals.NotASolution line taken f = (refl, (Solution values, line, (next, taken, tt), f))
refused-step model version past count left next (Solution values) refusals.CutByEarlier line taken f = (refl, (Solution values, line, (next, taken, tt), f))
refused-step model version past count left next (Solution values) _ line taken f = absurd f
refused-step model version past count left next (Delete ids) refusals.NoSuchClause line taken f = (refl, (Delete ids, line, (next, taken, tt), f))
refused-step model version past count left next (Delete ids) _ line taken f = absurd f

pub standing-told : (model : Model) (past : StepsPast) (now : Progress) (header : Header) (steps : ℕ) (outcome : Outcome) → now.header ≡ Some header → now.steps ≡ steps → ComesTo model past now outcome → VerdictFrom model header.version past steps now.left outcome
standing-told model past now header steps outcome told counted h =
    subst (λ n. VerdictFrom model header.version past n now.left outcome) counted
    (subst (λ o. MatchOption o (VerdictOn model now.left outcome) (λ (k : Header). VerdictFrom model k.version past now.steps now.left outcome)) told h)

-- the reader gives a step
pub gives-offers : (model : Model) (past : StepsPast) (old new : Progress) (step : Step) → IsMidway model past old → (IsSome old.header → new.header ≡ old.header) → IfSome new.header (HasCounts model) → GivesStep old new step → Offers model past old new step
gives-offers model past old new step midway same counts gives =
    let header = gives.header in
    let fits : HasCounts model header = subst (λ o. IfSome o (HasCounts model)) gives.told counts in
    let split = Consumes-split old.left new.left (lines_read old.header new.header) (step_line step) gives.taken in
    record {
      bounds = bounds-spelled header.version step gives.has_line.0;
      counted = gives.counted;
      below = gives.has_line.1.1;
      midway = record {
        reading = gives.goes_on;
        counts = counts;
        fresh = λ none. absurd (none_is header (sym none ∙ gives.told));
      };
      goes_on = λ is_accepted outcome h.
          standing-from model past old.left old.header new.header old.steps header outcome gives.told fits same midway.fresh (
            split.0,
            split.1,
            verdict-step model header.version past old.steps split.0 new.left step outcome gives.has_line is_accepted split.2
                (standing-told model (after_step model past step) new header (old.steps + 1) outcome gives.told gives.counted h),
          );
      refuses = λ refusal f.
          standing-from model past old.left old.header new.header old.steps header (refused (old.steps + 3) refusal) gives.told fits same midway.fresh (
            split.0,
            split.1,
            verdict-ends model header.version past old.steps split.0 (refused (old.steps + 3) refusal)
                (refused-step model header.version past old.steps split.0 new.left step refusal gives.has_line split.2 f),
          );
    }

-- ---- the ending

may : (closed is_refuted : Bool) → may_end (Some closed) is_refuted ≡ true → closed ≡ true → is_refuted ≡ true
may true is_refuted h e = h
may false is_refuted h e = absurd (false≢true e)

pub ends-accepted : (model : Model) (past : StepsPast) (old new : Progress) → IsMidway model past old → (IsSome old.header → new.header ≡ old.header) → IfSome new.header (HasCounts model) → Ends old new → may_end new.closing past.refuted ≡ true → Accepts model past old new
ends-accepted model past old new midway same counts ends may_be =
    let header = ends.header in
    let fits : HasCounts model header = subst (λ o. IfSome o (HasCounts model)) ends.told counts in
    let split = Consumes-split old.left new.left (lines_read old.header new.header) (end_line ends.closed) ends.taken in
    let right : MayEnd past ends.closed = may ends.closed past.refuted (subst (λ o. may_end o past.refuted ≡ true) ends.closing may_be) in (
      ends.closed,
      ends.closing,
      right,
      standing-from model past old.left old.header new.header old.steps header (accepted past.solutions ends.closed) ends.told fits same midway.fresh
          (split.0, split.1, verdict-ends model header.version past old.steps split.0 (accepted past.solutions ends.closed) ((new.left, split.2, ends.at_end), right, refl)),
    )

may_not : (closed is_refuted : Bool) → may_end (Some closed) is_refuted ≡ false → (closed ≡ true) × (is_refuted ≡ false)
may_not true is_refuted h = (refl, h)
may_not false is_refuted h = absurd (true≢false h)

pub ends-not_closed : (model : Model) (past : StepsPast) (old new : Progress) → IsMidway model past old → (IsSome old.header → new.header ≡ old.header) → IfSome new.header (HasCounts model) → Ends old new → may_end new.closing past.refuted ≡ false → ComesTo model past old (refused (old.steps + 3) refusals.NotClosed)
ends-not_closed model past old new midway same counts ends may_not_be =
    let header = ends.header in
    let fits : HasCounts model header = subst (λ o. IfSome o (HasCounts model)) ends.told counts in
    let parts = may_not ends.closed past.refuted (subst (λ o. may_end o past.refuted ≡ false) ends.closing may_not_be) in
    let split = Consumes-split old.left new.left (lines_read old.header new.header) (end_line true) (subst (λ b. Consumes old.left new.left (lines_read old.header new.header ++ end_line b)) parts.0 ends.taken) in
    standing-from model past old.left old.header new.header old.steps header (refused (old.steps + 3) refusals.NotClosed) ends.told fits same midway.fresh
    (split.0, split.1, verdict-ends model header.version past old.steps split.0 (refused (old.steps + 3) refusals.NotClosed) (refl, ((new.left, split.2, tt), parts.1)))
