-- Steps that stand the test of a plan.
use Rattle.std.proofs.Common.{◌≡◌, ◌⊎◌, ℕ, ◌+◌, ◌<◌, ◌≤◌, List, [], ◌∷◌, ◌++◌, length, refl, sym, subst, ap, ◌∙◌, arith, inl, inr, ◌==◌, not, false}
use Rattle.std.specs.Prelude.{slice_index}
use Rattle.std.proofs.lemmas.List.Elements.{recursion_from_All}
use Rattle.fzn_domain.specs.declared.literal.Lit.{Lit}
use Rattle.fzn_meaning.specs.declared.model.Model.{Model}
use Rattle.fzn_cert.specs.declared.step.Inference.{Inference}
use Rattle.fzn_cert.specs.declared.step.Step.{Step}
use Rattle.fzn_cert.specs.declared.step.Step.TheVariants.{Infer, Resolve, Solution, Delete}
use Rattle.fzn_cert.specs.declared.step.Version.TheVariants.{Two}
use Rattle.fzn_cert.specs.Spelling.{spaced, step_text, IsNumber, IsSpelled, HasLine}
use Rattle.fzn_cert.specs.Reading.{ids_rise}
use Rattle.fzn_cert.specs.Past.{StepsPast}
use Rattle.fzn_cert.specs.Verdict.{AllHaveLines, MayEnd}
use Rattle.fzn_cert.proofs.CallerLemmas.{and_true}
use Rattle.fzn_cert_line.proofs.CallerLemmas.{IdsRise-from_test}
use Rattle.fzn_checker.specs.declared.hold.Held.{Held}
use Rattle.fzn_checker.specs.declared.hold.Taken.{Taken}
use Rattle.fzn_checker.specs.Held.{HasTaken, Stands}
use Rattle.fzn_checker.proofs.CallerLemmas.{all_more}
use Rattle.fzn_core.specs.Kept.{IsTrimOf}
use Rattle.fzn_core.specs.Planned.{renumbered, CitesNumbers}

-- ---- a step with other citations

pub deletion-spelled : (ids : List ℕ) → CitesNumbers (Delete ids) → IsSpelled Two (Delete ids)
deletion-spelled ids may =
    let parts = and_true (not (length ids == 0)) (ids_rise ids) may.1 in
    let some : 0 < length ids = grind (arith, parts.0) in
    (refl, some, recursion_from_All IsNumber ids may.0, IdsRise-from_test ids parts.1)

pub renumbered-spelled : (constraints numbers : List ℕ) (step : Step) → IsSpelled Two step → CitesNumbers (renumbered constraints numbers step) → IsSpelled Two (renumbered constraints numbers step)
renumbered-spelled constraints numbers (Infer it) spelled may = (may, spelled.1, spelled.2)
renumbered-spelled constraints numbers (Resolve clause ids) spelled may = (spelled.0, recursion_from_All IsNumber _ may)
renumbered-spelled constraints numbers (Solution values) spelled may = spelled
renumbered-spelled constraints numbers (Delete ids) spelled may = spelled

-- the line of a step from clauses begins so
begins-so : (clause : List Lit) (ids : List ℕ) → slice_index (step_text (Resolve clause ids)) 0 ≡ 114
unfolding spaced
begins-so [] ids = refl
begins-so (lit ∷ clause) ids = refl

-- and that of a step from a constraint so
infers-so : (it : Inference) → slice_index (step_text (Infer it)) 0 ≡ 105
unfolding spaced
infers-so it = refl

-- and each step of another line stays as it is, and of the second kind each where constraints keep their numbers
pub stays : (constraints numbers : List ℕ) (step : Step) (text : List ℕ) → text ≡ step_text step → (slice_index text 0 == 114) ≡ false → ((slice_index text 0 == 105) ≡ false) ⊎ (constraints ≡ []) → text ≡ step_text (renumbered constraints numbers step)
stays constraints numbers (Infer it) text is test (inl other) =
    let first : slice_index text 0 ≡ 105 = ap (λ (t : List ℕ). slice_index t 0) is ∙ infers-so it in
    let same : (105 == 105) ≡ false = subst (λ (n : ℕ). (n == 105) ≡ false) first other in
    cc
stays constraints numbers (Infer it) text is test (inr none) = subst (λ (cs : List ℕ). text ≡ step_text (renumbered cs numbers (Infer it))) (sym none) is
stays constraints numbers (Resolve clause ids) text is test other =
    let first : slice_index text 0 ≡ 114 = ap (λ (t : List ℕ). slice_index t 0) is ∙ begins-so clause ids in
    let same : (114 == 114) ≡ false = subst (λ (n : ℕ). (n == 114) ≡ false) first test in
    cc
stays constraints numbers (Solution values) text is test other = is
stays constraints numbers (Delete ids) text is test other = is

-- ---- one line more

pub lines-more : (old : List Step) (step : Step) (before : ℕ) → AllHaveLines Two 0 old → length old ≡ before → HasLine Two before step → AllHaveLines Two 0 (old ++ step ∷ [])
lines-more old step before lines count line =
    let at : before ≡ 0 + length old = omega (arith, count) in
    all_more Two 0 old step lines (subst (λ (n : ℕ). HasLine Two n step) at line)

-- ---- all of them

pub trim-of_taken : (model : Model) (steps : List Step) (taken : Taken) (held : Held) → HasTaken model steps taken → AllHaveLines Two 0 steps → taken.history.solutions ≡ held.solutions.items → MayEnd taken.history held.closed
    → length steps ≤ length held.steps → IsTrimOf model held steps
trim-of_taken model steps taken held has_taken lines found may_end fewer = record {
  accepted = has_taken.accepted;
  found = ap (λ (p : StepsPast). p.solutions) (sym has_taken.past) ∙ found;
  may_end = subst (λ (p : StepsPast). MayEnd p held.closed) has_taken.past may_end;
  lines = lines;
  fewer = fewer;
}

pub trim-same : (model : Model) (held : Held) → Stands model held → AllHaveLines Two 0 held.steps → IsTrimOf model held held.steps
trim-same model held stands lines = record { accepted = stands.accepted; found = sym stands.found; may_end = stands.may_end; lines = lines; fewer = omega arith }
