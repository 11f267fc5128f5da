-- What a learned clause makes of a search.
use Rattle.std.proofs.Common.{◌≡◌, ℕ, ◌^◌, ◌<◌, ◌⊎◌, List, [], ◌∷◌, ◌++◌, length, map, sym, ap, ◌∙◌, subst, arith}
use Rattle.std.proofs.lemmas.List.{length-map}
use Rattle.fzn_meaning.specs.declared.model.Model.{Model}
use Rattle.fzn_meaning.specs.WellFormed.{IsWellFormed}
use Rattle.fzn_cert.specs.declared.step.Step.{Step}
use Rattle.fzn_cert.specs.declared.step.Step.TheVariants.{Resolve}
use Rattle.fzn_cert.specs.declared.step.Version.TheVariants.{Two}
use Rattle.fzn_cert.specs.Past.{StepsPast}
use Rattle.fzn_cert.specs.Accepted.{IsAccepted, AllAccepted, past_after}
use Rattle.fzn_cert.specs.Spelling.{IsSpelled}
use Rattle.fzn_sets.specs.Sets.{Narrowed}
use Rattle.fzn_search.specs.Fixed.{Searching}
use Rattle.fzn_trail.specs.declared.trail.Antecedent.{Antecedent}
use Rattle.fzn_trail.specs.Levels.{Levels}
use Rattle.fzn_strategy.specs.declared.learn.Learn.TheVariants.{Plain}
use Rattle.fzn_learned.specs.declared.learned.Learned.{Learned}
use Rattle.fzn_learned.specs.Learned.{IsDerived, IsLearned, IsPlain}
use Rattle.fzn_learned.specs.Reasoned.{Known, antecedent_clause}
use Rattle.fzn_reduction.specs.declared.notes.Notes.{Notes}
use Rattle.fzn_state.specs.declared.solver.Solver.{Solver}
use Rattle.fzn_state.specs.Certified.{count, IsRunCertified, HasEmptyClause}
use Rattle.fzn_state.specs.Changes.{LeavesNothing, Holds}
use Rattle.fzn_state.specs.Search.{stock_of, Tally}
use Rattle.fzn_state.specs.Antecedents.{GiveAntecedents, AreInferencesWritten, Derives, Learns}
use Rattle.fzn_state.specs.State.{known_in}
use Rattle.fzn_state.proofs.AcceptedLemmas.{past_after-push, logged-accepted, length-past_of}
use Rattle.fzn_state.proofs.LearnLemmas.{derived-accepted, learned-closed}
use Rattle.fzn_state.proofs.SpelledLemmas.{resolve-spelled}
use Rattle.fzn_state.proofs.SolverLemmas.{holds-tally}

-- inferences are written whatever the sets on which learned clauses are tested, and whatever is noted
pub written-beside : {model : Model} {first : List Step} (old : Solver) {new : Solver} (scratch : Narrowed) (notes : Notes) {steps : List Step} → AreInferencesWritten model first (record old { scratch = scratch; notes = notes }) new steps → AreInferencesWritten model first old new steps
written-beside old scratch notes w = record { state = w.state; kept = w.kept; known = w.known; trail = w.trail; tally = w.tally }

-- what follows from the antecedents still does once they are written
pub derives : {model : Model} {first : List Step} {old new : Solver} {steps : List Step} {learned : Learned} → AreInferencesWritten model first old new steps → IsDerived (known_in (stock_of old)) old.trail.declared learned → (numbers : List ℕ) → GiveAntecedents (past_after model steps) (known_in (stock_of old)) numbers learned.antecedents → Derives model new steps learned numbers
derives {model = model} {old = old} {new = new} {steps = steps} {learned = learned} written is numbers give =
    let T : Levels → Type 0 = λ t. IsDerived (known_in (stock_of old)) t.declared learned in
    let K : Known → Type 0 = λ k. IsDerived k new.trail.declared learned in
    let G : Known → Type 0 = λ k. GiveAntecedents (past_after model steps) k numbers learned.antecedents in
    record { state = written.state; derived = subst K (sym written.known) (subst T (sym written.trail) is); give = subst G (sym written.known) give }

pub learns : {model : Model} {first : List Step} {old new : Solver} {steps : List Step} {learned : Learned} → AreInferencesWritten model first old new steps → IsLearned (known_in (stock_of old)) old.trail learned → (conflict : Antecedent) → (old.learn ≡ Plain → IsPlain old.trail conflict learned) → (numbers : List ℕ) → GiveAntecedents (past_after model steps) (known_in (stock_of old)) numbers learned.antecedents → Learns model new steps conflict learned numbers
learns {old = old} {new = new} {learned = learned} written is conflict plain numbers give =
    let T : Levels → Type 0 = λ t. IsLearned (known_in (stock_of old)) t learned in
    let K : Known → Type 0 = λ k. IsLearned k new.trail learned in
    let P : Levels → Type 0 = λ t. IsPlain t conflict learned in
    record {
      derives = derives written (record { accepted = is.accepted; all_known = is.all_known; over = is.over; in_limits = is.in_limits }) numbers give;
      is = subst K (sym written.known) (subst T (sym written.trail) is);
      plain = λ in_plain. subst P (sym written.trail) (plain (ap (λ (t : Tally). t.learn) (sym written.tally) ∙ in_plain));
    }

-- a clause that follows is an accepted step, which has a line
module _ {model : Model} {mid : Solver} {before : List Step} {learned : Learned} {numbers : List ℕ} (h : Derives model mid before learned numbers) where
  pub derives-accepted : IsAccepted model (past_after model before) (Resolve learned.clause numbers)
  derives-accepted = derived-accepted h.state.state learned.clause learned.antecedents h.derived.over h.derived.accepted numbers h.give

  spelled : IsWellFormed model → IsSpelled Two (Resolve learned.clause numbers)
  spelled good =
      let few = good.few_vars in
      let sizes : length mid.trail.declared ≡ length model.vars = ap length h.state.state.core.declared ∙ length-map model.vars (λ var. var.domain) in
      let each = length-past_of model before in
      let room = h.state.few_steps in
      resolve-spelled (length mid.trail.declared) (past_after model before) learned.clause numbers (map (antecedent_clause (known_in (stock_of mid))) learned.antecedents) (omega arith) (few_by (length (past_after model before).clauses) (length before) each room) h.derived.over h.derived.in_limits h.give
    where
      few_by : (a b : ℕ) → a ≡ b → b < 10 ^ 18 → a < 10 ^ 18
      few_by a b e k = omega arith

  module _ {step : Step} (is : step ≡ Resolve learned.clause numbers) where
    pub derives-spelled : IsWellFormed model → IsSpelled Two step
    derives-spelled good = subst (IsSpelled Two) (sym is) (spelled good)

    pub derives-logged : (now : List Step) → (now ≡ before) ⊎ (now ≡ before ++ step ∷ []) → AllAccepted model now
    derives-logged now log = logged-accepted model before now step h.state.state.core.accepted (subst (IsAccepted model (past_after model before)) (sym is) derives-accepted) log

    pub derives-now : {now : List Step} → now ≡ before ++ step ∷ [] → now ≡ before ++ Resolve learned.clause numbers ∷ []
    derives-now now_is = now_is ∙ ap (λ (s : Step). before ++ s ∷ []) is

module _ {model : Model} {mid : Solver} {before : List Step} {conflict : Antecedent} {learned : Learned} {numbers : List ℕ} (h : Learns model mid before conflict learned numbers) {now : List Step} (now_is : now ≡ before ++ Resolve learned.clause numbers ∷ []) where
  pub learn-closed : learned.clause ≡ [] → (new : Solver) → Holds learned.clause mid new → LeavesNothing model mid new now
  learn-closed none new holds =
      let end = learned-closed h.state.state learned conflict h.is h.plain numbers h.give none in
      let C : List Step → Type 0 = λ s. IsRunCertified model mid.learn s mid.search.nodes in
      let N : ℕ → Type 0 = λ n. IsRunCertified model mid.learn now n in
      let R : List Step → Type 0 = λ s. HasEmptyClause model s in
      let nodes : new.search.nodes ≡ mid.search.nodes = ap (λ (s : Searching). s.nodes) holds.search in
      record {
        certified = subst N (sym nodes) (subst C (sym now_is) end.0);
        refuted = subst R (sym now_is) end.1;
        tally = holds-tally holds;
        found_is = holds.found ∙ h.state.found_is ∙ sym (ap (count model) now_is ∙ ap (λ (p : StepsPast). length p.solutions) (past_after-push model before (Resolve learned.clause numbers)));
      }
