-- What writing inferences makes of a search.
use Rattle.std.proofs.Common.{◌≡◌, ℕ, ◌+◌, ◌^◌, ◌<◌, ◌⊎◌, List, [], ◌∷◌, ◌++◌, length, map, take, get_or, set, Some, Option, ap₂, refl, sym, ap, ◌∙◌, subst}
use Rattle.std.proofs.lemmas.List.{map-append, take_more}
use Rattle.fzn_domain.specs.declared.literal.Lit.{Lit}
use Rattle.fzn_meaning.specs.declared.model.Model.{Model}
use Rattle.fzn_cert.specs.declared.step.Step.{Step}
use Rattle.fzn_cert.specs.declared.step.Step.TheVariants.{Infer}
use Rattle.fzn_cert.specs.Past.{clause_held}
use Rattle.fzn_cert.specs.Accepted.{AllAccepted, past_after}
use Rattle.fzn_propagator.specs.declared.inferences.Inferred.{Inferred}
use Rattle.fzn_propagator.specs.Inferences.{inference_at, with_number}
use Rattle.fzn_trail.specs.declared.trail.Antecedent.{Antecedent}
use Rattle.fzn_learned.specs.Reasoned.{Known, antecedent_clause, opens}
use Rattle.fzn_reduction.specs.declared.notes.Notes.{Notes}
use Rattle.fzn_state.specs.declared.solver.Solver.{Solver}
use Rattle.fzn_state.specs.State.{Give, with_step, PlainOf, StateOf}
use Rattle.fzn_state.specs.Search.{IsAfter, stock_of}
use Rattle.fzn_state.specs.Antecedents.{GiveAntecedents, StillGive, AreInferencesWritten}
use Rattle.fzn_state.proofs.AcceptedLemmas.{logged-accepted}
use Rattle.fzn_state.proofs.NumberLemmas.{Give-push}
use Rattle.fzn_state.proofs.SolverLemmas.{order-step}
use Rattle.fzn_state.proofs.WriteLemmas.{infer-accepted, known-written, written-there, still-gives, Core-given, Core-written, same_resolved}

pub written-through : {model : Model} {old mid new : Solver} {first before now : List Step} → AreInferencesWritten model first old mid before → AreInferencesWritten model before mid new now → AreInferencesWritten model first old new now
written-through a b = record { state = b.state; kept = λ n clause gives. b.kept n clause (a.kept n clause gives); known = b.known ∙ a.known; trail = b.trail ∙ a.trail; tally = b.tally ∙ a.tally }

-- numbers of steps that were written before
Give-still : (model : Model) (before now : List Step) (numbers : List ℕ) (clauses : List (List Lit)) → StillGive model before now → Give (past_after model before) numbers clauses → Give (past_after model now) numbers clauses
Give-still model before now [] [] still h = refl
Give-still model before now [] (clause ∷ clauses) still h = cc
Give-still model before now (n ∷ numbers) [] still h = cc
Give-still model before now (n ∷ numbers) (clause ∷ clauses) still h =
    let one : clause_held (past_after model before) n ≡ Some clause = cc in
    let rest : Give (past_after model before) numbers clauses = cc in
    ap₂ (λ (o : Option (List Lit)) (os : List (Option (List Lit))). o ∷ os) (still n clause one) (Give-still model before now numbers clauses still rest)

-- one more antecedent has its number
pub GiveAntecedents-next : (model : Model) (before now : List Step) (known mid : Known) (numbers : List ℕ) (antecedents : List Antecedent) (i : ℕ) (d : Antecedent) (number : ℕ) → StillGive model before now → mid ≡ known → GiveAntecedents (past_after model before) known numbers (take i antecedents) → i < length antecedents → clause_held (past_after model now) number ≡ Some (antecedent_clause mid (get_or antecedents i d)) → GiveAntecedents (past_after model now) known (numbers ++ number ∷ []) (take (i + 1) antecedents)
GiveAntecedents-next model before now known mid numbers antecedents i d number still same give within gives =
    let C : List (List Lit) → Type 0 = λ cs. Give (past_after model now) (numbers ++ number ∷ []) cs in
    let antecedent = get_or antecedents i d in
    let clauses : map (antecedent_clause known) (take (i + 1) antecedents) ≡ map (antecedent_clause known) (take i antecedents) ++ antecedent_clause known antecedent ∷ [] =
    ap (map (antecedent_clause known)) (take_more antecedents i d within) ∙ map-append (antecedent_clause known) (take i antecedents) (antecedent ∷ []) in
    let one : clause_held (past_after model now) number ≡ Some (antecedent_clause known antecedent) = gives ∙ ap (λ (k : Known). Some (antecedent_clause k antecedent)) same in
    subst C (sym clauses) (Give-push (past_after model now) numbers (map (antecedent_clause known) (take i antecedents)) number (antecedent_clause known antecedent) (Give-still model before now numbers (map (antecedent_clause known) (take i antecedents)) still give) one)

module _ {model : Model} {old : Solver} {before : List Step} (h : IsAfter model old before) (place : ℕ) (stacked : place < length old.inferences) where
  abbrev pub it : Inferred
  it = inference_at old.inferences place

  abbrev pub step : Step
  step = Infer it.inference

  pub infer-logged : (now : List Step) → (now ≡ before) ⊎ (now ≡ before ++ step ∷ []) → AllAccepted model now
  infer-logged now log = logged-accepted model before now step h.state.core.accepted (infer-accepted h.state.core place stacked) log

  -- a step that was written before gives it
  pub infer-given : (number : ℕ) → clause_held (past_after model before) number ≡ Some it.inference.clause → (notes : Notes) → AreInferencesWritten model before old (record old { inferences = set old.inferences place (with_number number it); notes = notes }) before
  infer-given number gives notes = record {
    state = record {
      state = record { core = Core-given h.state.core place stacked number gives; plain = h.state.plain };
      watching = h.watching;
      order = h.order;
    };
    kept = λ n clause given. given;
    known = known-written h.state.core place stacked number;
    trail = refl;
    tally = refl;
  }

  module _ {now : List Step} (now_is : now ≡ before ++ step ∷ []) (few : length now < 10 ^ 18) where
    pub infer-number : (number : ℕ) → number ≡ old.steps + 1 → clause_held (past_after model now) number ≡ Some it.inference.clause
    infer-number number e =
        let C : List Step → Type 0 = λ s. clause_held (past_after model s) number ≡ Some it.inference.clause in
        subst C (sym now_is) (written-there h.state.core place stacked number (e ∙ ap (λ (n : ℕ). n + 1) h.steps_are))

    pub infer-written : (number : ℕ) → number ≡ old.steps + 1 → (notes : Notes) (new : Solver) → new ≡ record old { inferences = set old.inferences place (with_number number it); written = old.written ++ record { clause = it.inference.clause; number = number } ∷ []; alive = old.alive ++ number ∷ []; notes = notes; steps = number } → AreInferencesWritten model before old new now
    infer-written number e notes new new_is =
        let P : Solver → Type 0 = λ s. AreInferencesWritten model before old s now in
        let core = Core-written h.state.core place stacked number (e ∙ ap (λ (n : ℕ). n + 1) h.steps_are) in
        let R : List (List Lit) → Type 0 = λ cs. PlainOf old.trail.declared old.trail.sets (opens old.trail.declared old.trail.entries) cs old.search.nodes in
        let S : List Step → Type 0 = λ s. StateOf model old.learn (with_step place number (stock_of old)) s old.trail old.search.nodes in
        let G : List Step → Type 0 = λ s. StillGive model before s in
        let state : S (before ++ step ∷ []) = record { core = core; plain = λ plain. subst R (sym (same_resolved h.state.core place stacked)) (h.state.plain plain) } in
        subst P (sym new_is) (record {
          state = record {
            state = subst S (sym now_is) state;
            watching = h.watching;
            order = order-step h.order step now_is few refl number e;
          };
          kept = subst G (sym now_is) (λ n clause gives. still-gives h.state.core place stacked n clause gives);
          known = known-written h.state.core place stacked number;
          trail = refl;
          tally = refl;
        })
