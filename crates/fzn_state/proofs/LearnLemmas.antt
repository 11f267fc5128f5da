-- What a learned clause makes of a search.
use Rattle.std.proofs.Common.{◌≡◌, ◌≢◌, ℕ, zero, suc, ◌+◌, ◌<◌, inl, inr, List, [], ◌∷◌, ◌++◌, length, map, Some, refl, sym, ap, ◌∙◌, subst, arith}
use Rattle.std.proofs.lemmas.List.{length-map}
use Rattle.fzn_domain.specs.declared.literal.Lit.{Lit}
use Rattle.fzn_domain.specs.IntSet.{IntSet}
use Rattle.fzn_domain.specs.Narrow.{IsVariable, IsClauseOver, IsAcceptedFrom, possible_in}
use Rattle.fzn_meaning.specs.declared.model.Model.{Model}
use Rattle.fzn_meaning.specs.Solutions.{declared_sets}
use Rattle.fzn_cert.specs.declared.step.Step.{Step}
use Rattle.fzn_cert.specs.declared.step.Step.TheVariants.{Resolve}
use Rattle.fzn_cert.specs.Accepted.{IsAccepted, past_after}
use Rattle.fzn_trail.specs.declared.trail.Antecedent.{Antecedent}
use Rattle.fzn_trail.specs.declared.trail.ClauseId.{ClauseId}
use Rattle.fzn_trail.specs.declared.trail.Antecedent.TheVariants.{Clause}
use Rattle.fzn_trail.specs.declared.trail.Reason.TheVariants.{Implied}
use Rattle.fzn_trail.specs.Levels.{Levels, level_of, asserted, returned}
use Rattle.fzn_trail.proofs.CallerLemmas.{declared-returned}
use Rattle.fzn_clauses.proofs.HeldLemmas.{IsHeld-newest, clause_of-newest}
use Rattle.fzn_strategy.specs.declared.learn.Learn.{Learn}
use Rattle.fzn_strategy.specs.declared.learn.Learn.TheVariants.{Plain}
use Rattle.fzn_learned.specs.declared.learned.Learned.{Learned}
use Rattle.fzn_learned.specs.Learned.{IsEmptyOrForces, IsLearned, IsPlain}
use Rattle.fzn_learned.specs.Reasoned.{IsKnown, antecedent_clause, IsLoneLiteral, IsReasoned}
use Rattle.fzn_learned.proofs.CallerLemmas.{IsReasoned-grown, IsReasoned-returned, IsReasoned-forced}
use Rattle.fzn_state.specs.State.{Stock, known_in, with_held, StateOf}
use Rattle.fzn_state.specs.Search.{work}
use Rattle.fzn_state.specs.Antecedents.{GiveAntecedents}
use Rattle.fzn_state.specs.Certified.{IsRunCertified, HasEmptyClause}
use Rattle.fzn_state.proofs.NumberLemmas.{Give-chain}
use Rattle.fzn_state.proofs.VariableLemmas.{variable-of}
use Rattle.fzn_state.proofs.TakenLemmas.{forced-possible}
use Rattle.fzn_state.proofs.ChangeLemmas.{slack-stood, slack-returned, Core-resolved, Plain-back, work-learned, work-restarted, State-closed, State-asserted, work-asserted, State-length}

-- a known clause that forces a literal
module _ {model : Model} {learn : Learn} {stock : Stock} {steps : List Step} {trail : Levels} {nodes : ℕ} (h : StateOf model learn stock steps trail nodes) (antecedent : Antecedent) (lit : Lit) (known : IsKnown (known_in stock) antecedent) (over : IsClauseOver (length trail.declared) (antecedent_clause (known_in stock) antecedent)) (forced : IsLoneLiteral trail.sets (antecedent_clause (known_in stock) antecedent) lit) where
  pub forced-state : StateOf model learn stock steps (asserted lit (Implied antecedent) trail) nodes
  forced-state =
      State-asserted h lit antecedent
      (IsReasoned-forced (known_in stock) trail lit antecedent h.core.reasoned (variable-of trail.sets (length trail.declared) (antecedent_clause (known_in stock) antecedent) lit [] over forced.0) (known, forced))

  pub forced-works : (limit : ℕ) → work limit nodes (asserted lit (Implied antecedent) trail) < work limit nodes trail
  forced-works limit =
      let O : ℕ → Type 0 = λ n. IsClauseOver n (antecedent_clause (known_in stock) antecedent) in
      let var = variable-of trail.sets (length trail.sets) (antecedent_clause (known_in stock) antecedent) lit [] (subst O (sym (State-length h)) over) forced.0 in
      work-asserted limit nodes trail lit (Implied antecedent) var (forced-possible trail.sets (antecedent_clause (known_in stock) antecedent) lit forced.0) forced.1

-- a clause that follows from its antecedents is an accepted step
module _ {model : Model} {learn : Learn} {stock : Stock} {steps : List Step} {trail : Levels} {nodes : ℕ} (h : StateOf model learn stock steps trail nodes) (clause : List Lit) (antecedents : List Antecedent) (over : IsClauseOver (length trail.declared) clause) (follows : IsAcceptedFrom trail.declared clause (map (antecedent_clause (known_in stock)) antecedents)) (numbers : List ℕ) (give : GiveAntecedents (past_after model steps) (known_in stock) numbers antecedents) where
  pub derived-accepted : IsAccepted model (past_after model steps) (Resolve clause numbers)
  derived-accepted =
      let e = h.core.declared in
      let sizes : length trail.declared ≡ length model.vars = ap length e ∙ length-map model.vars (λ var. var.domain) in
      let O : ℕ → Type 0 = λ n. IsClauseOver n clause in
      let A : List IntSet → Type 0 = λ d. IsAcceptedFrom d clause (map (antecedent_clause (known_in stock)) antecedents) in
      let chain = Give-chain (past_after model steps) numbers (map (antecedent_clause (known_in stock)) antecedents) give in
      (subst O sizes over, chain.0, subst (IsAcceptedFrom (declared_sets model.vars) clause) (sym chain.1) (subst A e follows))

module _ {model : Model} {learn : Learn} {stock : Stock} {steps : List Step} {trail : Levels} {nodes : ℕ} (h : StateOf model learn stock steps trail nodes) (learned : Learned) (conflict : Antecedent) (is : IsLearned (known_in stock) trail learned) (plain : learn ≡ Plain → IsPlain trail conflict learned) (numbers : List ℕ) (give : GiveAntecedents (past_after model steps) (known_in stock) numbers learned.antecedents) where
  -- the learned clause is an accepted step
  pub learned-accepted : IsAccepted model (past_after model steps) (Resolve learned.clause numbers)
  learned-accepted = derived-accepted h learned.clause learned.antecedents is.over is.accepted numbers give

  -- where it is empty nothing is left
  pub learned-closed : learned.clause ≡ [] → IsRunCertified model learn (steps ++ Resolve learned.clause numbers ∷ []) nodes × HasEmptyClause model (steps ++ Resolve learned.clause numbers ∷ [])
  learned-closed none =
      let A : List Lit → Type 0 = λ c. IsAccepted model (past_after model steps) (Resolve c numbers) in
      let C : List Lit → Type 0 = λ c. IsRunCertified model learn (steps ++ Resolve c numbers ∷ []) nodes × HasEmptyClause model (steps ++ Resolve c numbers ∷ []) in
      subst C (sym none) (State-closed h (λ in_plain. sym none ∙ (plain in_plain).clause) numbers (subst A none learned-accepted))

  -- else it forces a literal at a lower level
  module _ (some : learned.clause ≢ []) where
    pub learned-above : 0 < level_of trail
    learned-above = positive (level_of trail) (λ none. some (is.at_level_0 none))
      where
        positive : (n : ℕ) → (n ≡ 0 → ⊥) → 0 < n
        positive zero k = absurd (k refl)
        positive (suc n) k = omega arith

    pub learned-forces : (lit : Lit) × IsLoneLiteral (returned learned.level trail).sets learned.clause lit
    learned-forces = by (is.forces learned-above)
      where
        by : IsEmptyOrForces (returned learned.level trail).sets learned.clause → (lit : Lit) × IsLoneLiteral (returned learned.level trail).sets learned.clause lit
        by (inl none) = absurd (some none)
        by (inr one) = one

    module _ (lit : Lit) (rest : List Lit) (possible : possible_in (returned learned.level trail).sets learned.clause ≡ lit ∷ rest) (id : ClauseId) (newest : id.0 ≡ length stock.held) (number : ℕ) (next : number ≡ length steps + 1) where
      forced_there : IsLoneLiteral (returned learned.level trail).sets learned.clause lit
      forced_there =
          let there = learned-forces.1 in
          let L : Lit → Type 0 = λ l. IsLoneLiteral (returned learned.level trail).sets learned.clause l in
          subst L (sym (first_same lit learned-forces.0 rest (sym possible ∙ there.0))) there
        where
          first_same : (a b : Lit) (more : List Lit) → a ∷ more ≡ b ∷ [] → a ≡ b
          first_same a b more e = cc

      reasoned_there : IsReasoned (known_in (with_held learned.clause number stock)) (asserted lit (Implied (Clause id)) (returned learned.level trail))
      reasoned_there =
          let below = is.below learned-above in
          let more = known_in (with_held learned.clause number stock) in
          let grown = IsReasoned-grown (known_in stock) (Some learned.clause ∷ []) trail h.core.reasoned in
          let returned_too = IsReasoned-returned more trail learned.level grown (omega arith) in
          let there = returned learned.level trail in
          let F : List Lit → Type 0 = λ c. IsLoneLiteral there.sets c lit in
          let forced : IsLoneLiteral there.sets (antecedent_clause more (Clause id)) lit = subst F (sym (clause_of-newest stock.held learned.clause id newest)) forced_there in
          let Var : List IntSet → Type 0 = λ d. IsVariable (length d) lit.var in
          let var = variable-of there.sets (length trail.declared) learned.clause lit [] is.over forced_there.0 in
          let known = IsHeld-newest stock.held learned.clause id newest in
          IsReasoned-forced more there lit (Clause id) returned_too (subst Var (sym (declared-returned learned.level trail)) var) (known, forced)

      pub learned-state : StateOf model learn (with_held learned.clause number stock) (steps ++ Resolve learned.clause numbers ∷ []) (asserted lit (Implied (Clause id)) (returned learned.level trail)) nodes
      learned-state =
          let below = is.below learned-above in
          record {
            core = Core-resolved h.core learned.clause numbers number next learned-accepted (asserted lit (Implied (Clause id)) (returned learned.level trail)) (declared-returned learned.level trail) (slack-returned h.core learned.level (omega arith) lit) reasoned_there;
            plain = λ in_plain.
                let is_plain = plain in_plain in
                Plain-back h in_plain learned.clause numbers learned.level (sym (is_plain.back learned-above).one_less) is_plain.clause lit id forced_there.0;
          }

      pub learned-works : (limit : ℕ) → work limit nodes (asserted lit (Implied (Clause id)) (returned learned.level trail)) < work limit nodes trail
      learned-works limit = work-learned h.core limit learned.level (is.below learned-above) lit id

    -- or the search restarts, and propagation looks at it
    module _ (number : ℕ) (next : number ≡ length steps + 1) (first : learn ≡ Plain → ⊥) where
      pub restarted-state : StateOf model learn (with_held learned.clause number stock) (steps ++ Resolve learned.clause numbers ∷ []) (returned 0 trail) nodes
      restarted-state =
          let more = known_in (with_held learned.clause number stock) in
          let grown = IsReasoned-grown (known_in stock) (Some learned.clause ∷ []) trail h.core.reasoned in
          record {
            core = Core-resolved h.core learned.clause numbers number next learned-accepted (returned 0 trail) (declared-returned 0 trail) (slack-stood h.core 0 (omega arith)) (IsReasoned-returned more trail 0 grown (omega arith));
            plain = λ in_plain. absurd (first in_plain);
          }

      pub restarted-works : (limit : ℕ) → work limit nodes (returned 0 trail) < work limit nodes trail
      restarted-works limit = work-restarted h.core limit learned-above
