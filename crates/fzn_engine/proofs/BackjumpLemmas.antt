-- Where a search jumps back to, or restarts, with the clause that it learned.
use Rattle.std.proofs.Common.{◌≡◌, ◌≢◌, ℕ, ◌+◌, ◌^◌, ◌<◌, Bool, true, false, List, [], ◌∷◌, ◌++◌, length, All, refl, sym, ap, ◌∙◌, subst, arith}
use Rattle.std.proofs.lemmas.List.Elements.{All-push}
use Rattle.fzn_domain.specs.declared.literal.Lit.{Lit}
use Rattle.fzn_domain.specs.IntSet.{IntSet}
use Rattle.fzn_domain.specs.Narrow.{IsClauseOver, possible_in}
use Rattle.fzn_meaning.specs.declared.model.Model.{Model}
use Rattle.fzn_cert.specs.declared.step.Step.{Step}
use Rattle.fzn_cert.specs.declared.step.Step.TheVariants.{Resolve}
use Rattle.fzn_trail.specs.declared.trail.Antecedent.{Antecedent}
use Rattle.fzn_trail.specs.declared.trail.ClauseId.{ClauseId}
use Rattle.fzn_trail.specs.declared.trail.Entry.{Entry}
use Rattle.fzn_trail.specs.declared.trail.Antecedent.TheVariants.{Clause}
use Rattle.fzn_trail.specs.declared.trail.Reason.TheVariants.{Implied}
use Rattle.fzn_trail.specs.Levels.{Levels, level_of, asserted, returned}
use Rattle.fzn_trail.proofs.CallerLemmas.{declared-returned}
use Rattle.fzn_clauses.specs.declared.clauses.Clauses.{Clauses}
use Rattle.fzn_clauses.specs.Watching.{held_by, IsWatching}
use Rattle.fzn_clauses.proofs.HeldLemmas.{IsHeld-newest, clause_of-newest}
use Rattle.fzn_clauses.proofs.WatchingLemmas.{IsWatching-asserted, IsWatching-returned}
use Rattle.fzn_strategy.specs.declared.learn.Learn.TheVariants.{Plain}
use Rattle.fzn_learned.specs.declared.learned.Learned.{Learned}
use Rattle.fzn_learned.specs.Reasoned.{IsKnown, IsBelow, antecedent_clause}
use Rattle.fzn_learned.proofs.CallerLemmas.{IsReasoned-returned}
use Rattle.fzn_state.specs.declared.solver.Solver.{Solver}
use Rattle.fzn_engine.specs.Loop.{IsBehind}
use Rattle.fzn_state.specs.Changes.{Holds}
use Rattle.fzn_engine.specs.Moves.{IsBackAt, IsForcedBy}
use Rattle.fzn_state.specs.Search.{stock_of, work_of, work}
use Rattle.fzn_state.specs.Antecedents.{Learns}
use Rattle.fzn_state.specs.State.{Stock, known_in, with_held, with_stack, StateOf}
use Rattle.fzn_state.proofs.ChangeLemmas.{State-cut}
use Rattle.fzn_state.proofs.LearnLemmas.{learned-above, learned-forces, learned-state, learned-works, restarted-state, restarted-works}
use Rattle.fzn_state.proofs.TakenLemmas.{Leads-length}
use Rattle.fzn_state.proofs.VariableLemmas.{variable-of}
use Rattle.fzn_state.proofs.SolverLemmas.{solver-is, order-step}

module _ {model : Model} {mid : Solver} {before : List Step} {conflict : Antecedent} {learned : Learned} {numbers : List ℕ} (h : Learns model mid before conflict learned numbers) {now : List Step} (now_is : now ≡ before ++ Resolve learned.clause numbers ∷ []) where
  module _ (few : length now < 10 ^ 18) (some : learned.clause ≢ []) where
    -- the search at a level, with the clause and fewer inferences
    module _ {level : ℕ} {held back : Solver} (holds : Holds learned.clause mid held) (at : IsBackAt level held back) where
      abbrev there : Solver
      there = record back { trail = returned level mid.trail; search = mid.search; scratch = mid.scratch; learn = mid.learn; found = mid.found; steps = mid.steps + 1 }

      there-is : back ≡ there
      there-is =
          solver-is back (at.trail ∙ ap (returned level) holds.trail) (at.search ∙ holds.search) (at.scratch ∙ holds.scratch) (at.learn ∙ holds.learn) (at.found ∙ holds.found) (at.steps ∙ holds.steps)

      stock_is : stock_of back ≡ with_stack at.count (with_held learned.clause (mid.steps + 1) (stock_of mid))
      stock_is = at.stock ∙ ap (with_stack at.count) holds.stock

      next : mid.steps + 1 ≡ length before + 1
      next = ap (λ (n : ℕ). n + 1) h.state.steps_are

      enough : All (λ (entry : Entry). IsBelow at.count entry.reason) (returned level mid.trail).entries
      enough = let E : Levels → Type 0 = λ t. All (λ (entry : Entry). IsBelow at.count entry.reason) t.entries in subst E (at.trail ∙ ap (returned level) holds.trail) at.enough

      watched : IsWatching back.clauses (returned level mid.trail)
      watched =
          let W : Clauses → Type 0 = λ clauses. IsWatching clauses (returned level mid.trail) in
          subst W (sym at.clauses) (IsWatching-returned held.clauses mid.trail (holds.keeps.watching mid.trail h.state.watching) level)

      -- on this trail
      behind : (trail : Levels) → StateOf model mid.learn (with_held learned.clause (mid.steps + 1) (stock_of mid)) (before ++ Resolve learned.clause numbers ∷ []) trail mid.search.nodes → All (λ (entry : Entry). IsBelow at.count entry.reason) trail.entries → IsWatching back.clauses trail → (limit : ℕ) → work limit mid.search.nodes trail < work_of limit mid → IsBehind model limit mid (record there { trail = trail }) now
      behind trail state below watching limit less =
          let S : List Step → Type 0 = λ s. StateOf model mid.learn (with_stack at.count (with_held learned.clause (mid.steps + 1) (stock_of mid))) s trail mid.search.nodes in
          let K : Stock → Type 0 = λ k. StateOf model mid.learn k now trail mid.search.nodes in
          record {
            state = record {
              state = subst K (sym stock_is) (subst S (sym now_is) (State-cut state at.count below));
              watching = watching;
              order = order-step h.state.order (Resolve learned.clause numbers) now_is few refl (mid.steps + 1) refl;
            };
            less = less;
            tally = refl;
          }

    -- back where it forces a literal
    module _ {held back : Solver} (holds : Holds learned.clause mid held) (at : IsBackAt learned.level held back) (id : ClauseId) (newest : id.0 ≡ length (held_by mid.clauses)) where
      clause_is : antecedent_clause (known_in (stock_of back)) (Clause id) ≡ learned.clause
      clause_is = ap (λ (k : Stock). antecedent_clause (known_in k) (Clause id)) (stock_is holds at) ∙ clause_of-newest (held_by mid.clauses) learned.clause id newest

      forcing : (lit : Lit) (rest : List Lit) → possible_in (returned learned.level mid.trail).sets learned.clause ≡ lit ∷ rest → (limit : ℕ) → IsBehind model limit mid (record (there holds at) { trail = asserted lit (Implied (Clause id)) (returned learned.level mid.trail) }) now
      forcing lit rest e limit =
          let back_trail = returned learned.level mid.trail in
          let trail = asserted lit (Implied (Clause id)) (returned learned.level mid.trail) in
          let state = learned-state h.state.state learned conflict h.is h.plain numbers h.give some lit rest e id newest (mid.steps + 1) (next holds at) in
          let works = learned-works h.state.state learned conflict h.is h.plain numbers h.give some lit rest e id newest (mid.steps + 1) (next holds at) limit in
          let entry : Entry = record { lit = lit; reason = Implied (Clause id); level = level_of (returned learned.level mid.trail) } in
          let below : All (λ (entry : Entry). IsBelow at.count entry.reason) trail.entries = All-push (λ (entry : Entry). IsBelow at.count entry.reason) back_trail.entries entry (enough holds at) tt in
          let known = known_in (stock_of mid) in
          let less = h.is.below (learned-above h.state.state learned conflict h.is h.plain numbers h.give some) in
          let leads = (IsReasoned-returned known mid.trail learned.level h.state.state.core.reasoned (omega arith)).leads in
          let sizes : length back_trail.sets ≡ length mid.trail.declared = Leads-length known back_trail.declared back_trail.entries back_trail.sets leads ∙ ap length (declared-returned learned.level mid.trail) in
          let Over : ℕ → Type 0 = λ n. IsClauseOver n learned.clause in
          let watching = IsWatching-asserted back.clauses back_trail (watched holds at) lit (Implied (Clause id)) (variable-of back_trail.sets (length back_trail.sets) learned.clause lit rest (subst Over (sym sizes) h.is.over) e) in
          behind holds at trail state below watching limit works

      forced-there : (new : Solver) (any : Bool) → IsForcedBy (there holds at) (Clause id) new any → (limit : ℕ) → IsBehind model limit mid new now
      forced-there new true forced limit =
          let P : Solver → Type 0 = λ s. IsBehind model limit mid s now in
          subst P (sym forced.3) (forcing forced.0 forced.1 (ap (possible_in (returned learned.level mid.trail).sets) (sym clause_is) ∙ forced.2) limit)
      forced-there new false forced limit =
          let one = learned-forces h.state.state learned conflict h.is h.plain numbers h.give some in
          absurd (none_there one.0 (sym forced.0 ∙ ap (possible_in (returned learned.level mid.trail).sets) clause_is ∙ one.1.0))
        where
          none_there : (l : Lit) → [] ≡ l ∷ [] → ⊥
          none_there l e = cc

      pub learn-known : IsKnown (known_in (stock_of back)) (Clause id)
      learn-known =
          let K : Stock → Type 0 = λ k. IsKnown (known_in k) (Clause id) in
          subst K (sym (stock_is holds at)) (IsHeld-newest (held_by mid.clauses) learned.clause id newest)

      pub learn-over : IsClauseOver (length back.trail.declared) (antecedent_clause (known_in (stock_of back)) (Clause id))
      learn-over =
          let C : List Lit → Type 0 = λ c. IsClauseOver (length back.trail.declared) c in
          let D : List IntSet → Type 0 = λ d. IsClauseOver (length d) learned.clause in
          let declared : back.trail.declared ≡ mid.trail.declared = ap (λ (t : Levels). t.declared) (at.trail ∙ ap (returned learned.level) holds.trail) ∙ declared-returned learned.level mid.trail in
          subst C (sym clause_is) (subst D (sym declared) h.is.over)

      pub learn-behind : (new : Solver) (any : Bool) → IsForcedBy back (Clause id) new any → (limit : ℕ) → IsBehind model limit mid new now
      learn-behind new any forced limit =
          let F : Solver → Type 0 = λ s. IsForcedBy s (Clause id) new any in
          forced-there new any (subst F (there-is holds at) forced) limit

    -- or back at level 0
    pub restart-behind : {held back : Solver} → Holds learned.clause mid held → IsBackAt 0 held back → (mid.learn ≡ Plain → ⊥) → (limit : ℕ) → IsBehind model limit mid back now
    restart-behind {back = back} holds at first limit =
        let P : Solver → Type 0 = λ s. IsBehind model limit mid s now in
        let state = restarted-state h.state.state learned conflict h.is h.plain numbers h.give some (mid.steps + 1) (next holds at) first in
        let works = restarted-works h.state.state learned conflict h.is h.plain numbers h.give some (mid.steps + 1) (next holds at) first limit in
        subst P (sym (there-is holds at)) (behind holds at (returned 0 mid.trail) state (enough holds at) (watched holds at) limit works)
