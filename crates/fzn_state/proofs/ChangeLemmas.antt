-- The changes of a search: what holds of it is kept, and less work is left.
use Rattle.std.proofs.Common.{◌≡◌, ℕ, ◌+◌, ◌-◌, ◌*◌, ◌<◌, ◌≤◌, ◌≢◌, Bool, true, List, [], ◌∷◌, ◌++◌, length, All, Some, refl, sym, ◌∙◌, ap, subst, arith, ℤ}
use Rattle.std.proofs.lemmas.Bool.{or_right}
use Rattle.std.proofs.lemmas.List.{length_push, length-map, append-nil}
use Rattle.std.proofs.lemmas.List.Elements.{All-push, All-weaker}
use Rattle.fzn_domain.specs.declared.literal.Lit.{Lit}
use Rattle.fzn_domain.specs.Literal.{negated}
use Rattle.fzn_domain.specs.IntSet.{IntSet, is_possible}
use Rattle.fzn_domain.specs.Narrow.{IsVariable, IsClauseOver, IsOpen, NoneEmpty, set_of, narrowed, can_fail, possible_in}
use Rattle.fzn_meaning.specs.declared.model.Model.{Model}
use Rattle.fzn_meaning.specs.Solutions.{declared_sets, cut_of}
use Rattle.fzn_cert.specs.declared.step.Step.{Step}
use Rattle.fzn_cert.specs.declared.step.Step.TheVariants.{Resolve, Solution}
use Rattle.fzn_cert.specs.Past.{StepsPast}
use Rattle.fzn_cert.specs.Accepted.{IsAccepted, AllAccepted, past_after}
use Rattle.fzn_propagator.specs.declared.inferences.Inferred.{Inferred}
use Rattle.fzn_trail.specs.declared.trail.ClauseId.{ClauseId}
use Rattle.fzn_trail.specs.declared.trail.Entry.{Entry}
use Rattle.fzn_trail.specs.declared.trail.Antecedent.{Antecedent}
use Rattle.fzn_trail.specs.declared.trail.Antecedent.TheVariants.{Clause}
use Rattle.fzn_trail.specs.declared.trail.Reason.{Reason}
use Rattle.fzn_trail.specs.declared.trail.Reason.TheVariants.{Decision, Implied}
use Rattle.fzn_trail.specs.Levels.{Levels, level_of, pushed, asserted, returned}
use Rattle.fzn_trail.proofs.CallerLemmas.{declared-returned, level_of-returned}
use Rattle.fzn_clauses.proofs.HeldLemmas.{at_number-newest}
use Rattle.fzn_strategy.specs.declared.learn.Learn.{Learn}
use Rattle.fzn_strategy.specs.declared.learn.Learn.TheVariants.{Plain}
use Rattle.fzn_learned.specs.Reasoned.{IsBelow, IsReasoned, Open, opens}
use Rattle.fzn_learned.proofs.CallerLemmas.{IsReasoned-returned, opens-forced}
use Rattle.fzn_reduction.specs.Forgetting.{is_cut}
use Rattle.fzn_state.specs.Volume.{volume, slack}
use Rattle.fzn_state.specs.Learned.{resolved, FreshAfter, negations}
use Rattle.fzn_state.specs.State.{Stock, known_in, with_held, with_cuts, with_inference, with_stack, IsHeldCut, IsInferredJustified, CoreOf, PlainOf, StateOf}
use Rattle.fzn_state.specs.Search.{work}
use Rattle.fzn_state.specs.Certified.{IsRunCertified, HasEmptyClause}
use Rattle.fzn_state.proofs.AcceptedLemmas.{past_after-push, AllAccepted-push, resolved-append}
use Rattle.fzn_state.proofs.HeldCutLemmas.{IsHeldCut-grown, IsHeldCut-flagged}
use Rattle.fzn_state.proofs.VolumeLemmas.{volume-narrowed_le, slack-narrowed_le, slack-narrowed_lt, work-less, work-lower, spread-filled}
use Rattle.fzn_state.proofs.WithinLemmas.{Within, Within-narrowed}
use Rattle.fzn_state.proofs.TakenLemmas.{Leads-within, Leads-length, Leads-filled, Leads-slack, Leads-certain, opens-parts, last_level, negations-unit}
use Rattle.fzn_state.proofs.StateLemmas.{Core-moved, Core-step, Core-stacked, Core-cut, cuts-grown, Plain-narrowed, Plain-decided, Plain-learned, Plain-fresh}

learned_is : (steps : List Step) (clause : List Lit) (ids : List ℕ) → resolved (steps ++ Resolve clause ids ∷ []) ≡ resolved steps ++ clause ∷ []
learned_is steps clause ids = resolved-append steps (Resolve clause ids ∷ [])

module _ (limit nodes : ℕ) (trail : Levels) where
  pub work-asserted : (lit : Lit) (reason : Reason) → IsVariable (length trail.sets) lit.var → is_possible (set_of trail.sets lit.var) lit ≡ true → can_fail trail.sets lit ≡ true → work limit nodes (asserted lit reason trail) < work limit nodes trail
  work-asserted lit reason var possible fails = work-less ((limit - nodes) + length trail.saved) ((limit - nodes) + length trail.saved) (slack trail.declared) (slack (narrowed trail.sets lit)) (slack trail.sets) refl (slack-narrowed_lt trail.sets lit var possible fails)

  pub work-decided : (lit : Lit) → IsVariable (length trail.sets) lit.var → IsOpen trail.sets lit → nodes < limit → work limit (nodes + 1) (asserted lit Decision (pushed trail)) < work limit nodes trail
  work-decided lit var either room =
      let levels = length_push trail.saved (record { sets = trail.sets; entries = trail.entries }) in
      work-less ((limit - (nodes + 1)) + length (pushed trail).saved) ((limit - nodes) + length trail.saved) (slack trail.declared) (slack (narrowed trail.sets lit)) (slack trail.sets) (omega arith) (slack-narrowed_lt trail.sets lit var either.0 either.1)

module _ {model : Model} {stock : Stock} {steps : List Step} {trail : Levels} {nodes : ℕ} (h : CoreOf model stock steps trail nodes) where
  pub slack-stood : (level : ℕ) → level ≤ level_of trail → slack (returned level trail).sets ≤ slack trail.declared
  slack-stood level below =
      let there = returned level trail in
      let stood = Leads-slack (known_in stock) there.declared there.entries there.sets (IsReasoned-returned (known_in stock) trail level h.reasoned below).leads in
      let declared = ap slack (declared-returned level trail) in
      omega arith

  pub slack-returned : (level : ℕ) → level ≤ level_of trail → (lit : Lit) → slack (narrowed (returned level trail).sets lit) ≤ slack trail.declared
  slack-returned level below lit =
      let stood = slack-stood level below in
      let narrow = slack-narrowed_le (returned level trail).sets lit in
      omega arith

  -- on any trail over the declared sets
  pub Core-resolved : (clause : List Lit) (ids : List ℕ) (number : ℕ) → number ≡ length steps + 1 → IsAccepted model (past_after model steps) (Resolve clause ids) → (new : Levels) → new.declared ≡ trail.declared → slack new.sets ≤ slack trail.declared → IsReasoned (known_in (with_held clause number stock)) new → CoreOf model (with_held clause number stock) (steps ++ Resolve clause ids ∷ []) new nodes
  Core-resolved clause ids number newest accepted new declared less reasoned =
      let O : ℕ → Type 0 = λ n. IsClauseOver n clause in
      let sizes : length trail.declared ≡ length model.vars = ap length h.declared ∙ length-map model.vars (λ var. var.domain) in
      let one = length_push (resolved steps) clause in
      let conflicts = h.nodes_by_conflicts in
      let N : List (List Lit) → Type 0 = λ cs. nodes + slack new.sets ≤ (length cs + 1) * slack trail.declared in
      let M : ℕ → Type 0 = λ n. nodes + slack new.sets ≤ (n + 1) * slack trail.declared in
      Core-step h (Resolve clause ids) clause number stock.cuts newest accepted refl (cuts-grown h.stocked clause) (subst O (sym sizes) accepted.0) new declared reasoned
      (subst N (sym (learned_is steps clause ids)) (subst M (sym one) (omega arith)))

  pub work-learned : (limit level : ℕ) → level < level_of trail → (lit : Lit) (id : ClauseId) → work limit nodes (asserted lit (Implied (Clause id)) (returned level trail)) < work limit nodes trail
  work-learned limit level below lit id =
      let there = returned level trail in
      let levels : length there.saved ≡ level = level_of-returned level trail (omega arith) in
      let less = slack-returned level (omega arith) lit in
      let declared = ap slack (declared-returned level trail) in
      let W : ℕ → Type 0 = λ s. ((limit - nodes) + length there.saved) * (s + 1) + slack (narrowed there.sets lit) < ((limit - nodes) + length trail.saved) * (slack trail.declared + 1) + slack trail.sets in
      subst W (sym declared) (work-lower ((limit - nodes) + length there.saved) ((limit - nodes) + length trail.saved) (slack trail.declared) (slack (narrowed there.sets lit)) (slack trail.sets) (omega arith) (omega arith))

  pub work-restarted : (limit : ℕ) → 0 < level_of trail → work limit nodes (returned 0 trail) < work limit nodes trail
  work-restarted limit above =
      let there = returned 0 trail in
      let levels : length there.saved ≡ 0 = level_of-returned 0 trail (omega arith) in
      let less = slack-stood 0 (omega arith) in
      let declared = ap slack (declared-returned 0 trail) in
      let W : ℕ → Type 0 = λ s. ((limit - nodes) + length there.saved) * (s + 1) + slack there.sets < ((limit - nodes) + length trail.saved) * (slack trail.declared + 1) + slack trail.sets in
      subst W (sym declared) (work-lower ((limit - nodes) + length there.saved) ((limit - nodes) + length trail.saved) (slack trail.declared) (slack there.sets) (slack trail.sets) (omega arith) (omega arith))

module _ {model : Model} {learn : Learn} {stock : Stock} {steps : List Step} {trail : Levels} {nodes : ℕ} (h : StateOf model learn stock steps trail nodes) where
  pub State-filled : NoneEmpty trail.sets
  State-filled = Leads-filled (known_in stock) trail.declared trail.entries trail.sets h.core.reasoned.leads h.core.filled

  pub State-length : length trail.sets ≡ length trail.declared
  State-length = Leads-length (known_in stock) trail.declared trail.entries trail.sets h.core.reasoned.leads

  pub State-within : Within trail.sets trail.declared
  State-within = Leads-within (known_in stock) trail.declared trail.entries trail.sets h.core.reasoned.leads

  State-fresh : learn ≡ Plain → FreshAfter trail.declared [] (resolved steps ++ negations (opens trail.declared trail.entries) ∷ [])
  State-fresh in_plain =
      Plain-fresh (h.plain in_plain) State-length State-within State-filled
      (Leads-certain (known_in stock) (length trail.declared) trail.declared trail.entries trail.sets refl h.core.reasoned.leads)

  -- ---- an assertion

  -- narrower sets with the same decisions
  pub State-narrowed : (new : Levels) → new.declared ≡ trail.declared → opens new.declared new.entries ≡ opens trail.declared trail.entries → Within new.sets trail.sets → slack new.sets ≤ slack trail.sets → volume new.sets ≤ volume trail.sets → IsReasoned (known_in stock) new → StateOf model learn stock steps new nodes
  State-narrowed new e taken within less fewer reasoned =
      let P : List IntSet → List Open → Type 0 = λ d t. PlainOf d new.sets t (resolved steps) nodes in
      let D : List IntSet → Type 0 = λ d. P d (opens new.declared new.entries) in
      let T : List Open → Type 0 = λ t. P trail.declared t in
      record {
        core = Core-moved h.core new nodes e reasoned (omega arith);
        plain = λ in_plain. subst D (sym e) (subst T (sym taken) (Plain-narrowed (h.plain in_plain) new.sets within fewer));
      }

  -- the literal that a known clause forces
  pub State-asserted : (lit : Lit) (antecedent : Antecedent) → IsReasoned (known_in stock) (asserted lit (Implied antecedent) trail) → StateOf model learn stock steps (asserted lit (Implied antecedent) trail) nodes
  State-asserted lit antecedent reasoned =
      State-narrowed (asserted lit (Implied antecedent) trail) refl (opens-forced trail lit antecedent) (Within-narrowed trail.sets lit) (slack-narrowed_le trail.sets lit) (volume-narrowed_le trail.sets lit) reasoned

  -- ---- a decision

  pub State-decided : (lit : Lit) → IsVariable (length trail.sets) lit.var → IsOpen trail.sets lit → IsReasoned (known_in stock) (asserted lit Decision (pushed trail)) → StateOf model learn stock steps (asserted lit Decision (pushed trail)) (nodes + 1)
  State-decided lit var either reasoned =
      let less = slack-narrowed_lt trail.sets lit var either.0 either.1 in
      let taken : opens trail.declared (asserted lit Decision (pushed trail)).entries ≡ opens trail.declared trail.entries ++ record { sets = trail.sets; decision = lit } ∷ [] =
      opens-parts (known_in stock) trail.declared trail.entries trail.sets lit (level_of (pushed trail)) [] h.core.reasoned.leads in
      let T : List Open → Type 0 = λ t. PlainOf trail.declared (narrowed trail.sets lit) t (resolved steps) (nodes + 1) in
      record {
        core = Core-moved h.core (asserted lit Decision (pushed trail)) (nodes + 1) refl reasoned (omega arith);
        plain = λ in_plain. subst T (sym taken) (Plain-decided (h.plain in_plain) State-filled lit var either);
      }

  -- ---- inferences

  pub State-stacked : (it : Inferred) → IsInferredJustified model (past_after model steps) it → StateOf model learn (with_inference it stock) steps trail nodes
  State-stacked it justified = record { core = Core-stacked h.core it justified; plain = h.plain }

  pub State-cut : (count : ℕ) → All (λ (entry : Entry). IsBelow count entry.reason) trail.entries → StateOf model learn (with_stack count stock) steps trail nodes
  State-cut count enough = record { core = Core-cut h.core count enough; plain = h.plain }

  -- ---- a solution, with its cut

  pub State-found : (values : List ℤ) (number : ℕ) (flags : List Bool) (id : ClauseId) → id.0 ≡ length stock.held → is_cut flags id ≡ true → ((other : ClauseId) → other.0 ≢ id.0 → is_cut flags other ≡ is_cut stock.cuts other) → number ≡ length steps + 1 → IsAccepted model (past_after model steps) (Solution values) → IsClauseOver (length trail.declared) (cut_of model values) → IsReasoned (known_in (with_held (cut_of model values) number stock)) trail → StateOf model learn (with_cuts flags (with_held (cut_of model values) number stock)) (steps ++ Solution values ∷ []) trail nodes
  State-found values number flags id there flagged others newest accepted over reasoned =
      let same : resolved (steps ++ Solution values ∷ []) ≡ resolved steps = resolved-append steps (Solution values ∷ []) ∙ append-nil (resolved steps) in
      let N : List (List Lit) → Type 0 = λ cs. nodes + slack trail.sets ≤ (length cs + 1) * slack trail.declared in
      let P : List (List Lit) → Type 0 = λ cs. PlainOf trail.declared trail.sets (opens trail.declared trail.entries) cs nodes in
      let Cut : List ℤ → Type 0 = λ a. IsHeldCut (stock.held ++ Some (cut_of model values) ∷ []) flags (cut_of model a) in
      let before = All-weaker (λ a. IsHeldCut stock.held stock.cuts (cut_of model a)) Cut
      (λ a cut. IsHeldCut-grown stock.held flags (cut_of model a) (IsHeldCut-flagged stock.held stock.cuts (cut_of model a) cut flags id (omega arith) others) (Some (cut_of model values) ∷ [])) (past_after model steps).solutions h.core.cuts_held in
      let cuts = All-push Cut (past_after model steps).solutions values before (id, flagged, at_number-newest stock.held (cut_of model values) id there) in
      record {
        core = Core-step h.core (Solution values) (cut_of model values) number flags newest accepted refl cuts over trail refl reasoned (subst N (sym same) h.core.nodes_by_conflicts);
        plain = λ in_plain. subst P (sym same) (h.plain in_plain);
      }

  -- ---- a learned clause

  -- one level back, where the clause says that one of the decisions is wrong
  pub Plain-back : learn ≡ Plain → (clause : List Lit) (ids : List ℕ) (level : ℕ) → level_of trail ≡ level + 1 → clause ≡ negations (opens trail.declared trail.entries) → (lit : Lit) (id : ClauseId) → possible_in (returned level trail).sets clause ≡ lit ∷ [] → PlainOf (asserted lit (Implied (Clause id)) (returned level trail)).declared (asserted lit (Implied (Clause id)) (returned level trail)).sets (opens (asserted lit (Implied (Clause id)) (returned level trail)).declared (asserted lit (Implied (Clause id)) (returned level trail)).entries) (resolved (steps ++ Resolve clause ids ∷ [])) nodes
  Plain-back in_plain clause ids level levels clause_is lit id forced =
      let known = known_in stock in
      let last = last_level known trail level h.core.reasoned levels in
      let before = opens trail.declared last.stood.entries in
      let at : Open = record { sets = last.stood.sets; decision = last.lit } in
      let new = asserted lit (Implied (Clause id)) (returned level trail) in
      let count : length last.stood.sets ≡ length trail.declared = Leads-length known trail.declared last.stood.entries last.stood.sets last.leads in
      let Var : ℕ → Type 0 = λ n. IsVariable n last.lit.var in
      let certain = Leads-certain known (length trail.declared) trail.declared last.stood.entries last.stood.sets refl last.leads in
      let unit : possible_in last.stood.sets (negations (before ++ at ∷ [])) ≡ negated last.lit ∷ [] = negations-unit (length trail.declared) last.stood.sets before at certain last.either.1 in
      let U : List Open → Type 0 = λ t. possible_in last.stood.sets (negations t) ≡ negated last.lit ∷ [] in
      let other : possible_in (returned level trail).sets clause ≡ negated last.lit ∷ [] =
      ap (λ (s : List IntSet). possible_in s clause) last.sets_is ∙ ap (possible_in last.stood.sets) clause_is ∙ subst U (sym last.taken_is) unit in
      let lit_is : lit ≡ negated last.lit = first_same lit (negated last.lit) (sym forced ∙ other) in
      let e : new.declared ≡ trail.declared = last.declared_is in
      let sets_is : new.sets ≡ narrowed last.stood.sets (negated last.lit) = ap (λ (s : List IntSet). narrowed s lit) last.sets_is ∙ ap (narrowed last.stood.sets) lit_is in
      let taken_is : opens new.declared new.entries ≡ before =
      opens-forced (returned level trail) lit (Clause id)
      ∙ ap (λ (d : List IntSet). opens d (returned level trail).entries) last.declared_is ∙ ap (opens trail.declared) last.entries_is in
      let learned : resolved (steps ++ Resolve clause ids ∷ []) ≡ resolved steps ++ negations (opens trail.declared trail.entries) ∷ [] = learned_is steps clause ids ∙ ap (λ (c : List Lit). resolved steps ++ c ∷ []) clause_is in
      let plain = Plain-learned (h.plain in_plain) before at last.taken_is (State-fresh in_plain) count (subst Var count last.var) in
      let S : List IntSet → Type 0 = λ s. PlainOf trail.declared s before (resolved steps ++ negations (opens trail.declared trail.entries) ∷ []) nodes in
      let T : List Open → Type 0 = λ t. PlainOf trail.declared new.sets t (resolved steps ++ negations (opens trail.declared trail.entries) ∷ []) nodes in
      let D : List IntSet → Type 0 = λ d. PlainOf d new.sets (opens new.declared new.entries) (resolved steps ++ negations (opens trail.declared trail.entries) ∷ []) nodes in
      let L : List (List Lit) → Type 0 = λ cs. PlainOf new.declared new.sets (opens new.declared new.entries) cs nodes in
      subst L (sym learned) (subst D (sym e) (subst T (sym taken_is) (subst S (sym sets_is) plain)))
    where
      first_same : (a b : Lit) → a ∷ [] ≡ b ∷ [] → a ≡ b
      first_same a b e = cc

  -- ---- the end

  certified_by : (all : List Step) → AllAccepted model all → (learn ≡ Plain → FreshAfter trail.declared [] (resolved all)) → nodes ≤ (length (resolved all) + 1) * slack trail.declared → IsRunCertified model learn all nodes
  certified_by all accepted fresh bound =
      let F : List IntSet → Type 0 = λ d. FreshAfter d [] (resolved all) in
      let E : List IntSet → Type 0 = λ d. NoneEmpty d in
      let e = h.core.declared in
      let same = spread-filled (declared_sets model.vars) (subst E e h.core.filled) in
      let N : List IntSet → Type 0 = λ d. nodes ≤ (length (resolved all) + 1) * slack d in
      let M : ℕ → Type 0 = λ s. nodes ≤ (length (resolved all) + 1) * s in
      record {
        accepted = accepted;
        fresh = λ in_plain _. subst F e (fresh in_plain);
        nodes_by_conflicts = subst M (sym same) (subst N e bound);
      }

  pub State-certified : IsRunCertified model learn steps nodes
  State-certified = let conflicts = h.core.nodes_by_conflicts in certified_by steps h.core.accepted (λ in_plain. (h.plain in_plain).fresh) (omega arith)

  -- an empty clause was learned
  pub State-closed : (learn ≡ Plain → [] ≡ negations (opens trail.declared trail.entries)) → (ids : List ℕ) → IsAccepted model (past_after model steps) (Resolve [] ids) → IsRunCertified model learn (steps ++ Resolve [] ids ∷ []) nodes × HasEmptyClause model (steps ++ Resolve [] ids ∷ [])
  State-closed clause_is ids accepted =
      let F : List Lit → Type 0 = λ c. FreshAfter trail.declared [] (resolved steps ++ c ∷ []) in
      let G : List (List Lit) → Type 0 = λ cs. FreshAfter trail.declared [] cs in
      let is = learned_is steps [] ids in
      let one = length_push (resolved steps) [] in
      let conflicts = h.core.nodes_by_conflicts in
      let N : List (List Lit) → Type 0 = λ cs. nodes ≤ (length cs + 1) * slack trail.declared in
      let M : ℕ → Type 0 = λ n. nodes ≤ (n + 1) * slack trail.declared in
      let past = past_after-push model steps (Resolve [] ids) in (
        certified_by (steps ++ Resolve [] ids ∷ []) (AllAccepted-push model steps (Resolve [] ids) h.core.accepted accepted) (λ in_plain. subst G (sym is) (subst F (sym (clause_is in_plain)) (State-fresh in_plain)))
            (subst N (sym is) (subst M (sym one) (omega arith))),
        ap (λ (p : StepsPast). p.refuted) past ∙ or_right (past_after model steps).refuted true refl,
      )
