-- What tending leaves, with the entries of level 0 settled.
use Rattle.std.proofs.Common.{◌≡◌, ℕ, ◌+◌, ◌-◌, ◌*◌, ◌^◌, ◌<◌, ◌≤◌, List, [], ◌∷◌, ◌++◌, length, get_or, set, Some, ℤ, suc, refl, sym, ap, ◌∙◌, subst, arith}
use Rattle.std.proofs.lemmas.List.{length_push, length-map}
use Rattle.std.proofs.lemmas.List.Elements.{All-nil, All-weaker}
use Rattle.fzn_domain.specs.declared.literal.Lit.{Lit}
use Rattle.fzn_domain.specs.IntSet.{IntSet, size, no_values}
use Rattle.fzn_domain.specs.Narrow.{IsVariable, IsClauseOver}
use Rattle.fzn_meaning.specs.declared.model.Model.{Model}
use Rattle.fzn_meaning.specs.Solutions.{cut_of}
use Rattle.fzn_cert.specs.declared.step.Step.{Step}
use Rattle.fzn_cert.specs.declared.step.Step.TheVariants.{Resolve}
use Rattle.fzn_cert.specs.Past.{StepsPast, clause_held}
use Rattle.fzn_cert.specs.Accepted.{IsAccepted, after_step, past_after}
use Rattle.fzn_trail.specs.declared.trail.ClauseId.{ClauseId}
use Rattle.fzn_trail.specs.declared.trail.Entry.{Entry}
use Rattle.fzn_trail.specs.declared.trail.Antecedent.TheVariants.{Clause}
use Rattle.fzn_trail.specs.Levels.{Levels, level_of, fresh}
use Rattle.fzn_clauses.specs.declared.clauses.Clauses.{Clauses}
use Rattle.fzn_clauses.specs.Held.{Held, IsHeld}
use Rattle.fzn_clauses.specs.Kept.{KeepsWatching}
use Rattle.fzn_clauses.specs.Propagation.{IsPropagated}
use Rattle.fzn_clauses.specs.Rooted.{IsRooted}
use Rattle.fzn_clauses.specs.Watching.{held_by, IsWatching}
use Rattle.fzn_clauses.proofs.CallerLemmas.{Propagates-keeps, variable-forcing}
use Rattle.fzn_strategy.specs.declared.learn.Learn.{Learn}
use Rattle.fzn_strategy.specs.declared.learn.Learn.TheVariants.{Plain, First}
use Rattle.fzn_learned.specs.Reasoned.{Known, IsReasoned}
use Rattle.fzn_learned.proofs.CallerLemmas.{IsReasoned-grown, IsReasoned-marked, IsReasoned-forced}
use Rattle.fzn_reduction.specs.declared.notes.Notes.{Notes}
use Rattle.fzn_state.specs.declared.solver.Solver.{Solver}
use Rattle.fzn_state.specs.Volume.{slack}
use Rattle.fzn_state.specs.Learned.{resolved}
use Rattle.fzn_state.specs.Changes.{IsStateKept, IsReduced, Holds, HasDropped}
use Rattle.fzn_state.specs.Search.{IsAfter, stock_of, Tally, work, work_of}
use Rattle.fzn_state.specs.State.{Stock, known_in, with_held, IsHeldCut, IsInferredJustified, IsStocked, StateOf}
use Rattle.fzn_state.proofs.AcceptedLemmas.{resolved-append, length-past_of}
use Rattle.fzn_state.proofs.ChangeLemmas.{Core-resolved, State-cut}
use Rattle.fzn_state.proofs.HeldCutLemmas.{IsHeldCut-put}
use Rattle.fzn_state.proofs.NumberLemmas.{clause_held-newest, AreNumbered-grown, AreGiven-push, IsJustified-grown, AreGivenBy-grown}
use Rattle.fzn_state.proofs.PutLemmas.{AllHeld-put, AreNumbered-put, IsReasoned-put}
use Rattle.fzn_state.proofs.SolverLemmas.{solver-is, order-step}
use Rattle.fzn_state.proofs.StateLemmas.{Core-moved, Core-more}
use Rattle.fzn_state.proofs.TakenLemmas.{Leads-slack}

-- ---- one after the other

pub reduced-kept : {model : Model} {old new : Solver} {steps : List Step} → IsReduced model old new steps → IsStateKept model steps old new
reduced-kept {old = old} {new = new} t =
    let T : Levels → Type 0 = λ trail. (limit : ℕ) → work limit new.search.nodes trail ≤ work_of limit old in
    let N : Tally → Type 0 = λ tally. (limit : ℕ) → work limit tally.nodes old.trail ≤ work_of limit old in
    record { state = t.state; less = subst T (sym t.trail) (subst N (sym t.tally) (λ limit. omega arith)); tally = t.tally }

pub kept-through : {model : Model} {old mid new : Solver} {before now : List Step} → IsStateKept model before old mid → IsStateKept model now mid new → IsStateKept model now old new
kept-through a b = record {
  state = b.state;
  less = λ limit. let first = a.less limit in let second = b.less limit in le_by first second;
  tally = b.tally ∙ a.tally;
} where
  le_by : {x y z : ℕ} → x ≤ y → z ≤ x → z ≤ y
  le_by h k = omega arith

-- ---- another trail

-- no set has more values than the one of the same place
pub slack-pointwise : (one other : List IntSet) → length one ≡ length other → ((k : ℕ) → k < length one → size (get_or one k no_values) ≤ size (get_or other k no_values)) → slack one ≤ slack other
slack-pointwise [] other e each = omega arith
slack-pointwise (s ∷ one) [] e each = absurd (omega (arith, e))
slack-pointwise (s ∷ one) (t ∷ other) e each =
    let here = each 0 (omega arith) in
    let later = slack-pointwise one other (omega (arith, e)) (λ k below. each (suc k) (omega (arith, below))) in
    omega arith

not_plain : (learn : Learn) → learn ≡ First → learn ≡ Plain → ⊥
not_plain learn first plain = cc

-- a trail on which nothing stands
pub IsRooted-fresh : (declared : List IntSet) → IsRooted (fresh declared)
IsRooted-fresh declared = record {
  mark_within = omega arith;
  variables = All-nil (λ (entry : Entry). IsVariable (length declared) entry.lit.var);
  present = record { within = omega arith; front = refl; left = refl; levels = All-nil (λ (entry : Entry). entry.level ≤ 0) };
  saved = λ i d h. absurd (omega (arith, h));
  rising = λ i j d less h. absurd (omega (arith, h));
}

IsReasoned-fresh : (known : Known) (declared : List IntSet) → IsReasoned known (fresh declared)
IsReasoned-fresh known declared = record { leads = refl; one_each = refl; standing = λ k below. absurd (omega (arith, below)) }

-- what held clauses force on the declared sets, where no set is wider, may take the place of the trail at level 0
module _ {model : Model} {old : Solver} {steps : List Step} (h : IsAfter model old steps) (first : old.learn ≡ First) (level : level_of old.trail ≡ 0) (clauses : Clauses) (same : held_by clauses ≡ held_by old.clauses) (trail : Levels) (run : IsPropagated (held_by clauses) (fresh old.trail.declared) trail) (watching : IsWatching clauses trail) (less : slack trail.sets ≤ slack old.trail.sets) where
  abbrev known : Known
  known = known_in (stock_of old)

  abbrev Stands : Levels → Type 0
  Stands t = IsReasoned (known_in (stock_of old)) t × (t.declared ≡ old.trail.declared) × (t.saved ≡ [])

  stands : Stands trail
  stands =
      let again = subst (λ (held : Held). IsPropagated held (fresh old.trail.declared) trail) same run in
      Propagates-keeps (held_by old.clauses) Stands
      (λ t mark s. (IsReasoned-marked known t mark s.0, s.1, s.2))
      (λ t forced forcing s.
      let var = variable-forcing (held_by old.clauses) t.sets (length old.trail.declared) forced h.state.core.held_over forcing in
      let there : IsVariable (length t.declared) forced.lit.var = subst (λ (ds : List IntSet). IsVariable (length ds) forced.lit.var) (sym s.1) var in
      (IsReasoned-forced known t forced.lit (Clause forced.id) s.0 there (forcing.is_held, (forcing.unit.only, forcing.unit.not_yet_true)), s.1, s.2))
      (fresh old.trail.declared) again.0 trail again.1 (IsReasoned-fresh known old.trail.declared, refl, refl)

  no_more : (limit : ℕ) → work limit old.search.nodes trail ≤ work_of limit old
  no_more limit =
      let levels : length trail.saved ≡ length old.trail.saved = ap length stands.2 ∙ sym level in
      let L : ℕ → Type 0 = λ n. ((limit - old.search.nodes) + n) * (slack trail.declared + 1) + slack trail.sets ≤ work_of limit old in
      let D : List IntSet → Type 0 = λ ds. ((limit - old.search.nodes) + length old.trail.saved) * (slack ds + 1) + slack trail.sets ≤ work_of limit old in
      subst L (sym levels) (subst D (sym stands.1) (omega (arith, less)))

  pub renewed-kept : (notes : Notes) → IsStateKept model steps old (record old { clauses = clauses; trail = trail; notes = notes })
  renewed-kept notes =
      let C : Held → Type 0 = λ held. StateOf model old.learn (record (stock_of old) { held = held }) steps trail old.search.nodes in
      let state : C (held_by old.clauses) = record {
        core = Core-moved h.state.core trail old.search.nodes stands.1 stands.0 (omega (arith, less));
        plain = λ in_plain. absurd (not_plain old.learn first in_plain);
      } in
      record {
        state = record { state = subst C (sym same) state; watching = watching; order = h.order };
        less = no_more;
        tally = refl;
      }

-- inferences on which no entry rests are gone
pub dropped-reduced : {model : Model} {old new : Solver} {steps : List Step} → IsAfter model old steps → HasDropped old new → IsReduced model old new steps
dropped-reduced {model = model} {old = old} {new = new} {steps = steps} h cut =
    let T : Solver → Type 0 = λ s. IsReduced model old s steps in
    subst T (sym cut.is) (record {
      state = record { state = State-cut h.state cut.count cut.enough; watching = h.watching; order = h.order };
      trail = refl;
      tally = refl;
    })

-- ---- the clause of the next step

module _ {model : Model} {old : Solver} {steps : List Step} (h : IsAfter model old steps) (first : old.learn ≡ First) (clause : List Lit) (ids : List ℕ) (accepted : IsAccepted model (past_after model steps) (Resolve clause ids)) (few : length steps + 1 < 10 ^ 18) where
  abbrev later : List Step
  later = steps ++ Resolve clause ids ∷ []

  next : old.steps + 1 ≡ length steps + 1
  next = ap (λ (n : ℕ). n + 1) h.steps_are

  room : length (steps ++ Resolve clause ids ∷ []) < 10 ^ 18
  room = omega (arith, length_push steps (Resolve clause ids), few)

  stood : slack old.trail.sets ≤ slack old.trail.declared
  stood = Leads-slack (known_in (stock_of old)) old.trail.declared old.trail.entries old.trail.sets h.state.core.reasoned.leads

  -- it is held as one more
  pub next-held : (held : Solver) → Holds clause old held → IsReduced model old held later
  next-held held holds =
      let core = h.state.core in
      let state : StateOf model old.learn (with_held clause (old.steps + 1) (stock_of old)) later old.trail old.search.nodes = record {
        core = Core-resolved core clause ids (old.steps + 1) next accepted old.trail refl stood (IsReasoned-grown (known_in (stock_of old)) (Some clause ∷ []) old.trail core.reasoned);
        plain = λ in_plain. absurd (not_plain old.learn first in_plain);
      } in
      let K : Stock → Type 0 = λ k. StateOf model old.learn k later old.trail old.search.nodes in
      let P : Solver → Type 0 = λ s. IsReduced model old s later in
      subst P (sym (solver-is held holds.trail holds.search holds.scratch holds.learn holds.found holds.steps)) (record {
        state = record {
          state = subst K (sym holds.stock) state;
          watching = holds.keeps.watching old.trail h.watching;
          order = order-step h.order (Resolve clause ids) refl room refl (old.steps + 1) refl;
        };
        trail = refl;
        tally = refl;
      })

  -- or under a free number
  module _ (clauses : Clauses) (id : ClauseId) (within : id.0 < length (held_by old.clauses)) (free : IsHeld (held_by old.clauses) id → ⊥) (held_is : held_by clauses ≡ set (held_by old.clauses) id.0 (Some clause)) (keeps : KeepsWatching old.clauses clauses) where
    abbrev held : Held
    held = held_by old.clauses

    abbrev put : Stock
    put = record (stock_of old) { held = set (held_by old.clauses) id.0 (Some clause); numbers = set old.numbers id.0 (old.steps + 1); alive = old.alive ++ (old.steps + 1) ∷ [] }

    abbrev past : StepsPast
    past = past_after model steps

    abbrev now : StepsPast
    now = after_step model (past_after model steps) (Resolve clause ids)

    gives : clause_held now (old.steps + 1) ≡ Some clause
    gives =
        ap (clause_held now) (next ∙ ap (λ (n : ℕ). n + 1) (sym (length-past_of model steps)))
        ∙ clause_held-newest past now clause refl

    over : IsClauseOver (length old.trail.declared) clause
    over =
        let sizes : length old.trail.declared ≡ length model.vars = ap length h.state.core.declared ∙ length-map model.vars (λ var. var.domain) in
        let O : ℕ → Type 0 = λ n. IsClauseOver n clause in
        subst O (sym sizes) accepted.0

    stocked : IsStocked model now (length old.trail.declared) put
    stocked =
        let core = h.state.core in
        let Cut : List ℤ → Type 0 = λ values. IsHeldCut (set (held_by old.clauses) id.0 (Some clause)) old.cuts (cut_of model values) in
        record {
          numbered = AreNumbered-put held id clause free within now old.numbers (old.steps + 1) (AreNumbered-grown past now (Some clause) old.numbers held refl core.numbered) gives;
          justified = All-weaker (IsInferredJustified model past) (IsInferredJustified model now) (λ it j. IsJustified-grown model past now (Some clause) it refl j) old.inferences core.justified;
          written = AreGivenBy-grown model past now (Some clause) old.written refl core.written;
          alive = AreGiven-push past now old.alive (old.steps + 1) clause refl core.alive gives;
          cuts_held = All-weaker (λ values. IsHeldCut held old.cuts (cut_of model values)) Cut
              (λ values cut. IsHeldCut-put held old.cuts (cut_of model values) cut id clause free) (past_after model steps).solutions core.cuts_held;
          held_over = AllHeld-put held id clause free within (IsClauseOver (length old.trail.declared)) core.held_over over;
        }

    conflicts : old.search.nodes + slack old.trail.sets ≤ (length (resolved (steps ++ Resolve clause ids ∷ [])) + 1) * slack old.trail.declared
    conflicts =
        let before = h.state.core.nodes_by_conflicts in
        let N : List (List Lit) → Type 0 = λ cs. old.search.nodes + slack old.trail.sets ≤ (length cs + 1) * slack old.trail.declared in
        let M : ℕ → Type 0 = λ n. old.search.nodes + slack old.trail.sets ≤ (n + 1) * slack old.trail.declared in
        subst N (sym (resolved-append steps (Resolve clause ids ∷ []))) (subst M (sym (length_push (resolved steps) clause)) (omega arith))

    pub next-put : (notes : Notes) → IsReduced model old (record old { clauses = clauses; numbers = set old.numbers id.0 (old.steps + 1); alive = old.alive ++ (old.steps + 1) ∷ []; notes = notes; steps = old.steps + 1 }) later
    next-put notes =
        let core = h.state.core in
        let C : Held → Type 0 = λ held. StateOf model old.learn (record put { held = held }) later old.trail old.search.nodes in
        let state : C (set (held_by old.clauses) id.0 (Some clause)) = record {
          core = Core-more core (Resolve clause ids) accepted put stocked old.trail refl (IsReasoned-put held id clause free (known_in (stock_of old)).stacked old.trail core.reasoned) conflicts;
          plain = λ in_plain. absurd (not_plain old.learn first in_plain);
        } in
        record {
          state = record {
            state = subst C (sym held_is) state;
            watching = keeps.watching old.trail h.watching;
            order = order-step h.order (Resolve clause ids) refl room refl (old.steps + 1) refl;
          };
          trail = refl;
          tally = refl;
        }
