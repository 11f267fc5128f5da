-- Forced assertions in a row.
use Rattle.std.proofs.Common.{◌≡◌, ℕ, ◌≤◌, List, length, refl, arith}
use Rattle.fzn_domain.specs.Narrow.{IsVariable}
use Rattle.fzn_meaning.specs.declared.model.Model.{Model}
use Rattle.fzn_cert.specs.declared.step.Step.{Step}
use Rattle.fzn_trail.specs.declared.trail.Antecedent.TheVariants.{Clause}
use Rattle.fzn_trail.specs.Levels.{Levels}
use Rattle.fzn_clauses.specs.Propagation.{Forced, IsForcedByClause, IsPropagated}
use Rattle.fzn_clauses.proofs.CallerLemmas.{after, variable-forcing, Propagates-keeps}
use Rattle.fzn_strategy.specs.declared.learn.Learn.{Learn}
use Rattle.fzn_learned.proofs.CallerLemmas.{IsReasoned-marked, IsReasoned-forced}
use Rattle.fzn_state.specs.State.{Stock, known_in, StateOf}
use Rattle.fzn_state.specs.Search.{work}
use Rattle.fzn_state.proofs.VolumeLemmas.{slack-narrowed_le}
use Rattle.fzn_state.proofs.StateLemmas.{Core-moved}
use Rattle.fzn_state.proofs.ChangeLemmas.{State-asserted}

module _ (model : Model) (learn : Learn) (stock : Stock) (steps : List Step) (nodes : ℕ) where
  State-marked : (trail : Levels) (mark : ℕ) → StateOf model learn stock steps trail nodes → StateOf model learn stock steps (record trail { mark = mark }) nodes
  State-marked trail mark h = record {
    core = Core-moved h.core (record trail { mark = mark }) nodes refl (IsReasoned-marked (known_in stock) trail mark h.core.reasoned) (omega arith);
    plain = h.plain;
  }

  State-forced : (trail : Levels) (forced : Forced) → IsForcedByClause stock.held trail.sets forced → StateOf model learn stock steps trail nodes → StateOf model learn stock steps (after forced trail) nodes
  State-forced trail forced forcing h =
      let sizes : IsVariable (length trail.declared) forced.lit.var = variable-forcing stock.held trail.sets (length trail.declared) forced h.core.held_over forcing in
      State-asserted h forced.lit (Clause forced.id)
      (IsReasoned-forced (known_in stock) trail forced.lit (Clause forced.id) h.core.reasoned sizes (forcing.is_held, (forcing.unit.only, forcing.unit.not_yet_true)))

  -- what holds of the search is kept, no more work is left, and the levels are the same
  pub record IsKept (old new : Levels) : Type 0 where
    pub state : StateOf model learn stock steps new nodes
    pub less : (limit : ℕ) → work limit nodes new ≤ work limit nodes old
    pub saved : new.saved ≡ old.saved

  no_more : (limit : ℕ) (trail : Levels) (forced : Forced) → work limit nodes (after forced trail) ≤ work limit nodes trail
  no_more limit trail forced = let one = slack-narrowed_le trail.sets forced.lit in omega arith

  pub State-propagated : (old new : Levels) → IsPropagated stock.held old new → StateOf model learn stock steps old nodes → IsKept old new
  State-propagated old new run h =
      Propagates-keeps stock.held (λ (t : Levels). IsKept old t)
      (λ t mark k. record { state = State-marked t mark k.state; less = k.less; saved = k.saved })
      (λ t forced forcing k. record {
        state = State-forced t forced forcing k.state;
        less = λ limit. let before = k.less limit in let one = no_more limit t forced in le_by one before;
        saved = k.saved;
      })
      old run.0 new run.1 (record { state = h; less = λ limit. omega arith; saved = refl })
    where
      le_by : {a b c : ℕ} → a ≤ b → b ≤ c → a ≤ c
      le_by h k = omega arith
