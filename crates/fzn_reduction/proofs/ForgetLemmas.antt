-- A held clause that is neither a reason nor a cut may be forgotten.
use Rattle.std.proofs.Common.{◌≡◌, ◌≢◌, ℕ, zero, suc, ◌<◌, Bool, false, List, [], ◌∷◌, length, get_or, set, None, is_some, refl, sym, ap, ◌∙◌, subst, inl, inr}
use Rattle.std.specs.Prelude.{IsSome}
use Rattle.std.proofs.lemmas.Bool.{cases_Bool, cases_eq, false≢true}
use Rattle.std.proofs.lemmas.List.{length-set, get_or-set_other}
use Rattle.std.proofs.lemmas.List.Elements.{All-weaker}
use Rattle.fzn_trail.specs.declared.trail.ClauseId.{ClauseId}
use Rattle.fzn_trail.specs.declared.trail.Entry.{Entry}
use Rattle.fzn_trail.specs.declared.trail.Antecedent.TheVariants.{Clause}
use Rattle.fzn_trail.specs.declared.trail.Reason.TheVariants.{Implied}
use Rattle.fzn_trail.specs.Levels.{Levels}
use Rattle.fzn_clauses.specs.declared.clauses.Clauses.{Clauses}
use Rattle.fzn_clauses.specs.Held.{Held, IsHeld, at_number}
use Rattle.fzn_clauses.specs.Kept.{KeepsWatching}
use Rattle.fzn_clauses.specs.Watching.{held_by}
use Rattle.fzn_reduction.specs.Forgetting.{IsFlagged, AreFlagged, is_cut, IsIdle, HasForgotten}

none_at : (held : Held) (k : ℕ) → get_or (set held k None) k None ≡ None
none_at [] zero = refl
none_at [] (suc k) = refl
none_at (x ∷ held) zero = refl
none_at (x ∷ held) (suc k) = none_at held k

-- a number under which nothing is held is not that of a held clause
other_id : (held : Held) (gone id : ClauseId) → IsHeld (set held gone.0 None) id → id.0 ≢ gone.0
other_id held gone id is same = false≢true (subst IsSome (ap (λ (n : ℕ). get_or (set held gone.0 None) n None) same ∙ none_at held gone.0) is)

module _ {trail : Levels} {cuts : List Bool} where
  -- the same clauses are watched otherwise
  pub forgotten-swept : {old new : Clauses} → held_by new ≡ held_by old → KeepsWatching old new → HasForgotten trail cuts old new
  forgotten-swept {old} {new} same keeps =
      let at : (id : ClauseId) → at_number (held_by new) id ≡ at_number (held_by old) id = λ id. ap (λ (held : Held). at_number held id) same in
      record {
        size = ap length same;
        left = λ id is. at id;
        gone = λ id was is_not. absurd (is_not (subst IsSome (sym (at id)) was));
        watching = keeps;
      }

  pub forgotten-nothing : (clauses : Clauses) → HasForgotten trail cuts clauses clauses
  forgotten-nothing clauses = forgotten-swept {old = clauses} {new = clauses} refl (record { watching = λ levels watching. watching })

  pub forgotten-through : {old mid new : Clauses} → HasForgotten trail cuts old mid → HasForgotten trail cuts mid new → HasForgotten trail cuts old new
  forgotten-through {old} {mid} {new} a b = record {
    size = b.size ∙ a.size;
    left = λ id is. b.left id is ∙ a.left id (subst IsSome (b.left id is) is);
    gone = λ id was is_not. elim (cases_Bool (is_some (at_number (held_by mid) id))) [
      | inl held ↦ b.gone id held is_not
      | inr not ↦ a.gone id was (λ held. false≢true (sym not ∙ held))
    ];
    watching = record { watching = λ levels watching. b.watching.watching levels (a.watching.watching levels watching) };
  }

  -- one clause is gone
  pub forgotten-one : {old new : Clauses} (gone : ClauseId) → IsIdle trail cuts gone → held_by new ≡ set (held_by old) gone.0 None → KeepsWatching old new → HasForgotten trail cuts old new
  forgotten-one {old} {new} gone idle held_is keeps =
      let at : (id : ClauseId) → id.0 ≢ gone.0 → at_number (held_by new) id ≡ at_number (held_by old) id = λ id apart.
      ap (λ (held : Held). at_number held id) held_is ∙ get_or-set_other (held_by old) gone.0 id.0 None None apart in
      record {
        size = ap length held_is ∙ length-set (held_by old) gone.0 None;
        left = λ id is. at id (other_id (held_by old) gone id (subst (λ (held : Held). IsHeld held id) held_is is));
        gone = λ id was is_not. elim (cases_eq id.0 gone.0) [
          | inl same ↦ subst (λ (n : ℕ). IsIdle trail cuts (record { 0 = n })) (sym same) idle
          | inr apart ↦ absurd (is_not (subst IsSome (sym (at id apart)) was))
        ];
        watching = keeps;
      }

  -- a clause without a flag is no reason
  pub unflagged-idle : (flags : List Bool) (id : ClauseId) → (id.0 < length flags) × (get_or flags id.0 false ≡ false) → AreFlagged flags trail → is_cut cuts id ≡ false → IsIdle trail cuts id
  unflagged-idle flags id (within, clear) flagged no_cut = record {
    no_reason = All-weaker (λ (entry : Entry). IsFlagged flags entry.reason) (λ (entry : Entry). entry.reason ≢ Implied (Clause id))
        (λ entry has same. false≢true (sym clear ∙ (subst (IsFlagged flags) same has) within)) trail.entries flagged;
    no_cut = no_cut;
  }
