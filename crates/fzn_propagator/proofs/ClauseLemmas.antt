-- Clauses that grow by literals, what they say of denied sets, and what justifies them.
use Rattle.std.proofs.Common.{◌≡◌, true, false, List, [], ◌∷◌, ◌++◌, length, refl, sym, subst, ◌∙◌, inl, inr, arith, ℤ, None}
use Rattle.std.proofs.lemmas.Int.{ints}
use Rattle.std.proofs.lemmas.Bool.{cases_Bool}
use Rattle.std.proofs.lemmas.List.Elements.{All-nil, All-push}
use Rattle.std.proofs.lemmas.Option.{none-some}
use Rattle.fzn_domain.specs.declared.literal.Lit.{Lit}
use Rattle.fzn_domain.specs.Literal.{negated}
use Rattle.fzn_domain.specs.IntSet.{IntSet, is_possible}
use Rattle.fzn_domain.specs.Limits.{IsInLimits}
use Rattle.fzn_domain.specs.Narrow.{IsVariable, IsClauseOver, set_of, denied, is_some_empty}
use Rattle.fzn_domain.proofs.NarrowLemmas.{length-denied}
use Rattle.fzn_meaning.specs.declared.constraint.Constraint.{Constraint}
use Rattle.fzn_builtin_rules.specs.Form.{form_of}
use Rattle.fzn_rules.specs.declared.rule.Rule.{Rule}
use Rattle.fzn_rules.specs.Rules.{IsMet}
use Rattle.fzn_trail.specs.Levels.{Levels}
use Rattle.fzn_propagator.specs.Clause.{IsWritable, IsFalseClause, IsForcing, AreLeftByClause, Says, IsJustifiedBy, IsJustified}
use Rattle.fzn_propagator.specs.Inference.{IsHint, HoldsWhereFixed, IsInferredOut}
use Rattle.fzn_propagator.proofs.LeftLemmas.{left_of_may, left_of_more, none_left}

-- ---- on the trail

-- no literal
pub false_of_none : (trail : Levels) (clause : List Lit) → clause ≡ [] → IsFalseClause trail clause
false_of_none trail clause none =
    subst (IsFalseClause trail) (sym none) (record { over = All-nil (λ (l : Lit). IsVariable (length trail.declared) l.var); writable = All-nil IsWritable; impossible = refl })

pub forcing_of_false : (trail : Levels) (clause : List Lit) → IsFalseClause trail clause → IsForcing trail clause
forcing_of_false trail clause still = record { over = still.over; writable = still.writable; forces = inl still.impossible }

module _ (trail : Levels) (clause : List Lit) (lit : Lit) (still : IsFalseClause trail clause) (variable : IsVariable (length trail.declared) lit.var) (writable : IsWritable lit) where
  -- one more literal, which is false
  pub false_push : is_possible (set_of trail.sets lit.var) lit ≡ false → IsFalseClause trail (clause ++ lit ∷ [])
  false_push impossible = record {
    over = All-push (λ (l : Lit). IsVariable (length trail.declared) l.var) clause lit still.over variable;
    writable = All-push IsWritable clause lit still.writable writable;
    impossible = none_left trail.sets clause lit false still.impossible impossible;
  }

  -- one more literal, which is not true yet
  pub forcing_push : is_possible (set_of trail.sets lit.var) (negated lit) ≡ true → IsForcing trail (clause ++ lit ∷ [])
  forcing_push may_fail = record {
    over = All-push (λ (l : Lit). IsVariable (length trail.declared) l.var) clause lit still.over variable;
    writable = All-push IsWritable clause lit still.writable writable;
    forces = elim (cases_Bool (is_possible (set_of trail.sets lit.var) lit)) [
      | inl possible ↦ inr (lit, record { only = none_left trail.sets clause lit true still.impossible possible; not_yet_true = may_fail })
      | inr impossible ↦ inl (none_left trail.sets clause lit false still.impossible impossible)
    ];
  }

-- ---- on denied sets

-- sets that the longer clause leaves
pub left-more : (declared : List IntSet) (clause more : List Lit) (sets : List IntSet) → AreLeftByClause declared (clause ++ more) sets → AreLeftByClause declared clause sets
left-more declared clause more sets all = record {
  one_each = all.one_each;
  filled = all.filled;
  left = λ term v fits may. left_of_more declared clause more term v (all.left term v fits may);
}

-- the denied sets are so left
pub left_denied : (declared : List IntSet) (clause : List Lit) → IsClauseOver (length declared) clause → is_some_empty (denied declared clause) ≡ false → AreLeftByClause declared clause (denied declared clause)
left_denied declared clause over filled = record {
  one_each = length-denied clause declared;
  filled = filled;
  left = λ term v fits may. left_of_may clause declared term v over may;
}

-- ---- by a rule

-- what holds of the denied sets meets it
pub justified_by : (trail : Levels) (constraint : Constraint) (rule : Rule) (clause : List Lit) (IsMetOn : List IntSet → Type 0) → ((sets : List IntSet) → IsMetOn sets → IsMet constraint sets rule) → IsJustifiedBy trail IsMetOn clause → IsJustified trail constraint rule clause
justified_by trail constraint rule clause IsMetOn so by = record {
  forcing = by.forcing;
  accepted = elim (cases_Bool (is_some_empty (denied trail.declared clause))) [
    | inl empty ↦ inl empty
    | inr filled ↦ inr (so (denied trail.declared clause) (by.met filled))
  ];
}

-- the clause says that it is met
pub justified_where : (trail : Levels) (constraint : Constraint) (rule : Rule) (clause : List Lit) → IsForcing trail clause → Says trail.declared clause (λ sets. IsMet constraint sets rule) → IsJustified trail constraint rule clause
justified_where trail constraint rule clause forcing says =
    justified_by trail constraint rule clause (λ sets. IsMet constraint sets rule) (λ sets met. met)
    (record { forcing = forcing; met = λ filled. says (denied trail.declared clause) (left_denied trail.declared clause forcing.over filled) })

pub hint_of : (v : ℤ) → IsInLimits v → IsHint v
hint_of v limits = (omega (arith, ints, limits.0), omega (arith, ints, limits.1))

-- ---- by the law of propagators

-- a constraint that is no sum
pub exhausted : (trail : Levels) (C constraint : Constraint) → form_of C ≡ None → C ≡ constraint → HoldsWhereFixed trail C → IsInferredOut constraint trail
exhausted trail C constraint no_form same holds =
    subst (λ (x : Constraint). IsInferredOut x trail) same (record {
      holds = holds;
      strong = λ form is. absurd (none-some form (sym no_form ∙ is));
      none_barred = λ form is. absurd (none-some form (sym no_form ∙ is));
    })
