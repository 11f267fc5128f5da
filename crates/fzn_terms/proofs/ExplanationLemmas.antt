-- Clauses that grow claim by claim, claims that are true of no declared value, and claims of which one is true.
use Rattle.std.proofs.Common.{◌≡◌, ◌↔◌, ◌+◌, ℕ, ◌<◌, Bool, false, not, IsTrue, List, [], ◌∷◌, ◌++◌, length, take, get_or, sym, ap, subst, ◌∙◌, inl, inr, ℤ, Option, Some, None, Result, Ok, Err, All, IfOk, IfSome}
use Rattle.std.proofs.lemmas.Bool.{cases_Bool, true≢false, not-true, not_from_false}
use Rattle.std.proofs.lemmas.List.Elements.{All-push, All-more}
use Rattle.fzn_domain.specs.declared.literal.VarId.{VarId}
use Rattle.fzn_domain.specs.declared.literal.Lit.{Lit}
use Rattle.fzn_domain.specs.Literal.{compares, is_true_at}
use Rattle.fzn_domain.specs.IntSet.{IntSet, is_possible}
use Rattle.fzn_domain.specs.Narrow.{IsVariable, IsClauseOver, set_of}
use Rattle.fzn_domain.proofs.SetLemmas.{is_true_at-negated, possible_when, impossible_when}
use Rattle.fzn_values.specs.declared.term.Term.{Term}
use Rattle.fzn_values.specs.declared.term.Term.TheVariants.{Constant, Variable}
use Rattle.fzn_meaning.specs.declared.constraint.Constraint.{Constraint}
use Rattle.fzn_values.specs.Term.{IsTerm}
use Rattle.fzn_rules.specs.declared.rule.Rule.{Rule}
use Rattle.fzn_sets.specs.Terms.{MayBe}
use Rattle.fzn_trail.specs.Levels.{Levels}
use Rattle.fzn_propagator.specs.Clause.{Says, IsJustified}
use Rattle.fzn_propagator.specs.Left.{IsLeft}
use Rattle.fzn_propagator.proofs.CallerLemmas.{last_fails, left-more, justified_where}
use Rattle.fzn_terms.specs.declared.claim.Claim.{Claim}
use Rattle.fzn_terms.specs.Denied.{claim_turned_round, IsDenied, Refute, IsSaid, ExplainsClaims}

-- ---- one more literal

abbrev pub literal_of : Claim → VarId → Lit
literal_of claim var = record { var = var; op = claim.op; value = claim.number }

-- a value that a clause leaves is a declared one
may_of_left : (declared : List IntSet) (clause : List Lit) (term : Term) (v : ℤ) → IsLeft declared clause term v → MayBe declared term v
may_of_left declared clause (Constant k) v left = sym left
may_of_left declared clause (Variable var) v left = left.0

module _ (declared : List IntSet) (claim : Claim) where
  -- whether it is true of no declared value
  pub never_variable : (var : VarId) (r : Bool) → claim.term ≡ Variable var → r ≡ not (is_possible (set_of declared var) (literal_of claim var)) → IsTrue r ↔ IsDenied declared claim
  never_variable var r of is = (
    λ told v may.
        elim (cases_Bool (compares claim.op v claim.number)) [
          | inl holds ↦ absurd (true≢false (sym (possible_when (set_of declared var) (literal_of claim var) v (subst (λ (t : Term). MayBe declared t v) of may) holds) ∙ not-true _ (sym is ∙ told)))
          | inr fails ↦ fails
        ],
    λ denied. is ∙ not_from_false _ (impossible_when (set_of declared var) (literal_of claim var) (λ v here. denied v (subst (λ (t : Term). MayBe declared t v) (sym of) here))),
  )

  module _ (old : List Lit) (over : IsClauseOver (length declared) old) where
    -- nothing is to be added
    pub said_never : IsTerm (length declared) claim.term → IsDenied declared claim → IsSaid declared claim old old
    said_never fits denied = record {
      over = over;
      keeps = λ sets left. left;
      denies = λ sets left v may. denied v (may_of_left declared old claim.term v (left.left claim.term v fits may));
    }

    pub said_push : (var : VarId) → claim.term ≡ Variable var → IsVariable (length declared) var → IsSaid declared claim old (old ++ literal_of claim var ∷ [])
    said_push var of variable = record {
      over = All-push (λ (l : Lit). IsVariable (length declared) l.var) old (literal_of claim var) over variable;
      keeps = λ sets left. left-more declared old (literal_of claim var ∷ []) sets left;
      denies = λ sets left v may.
          last_fails declared old (literal_of claim var) v (left.left (Variable var) v variable (subst (λ (t : Term). MayBe sets t v) of may));
    }

-- ---- one more claim

pub says_more : (declared : List IntSet) (claims : List Claim) (i : ℕ) (d : Claim) (old new : List Lit) → i < length claims → Says declared old (λ sets. All (IsDenied sets) (take i claims)) → IsSaid declared (get_or claims i d) old new → Says declared new (λ sets. All (IsDenied sets) (take (i + 1) claims))
says_more declared claims i d old new below before said sets left = All-more (IsDenied sets) claims i d below (before sets (said.keeps sets left)) (said.denies sets left)

-- ---- what becomes of a clause

-- where the claims are denied the rule is met
pub justified : (trail : Levels) (claims : List Claim) (constraint : Constraint) (rule : Rule) → Refute (length trail.declared) claims constraint rule → (clause : List Lit) → ExplainsClaims trail claims clause → IsJustified trail constraint rule clause
justified trail claims constraint rule refute clause explains =
    justified_where trail constraint rule clause explains.forcing (λ sets left. refute sets (record { one_each = left.one_each; filled = left.filled; denied = explains.denies sets left }))

-- so it is of the clause that is found, if any
pub justified_found : {E : Type 0} (found : Result (Option (List Lit)) E) (trail : Levels) (claims : List Claim) (constraint : Constraint) (rule : Rule) → Refute (length trail.declared) claims constraint rule → IfOk found (λ o. IfSome o (ExplainsClaims trail claims)) → IfOk found (λ o. IfSome o (IsJustified trail constraint rule))
justified_found (Ok (Some clause)) trail claims constraint rule refute explains = justified trail claims constraint rule refute clause explains
justified_found (Ok None) trail claims constraint rule refute explains = explains
justified_found (Err e) trail claims constraint rule refute explains = explains

-- a value of which a claim and its claim_turned_round are both denied
pub are_opposite : (sets : List IntSet) (claim : Claim) (term : Term) → IsDenied sets claim → IsDenied sets (claim_turned_round claim term) → (v : ℤ) → MayBe sets claim.term v → MayBe sets term v → ⊥
are_opposite sets claim term one other v may also =
    let first : is_true_at (literal_of claim (record { 0 = 1 })) v ≡ false = one v may in
    let second = other v also in
    true≢false (ap not (sym first) ∙ sym (is_true_at-negated (literal_of claim (record { 0 = 1 })) v) ∙ second)
