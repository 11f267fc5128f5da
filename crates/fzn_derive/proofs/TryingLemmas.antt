-- Derivations that are tried, one after another.
use Rattle.std.proofs.Common.{◌≡◌, ◌≢◌, ◌↔◌, ◌⊎◌, List, [], ◌∷◌, ◌++◌, length, Bool, Result, Ok, Err, IfOk, IfErr, OnOk, IsOk, IsTrue, refl, sym, subst, inl, inr, arith, ◌∙◌}
use Rattle.std.specs.List.{All, Contains}
use Rattle.std.proofs.lemmas.Bool.{true≢false}
use Rattle.std.proofs.lemmas.List.Elements.{All-push, All-weaker, All-contains_itself, Contains-append_left, Contains-push}
use Rattle.fzn_domain.specs.IntSet.{IntSet}
use Rattle.fzn_meaning.specs.declared.constraint.Constraint.{Constraint}
use Rattle.fzn_derive.specs.declared.derivation.Derivation.{Derivation}
use Rattle.fzn_cited.specs.declared.fault.DeriveFault.{DeriveFault}
use Rattle.fzn_cited.specs.declared.fault.DeriveFault.TheVariants.{Memory}
use Rattle.fzn_derive.specs.Derived.{IsDerivedBy, IsDerivable, IsDeriveFault}
use Rattle.fzn_derive.proofs.DerivedLaws.{no-derive_fault}

-- there is a constraint just where one was made, unless memory ran out
pub gives-made : {E : Type 0} (given : List Constraint) (declared : List IntSet) (derivation : Derivation) (outcome : Result Constraint DeriveFault) (made : Result Bool E)
    → IfOk outcome (IsDerivedBy given declared derivation)
    → IfErr outcome (λ (fault : DeriveFault). (fault ≡ Memory) ⊎ IsDeriveFault given declared derivation fault)
    → IfOk made (λ (m : Bool). IsTrue m ↔ IsOk outcome)
    → OnOk made (IfErr outcome (λ (fault : DeriveFault). fault ≢ Memory))
    → IfOk made (λ (m : Bool). IsTrue m ↔ IsDerivable given declared derivation)
gives-made given declared derivation outcome (Err e) derived fault is known = tt
gives-made given declared derivation (Ok constraint) (Ok m) derived fault is known = (λ _. (constraint, derived), λ _. is.1 refl)
gives-made given declared derivation (Err f) (Ok m) derived (inl memory) is known = absurd (known memory)
gives-made given declared derivation (Err f) (Ok m) derived (inr wrong) is known = (λ yes. absurd (true≢false (sym (is.0 yes))), λ some. absurd (no-derive_fault given declared derivation some.0 f some.1 wrong))

-- of those that were tried just those are kept that give a constraint
pub record AreTried (given : List Constraint) (declared : List IntSet) (tried kept : List Derivation) : Type 0 where
  pub derivable : All (IsDerivable given declared) kept
  pub candidates : All (Contains tried) kept
  pub each : All (λ (d : Derivation). IsDerivable given declared d → Contains kept d) tried

module _ (given : List Constraint) (declared : List IntSet) where
  pub tried-kept : (tried kept : List Derivation) (d : Derivation) → AreTried given declared tried kept → IsDerivable given declared d → AreTried given declared (tried ++ d ∷ []) (kept ++ d ∷ [])
  tried-kept tried kept d before derivable = record {
    derivable = All-push (IsDerivable given declared) kept d before.derivable derivable;
    candidates = All-push (Contains (tried ++ d ∷ [])) kept d
        (All-weaker (Contains tried) (Contains (tried ++ d ∷ [])) (λ x has. Contains-append_left tried (d ∷ []) x has) kept before.candidates)
        (Contains-push tried d);
    each = All-push (λ (x : Derivation). IsDerivable given declared x → Contains (kept ++ d ∷ []) x) tried d
        (All-weaker (λ (x : Derivation). IsDerivable given declared x → Contains kept x) (λ (x : Derivation). IsDerivable given declared x → Contains (kept ++ d ∷ []) x)
        (λ x has is. Contains-append_left kept (d ∷ []) x (has is)) tried before.each)
        (λ is. Contains-push kept d);
  }

  pub tried-left : (tried kept : List Derivation) (d : Derivation) → AreTried given declared tried kept → (IsDerivable given declared d → ⊥) → AreTried given declared (tried ++ d ∷ []) kept
  tried-left tried kept d before not = record {
    derivable = before.derivable;
    candidates = All-weaker (Contains tried) (Contains (tried ++ d ∷ [])) (λ x has. Contains-append_left tried (d ∷ []) x has) kept before.candidates;
    each = All-push (λ (x : Derivation). IsDerivable given declared x → Contains kept x) tried d before.each (λ is. absurd (not is));
  }
