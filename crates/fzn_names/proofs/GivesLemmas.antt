-- Answers for one part among other parts.
use Rattle.std.proofs.Common.{◌≡◌, List, [], ◌++◌, Result, Ok, Err, IsErrAnd, refl, ap, subst, sym}
use Rattle.fzn_lexer.specs.declared.fault.Fault.{Fault}
use Rattle.fzn_lexer.specs.declared.halt.Halt.{Halt}
use Rattle.fzn_lexer.specs.declared.halt.Halt.TheVariants as errors
use Rattle.fzn_names.specs.Given.{Gives}
use Rattle.fzn_names.proofs.CallerLemmas.{first-append_some}

pub err_is : {A : Type 0} (result : Result A (Halt Fault)) (e : Halt Fault) → IsErrAnd result (λ x. x ≡ e) → result ≡ Err e
err_is (Ok value) e h = absurd h
err_is (Err x) e h = ap (λ y. Err y) h

module _ {A B : Type 0} (P : A → Type 0) (Q : B → Type 0) where
  -- a fault of the first part is one of the whole
  pub Gives-first : (part behind : List Fault) (e : Halt Fault) → Gives part P (Err e) → Gives (part ++ behind) Q (Err e)
  Gives-first part behind errors.Memory h = tt
  Gives-first part behind (errors.Fault fault) h = first-append_some part behind fault h

  -- and so is one behind parts without a fault
  pub Gives-behind : (before part : List Fault) (e : Halt Fault) → before ≡ [] → Gives part P (Err e) → Gives (before ++ part) Q (Err e)
  Gives-behind before part errors.Memory none h = tt
  Gives-behind before part (errors.Fault fault) none h = rw none h

  -- what the first part answers in place of a value
  pub Gives-err_first : (part behind : List Fault) (e : Halt Fault) (result : Result B (Halt Fault)) → Gives part P (Err e) → IsErrAnd result (λ x. x ≡ e) → Gives (part ++ behind) Q result
  Gives-err_first part behind e result h is = subst (λ r. Gives (part ++ behind) Q r) (sym (err_is result e is)) (Gives-first part behind e h)

module _ {B : Type 0} (P Q : B → Type 0) where
  -- what the last part answers, behind parts without a fault
  pub Gives-last : (before part : List Fault) (result : Result B (Halt Fault)) → before ≡ [] → ((x : B) → P x → Q x) → Gives part P result → Gives (before ++ part) Q result
  Gives-last before part (Ok x) none f h = (rw (none, h.0) refl, f x h.1)
  Gives-last before part (Err errors.Memory) none f h = tt
  Gives-last before part (Err (errors.Fault fault)) none f h = rw none h
