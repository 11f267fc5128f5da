-- What stands in front of steps where lines of the head are left out.
use Rattle.std.proofs.Common.{◌≡◌, ◌≢◌, ℕ, List, Option, Some, None, Result, Ok, Err, sym, subst}
use Rattle.fzn_lexer.specs.declared.fault.Fault.{Fault}
use Rattle.fzn_lexer.specs.declared.halt.Halt.{Halt}
use Rattle.fzn_lexer.specs.declared.halt.Halt.TheVariants as errors
use Rattle.fzn_meaning.specs.declared.model.Model.{Model}
use Rattle.fzn_meaning.specs.WellFormed.{IsWellFormed}
use Rattle.fzn_reading.specs.Reads.{Reads}
use Rattle.fzn_head.specs.Opening.{IsDerivedOpening}
use Rattle.fzn_head.proofs.CallerLemmas.{formed-after}

-- ---- the model is that of the bytes

no-model : (m : Model) → ◌≢◌ {A = Result Model (Halt Fault)} (Ok m) (Err errors.Memory)
no-model m e = cc

same-model : (m n : Model) → ◌≡◌ {A = Result Model (Halt Fault)} (Ok m) (Ok n) → m ≡ n
same-model m n e = cc

pub one-stated : ((bytes : List ℕ) (x y : Result Model (Halt Fault)) → Reads bytes x → Reads bytes y → x ≢ Err errors.Memory → y ≢ Err errors.Memory → x ≡ y)
    → (bytes : List ℕ) (m n : Model) → Reads bytes (Ok m) → Reads bytes (Ok n) → m ≡ n
one-stated one bytes m n x y = same-model m n (one bytes (Ok m) (Ok n) x y (no-model m) (no-model n))

-- ---- the model with what is derived

pub opened-formed : (model after : Model) (opening : Option (List ℕ)) → IsWellFormed model → IsDerivedOpening model after opening → IsWellFormed after
opened-formed model after None formed same = subst IsWellFormed (sym same) formed
opened-formed model after (Some text) formed opens = formed-after model after opens.read formed opens.room opens.extends
