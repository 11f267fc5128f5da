-- What a flag tells, and numbers that have the same bits.
use Rattle.std.proofs.Common.{◌≡◌, Bool, true, false, sym, ap, ◌∙◌, ℤ, FitsSigned, w64, to_z, of_z, MatchBool}
use Rattle.std.proofs.lemmas.Int.{to_z-of_z}

pub either : {A B C D : Type 0} (b : Bool) → (A → C) → (B → D) → MatchBool b A B → MatchBool b C D
either true f g h = f h
either false f g h = g h

pub same_of : (a b : ℤ) → FitsSigned w64 a → FitsSigned w64 b → of_z w64 a ≡ of_z w64 b → a ≡ b
same_of a b f g e = sym (to_z-of_z w64 a f) ∙ ap (to_z w64) e ∙ to_z-of_z w64 b g
