-- One piece of a text behind another.
use Rattle.std.proofs.Common.{◌≡◌, ℕ, List, ◌++◌, Ok, Err, ap, ◌∙◌, append_assoc}
use Rattle.std.specs.Prelude.{Result, OnOk}

pub behind_eq : (a b c x y : List ℕ) → b ≡ a ++ x → c ≡ b ++ y → c ≡ a ++ (x ++ y)
behind_eq a b c x y h k = k ∙ ap (λ (t : List ℕ). t ++ y) h ∙ append_assoc a x y

-- the same where the last call tells how it went
pub behind : {A E : Type 0} (r : Result A E) (a b c x y : List ℕ) → b ≡ a ++ x → OnOk r (c ≡ b ++ y) → OnOk r (c ≡ a ++ (x ++ y))
behind (Ok v) a b c x y h k = behind_eq a b c x y h k
behind (Err e) a b c x y h k = tt
