-- What reading the last line gives.
use Rattle.std.proofs.Common.{◌≡◌, ℕ, Bool, true, false, List, [], ◌∷◌, ◌++◌, sym, ◌∙◌}
use Rattle.std.specs.Prelude.{codes}
use Rattle.std.specs.Str.{bytes_eq}
use Rattle.std.proofs.lemmas.List.{same_from_push}
use Rattle.std.proofs.lemmas.Slice.Eq.{bytes_eq-Decides}
use Rattle.fzn_cert.specs.Spelling.{end_line}

pub false_true : false ≡ true → ⊥
false_true e = cc

pub no_end : (line : List ℕ) → bytes_eq line (codes "e closed") ≡ false → bytes_eq line (codes "e open") ≡ false → (closed : Bool) → line ++ 10 ∷ [] ≡ end_line closed → ⊥
no_end line h k true e = false_true (sym h ∙ (bytes_eq-Decides line (codes "e closed")).1 (same_from_push line (codes "e closed") 10 10 e).0)
no_end line h k false e = false_true (sym k ∙ (bytes_eq-Decides line (codes "e open")).1 (same_from_push line (codes "e open") 10 10 e).0)
