-- What stands whole on a writer, and stays.
use Rattle.std.proofs.Common.{ℕ, List, length, Option, Some, None, ◌∙◌, arith}
use Rattle.std.specs.Io.KnownBytes.{Appends, Keeps}
use Rattle.std.proofs.Math.Seq.{take-length}
use Rattle.fzn_streams.specs.Output.{AppendsFront}

-- what stands whole, and stays, is a beginning of itself
pub AppendsFront_whole : (a b c : Option (List ℕ)) (xs : List ℕ) → Appends a b xs → Keeps b c → AppendsFront a c xs
AppendsFront_whole a b c xs h k = (length xs, omega arith, rw (take-length xs) (then_kept a b c xs h k))
  where
    then_kept : (a b c : Option (List ℕ)) (xs : List ℕ) → Appends a b xs → Keeps b c → Appends a c xs
    then_kept None b c xs h k = tt
    then_kept (Some p) None c xs h k = absurd h
    then_kept (Some p) (Some q) None xs h k = absurd k
    then_kept (Some p) (Some q) (Some r) xs h k = k ∙ h
