-- What stands on a writer after a flush.
use Rattle.std.proofs.Common.{◌≡◌, ℕ, List, [], ◌++◌, Option, Some, None, Ok, Err, sym, subst, ◌∙◌, append-nil}
use Rattle.std.specs.Prelude.{Result}
use Rattle.std.specs.Io.KnownBytes.{Appends, Keeps}
use Rattle.fzn_streams.specs.Output.{Puts}
use Rattle.fzn_streams.proofs.CallerLemmas.{front-none, Puts-last}

kept-nothing : (b c : Option (List ℕ)) → Keeps b c → Appends b c []
kept-nothing None c k = tt
kept-nothing (Some p) None k = absurd k
kept-nothing (Some p) (Some q) k = k ∙ sym (append-nil p)

nothing-put : {A E : Type 0} (b c : Option (List ℕ)) (r : Result A E) → Keeps b c → Puts b c r []
nothing-put b c (Ok v) k = kept-nothing b c k
nothing-put b c (Err e) k = front-none b c [] k

pub Puts-flushed : {A E : Type 0} (a b c : Option (List ℕ)) (r : Result A E) (x : List ℕ) → Appends a b x → Keeps b c → Puts a c r x
Puts-flushed a b c r x h k = subst (λ (t : List ℕ). Puts a c r t) (append-nil x) (Puts-last a b c r x [] h (nothing-put b c r k))
