-- From position to position.
use Rattle.std.proofs.Common.{◌≡◌, ℕ, zero, suc, ◌+◌, ◌-◌, ◌≤◌, List, [], ◌∷◌, ◌++◌, take, drop, ap, ◌∙◌, arith}
use Rattle.fzn_lexer.specs.declared.token.Position.{Position}
use Rattle.fzn_lexer.specs.Positions.{position_after}
use Rattle.fzn_lexer.specs.Steps.{Moves}

pub take_two : (bytes : List ℕ) (from n : ℕ) → take from bytes ++ take n (drop from bytes) ≡ take (from + n) bytes
take_two bytes zero n = let e : 0 + n ≡ n = omega arith in rw e
take_two [] (suc from) zero = let e : suc from + 0 ≡ suc from = omega arith in rw e
take_two [] (suc from) (suc n) = let e : suc from + suc n ≡ suc (from + suc n) = omega arith in rw e
take_two (b ∷ more) (suc from) n = let e : suc from + n ≡ suc (from + n) = omega arith in rw e (ap (λ (z : List ℕ). b ∷ z) (take_two more from n))

-- a position that is known, and the bytes from there on
pub walked : (bytes : List ℕ) (from to : ℕ) (position next : Position) → from ≤ to → position ≡ position_after (take from bytes) → Moves position (take (to - from) (drop from bytes)) next → next ≡ position_after (take to bytes)
walked bytes from to position next le is moves =
    let e : from + (to - from) ≡ to = omega arith in
    moves (take from bytes) is ∙ ap position_after (take_two bytes from (to - from) ∙ ap (λ (n : ℕ). take n bytes) e)

-- the front of all bytes
pub from_start : (bytes : List ℕ) (n : ℕ) (start next : Position) → start ≡ position_after [] → Moves start (take n bytes) next → next ≡ position_after (take n bytes)
from_start bytes n start next is moves = moves [] is
