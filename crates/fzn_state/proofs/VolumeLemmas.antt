-- What one narrowed set does to the choices and to the slack.
use Rattle.std.proofs.Common.{◌≡◌, ℕ, zero, suc, ◌+◌, ◌-◌, ◌*◌, ◌<◌, ◌≤◌, Bool, true, cond, List, [], ◌∷◌, length, get_or, set, ap, arith, nat_eq, inl, inr}
use Rattle.std.proofs.lemmas.Bool.{eq-eqb, or_left, or_right, eqb-true, or_cases, ltb-true}
use Rattle.std.proofs.lemmas.List.Elements.{All-head, All-tail}
use Rattle.fzn_domain.specs.declared.literal.Lit.{Lit}
use Rattle.fzn_domain.specs.Literal.{negated}
use Rattle.fzn_domain.specs.IntSet.{IntSet, size, no_values, kept, is_possible}
use Rattle.fzn_domain.specs.Narrow.{IsVariable, IsOpen, NoneEmpty, set_of, narrowed, can_fail, is_some_empty}
use Rattle.fzn_domain.proofs.SetLemmas.{size-kept_parts, size-kept_le}
use Rattle.fzn_sets.proofs.CallerLemmas.{none_empty}
use Rattle.fzn_trail.proofs.CallerLemmas.{NoneEmpty-narrowed}
use Rattle.fzn_state.specs.Volume.{volume, slack, slack_of_sets}

share_left : (a b c v : ℕ) → a + b ≡ c → a * v + b * v ≡ c * v
share_left a b c v e = omega (arith, ap (λ x. x * v) e)

share_right : (a b c v : ℕ) → a + b ≡ c → v * a + v * b ≡ v * c
share_right a b c v e = omega (arith, ap (λ x. v * x) e)

split_at : (sets : List IntSet) (i : ℕ) (lit : Lit) → i < length sets → volume (set sets i (kept (get_or sets i no_values) lit)) + volume (set sets i (kept (get_or sets i no_values) (negated lit))) ≡ volume sets
split_at [] i lit h = absurd (omega arith)
split_at (s ∷ sets) zero lit h = share_left (size (kept s lit)) (size (kept s (negated lit))) (size s) (volume sets) (size-kept_parts s lit)
split_at (s ∷ sets) (suc i) lit h = share_right _ _ _ (size s) (split_at sets i lit (omega arith))

-- a literal splits the choices in two
pub volume-narrowed : (sets : List IntSet) (lit : Lit) → IsVariable (length sets) lit.var → volume (narrowed sets lit) + volume (narrowed sets (negated lit)) ≡ volume sets
unfolding narrowed
volume-narrowed sets lit var = let index : lit.var.0 - 1 < length sets = omega arith in split_at sets (lit.var.0 - 1) lit index

pub volume-filled : (sets : List IntSet) → NoneEmpty sets → 0 < volume sets
volume-filled [] h = omega arith
volume-filled (s ∷ sets) h = times (size s) (volume sets) (All-head (λ (t : IntSet). 0 < size t) s sets h) (volume-filled sets (All-tail (λ (t : IntSet). 0 < size t) s sets h))
  where
    times : (m n : ℕ) → 0 < m → 0 < n → 0 < m * n
    times m n p q = grind arith

volume-set_le : (sets : List IntSet) (k : ℕ) (t : IntSet) → size t ≤ size (get_or sets k no_values) → volume (set sets k t) ≤ volume sets
volume-set_le [] k t h = omega arith
volume-set_le (s ∷ sets) zero t h = times (size t) (size s) (volume sets) h
  where
    times : (m n w : ℕ) → m ≤ n → m * w ≤ n * w
    times m n w p = grind arith
volume-set_le (s ∷ sets) (suc k) t h = times (volume (set sets k t)) (volume sets) (size s) (volume-set_le sets k t h)
  where
    times : (m n w : ℕ) → m ≤ n → w * m ≤ w * n
    times m n w p = grind arith

slack-set_le : (sets : List IntSet) (k : ℕ) (t : IntSet) → size t ≤ size (get_or sets k no_values) → slack (set sets k t) ≤ slack sets
slack-set_le [] k t h = omega arith
slack-set_le (s ∷ sets) zero t h = omega arith
slack-set_le (s ∷ sets) (suc k) t h = omega (arith, slack-set_le sets k t h)

slack-set_lt : (sets : List IntSet) (k : ℕ) (t : IntSet) → k < length sets → 0 < size t → size t < size (get_or sets k no_values) → slack (set sets k t) < slack sets
slack-set_lt [] k t i n h = absurd (omega arith)
slack-set_lt (s ∷ sets) zero t i n h = omega arith
slack-set_lt (s ∷ sets) (suc k) t i n h = omega (arith, slack-set_lt sets k t (omega arith) n h)

pub volume-narrowed_le : (sets : List IntSet) (lit : Lit) → volume (narrowed sets lit) ≤ volume sets
unfolding narrowed
volume-narrowed_le sets lit = volume-set_le sets (lit.var.0 - 1) (kept (set_of sets lit.var) lit) (size-kept_le (set_of sets lit.var) lit)

pub slack-narrowed_le : (sets : List IntSet) (lit : Lit) → slack (narrowed sets lit) ≤ slack sets
unfolding narrowed
slack-narrowed_le sets lit = slack-set_le sets (lit.var.0 - 1) (kept (set_of sets lit.var) lit) (size-kept_le (set_of sets lit.var) lit)

-- a literal that is neither true nor false takes a value out
pub slack-narrowed_lt : (sets : List IntSet) (lit : Lit) → IsVariable (length sets) lit.var → is_possible (set_of sets lit.var) lit ≡ true → can_fail sets lit ≡ true → slack (narrowed sets lit) < slack sets
unfolding narrowed
slack-narrowed_lt sets lit var possible fails =
    let s = set_of sets lit.var in
    let index : lit.var.0 - 1 < length sets = omega arith in
    let some : 0 < size (kept s lit) = ltb-true 0 (size (kept s lit)) possible in
    let others : 0 < size (kept s (negated lit)) = ltb-true 0 (size (kept s (negated lit))) fails in
    slack-set_lt sets (lit.var.0 - 1) (kept s lit) index some (omega (arith, size-kept_parts s lit))

-- the choices beyond one in the two parts: a decision takes one
pub decided-accounts : (sets : List IntSet) (lit : Lit) → NoneEmpty sets → IsVariable (length sets) lit.var → IsOpen sets lit → (volume (narrowed sets lit) - 1) + (volume (narrowed sets (negated lit)) - 1) + 1 ≡ volume sets - 1
decided-accounts sets lit filled var either =
    let both = volume-narrowed sets lit var in
    let one = volume-filled (narrowed sets lit) (NoneEmpty-narrowed sets lit either.0 filled) in
    let other = volume-filled (narrowed sets (negated lit)) (NoneEmpty-narrowed sets (negated lit) either.1 filled) in
    omega arith

pub spread-filled : (sets : List IntSet) → NoneEmpty sets → slack_of_sets sets ≡ slack sets
spread-filled sets h = ap (λ (b : Bool). cond b 0 (slack sets)) (none_empty sets h)

-- where a set is empty there is no choice
pub volume-empty : (sets : List IntSet) → is_some_empty sets ≡ true → volume sets ≡ 0
volume-empty [] h = cc
volume-empty (s ∷ sets) h = elim (or_cases (nat_eq (size s) 0) (is_some_empty sets) h) [
  | inl here ↦ zero_left (size s) (volume sets) (eqb-true (size s) 0 here)
  | inr later ↦ zero_right (size s) (volume sets) (volume-empty sets later)
] where
  zero_left : (n k : ℕ) → n ≡ 0 → n * k ≡ 0
  zero_left n k e = grind arith

  zero_right : (n k : ℕ) → k ≡ 0 → n * k ≡ 0
  zero_right n k e = grind arith

-- an empty set among others
pub some_empty-at : (sets : List IntSet) (k : ℕ) → k < length sets → size (get_or sets k no_values) ≡ 0 → is_some_empty sets ≡ true
some_empty-at [] k within none = absurd (omega arith)
some_empty-at (s ∷ sets) zero within none = or_left (nat_eq (size s) 0) (is_some_empty sets) (eq-eqb (size s) 0 none)
some_empty-at (s ∷ sets) (suc k) within none = or_right (nat_eq (size s) 0) (is_some_empty sets) (some_empty-at sets k (omega arith) none)

-- the work that is left falls
pub work-less : (a b s c d : ℕ) → a ≡ b → c < d → a * (s + 1) + c < b * (s + 1) + d
work-less a b s c d e h = omega (arith, ap (λ x. x * (s + 1)) e)

pub work-lower : (a b s c d : ℕ) → a < b → c ≤ s → a * (s + 1) + c < b * (s + 1) + d
work-lower a b s c d l h = let m : (a + 1) * (s + 1) ≤ b * (s + 1) = times (a + 1) b (s + 1) (omega arith) in omega arith
  where
    times : (m n w : ℕ) → m ≤ n → m * w ≤ n * w
    times m n w p = grind arith
