-- The places of literals among the lists of their variable.
use Rattle.std.proofs.Common.{◌≡◌, ℕ, ◌+◌, ◌<◌, ◌≤◌, ℤ, refl, sym, ap, ◌∙◌, arith}
use Rattle.std.proofs.lemmas.Nat.{mod_below}
use Rattle.std.specs.Prelude.{unsigned_abs}
use Rattle.fzn_domain.specs.declared.literal.Lit.{Lit}
use Rattle.fzn_domain.specs.declared.literal.Op.{Op}
use Rattle.fzn_domain.specs.declared.literal.Op.TheVariants.{AtMost, AtLeast, Equal, NotEqual}
use Rattle.fzn_clauses.specs.Keys.{bucket_of, place_among, place_of, operator_at}

pub bucket_of_less : (value : ℤ) → bucket_of value < 8
bucket_of_less value = mod_below (unsigned_abs value) 8 (omega arith)

pub place_among_less : (op : Op) (value : ℤ) → place_among op value < 18
place_among_less AtMost value = omega arith
place_among_less AtLeast value = omega arith
place_among_less Equal value = omega (arith, bucket_of_less value)
place_among_less NotEqual value = omega (arith, bucket_of_less value)

-- ---- the operator at a place

pub operator_of_equation : (place : ℕ) → 2 ≤ place → place < 10 → operator_at place ≡ Equal
operator_of_equation place low high = grind (arith, low, high)

pub operator_of_inequality : (place : ℕ) → 10 ≤ place → operator_at place ≡ NotEqual
operator_of_inequality place low = grind (arith, low)

operator_among : (op : Op) (value : ℤ) → operator_at (place_among op value) ≡ op
operator_among AtMost value = refl
operator_among AtLeast value = refl
operator_among Equal value = operator_of_equation (2 + bucket_of value) (omega arith) (omega (arith, bucket_of_less value))
operator_among NotEqual value = operator_of_inequality (10 + bucket_of value) (omega arith)

pub operator_is : (lit : Lit) (place : ℕ) → place_of lit ≡ place → lit.op ≡ operator_at place
operator_is lit place at = sym (operator_among lit.op lit.value) ∙ ap operator_at at
