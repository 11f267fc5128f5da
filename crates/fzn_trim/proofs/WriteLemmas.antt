-- Lines that are written one after another.
use Rattle.std.proofs.Common.{◌≡◌, ℕ, ◌<◌, ◌≤◌, List, [], ◌∷◌, ◌++◌, length, map, take, get_or, Option, refl, ap, sym, subst, ◌∙◌, arith}
use Rattle.std.specs.Prelude.{Result}
use Rattle.std.specs.List.{flat_map}
use Rattle.std.specs.Result.{IsErr}
use Rattle.std.specs.Io.KnownBytes.{Appends}
use Rattle.std.proofs.lemmas.List.{take_all}
use Rattle.fzn_streams.specs.Output.{AppendsFront, Puts}
use Rattle.fzn_streams.proofs.CallerLemmas.{front-each-at, Puts-stopped}
use Rattle.fzn_derive.specs.declared.derivation.Derivation.{Derivation}
use Rattle.fzn_cert.specs.declared.step.Step.{Step}
use Rattle.fzn_cert.specs.declared.step.Version.TheVariants.{Two}
use Rattle.fzn_cert.specs.Spelling.{header_text, step_line}
use Rattle.fzn_cert.specs.Verdict.{lines_of}
use Rattle.fzn_head.specs.Head.{derivation_line, derivation_lines}
use Rattle.fzn_trim.specs.Written.{front_text, head_text}

lines-each : {X : Type 0} (step_of : X → Step) (ys : List X) → lines_of (map step_of ys) ≡ flat_map (λ y. step_line (step_of y)) ys
lines-each step_of [] = refl
lines-each step_of (y ∷ ys) = ap (λ (text : List ℕ). step_line (step_of y) ++ text) (lines-each step_of ys)

derivation-each : (ys : List Derivation) → derivation_lines ys ≡ flat_map derivation_line ys
derivation-each [] = refl
derivation-each (y ∷ ys) = ap (λ (text : List ℕ). derivation_line y ++ text) (derivation-each ys)

-- these texts make the whole
module _ {X : Type 0} (line_of : X → List ℕ) (xs : List X) (whole : List ℕ) (each : whole ≡ flat_map line_of xs) where
  -- an error within a line
  stopped-within : {A E : Type 0} (a : Option (List ℕ)) (r : Result A E) (i : ℕ) (x : X) → IsErr r → i < length xs → (b c : Option (List ℕ)) → x ≡ get_or xs i x
      → Appends a b (flat_map line_of (take i xs)) → AppendsFront b c (line_of x) → Puts a c r whole
  stopped-within a r i x err within b c is h k =
      subst (λ (text : List ℕ). Puts a c r text) (sym each)
      (Puts-stopped a c r (flat_map line_of xs) err (front-each-at line_of a b c xs i x within is h k))

  written-all : (a b : Option (List ℕ)) (i : ℕ) → length xs ≤ i → Appends a b (flat_map line_of (take i xs)) → Appends a b whole
  written-all a b i past_end h = subst (Appends a b) (ap (flat_map line_of) (take_all i xs past_end) ∙ sym each) h

module _ {X : Type 0} (step_of : X → Step) (xs : List X) where
  pub step-stopped : {A E : Type 0} (a : Option (List ℕ)) (r : Result A E) (i : ℕ) (x : X) → IsErr r → i < length xs → (b c : Option (List ℕ)) → x ≡ get_or xs i x
      → Appends a b (flat_map (λ y. step_line (step_of y)) (take i xs)) → AppendsFront b c (step_line (step_of x)) → Puts a c r (lines_of (map step_of xs))
  step-stopped a r i x err within b c is h k = stopped-within (λ y. step_line (step_of y)) xs (lines_of (map step_of xs)) (lines-each step_of xs) a r i x err within b c is h k

  pub steps-written : (a b : Option (List ℕ)) (i : ℕ) → length xs ≤ i → Appends a b (flat_map (λ y. step_line (step_of y)) (take i xs)) → Appends a b (lines_of (map step_of xs))
  steps-written a b i past_end h = written-all (λ y. step_line (step_of y)) xs (lines_of (map step_of xs)) (lines-each step_of xs) a b i past_end h

module _ (xs : List Derivation) where
  pub derivation-stopped : {A E : Type 0} (a : Option (List ℕ)) (r : Result A E) (i : ℕ) (x : Derivation) → IsErr r → i < length xs → (b c : Option (List ℕ)) → x ≡ get_or xs i x
      → Appends a b (flat_map derivation_line (take i xs)) → AppendsFront b c (derivation_line x) → Puts a c r (derivation_lines xs)
  derivation-stopped a r i x err within b c is h k = stopped-within derivation_line xs (derivation_lines xs) (derivation-each xs) a r i x err within b c is h k

  pub derivations-written : (a b : Option (List ℕ)) (i : ℕ) → length xs ≤ i → Appends a b (flat_map derivation_line (take i xs)) → Appends a b (derivation_lines xs)
  derivations-written a b i past_end h = written-all derivation_line xs (derivation_lines xs) (derivation-each xs) a b i past_end h

-- ---- what stands in front of them

pub front-none : (variables constraints : ℕ) (read : List Derivation) → length read ≡ 0 → header_text Two variables constraints ≡ front_text variables constraints read
front-none variables constraints [] none = refl
front-none variables constraints (derivation ∷ later) none = absurd (omega (arith, none))

pub front-some : (variables constraints : ℕ) (read : List Derivation) → 0 < length read → head_text (record { variables = variables; constraints = constraints; derived = length read }) read ≡ front_text variables constraints read
front-some variables constraints [] some = absurd (omega (arith, some))
front-some variables constraints (derivation ∷ later) some = refl
