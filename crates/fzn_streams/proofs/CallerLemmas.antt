-- What stands on a writer after one piece and then another.
use Rattle.std.proofs.Common.{◌≡◌, ℕ, ◌+◌, ◌<◌, List, [], ◌∷◌, ◌++◌, take, drop, get_or, length, Option, Some, None, Ok, Err, sym, ap, subst, ◌∙◌, arith, append_assoc, append-nil}
use Rattle.std.specs.Io.KnownBytes.{Appends, Keeps}
use Rattle.std.proofs.lemmas.List.{take-append-drop, take-take, drop-take, length-append, take-append-le, take_more}
use Rattle.std.specs.List.{flat_map}
use Rattle.std.proofs.lemmas.Grind.{flat_map-append}
use Rattle.std.proofs.Math.Seq.{take-append-add}
use Rattle.std.specs.Result.{IsErr}
use Rattle.std.specs.Prelude.{Result}
use Rattle.fzn_streams.specs.Output.{AppendsFront, Puts}

pub take_then : (i n : ℕ) (xs : List ℕ) → take (i + n) xs ≡ take i xs ++ take n (drop i xs)
take_then i n xs =
    sym (take-append-drop i (take (i + n) xs))
    ∙ ap (λ (front : List ℕ). front ++ drop i (take (i + n) xs)) (take-take i (i + n) xs (omega arith))
    ∙ ap (λ (back : List ℕ). take i xs ++ back) (drop-take i n xs)

pub Appends-then : (a b c : Option (List ℕ)) (x y : List ℕ) → Appends a b x → Appends b c y → Appends a c (x ++ y)
Appends-then None b c x y h k = tt
Appends-then (Some p) None c x y h k = absurd h
Appends-then (Some p) (Some q) None x y h k = absurd k
Appends-then (Some p) (Some q) (Some r) x y h k = k ∙ ap (λ (t : List ℕ). t ++ y) h ∙ append_assoc p x y

pub Appends-take_more : (a b c : Option (List ℕ)) (xs : List ℕ) (i n : ℕ) → Appends a b (take i xs) → Appends b c (take n (drop i xs)) → Appends a c (take (i + n) xs)
Appends-take_more a b c xs i n h k = rw (take_then i n xs) (Appends-then a b c (take i xs) (take n (drop i xs)) h k)

-- ---- a beginning of a text

pub front-left : (a b : Option (List ℕ)) (x y : List ℕ) → AppendsFront a b x → AppendsFront a b (x ++ y)
front-left a b x y (n, within, h) = (n, rw (length-append x y) (omega arith), rw (take-append-le n x y within) h)

pub front-then : (a b c : Option (List ℕ)) (x y : List ℕ) → Appends a b x → AppendsFront b c y → AppendsFront a c (x ++ y)
front-then a b c x y h (n, within, k) =
    (length x + n, rw (length-append x y) (omega arith), rw (take-append-add x y n) (Appends-then a b c x (take n y) h k))

pub front-none : (a b : Option (List ℕ)) (x : List ℕ) → Keeps a b → AppendsFront a b x
front-none None b x h = (0, omega arith, tt)
front-none (Some p) None x h = absurd h
front-none (Some p) (Some q) x h = (0, omega arith, h ∙ sym (append-nil p))

-- ---- one piece after another, where the last call tells how it went

pub Puts-last : {A E : Type 0} (a b c : Option (List ℕ)) (r : Result A E) (x y : List ℕ) → Appends a b x → Puts b c r y → Puts a c r (x ++ y)
Puts-last a b c (Ok v) x y h k = Appends-then a b c x y h k
Puts-last a b c (Err e) x y h k = front-then a b c x y h k

pub Puts-stopped : {A E : Type 0} (a b : Option (List ℕ)) (r : Result A E) (x : List ℕ) → IsErr r → AppendsFront a b x → Puts a b r x
Puts-stopped a b (Ok v) x err h = cc
Puts-stopped a b (Err e) x err h = h

-- ---- a text for each element of a list

module _ {X : Type 0} (f : X → List ℕ) where
  flat_map-split : (xs : List X) (i : ℕ) (d : X) → i < length xs → flat_map f xs ≡ (flat_map f (take i xs) ++ f (get_or xs i d)) ++ flat_map f (drop (i + 1) xs)
  flat_map-split xs i d within =
      ap (flat_map f) (sym (take-append-drop (i + 1) xs))
      ∙ flat_map-append f (take (i + 1) xs) (drop (i + 1) xs)
      ∙ ap (λ (front : List ℕ). front ++ flat_map f (drop (i + 1) xs))
      (ap (flat_map f) (take_more xs i d within) ∙ flat_map-append f (take i xs) (get_or xs i d ∷ []) ∙ ap (λ (back : List ℕ). flat_map f (take i xs) ++ back) (append-nil (f (get_or xs i d))))

  -- the texts up to an element, and a beginning of its text
  pub front-each : (a b c : Option (List ℕ)) (xs : List X) (i : ℕ) (d : X) → i < length xs → Appends a b (flat_map f (take i xs)) → AppendsFront b c (f (get_or xs i d)) → AppendsFront a c (flat_map f xs)
  front-each a b c xs i d within h k =
      rw (flat_map-split xs i d within) (front-left a c (flat_map f (take i xs) ++ f (get_or xs i d)) (flat_map f (drop (i + 1) xs)) (front-then a b c (flat_map f (take i xs)) (f (get_or xs i d)) h k))

  pub front-each-at : (a b c : Option (List ℕ)) (xs : List X) (i : ℕ) (x : X) → i < length xs → x ≡ get_or xs i x → Appends a b (flat_map f (take i xs)) → AppendsFront b c (f x) → AppendsFront a c (flat_map f xs)
  front-each-at a b c xs i x within is h k = front-each a b c xs i x within h (subst (λ (y : X). AppendsFront b c (f y)) is k)

  -- one text more
  pub each-more : (a b c : Option (List ℕ)) (xs : List X) (i : ℕ) (x : X) → i < length xs → x ≡ get_or xs i x → Appends a b (flat_map f (take i xs)) → Appends b c (f x) → Appends a c (flat_map f (take (i + 1) xs))
  each-more a b c xs i x within is h k =
      rw (take_more xs i x within, ← is, flat_map-append f (take i xs) (x ∷ []), append-nil (f x)) (Appends-then a b c (flat_map f (take i xs)) (f x) h k)

pub ruleset puts = (Appends-then, front-left, front-then, Puts-last, Puts-stopped)
