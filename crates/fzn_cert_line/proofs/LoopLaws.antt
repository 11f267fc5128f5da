-- Reading items one after the other, as a loop does.
use Rattle.std.proofs.Common.{◌≡◌, ℕ, List, [], ◌∷◌, ◌++◌, true, false, Option, Some, None, refl, sym, ap, ◌∙◌, append_assoc}
use Rattle.std.specs.Prelude.{codes}
use Rattle.std.specs.Str.{bytes_eq}
use Rattle.std.proofs.lemmas.List.{append-nil}
use Rattle.fzn_cert.specs.Words.{◌>>=◌, items_of, items_before_mark}

-- what was read before, and what is still read
abbrev pub with_front : {A : Type 0} → List A → Option (List A) → Option (List A)
with_front front read = read >>= λ xs. Some (front ++ xs)

pub regroup : {A : Type 0} (front : List A) (x : A) (read : Option (List A)) → with_front front (read >>= λ xs. Some (x ∷ xs)) ≡ with_front (front ++ x ∷ []) read
regroup front x None = refl
regroup front x (Some xs) = ap (λ ys. Some ys) (simp append_assoc)

pub goes_on : {A : Type 0} (f : List ℕ → Option A) (front : List A) (words rest : List (List ℕ)) (word : List ℕ) (x : A) (total : Option (List A))
    → words ≡ word ∷ rest → f word ≡ Some x → with_front front (items_of f words) ≡ total → with_front (front ++ x ∷ []) (items_of f rest) ≡ total
unfolding items_of
goes_on f front words rest word x total e h so_far =
    let one : with_front front (items_of f words) ≡ with_front (front ++ x ∷ []) (items_of f rest) = rw (e, h) (regroup front x (items_of f rest)) in
    sym one ∙ so_far

pub stops : {A : Type 0} (f : List ℕ → Option A) (front : List A) (words rest : List (List ℕ)) (word : List ℕ) (total : Option (List A))
    → words ≡ word ∷ rest → f word ≡ None → with_front front (items_of f words) ≡ total → None ≡ total
unfolding items_of
stops {A} f front words rest word total e h so_far =
    let one : with_front front (items_of f words) ≡ None = rw (e, h) refl in
    sym one ∙ so_far

pub ends : {A : Type 0} (f : List ℕ → Option A) (front : List A) (words : List (List ℕ)) (total : Option (List A))
    → words ≡ [] → with_front front (items_of f words) ≡ total → Some front ≡ total
unfolding items_of
ends f front words total e so_far =
    let one : with_front front (items_of f words) ≡ Some front = rw e (ap (λ ys. Some ys) (append-nil front)) in
    sym one ∙ so_far

-- ---- up to the mark

abbrev pub before_rest : {A : Type 0} → List A → Option (List A × List (List ℕ)) → Option (List A × List (List ℕ))
before_rest front read = read >>= λ r. Some (front ++ r.0, r.1)

regroup_marked : {A : Type 0} (front : List A) (x : A) (read : Option (List A × List (List ℕ))) → before_rest front (read >>= λ r. Some (x ∷ r.0, r.1)) ≡ before_rest (front ++ x ∷ []) read
regroup_marked front x None = refl
regroup_marked {A} front x (Some r) = ap (λ (ys : List A). Some (ys, r.1)) (simp append_assoc)

pub marked_goes_on : {A : Type 0} (f : List ℕ → Option A) (front : List A) (words rest : List (List ℕ)) (word : List ℕ) (x : A) (total : Option (List A × List (List ℕ)))
    → words ≡ word ∷ rest → bytes_eq word (codes ";") ≡ false → f word ≡ Some x
    → before_rest front (items_before_mark f words) ≡ total → before_rest (front ++ x ∷ []) (items_before_mark f rest) ≡ total
unfolding items_before_mark
marked_goes_on f front words rest word x total e apart h so_far =
    let one : before_rest front (items_before_mark f words) ≡ before_rest (front ++ x ∷ []) (items_before_mark f rest) = rw (e, apart, h) (regroup_marked front x (items_before_mark f rest)) in
    sym one ∙ so_far

pub marked_stops : {A : Type 0} (f : List ℕ → Option A) (front : List A) (words rest : List (List ℕ)) (word : List ℕ) (total : Option (List A × List (List ℕ)))
    → words ≡ word ∷ rest → bytes_eq word (codes ";") ≡ false → f word ≡ None
    → before_rest front (items_before_mark f words) ≡ total → None ≡ total
unfolding items_before_mark
marked_stops {A} f front words rest word total e apart h so_far =
    let one : before_rest front (items_before_mark f words) ≡ None = rw (e, apart, h) refl in
    sym one ∙ so_far

pub mark_ends : {A : Type 0} (f : List ℕ → Option A) (front : List A) (words rest : List (List ℕ)) (word : List ℕ) (total : Option (List A × List (List ℕ)))
    → words ≡ word ∷ rest → bytes_eq word (codes ";") ≡ true
    → before_rest front (items_before_mark f words) ≡ total → Some (front, rest) ≡ total
unfolding items_before_mark
mark_ends {A} f front words rest word total e is so_far =
    let one : before_rest front (items_before_mark f words) ≡ Some (front, rest) = rw (e, is) (ap (λ (ys : List A). Some (ys, rest)) (append-nil front)) in
    sym one ∙ so_far

pub no_mark : {A : Type 0} (f : List ℕ → Option A) (front : List A) (words : List (List ℕ)) (total : Option (List A × List (List ℕ)))
    → words ≡ [] → before_rest front (items_before_mark f words) ≡ total → None ≡ total
unfolding items_before_mark
no_mark {A} f front words total e so_far =
    let one : before_rest front (items_before_mark f words) ≡ None = rw e refl in
    sym one ∙ so_far
