-- Multiples and variables that are read are what is written.
use Rattle.std.proofs.Common.{◌≡◌, ℕ, List, [], ◌∷◌, ◌++◌, Option, Some, None, refl, sym, ap, subst, ◌∙◌, append_assoc}
use Rattle.std.specs.Prelude.{ℤ, pos, negsuc}
use Rattle.std.specs.List.{AllByRecursion, flat_map}
use Rattle.std.specs.Fmt.{decimal, signed_decimal}
use Rattle.std.proofs.lemmas.List.{append-nil}
use Rattle.fzn_domain.specs.declared.literal.VarId.{VarId}
use Rattle.fzn_cited.specs.declared.multiple.Multiple.{Multiple}
use Rattle.fzn_cert.specs.Words.{◌>>=◌, positive_of}
use Rattle.fzn_cert.specs.Derivations.{var_text, multiple_words, IsMultiplier, IsMultiple, IsVariableNumber, multiplier_of, variable_of, multiples_of}
use Rattle.fzn_cert.proofs.CallerLemmas.{some_is}
use Rattle.fzn_cert_line.proofs.OptionLaws.{bind_some}
use Rattle.fzn_cert_line.proofs.WordLaws.{number_takes, within_takes}

pub multiplier_takes : (word : List ℕ) (k : ℤ) → multiplier_of word ≡ Some k → (word ≡ signed_decimal k) × IsMultiplier k
multiplier_takes word k e = within_takes (negsuc 999999999999) (pos 1000000000000) word k e

pub variable_takes : (word : List ℕ) (var : VarId) → variable_of word ≡ Some var → (word ≡ var_text var) × IsVariableNumber var
variable_takes word var e =
    let a = bind_some (positive_of word) (λ n. Some (record { 0 = n })) var e in
    let n = number_takes word a.0 a.1 in
    let made : VarId = record { 0 = a.0 } in
    subst (λ (v : VarId). (word ≡ var_text v) × IsVariableNumber v) (some_is made var a.2) n

pub multiples_take : (words : List (List ℕ)) (multiples : List Multiple) → multiples_of words ≡ Some multiples → (words ≡ flat_map multiple_words multiples) × AllByRecursion IsMultiple multiples
unfolding multiples_of
multiples_take [] multiples e = subst (λ (ms : List Multiple). ([] ≡ flat_map multiple_words ms) × AllByRecursion IsMultiple ms) (some_is [] multiples e) (refl, tt)
multiples_take (word ∷ []) multiples e = absurd cc
multiples_take (word ∷ next ∷ words) multiples e =
    let a = bind_some (multiplier_of word) (λ k. positive_of next >>= λ c. multiples_of words >>= λ others. Some (record { multiplier = k; constraint = c } ∷ others)) multiples e in
    let b = bind_some (positive_of next) (λ c. multiples_of words >>= λ others. Some (record { multiplier = a.0; constraint = c } ∷ others)) multiples a.2 in
    let d = bind_some (multiples_of words) (λ others. Some (record { multiplier = a.0; constraint = b.0 } ∷ others)) multiples b.2 in
    let k = multiplier_takes word a.0 a.1 in
    let n = number_takes next b.0 b.1 in
    let more = multiples_take words d.0 d.1 in
    let made : List Multiple = record { multiplier = a.0; constraint = b.0 } ∷ d.0 in
    subst (λ (ms : List Multiple). (word ∷ next ∷ words ≡ flat_map multiple_words ms) × AllByRecursion IsMultiple ms) (some_is made multiples d.2)
    (ap (λ (w : List ℕ). w ∷ next ∷ words) k.0 ∙ ap (λ (w : List ℕ). signed_decimal a.0 ∷ w ∷ words) n.0 ∙ ap (λ (ws : List (List ℕ)). signed_decimal a.0 ∷ decimal b.0 ∷ ws) more.0, ((k.1, n.1), more.1))

-- ---- one after the other, as a loop reads them

-- what was read before, and what is still read
abbrev pub with_read : List Multiple → Option (List Multiple) → Option (List Multiple)
with_read front read = read >>= λ others. Some (front ++ others)

regroup : (front : List Multiple) (multiple : Multiple) (read : Option (List Multiple)) → with_read front (read >>= λ others. Some (multiple ∷ others)) ≡ with_read (front ++ multiple ∷ []) read
regroup front multiple None = refl
regroup front multiple (Some others) = ap (λ ms. Some ms) (simp append_assoc)

pub reads_on : (front : List Multiple) (words rest : List (List ℕ)) (word next : List ℕ) (k pushed : ℤ) (c : ℕ) (total : Option (List Multiple))
    → words ≡ word ∷ next ∷ rest → multiplier_of word ≡ Some k → positive_of next ≡ Some c → pushed ≡ k → with_read front (multiples_of words) ≡ total
    → with_read (front ++ record { multiplier = pushed; constraint = c } ∷ []) (multiples_of rest) ≡ total
unfolding multiples_of
reads_on front words rest word next k pushed c total e h n same so_far =
    let one : with_read front (multiples_of words) ≡ with_read (front ++ record { multiplier = k; constraint = c } ∷ []) (multiples_of rest) = rw (e, h, n) (regroup front (record { multiplier = k; constraint = c }) (multiples_of rest)) in
    ap (λ (m : ℤ). with_read (front ++ record { multiplier = m; constraint = c } ∷ []) (multiples_of rest)) same ∙ sym one ∙ so_far

no_multiple : (word : List ℕ) (rest : List (List ℕ)) → multiplier_of word ≡ None → multiples_of (word ∷ rest) ≡ None
unfolding multiples_of
no_multiple word [] h = refl
no_multiple word (next ∷ rest) h = rw h refl

pub no_multiplier : (front : List Multiple) (words rest : List (List ℕ)) (word : List ℕ) (total : Option (List Multiple))
    → words ≡ word ∷ rest → multiplier_of word ≡ None → with_read front (multiples_of words) ≡ total → None ≡ total
no_multiplier front words rest word total e h so_far =
    let one : with_read front (multiples_of words) ≡ None = rw (e, no_multiple word rest h) refl in
    sym one ∙ so_far

pub no_second : (front : List Multiple) (words : List (List ℕ)) (word : List ℕ) (total : Option (List Multiple))
    → words ≡ word ∷ [] → with_read front (multiples_of words) ≡ total → None ≡ total
unfolding multiples_of
no_second front words word total e so_far =
    let one : with_read front (multiples_of words) ≡ None = rw e refl in
    sym one ∙ so_far

pub no_number : (front : List Multiple) (words rest : List (List ℕ)) (word next : List ℕ) (k : ℤ) (total : Option (List Multiple))
    → words ≡ word ∷ next ∷ rest → multiplier_of word ≡ Some k → positive_of next ≡ None → with_read front (multiples_of words) ≡ total → None ≡ total
unfolding multiples_of
no_number front words rest word next k total e h n so_far =
    let one : with_read front (multiples_of words) ≡ None = rw (e, h, n) refl in
    sym one ∙ so_far

pub all_read : (front : List Multiple) (words : List (List ℕ)) (total : Option (List Multiple))
    → words ≡ [] → with_read front (multiples_of words) ≡ total → Some front ≡ total
unfolding multiples_of
all_read front words total e so_far =
    let one : with_read front (multiples_of words) ≡ Some front = rw e (ap (λ ms. Some ms) (append-nil front)) in
    sym one ∙ so_far
