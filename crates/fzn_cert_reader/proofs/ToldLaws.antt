-- Which lines the bytes begin with that were taken.
use Rattle.std.proofs.Common.{◌≡◌, ℕ, Bool, true, false, List, [], ◌∷◌, ◌++◌, Option, Some, None, Result, Ok, Err, refl, sym, ap, subst, ◌∙◌, append_assoc}
use Rattle.std.specs.Prelude.{codes, OnErr}
use Rattle.std.specs.Fmt.{decimal}
use Rattle.std.specs.Io.KnownBytes.{Consumes, Keeps}
use Rattle.std.proofs.lemmas.List.Folds.{list_all-append}
use Rattle.fzn_cert.specs.declared.header.Header.{Header}
use Rattle.fzn_cert.specs.declared.step.Version.{Version}
use Rattle.fzn_cert.specs.declared.step.Version.TheVariants.{One, Two}
use Rattle.fzn_cert.specs.Spelling.{version_text, counts_text, header_lines, end_line, IsSized, IsHeader}
use Rattle.fzn_cert.specs.Stream.{IsVersionText, IsCountsText}
use Rattle.fzn_cert.proofs.LineLaws.{IsInside, is_inside, inside_word, plain_decimal, same_lines}
use Rattle.fzn_cert_reader.specs.Told.{HasFront, TakesPart, TakesNone, TakesNoHeader, TakesEnd}
use Rattle.fzn_cert_reader.proofs.ReadLaws.{Consumes-then}

-- a part of a line, and another byte
pub part_more : (a b c : Option (List ℕ)) (line : List ℕ) (byte : ℕ) → Consumes a b line → IsInside line → Consumes b c (byte ∷ []) → is_inside byte ≡ true → TakesPart a c
part_more a b c line byte taken inside next other =
    (line ++ byte ∷ [], Consumes-then a b c line (byte ∷ []) taken next, rw (list_all-append is_inside line (byte ∷ []), inside, other) refl)

pub on_err : {A E P : Type 0} (r : Result A E) → P → OnErr r P
on_err (Ok x) p = tt
on_err (Err e) p = p

-- a line begins with no other line
line_begins : (line text : List ℕ) → IsInside line → IsInside text → HasFront (line ++ 10 ∷ []) (text ++ 10 ∷ []) → line ≡ text
line_begins line text h k begins = (same_lines line text [] begins.0 h k (begins.1 ∙ append_assoc text (10 ∷ []) begins.0)).0

-- ---- the last line

other_end : (line : List ℕ) → IsInside line → ((closed : Bool) → line ++ 10 ∷ [] ≡ end_line closed → ⊥) → (closed : Bool) → HasFront (line ++ 10 ∷ []) (end_line closed) → ⊥
other_end line inside none true begins = none true (ap (λ (t : List ℕ). t ++ 10 ∷ []) (line_begins line (codes "e closed") inside refl begins))
other_end line inside none false begins = none false (ap (λ (t : List ℕ). t ++ 10 ∷ []) (line_begins line (codes "e open") inside refl begins))

-- another line than the last one was taken
pub end_other : (a b : Option (List ℕ)) (closing : Option Bool) (line shown : List ℕ) → shown ≡ line → Consumes a b (line ++ 10 ∷ []) → IsInside line → ((closed : Bool) → shown ++ 10 ∷ [] ≡ end_line closed → ⊥) → closing ≡ None
    → TakesEnd a b closing
end_other a b None line shown same taken inside other none = record {
  taken = line ++ 10 ∷ [];
  is_taken = taken;
  told = tt;
  none = other_end line inside (subst (λ (t : List ℕ). (closed : Bool) → t ++ 10 ∷ [] ≡ end_line closed → ⊥) same other);
}
end_other a b (Some c) line shown same taken inside other none = absurd cc

-- the last line was taken, and these bytes after it
pub end_then : (a b c : Option (List ℕ)) (closed : Bool) (line more : List ℕ) → line ++ 10 ∷ [] ≡ end_line closed → Consumes a b (line ++ 10 ∷ []) → Consumes b c more → TakesEnd a c (Some closed)
end_then a b c closed line more is first second = record {
  taken = end_line closed ++ more;
  is_taken = rw (← is) (Consumes-then a b c (line ++ 10 ∷ []) more first second);
  told = (more, refl);
  none = tt;
}

pub Consumes-kept : (b c : Option (List ℕ)) → Keeps b c → Consumes b c []
Consumes-kept None c k = tt
Consumes-kept (Some p) None k = absurd k
Consumes-kept (Some p) (Some q) k = sym k

-- ---- the first two lines

version_inside : (version : Version) → IsInside (version_text version)
version_inside One = refl
version_inside Two = refl

both_inside : (a b : List ℕ) → IsInside a → IsInside b → IsInside (a ++ b)
both_inside a b h k = rw (list_all-append is_inside a b, h, k) refl

counts_inside : (n m : ℕ) → IsSized n → IsSized m → IsInside (counts_text n m)
counts_inside n m h k =
    both_inside (codes "vars " ++ decimal n ++ codes " cons ") (decimal m)
    (both_inside (codes "vars " ++ decimal n) (codes " cons ") (both_inside (codes "vars ") (decimal n) refl (inside_word (decimal n) (plain_decimal n h))) refl)
    (inside_word (decimal m) (plain_decimal m k))

module _ (a b : Option (List ℕ)) (line shown : List ℕ) where
  pub no_version_line : shown ≡ line → Consumes a b (line ++ 10 ∷ []) → IsInside line → (IsVersionText shown → ⊥) → TakesNone IsVersionText a b
  no_version_line same taken inside other =
      (line ++ 10 ∷ [], taken, λ text is begins. other (is.0, same ∙ line_begins line text inside (subst IsInside (sym is.1) (version_inside is.0)) begins ∙ is.1))

  pub no_counts_line : shown ≡ line → Consumes a b (line ++ 10 ∷ []) → IsInside line → (IsCountsText shown → ⊥) → TakesNone IsCountsText a b
  no_counts_line same taken inside other =
      (line ++ 10 ∷ [], taken, λ text is begins. other (is.0, is.1, is.2, is.3, same ∙ line_begins line text inside (subst IsInside (sym is.4) (counts_inside is.0 is.1 is.2 is.3)) begins ∙ is.4))

-- the first line, and what stands behind it
header_split : (header : Header) (more : List ℕ) → header_lines header ++ more ≡ (version_text header.version ++ 10 ∷ []) ++ ((counts_text header.variables header.constraints ++ 10 ∷ []) ++ more)
header_split header more =
    let first = version_text header.version ++ 10 ∷ [] in
    let second = counts_text header.variables header.constraints in
    append_assoc (first ++ second) (10 ∷ []) more ∙ append_assoc first second ((10 ∷ []) ++ more)
    ∙ ap (λ (t : List ℕ). first ++ t) (sym (append_assoc second (10 ∷ []) more))

-- the lines of this header have the version of the line that was taken
behind_first : (version : Version) (header : Header) (x more : List ℕ) → (version_text version ++ 10 ∷ []) ++ x ≡ header_lines header ++ more → x ≡ (counts_text header.variables header.constraints ++ 10 ∷ []) ++ more
behind_first version header x more e =
    let rest = (counts_text header.variables header.constraints ++ 10 ∷ []) ++ more in
    (same_lines (version_text version) (version_text header.version) x rest (version_inside version) (version_inside header.version)
    (sym (append_assoc (version_text version) (10 ∷ []) x) ∙ e ∙ header_split header more ∙ append_assoc (version_text header.version) (10 ∷ []) rest)).1

pub no_header_first : (a b : Option (List ℕ)) → TakesNone IsVersionText a b → TakesNoHeader a b
no_header_first a b takes = (takes.0, takes.1, none)
  where
    none : (header : Header) → IsHeader header → HasFront takes.0 (header_lines header) → ⊥
    none header sized begins =
        takes.2 (version_text header.version) (header.version, refl) ((counts_text header.variables header.constraints ++ 10 ∷ []) ++ begins.0, begins.1 ∙ header_split header begins.0)

pub no_header_second : (a b c : Option (List ℕ)) (version : Version) → Consumes a b (version_text version ++ 10 ∷ []) → TakesNone IsCountsText b c → TakesNoHeader a c
no_header_second a b c version first takes =
    ((version_text version ++ 10 ∷ []) ++ takes.0, Consumes-then a b c (version_text version ++ 10 ∷ []) takes.0 first takes.1, none)
  where
    none : (header : Header) → IsHeader header → HasFront ((version_text version ++ 10 ∷ []) ++ takes.0) (header_lines header) → ⊥
    none header sized begins =
        takes.2 (counts_text header.variables header.constraints) (header.variables, header.constraints, sized.0, sized.1, refl) (begins.0, behind_first version header takes.0 begins.0 begins.1)
