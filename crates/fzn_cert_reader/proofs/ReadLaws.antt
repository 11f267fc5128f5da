-- What a reader has left after one byte and then another.
use Rattle.std.proofs.Common.{◌≡◌, ℕ, suc, ◌+◌, ◌-◌, ◌<◌, ◌≤◌, List, [], ◌∷◌, ◌++◌, length, get_or, Option, Some, None, refl, sym, ap, ◌∙◌, arith, append_assoc}
use Rattle.std.specs.Prelude.{slice_range}
use Rattle.std.specs.Io.KnownBytes.{Consumes, Keeps}
use Rattle.std.proofs.lemmas.List.{drop_more}
use Rattle.fzn_cert.specs.declared.step.Version.{Version}
use Rattle.fzn_cert.specs.Spelling.{version_text, counts_text, header_text}
use Rattle.fzn_cert_reader.specs.Input.{left_of}

pub Consumes-after_kept : (a b c : Option (List ℕ)) (x : List ℕ) → Keeps a b → Consumes b c x → Consumes a c x
Consumes-after_kept None b c x h k = tt
Consumes-after_kept (Some p) None c x h k = absurd h
Consumes-after_kept (Some p) (Some q) None x h k = k
Consumes-after_kept (Some p) (Some q) (Some r) x h k = sym h ∙ k

pub Consumes-then : (a b c : Option (List ℕ)) (x y : List ℕ) → Consumes a b x → Consumes b c y → Consumes a c (x ++ y)
Consumes-then None b c x y h k = tt
Consumes-then (Some p) None c x y h k = absurd h
Consumes-then (Some p) (Some q) None x y h k = absurd k
Consumes-then (Some p) (Some q) (Some r) x y h k = h ∙ ap (λ (t : List ℕ). x ++ t) k ∙ sym (append_assoc x y r)

pub Consumes_nothing : (a : Option (List ℕ)) → Consumes a a []
Consumes_nothing None = tt
Consumes_nothing (Some p) = refl

held_more : (chunk : List ℕ) (start end : ℕ) → start < end → end ≤ length chunk → slice_range chunk start end ≡ get_or chunk start 0 ∷ slice_range chunk (start + 1) end
held_more chunk start end lt le =
    let size : end - start ≡ suc (end - (start + 1)) = omega arith in
    rw (size, drop_more chunk start 0 (omega arith)) refl

pub Consumes-first : (chunk : List ℕ) (start end : ℕ) (remaining : Option (List ℕ)) → start < end → end ≤ length chunk
    → Consumes (left_of chunk start end remaining) (left_of chunk (start + 1) end remaining) (get_or chunk start 0 ∷ [])
Consumes-first chunk start end None lt le = tt
Consumes-first chunk start end (Some xs) lt le = ap (λ (held : List ℕ). held ++ xs) (held_more chunk start end lt le)

-- the two lines of the header, one after the other
pub Consumes_header : (a b c : Option (List ℕ)) (v : Version) (n m : ℕ) → Consumes a b (version_text v ++ 10 ∷ []) → Consumes b c (counts_text n m ++ 10 ∷ []) → Consumes a c (header_text v n m)
Consumes_header a b c v n m h k =
    rw (append_assoc (version_text v ++ 10 ∷ []) (counts_text n m) (10 ∷ [])) (Consumes-then a b c (version_text v ++ 10 ∷ []) (counts_text n m ++ 10 ∷ []) h k)

pub Consumes_both : (a b c : Option (List ℕ)) (x y : List ℕ) → Consumes a b x → Consumes b c y → Consumes a c (x ++ y)
Consumes_both a b c x y h k = Consumes-then a b c x y h k
