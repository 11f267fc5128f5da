-- A file has one list of tokens, or one fault.
use Rattle.std.proofs.Common.{◌≡◌, ℕ, ◌+◌, ◌-◌, ◌<◌, ◌≤◌, Bool, true, false, List, [], ◌∷◌, ◌++◌, length, get_or, take, drop, slice_range, refl, sym, ap, subst, ◌∙◌, arith, inl, inr, ◌⊎◌, length-drop, length-take, get_or-take}
use Rattle.std.proofs.lemmas.Bool.{false≢true}
use Rattle.std.proofs.lemmas.List.{drop-drop, take-append-drop}
use Rattle.std.specs.List.{AllPass}
use Rattle.fzn_lexer.specs.declared.fault.Fault.{Fault}
use Rattle.fzn_lexer.specs.declared.fault.FaultKind.{FaultKind}
use Rattle.fzn_lexer.specs.declared.token.Kind.{Kind}
use Rattle.fzn_lexer.specs.declared.token.Position.{Position}
use Rattle.fzn_lexer.specs.declared.token.Token.{Token}
use Rattle.fzn_lexer.specs.Bytes.{is_known}
use Rattle.fzn_lexer.specs.Positions.{position_after}
use Rattle.fzn_lexer.specs.Lexemes.{StandsFirst, StandsFault}
use Rattle.fzn_lexer.specs.Tokens.{IsSpacing, IsLastGap, begins_gap, StandsAt, Stand, FaultStandsAt, IsEnd, HasKnownBytes, IsBadByte, AreTokens, IsLexicalFault, IsReading, max_file}
use Rattle.fzn_lexer.proofs.Shapes.{spells_some}
use Rattle.fzn_lexer.proofs.OneGap.{one_gap, no_last}
use Rattle.fzn_lexer.proofs.OneToken.{spells_no_gap, one_text, no_fault, one_fault}

-- ---- one position behind the gap

split : (bytes : List ℕ) (from start : ℕ) → from ≤ start → drop from bytes ≡ slice_range bytes from start ++ drop start bytes
split bytes from start le =
    let e : from + (start - from) ≡ start = omega arith in
    sym (take-append-drop (start - from) (drop from bytes)) ∙ ap (λ (z : List ℕ). slice_range bytes from start ++ z) (drop-drop (start - from) from bytes ∙ ap (λ (n : ℕ). drop n bytes) e)

tail_same : (g r s : List ℕ) → g ++ r ≡ g ++ s → r ≡ s
tail_same [] r s e = e
tail_same (b ∷ g) r s e = tail_same g r s (ap (drop 1) e)

record Behind (bytes : List ℕ) (from start : ℕ) : Type 0 where
  in_order : from ≤ start
  gap : IsSpacing (slice_range bytes from start)
  ends : begins_gap (drop start bytes) ≡ false
  within : start < length bytes

start_same : (bytes : List ℕ) (from a b : ℕ) → Behind bytes from a → Behind bytes from b → a ≡ b
start_same bytes from a b p q =
    let whole : slice_range bytes from a ++ drop a bytes ≡ slice_range bytes from b ++ drop b bytes = sym (split bytes from a p.in_order) ∙ split bytes from b q.in_order in
    let gaps = one_gap (slice_range bytes from a) (slice_range bytes from b) (drop a bytes) (drop b bytes) p.gap q.gap whole p.ends q.ends in
    let rests : drop a bytes ≡ drop b bytes = tail_same (slice_range bytes from b) (drop a bytes) (drop b bytes) (ap (λ (z : List ℕ). z ++ drop a bytes) (sym gaps) ∙ whole) in
    let pw = p.within in
    let qw = q.within in
    omega (arith, length-drop a bytes, length-drop b bytes, ap length rests)

some_left : (bytes : List ℕ) (start : ℕ) → 0 < length (drop start bytes) → start < length bytes
some_left bytes start some = omega (arith, length-drop start bytes)

token_here : (rest text : List ℕ) (kind : Kind) → StandsFirst rest text kind → (0 < length rest) × (begins_gap rest ≡ false)
token_here rest [] kind p = absurd (spells_some kind p.spelled)
token_here rest (b ∷ t) kind p = (let e = ap length p.parts in omega arith, ap begins_gap p.parts ∙ spells_no_gap b t kind p.spelled)

behind_token : (bytes : List ℕ) (from : ℕ) (t : Token) → StandsAt bytes from t → Behind bytes from t.span.start
behind_token bytes from t p =
    let h = token_here (drop t.span.start bytes) p.text t.kind p.first in
    record { in_order = p.in_order; gap = p.gap; ends = h.1; within = some_left bytes t.span.start h.0 }

behind_fault : (bytes : List ℕ) (from : ℕ) (f : Fault) → (p : FaultStandsAt bytes from f) → Behind bytes from p.start
behind_fault bytes from f p = record { in_order = p.in_order; gap = p.gap; ends = p.gap_ends; within = p.within }

-- ---- what stands there

token_by : Kind → ℕ → ℕ → Position → Token
token_by kind start end position = record { kind = kind; span = record { start = start; end = end; position = position } }

token_same : (k l : Kind) (a b c d : ℕ) (p q : Position) → k ≡ l → a ≡ b → c ≡ d → p ≡ q → token_by k a c p ≡ token_by l b d q
token_same k l a b c d p q kinds starts ends positions =
    ap (λ (z : Kind). token_by z a c p) kinds ∙ (ap (λ (n : ℕ). token_by l n c p) starts ∙ (ap (λ (n : ℕ). token_by l b n p) ends ∙ ap (token_by l b d) positions))

one_token : (bytes : List ℕ) (from : ℕ) (x y : Token) → StandsAt bytes from x → StandsAt bytes from y → x ≡ y
unfolding token_by
one_token bytes from x y p q =
    let starts = start_same bytes from x.span.start y.span.start (behind_token bytes from x p) (behind_token bytes from y q) in
    let here = subst (λ (n : ℕ). StandsFirst (drop n bytes) p.text x.kind) starts p.first in
    let texts = one_text (drop y.span.start bytes) p.text q.text x.kind y.kind here q.first in
    let ends : x.span.end ≡ y.span.end = p.end ∙ (ap (λ (n : ℕ). n + length p.text) starts ∙ (ap (λ (z : List ℕ). y.span.start + length z) texts.0 ∙ sym q.end)) in
    let positions : x.span.position ≡ y.span.position = p.position ∙ (ap (λ (n : ℕ). position_after (take n bytes)) starts ∙ sym q.position) in
    token_same x.kind y.kind x.span.start y.span.start x.span.end y.span.end x.span.position y.span.position texts.1 starts ends positions

fault_by : FaultKind → Position → Fault
fault_by kind position = record { kind = kind; position = position }

fault_same : (f g : Fault) → f.kind ≡ g.kind → f.position ≡ g.position → f ≡ g
unfolding fault_by
fault_same f g kinds positions = ap (λ (k : FaultKind). fault_by k f.position) kinds ∙ ap (fault_by g.kind) positions

end_same : (bytes : List ℕ) (x y : Token) → IsEnd bytes x → IsEnd bytes y → x ≡ y
unfolding token_by
end_same bytes x y p q = token_same x.kind y.kind x.span.start y.span.start x.span.end y.span.end x.span.position y.span.position (p.kind ∙ sym q.kind) (p.start ∙ sym q.start) (p.end ∙ sym q.end) (p.position ∙ sym q.position)

-- ---- the end of a list, or its fault

abbrev Final : List ℕ → ℕ → Token ⊎ Fault → Type 0
Final bytes upto (inl last) = IsLastGap (drop upto bytes) × IsEnd bytes last
Final bytes upto (inr fault) = FaultStandsAt bytes upto fault

not_last : (bytes : List ℕ) (from start : ℕ) → Behind bytes from start → IsLastGap (drop from bytes) → ⊥
not_last bytes from start b last =
    let none = no_last (slice_range bytes from start) (drop start bytes) b.gap (subst IsLastGap (split bytes from start b.in_order) last) b.ends in
    let w = b.within in
    omega (arith, ap length none, length-drop start bytes)

one_final : (bytes : List ℕ) (from : ℕ) (p q : Token ⊎ Fault) → Final bytes from p → Final bytes from q → p ≡ q
one_final bytes from (inl x) (inl y) p q = ap inl (end_same bytes x y p.1 q.1)
one_final bytes from (inl x) (inr g) p q = absurd (not_last bytes from q.start (behind_fault bytes from g q) p.0)
one_final bytes from (inr f) (inl y) p q = absurd (not_last bytes from p.start (behind_fault bytes from f p) q.0)
one_final bytes from (inr f) (inr g) p q =
    let starts = start_same bytes from p.start q.start (behind_fault bytes from f p) (behind_fault bytes from g q) in
    let kinds = one_fault (drop q.start bytes) f.kind g.kind (subst (λ (n : ℕ). StandsFault (drop n bytes) f.kind) starts p.faulty) q.faulty in
    ap inr (fault_same f g kinds (p.position ∙ (ap (λ (n : ℕ). position_after (take n bytes)) starts ∙ sym q.position)))

goes_on : (bytes : List ℕ) (from : ℕ) (t : Token) (p : Token ⊎ Fault) → StandsAt bytes from t → Final bytes from p → ⊥
goes_on bytes from t (inl x) s p = not_last bytes from t.span.start (behind_token bytes from t s) p.0
goes_on bytes from t (inr f) s p =
    let starts = start_same bytes from t.span.start p.start (behind_token bytes from t s) (behind_fault bytes from f p) in
    no_fault (drop p.start bytes) s.text t.kind f.kind (subst (λ (n : ℕ). StandsFirst (drop n bytes) s.text t.kind) starts s.first) s.small p.faulty

one_run : (bytes : List ℕ) (xs ys : List Token) (from u v : ℕ) (p q : Token ⊎ Fault) → Stand bytes from xs u → Final bytes u p → Stand bytes from ys v → Final bytes v q → (xs ≡ ys) × (p ≡ q)
one_run bytes [] [] from u v p q a e b f = (refl, one_final bytes from p q (subst (λ (n : ℕ). Final bytes n p) (sym a) e) (subst (λ (n : ℕ). Final bytes n q) (sym b) f))
one_run bytes [] (y ∷ ys) from u v p q a e b f = absurd (goes_on bytes from y p b.0 (subst (λ (n : ℕ). Final bytes n p) (sym a) e))
one_run bytes (x ∷ xs) [] from u v p q a e b f = absurd (goes_on bytes from x q a.0 (subst (λ (n : ℕ). Final bytes n q) (sym b) f))
one_run bytes (x ∷ xs) (y ∷ ys) from u v p q a e b f =
    let first = one_token bytes from x y a.0 b.0 in
    let more = one_run bytes xs ys y.span.end u v p q (subst (λ (t : Token). Stand bytes t.span.end xs u) first a.1) e b.1 f in
    (ap (λ (t : Token). t ∷ xs) first ∙ ap (λ (ts : List Token). y ∷ ts) more.0, more.1)

-- ---- the whole file

token_in : Token → Token ⊎ Fault → Token
token_in d (inl t) = t
token_in d (inr f) = d

fault_in : Fault → Token ⊎ Fault → Fault
fault_in d (inl t) = d
fault_in d (inr f) = f

is_token : Token ⊎ Fault → Bool
is_token (inl t) = true
is_token (inr f) = false

unknown_not : (bytes : List ℕ) (at : ℕ) → at < length bytes → AllPass is_known bytes → is_known (get_or bytes at 0) ≡ false → ⊥
unknown_not bytes at within all unknown = false≢true (sym unknown ∙ all at 0 within)

bad_order : (bytes : List ℕ) (a b : ℕ) → a < b → a < length bytes → AllPass is_known (take b bytes) → is_known (get_or bytes a 0) ≡ false → ⊥
bad_order bytes a b lt within before unknown =
    false≢true (sym unknown ∙ (ap is_known (sym (get_or-take b bytes a 0 lt)) ∙ before a 0 (omega (arith, length-take b bytes))))

one_bad : (bytes : List ℕ) (p q : Position) → IsBadByte bytes p → IsBadByte bytes q → p ≡ q
one_bad bytes p q x y =
    let not_less : x.at < y.at → ⊥ = λ lt. bad_order bytes x.at y.at lt x.within y.before x.unknown in
    let not_more : y.at < x.at → ⊥ = λ lt. bad_order bytes y.at x.at lt y.within x.before y.unknown in
    let same : x.at ≡ y.at = omega arith in
    x.here ∙ (ap (λ (n : ℕ). position_after (take n bytes)) same ∙ sym y.here)

too_long : (bytes : List ℕ) → max_file < length bytes → length bytes ≤ max_file → ⊥
too_long bytes long short = omega arith

no_bad_byte : (bytes : List ℕ) (p : Position) → IsBadByte bytes p → HasKnownBytes bytes → ⊥
no_bad_byte bytes p x known = unknown_not bytes x.at x.within known.known x.unknown

-- no list of tokens where a fault is
no_tokens : (bytes : List ℕ) (tokens : List Token) (f : Fault) → AreTokens bytes tokens → IsLexicalFault bytes f → ⊥
unfolding is_token
no_tokens bytes tokens f are (inl x) = too_long bytes x.1 are.file.short
no_tokens bytes tokens f are (inr (inl x)) = no_bad_byte bytes f.position x.1 are.file
no_tokens bytes tokens f are (inr (inr x)) =
    let both = one_run bytes are.front x.tokens 0 are.upto x.upto (inl are.last) (inr f) are.stand (are.gap, are.is_end) x.stand x.here in
    false≢true (sym (ap is_token both.1))

one_tokens : (bytes : List ℕ) (a b : List Token) → AreTokens bytes a → AreTokens bytes b → a ≡ b
unfolding token_in
one_tokens bytes a b p q =
    let both = one_run bytes p.front q.front 0 p.upto q.upto (inl p.last) (inl q.last) p.stand (p.gap, p.is_end) q.stand (q.gap, q.is_end) in
    p.parts ∙ (ap (λ (ts : List Token). ts ++ p.last ∷ []) both.0 ∙ (ap (λ (t : Token). q.front ++ t ∷ []) (ap (token_in p.last) both.1) ∙ sym q.parts))

one_lexical : (bytes : List ℕ) (f g : Fault) → IsLexicalFault bytes f → IsLexicalFault bytes g → f ≡ g
unfolding fault_in
one_lexical bytes f g (inl x) (inl y) = fault_same f g (x.0 ∙ sym y.0) (x.2 ∙ sym y.2)
one_lexical bytes f g (inl x) (inr (inl y)) = absurd (too_long bytes x.1 y.1.short)
one_lexical bytes f g (inl x) (inr (inr y)) = absurd (too_long bytes x.1 y.file.short)
one_lexical bytes f g (inr (inl x)) (inl y) = absurd (too_long bytes y.1 x.1.short)
one_lexical bytes f g (inr (inr x)) (inl y) = absurd (too_long bytes y.1 x.file.short)
one_lexical bytes f g (inr (inl x)) (inr (inl y)) = fault_same f g (x.0 ∙ sym y.0) (one_bad bytes f.position g.position x.1 y.1)
one_lexical bytes f g (inr (inl x)) (inr (inr y)) = absurd (no_bad_byte bytes f.position x.1 y.file)
one_lexical bytes f g (inr (inr x)) (inr (inl y)) = absurd (no_bad_byte bytes g.position y.1 x.file)
one_lexical bytes f g (inr (inr x)) (inr (inr y)) = ap (fault_in f) (one_run bytes x.tokens y.tokens 0 x.upto y.upto (inr f) (inr g) x.stand x.here y.stand y.here).1

pub one_reading : (bytes : List ℕ) (x y : List Token ⊎ Fault) → IsReading bytes x → IsReading bytes y → x ≡ y
one_reading bytes (inl a) (inl b) p q = ap inl (one_tokens bytes a b p q)
one_reading bytes (inl a) (inr g) p q = absurd (no_tokens bytes a g p q)
one_reading bytes (inr f) (inl b) p q = absurd (no_tokens bytes b f q p)
one_reading bytes (inr f) (inr g) p q = ap inr (one_lexical bytes f g p q)
