-- Tokens that are mended end in the end of the file, and their numbers are small.
use Rattle.std.proofs.Common.{◌≡◌, ◌≢◌, ◌≤◌, Bool, true, false, List, [], ◌∷◌, ◌++◌, ℤ, pos, negsuc, Option, Some, None, inl, inr, refl, sym, ap, subst, ◌∙◌, arith, append_assoc, append-nil}
use Rattle.std.specs.Prelude.{if◌then◌else◌}
use Rattle.std.specs.List.{All}
use Rattle.std.proofs.lemmas.List.Elements.{All-nil, All-cons, All-head, All-tail}
use Rattle.fzn_lexer.specs.declared.token.Kind.TheVariants as k
use Rattle.fzn_lexer.specs.declared.token.Symbol.TheVariants as s
use Rattle.fzn_lexer.specs.declared.token.Token.{Token}
use Rattle.fzn_lexer.specs.Lexemes.{HasSmallNumber}
use Rattle.fzn_lexer.specs.Tokens.{NoEnd, EndsInEnd}
use Rattle.fzn_tree.specs.declared.tree.Param.{Param}
use Rattle.fzn_mending.specs.declared.mending.Seen.{Seen}
use Rattle.fzn_mending.specs.declared.mending.Seen.TheVariants.{Nothing, Var, Index, Element, Sets, Mended, Solve, Goal, Other}
use Rattle.fzn_mending.specs.Mending.{is_sign, put_at, first_number, next, bounds_at, end_alone, satisfied_at, instead, mended_from, mended}

-- ---- the end of the file

abbrev IsPlain : Token → Type 0
IsPlain token = token.kind ≢ k.Symbol s.End

NoEnd-append : (xs ys : List Token) → NoEnd xs → NoEnd ys → NoEnd (xs ++ ys)
NoEnd-append [] ys p q = q
NoEnd-append (x ∷ xs) ys p q = (p.0, NoEnd-append xs ys p.1 q)

NoEnd-if : (b : Bool) (xs ys : List Token) → NoEnd xs → NoEnd ys → NoEnd (if b then xs else ys)
NoEnd-if true xs ys p q = p
NoEnd-if false xs ys p q = q

bounds-plain : (token : Token) → NoEnd (bounds_at token)
bounds-plain token = ((λ e. cc), ((λ e. cc), ((λ e. cc), tt)))

end-plain : (token : Token) → IsPlain token → NoEnd (end_alone token)
end-plain token plain = NoEnd-if (is_sign s.End token) (token ∷ []) [] (plain, tt) tt

satisfied-plain : (number : Option ℤ) (token : Token) → IsPlain token → NoEnd (satisfied_at number token)
satisfied-plain None token plain = (plain, tt)
satisfied-plain (Some value) token plain = ((λ e. cc), tt)

instead-plain : (number : Option ℤ) (seen : Seen) (token : Token) → IsPlain token → NoEnd (instead number seen token)
instead-plain number Nothing token plain = (plain, tt)
instead-plain number Var token plain = NoEnd-if (is_sign s.Int token) (bounds_at token) (token ∷ []) (bounds-plain token) (plain, tt)
instead-plain number (Index is_empty) token plain = (plain, tt)
instead-plain number Element token plain = NoEnd-if (is_sign s.Set token) (put_at token (k.Symbol s.Int) ∷ []) (token ∷ []) ((λ e. cc), tt) (plain, tt)
instead-plain number (Sets part) token plain = NoEnd-if (is_sign s.Colon token) (token ∷ []) (end_alone token) (plain, tt) (end-plain token plain)
instead-plain number (Mended change part) token plain = (plain, tt)
instead-plain number Solve token plain =
    NoEnd-if (is_sign s.Minimize token) (satisfied_at number token) (if is_sign s.Maximize token then satisfied_at number token else token ∷ []) (satisfied-plain number token plain)
    (NoEnd-if (is_sign s.Maximize token) (satisfied_at number token) (token ∷ []) (satisfied-plain number token plain) (plain, tt))
instead-plain number (Goal is_least value) token plain = end-plain token plain
instead-plain number Other token plain = (plain, tt)

-- the end stays
instead-end : (number : Option ℤ) (seen : Seen) (token : Token) → token.kind ≡ k.Symbol s.End → instead number seen token ≡ token ∷ []
instead-end number Nothing token is = refl
instead-end number Var token is = rw is refl
instead-end number (Index is_empty) token is = refl
instead-end number Element token is = rw is refl
instead-end number (Sets part) token is = rw is refl
instead-end number (Mended change part) token is = refl
instead-end number Solve token is = rw is refl
instead-end number (Goal is_least value) token is = rw is refl
instead-end number Other token is = refl

ends-behind : (xs ys : List Token) → NoEnd xs → EndsInEnd ys → EndsInEnd (xs ++ ys)
ends-behind xs ys plain ends = record {
  before = xs ++ ends.before;
  last = ends.last;
  parts = ap (λ (back : List Token). xs ++ back) ends.parts ∙ sym (append_assoc xs ends.before (ends.last ∷ []));
  plain = NoEnd-append xs ends.before plain ends.plain;
  is_end = ends.is_end;
}

ends-from : (params : List Param) (seen : Seen) (before : List Token) (last : Token) → NoEnd before → last.kind ≡ k.Symbol s.End → EndsInEnd (mended_from params seen (before ++ last ∷ []))
ends-from params seen [] last plain is =
    record { before = []; last = last; parts = append-nil (instead None seen last) ∙ instead-end None seen last is; plain = tt; is_end = is }
ends-from params seen (token ∷ before) last plain is =
    let later = before ++ last ∷ [] in
    let number = first_number params later in
    ends-behind (instead number seen token) (mended_from params (next number seen token) later) (instead-plain number seen token plain.0) (ends-from params (next number seen token) before last plain.1 is)

pub ends-mended : (params : List Param) (tokens : List Token) → EndsInEnd tokens → EndsInEnd (mended params tokens)
ends-mended params tokens ends = subst (λ (z : List Token). EndsInEnd (mended params z)) (sym ends.parts) (ends-from params Nothing ends.before ends.last ends.plain ends.is_end)

-- ---- small numbers

abbrev HasSmall : Token → Type 0
HasSmall token = HasSmallNumber token.kind

abbrev AreSmall : List Token → Type 0
AreSmall tokens = All HasSmall tokens

one-small : (token : Token) → HasSmall token → AreSmall (token ∷ [])
one-small token small = All-cons HasSmall token [] small (All-nil HasSmall)

AreSmall-append : (xs ys : List Token) → AreSmall xs → AreSmall ys → AreSmall (xs ++ ys)
AreSmall-append [] ys p q = q
AreSmall-append (x ∷ xs) ys p q = All-cons HasSmall x (xs ++ ys) (All-head HasSmall x xs p) (AreSmall-append xs ys (All-tail HasSmall x xs p) q)

AreSmall-if : (b : Bool) (xs ys : List Token) → AreSmall xs → AreSmall ys → AreSmall (if b then xs else ys)
AreSmall-if true xs ys p q = p
AreSmall-if false xs ys p q = q

bounds-small : (token : Token) → AreSmall (bounds_at token)
bounds-small token =
    let least = put_at token (k.Int (negsuc 999999999)) in
    let dots = put_at token (k.Symbol s.Dots) in
    let greatest = put_at token (k.Int (pos 1000000000)) in
    All-cons HasSmall least (dots ∷ greatest ∷ []) (1000000000, omega arith, inr refl) (All-cons HasSmall dots (greatest ∷ []) tt (one-small greatest (1000000000, omega arith, inl refl)))

end-small : (token : Token) → HasSmall token → AreSmall (end_alone token)
end-small token small = AreSmall-if (is_sign s.End token) (token ∷ []) [] (one-small token small) (All-nil HasSmall)

satisfied-small : (number : Option ℤ) (token : Token) → HasSmall token → AreSmall (satisfied_at number token)
satisfied-small None token small = one-small token small
satisfied-small (Some value) token small = one-small (put_at token (k.Symbol s.Satisfy)) tt

instead-small : (number : Option ℤ) (seen : Seen) (token : Token) → HasSmall token → AreSmall (instead number seen token)
instead-small number Nothing token small = one-small token small
instead-small number Var token small = AreSmall-if (is_sign s.Int token) (bounds_at token) (token ∷ []) (bounds-small token) (one-small token small)
instead-small number (Index is_empty) token small = one-small token small
instead-small number Element token small =
    AreSmall-if (is_sign s.Set token) (put_at token (k.Symbol s.Int) ∷ []) (token ∷ []) (one-small (put_at token (k.Symbol s.Int)) tt) (one-small token small)
instead-small number (Sets part) token small = AreSmall-if (is_sign s.Colon token) (token ∷ []) (end_alone token) (one-small token small) (end-small token small)
instead-small number (Mended change part) token small = one-small token small
instead-small number Solve token small =
    AreSmall-if (is_sign s.Minimize token) (satisfied_at number token) (if is_sign s.Maximize token then satisfied_at number token else token ∷ []) (satisfied-small number token small)
    (AreSmall-if (is_sign s.Maximize token) (satisfied_at number token) (token ∷ []) (satisfied-small number token small) (one-small token small))
instead-small number (Goal is_least value) token small = end-small token small
instead-small number Other token small = one-small token small

small-from : (params : List Param) (seen : Seen) (tokens : List Token) → AreSmall tokens → AreSmall (mended_from params seen tokens)
small-from params seen [] small = All-nil HasSmall
small-from params seen (token ∷ later) small =
    let number = first_number params later in
    AreSmall-append (instead number seen token) (mended_from params (next number seen token) later) (instead-small number seen token (All-head HasSmall token later small))
    (small-from params (next number seen token) later (All-tail HasSmall token later small))

pub small-mended : (params : List Param) (tokens : List Token) → All (λ (token : Token). HasSmallNumber token.kind) tokens → All (λ (token : Token). HasSmallNumber token.kind) (mended params tokens)
small-mended params tokens small = small-from params Nothing tokens small
