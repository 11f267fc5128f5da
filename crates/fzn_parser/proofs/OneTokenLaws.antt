-- Nothing, and one token, are read.
use Rattle.std.proofs.Common.{◌≡◌, ◌≢◌, Bool, true, List, [], ◌∷◌, ◌++◌, Result, Ok, Err, Some, None, refl, sym, ap, subst, ◌∙◌, inl, inr}
use Rattle.std.specs.Result.{IsErrAnd}
use Rattle.fzn_lexer.specs.declared.halt.Halt.{Halt}
use Rattle.fzn_lexer.specs.declared.token.Kind.{Kind}
use Rattle.fzn_lexer.specs.declared.token.Position.{Position}
use Rattle.fzn_lexer.specs.declared.token.Symbol.TheVariants.{End}
use Rattle.fzn_lexer.specs.declared.token.Token.{Token}
use Rattle.fzn_lexer.specs.declared.fault.FaultKind.{FaultKind}
use Rattle.fzn_lexer.specs.declared.fault.FaultKind.TheVariants.{Syntax}
use Rattle.fzn_lexer.specs.declared.token.Kind.TheVariants as k
use Rattle.fzn_tree.specs.Piece.{Piece, FitsPiece, AreSpelled}
use Rattle.fzn_parser.specs.declared.cursor.Refusal.{Refusal}
use Rattle.fzn_parser.specs.declared.cursor.Start.{Start}
use Rattle.fzn_parser.specs.Begins.{begins}
use Rattle.fzn_parser.specs.Reads.{SameNext, Stops, IsRead, IsRefused, ReadsValue}
use Rattle.fzn_parser.specs.Taken.{IsTaken, IsUnexpected, Takes, refusal}
use Rattle.fzn_parser.proofs.SpelledLaws.{next_is-same, pair_is}
use Rattle.fzn_parser.proofs.Onward.{is_read, exit}

-- ---- nothing

abbrev pub no_pieces : Unit {0} → List Piece
no_pieces u = []

pub nothing_read : (g : Token → Bool) (ts : List Token) → IsRead no_pieces g ts tt ts
nothing_read g ts = record {
  front = [];
  parts = refl;
  plain = tt;
  spelled = tt;
  within = tt;
  only = λ b u v x. elim u as (λ u. AreSpelled u [] → Stops g v → u ++ v ≡ x → SameNext x ts → (b ≡ tt) × (v ≡ x)) [
    | [] ↦ λ spelled stops there next. (refl, there)
    | (y ∷ ys) ↦ λ spelled. absurd spelled
  ];
}

-- ---- one token

-- what is made of a token, and its piece
pub record IsToken {A : Type 0} (start : Start) (f : Kind × Position → A) (piece : A → Piece) : Type 0 where
  pub some : A
  pub sound : (t : Token) → begins start t ≡ true → FitsPiece t (piece (f (t.kind, t.span.position))) × (t.kind ≢ k.Symbol End)
  pub complete : (t : Token) (a : A) → FitsPiece t (piece a) → (begins start t ≡ true) × (f (t.kind, t.span.position) ≡ a)
  pub within : (a : A) → (piece a).past ≡ None

abbrev pub single : {A : Type 0} → (A → Piece) → A → List Piece
single piece a = piece a ∷ []

module _ {A : Type 0} (piece : A → Piece) (g : Token → Bool) where
  pub one_read : (t : Token) (rest : List Token) (a : A) → FitsPiece t (piece a) × (t.kind ≢ k.Symbol End) → (piece a).past ≡ None → ((b : A) → FitsPiece t (piece b) → b ≡ a) → IsRead (single piece) g (t ∷ rest) a rest
  one_read t rest a fits within one = record {
    front = t ∷ [];
    parts = refl;
    plain = (fits.1, tt);
    spelled = (fits.0, tt);
    within = (within, tt);
    only = λ b u v x. elim u as (λ u. AreSpelled u (single piece b) → Stops g v → u ++ v ≡ t ∷ x → SameNext x rest → (b ≡ a) × (v ≡ x)) [
      | [] ↦ λ spelled. absurd spelled
      | (y ∷ ys) ↦ elim ys as (λ ys. AreSpelled (y ∷ ys) (single piece b) → Stops g v → (y ∷ ys) ++ v ≡ t ∷ x → SameNext x rest → (b ≡ a) × (v ≡ x)) [
        | [] ↦ λ spelled stops there next.
            let first : y ≡ t = cc in
            let behind : v ≡ x = cc in
            (one b (subst (λ (z : Token). FitsPiece z (piece b)) first spelled.0), behind)
        | (z ∷ zs) ↦ λ spelled. absurd spelled.1
      ]
    ];
  }

  -- no value begins with the next token
  pub one_refused : (some : A) (ts : List Token) → ((b : A) (y : Token) (ys : List Token) → FitsPiece y (piece b) → SameNext (y ∷ ys) ts → ⊥) → IsRefused (single piece) g ts (refusal Syntax ts)
  one_refused some ts none = record {
    front = [];
    rest = ts;
    parts = refl;
    plain = tt;
    size = refl;
    more = single piece some;
    begins = record { value = some; pieces = []; parts = refl; spelled = tt; within = tt };
    why = inl (
      refl,
      λ b u v x. elim u as (λ u. AreSpelled u (single piece b) → Stops g v → u ++ v ≡ x → SameNext x ts → ⊥) [
        | [] ↦ λ spelled. absurd spelled
        | (y ∷ ys) ↦ λ spelled stops there next. none b y (ys ++ v) spelled.0 (subst (λ (z : List Token). SameNext z ts) (sym there) next)
      ],
    );
  }

  -- the next token passes a limit, whatever it begins
  pub one_over : (kind : FaultKind) (some : A) (t : Token) (ts : List Token) → FitsPiece t (piece some) → (piece some).past ≡ Some kind → ((b : A) → FitsPiece t (piece b) → b ≡ some) → IsRefused (single piece) g (t ∷ ts) (refusal kind (t ∷ ts))
  one_over kind some t ts fits past one = record {
    front = [];
    rest = t ∷ ts;
    parts = refl;
    plain = tt;
    size = refl;
    more = single piece some;
    begins = record { value = some; pieces = []; parts = refl; spelled = tt; within = tt };
    why = inr (
      (fits, past),
      λ b u v x. elim u as (λ u. AreSpelled u (single piece b) → Stops g v → u ++ v ≡ x → SameNext x (t ∷ ts) → (piece b).past ≡ Some kind) [
        | [] ↦ λ spelled. absurd spelled
        | (y ∷ ys) ↦ λ spelled stops there next.
            let first : y ≡ t = subst (λ (z : List Token). SameNext z (t ∷ ts)) (sym there) next in
            ap (λ (z : A). (piece z).past) (one b (subst (λ (z : Token). FitsPiece z (piece b)) first spelled.0)) ∙ past
      ],
    );
  }

module _ {A : Type 0} {start : Start} {f : Kind × Position → A} {piece : A → Piece} (w : IsToken start f piece) (g : Token → Bool) where
  taken_is : (before : List Token) (taken : Kind × Position) (rest : List Token) → IsTaken start before taken rest → IsRead (single piece) g before (f taken) rest
  taken_is before taken rest p =
      let t = p.token in
      let same = ap f (pair_is t.kind taken.0 t.span.position taken.1 (sym p.kind) (sym p.position)) in
      subst (λ (z : List Token). IsRead (single piece) g z (f taken) rest) (sym p.parts)
      (subst (λ (z : A). IsRead (single piece) g (t ∷ rest) z rest) same
      (one_read piece g t rest (f (t.kind, t.span.position)) (w.sound t p.wanted) (w.within (f (t.kind, t.span.position))) (λ b fits. sym (w.complete t b fits).1)))

  pub token_read : {before : List Token} {taken : Kind × Position} {rest : List Token} → Takes start before (Ok taken) rest → ReadsValue (single piece) g before (Ok (f taken)) rest
  token_read {before} {taken} {rest} p = is_read (taken_is before taken rest (p.ok taken refl))

  other_is : (before : List Token) (e : Refusal) → IsUnexpected start before e → IsRefused (single piece) g before e
  other_is before e p =
      subst (λ (z : Refusal). IsRefused (single piece) g before z) (sym p.is)
      (one_refused piece g w.some before (λ b y ys fits next. let c = (w.complete y b fits).0 in let same = next_is-same (begins start) (y ∷ ys) before next in let o = p.other in cc))

  pub token_refused : {before : List Token} {x : Halt Refusal} {r : Result A (Halt Refusal)} {after rest : List Token} → Takes start before (Err x) after → IsErrAnd r (λ y. y ≡ x) → ReadsValue (single piece) g before r rest
  token_refused {before} {x} {r} {after} {rest} p is = exit x r rest is (λ e k. other_is before e (p.err e (ap Err k)))
