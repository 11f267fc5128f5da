-- A file mended: its tokens, where some are put in the place of others.
use Rattle.std.specs.Prelude.{ℕ, Bool, true, false, List, [], ◌∷◌, ◌++◌, ℤ, pos, negsuc, Option, Some, None, bytes_eq, if◌then◌else◌}
use Rattle.std.specs.Ordering.{int_eq}
use Rattle.fzn_lexer.specs.Kinds.{is_symbol}
use Rattle.fzn_lexer.specs.declared.kept.Kept.{Kept}
use Rattle.fzn_lexer.specs.declared.token.Kind.{Kind}
use Rattle.fzn_lexer.specs.declared.token.Kind.TheVariants as k
use Rattle.fzn_lexer.specs.declared.token.Symbol.{Symbol}
use Rattle.fzn_lexer.specs.declared.token.Symbol.TheVariants as s
use Rattle.fzn_lexer.specs.declared.token.Token.{Token}
use Rattle.fzn_tree.specs.declared.tree.Literal.TheVariants as l
use Rattle.fzn_tree.specs.declared.tree.Param.{Param}
use Rattle.fzn_tree.specs.declared.tree.ParamValue.{ParamValue}
use Rattle.fzn_tree.specs.declared.tree.ParamValue.TheVariants as v
use Rattle.fzn_mending.specs.declared.mending.Seen.{Seen}
use Rattle.fzn_mending.specs.declared.mending.Seen.TheVariants.{Nothing, Var, Index, Element, Sets, Mended, Solve, Goal, Other}
use Rattle.fzn_mending.specs.declared.places.Change.{Change}
use Rattle.fzn_mending.specs.declared.places.Change.TheVariants as changes
use Rattle.fzn_mending.specs.declared.places.ConstantGoal.{ConstantGoal}
use Rattle.fzn_mending.specs.declared.places.Part.{Part}
use Rattle.fzn_mending.specs.declared.places.Place.{Place}

-- ---- tokens

abbrev pub is_sign : Symbol → Token → Bool
is_sign sign token = is_symbol sign token.kind

abbrev pub is_zero : Kind → Bool
is_zero (k.Int number) = int_eq number (pos 0)
is_zero _ = false

-- where the token stands
abbrev pub part_of : Token → Part
part_of token = record { start = token.span.start; end = token.span.end }

-- the same of a token as it is kept
abbrev pub kept_part : Kept → Part
kept_part token = record { start = token.start; end = token.end }

-- a token of this kind where another stands
abbrev pub put_at : Token → Kind → Token
put_at token kind = record { kind = kind; span = token.span }

-- ---- the constants of goals

abbrev pub literal_number : ParamValue → Option ℤ
literal_number (v.Literal (l.Int number)) = Some number.value
literal_number _ = None

-- the number that the first parameter of this name is given
abbrev pub number_named : List Param → List ℕ → Option ℤ
number_named [] text = None
number_named (param ∷ params) text = if bytes_eq text param.name.text then literal_number param.value else number_named params text

-- a number, or the name of one
abbrev pub number_meant : List Param → Kind → Option ℤ
number_meant params (k.Int number) = Some number
number_meant params (k.Name text) = number_named params text
number_meant params _ = None

-- the number that stands first
abbrev pub first_number : List Param → List Token → Option ℤ
first_number params [] = None
first_number params (token ∷ later) = number_meant params token.kind

-- ---- what was seen of the item that has begun

-- An item begins with its first token. A type is mended behind `var`, or behind `array [1..0] of` with `var` or without, and a goal where
-- a number stands behind `minimize` or `maximize`.
abbrev pub begun : Token → Seen
begun token =
    if is_sign s.Var token then Var
    else if is_sign s.Array token then Index false
    else if is_sign s.Solve token then Solve
    else Other

abbrev pub after_var : Token → Seen
after_var token = if is_sign s.Int token then Mended changes.Unbounded (part_of token) else Other

-- within the index set: whether the last number is 0
abbrev pub after_index : Bool → Token → Seen
after_index is_empty token =
    if is_sign s.Of token then (if is_empty then Element else Other)
    else if is_sign s.Dots token then Index is_empty
    else if is_sign s.CloseBracket token then Index is_empty
    else Index (is_zero token.kind)

abbrev pub after_of : Token → Seen
after_of token =
    if is_sign s.Var token then Element
    else if is_sign s.Set token then Sets (part_of token)
    else Other

-- within the type of a set, which goes up to the colon
abbrev pub after_set : Part → Token → Seen
after_set part token =
    if is_sign s.Colon token then Mended changes.Sets part
    else Sets (record { start = part.start; end = token.span.end })

abbrev pub after_type : Change → Part → Token → Seen
after_type change part token = if is_sign s.Colon token then Mended change part else Other

abbrev pub after_goal : Bool → Option ℤ → Seen
after_goal is_least None = Other
after_goal is_least (Some number) = Goal is_least number

-- with the number that stands behind the token
abbrev pub after_solve : Option ℤ → Token → Seen
after_solve number token =
    if is_sign s.Minimize token then after_goal true number
    else if is_sign s.Maximize token then after_goal false number
    else Solve

abbrev pub seen_after : Option ℤ → Seen → Token → Seen
seen_after number Nothing token = begun token
seen_after number Var token = after_var token
seen_after number (Index is_empty) token = after_index is_empty token
seen_after number Element token = after_of token
seen_after number (Sets part) token = after_set part token
seen_after number (Mended change part) token = after_type change part token
seen_after number Solve token = after_solve number token
seen_after number (Goal is_least value) token = Other
seen_after number Other token = Other

-- behind a `;` an item begins
abbrev pub next : Option ℤ → Seen → Token → Seen
next number seen token = if is_sign s.Semicolon token then Nothing else seen_after number seen token

-- ---- what stands in the place of a token

-- `int` behind `var` becomes its bounds
abbrev pub bounds_at : Token → List Token
bounds_at token = put_at token (k.Int (negsuc 999999999)) ∷ put_at token (k.Symbol s.Dots) ∷ put_at token (k.Int (pos 1000000000)) ∷ []

abbrev pub instead_after_var : Token → List Token
instead_after_var token = if is_sign s.Int token then bounds_at token else token ∷ []

-- the type of a set in an empty array becomes `int`
abbrev pub instead_after_of : Token → List Token
instead_after_of token = if is_sign s.Set token then put_at token (k.Symbol s.Int) ∷ [] else token ∷ []

-- nothing, but for the end of the file
abbrev pub end_alone : Token → List Token
end_alone token = if is_sign s.End token then token ∷ [] else []

abbrev pub instead_after_set : Token → List Token
instead_after_set token = if is_sign s.Colon token then token ∷ [] else end_alone token

-- a constant goal becomes `satisfy`
abbrev pub satisfied_at : Option ℤ → Token → List Token
satisfied_at None token = token ∷ []
satisfied_at (Some number) token = put_at token (k.Symbol s.Satisfy) ∷ []

abbrev pub instead_after_solve : Option ℤ → Token → List Token
instead_after_solve number token =
    if is_sign s.Minimize token then satisfied_at number token
    else if is_sign s.Maximize token then satisfied_at number token
    else token ∷ []

abbrev pub instead : Option ℤ → Seen → Token → List Token
instead number Var token = instead_after_var token
instead number Element token = instead_after_of token
instead number (Sets part) token = instead_after_set token
instead number Solve token = instead_after_solve number token
instead number (Goal is_least value) token = end_alone token
instead number _ token = token ∷ []

abbrev pub mended_from : List Param → Seen → List Token → List Token
mended_from params seen [] = []
mended_from params seen (token ∷ later) =
    instead (first_number params later) seen token ++ mended_from params (next (first_number params later) seen token) later

-- the tokens mended, in a file with these parameters
abbrev pub mended : List Param → List Token → List Token
mended params tokens = mended_from params Nothing tokens

-- ---- what is mended

-- the name behind a type that is mended
abbrev pub named_by : Change → Part → Part → Kind → List Place
named_by change part name (k.Name text) = record { change = change; name = name; at = part } ∷ []
named_by change part name _ = []

abbrev pub named_at : Change → Part → Token → List Place
named_at change part token = named_by change part (part_of token) token.kind

abbrev pub mended_at : Seen → Token → List Place
mended_at (Mended change part) token = named_at change part token
mended_at seen token = []

abbrev pub places_from : List Param → Seen → List Token → List Place
places_from params seen [] = []
places_from params seen (token ∷ later) = mended_at seen token ++ places_from params (next (first_number params later) seen token) later

-- the types, in the order of the file
abbrev pub mended_places : List Param → List Token → List Place
mended_places params tokens = places_from params Nothing tokens

abbrev pub constant_at : Seen → Token → Option ConstantGoal
constant_at (Goal is_least value) token = Some (record { is_least = is_least; value = value; at = part_of token })
constant_at seen token = None

-- the first of the two that there is
abbrev pub or_else : {A : Type 0} → Option A → Option A → Option A
or_else None other = other
or_else (Some value) other = Some value

abbrev pub constant_from : List Param → Seen → List Token → Option ConstantGoal
constant_from params seen [] = None
constant_from params seen (token ∷ later) = or_else (constant_at seen token) (constant_from params (next (first_number params later) seen token) later)

-- the goal, where it is a constant
abbrev pub constant : List Param → List Token → Option ConstantGoal
constant params tokens = constant_from params Nothing tokens
