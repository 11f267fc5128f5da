-- Tokens spell at most one value, type or predicate.
use Rattle.std.proofs.Common.{◌≡◌, ℕ, Bool, refl, sym, ◌∙◌}
use Rattle.std.specs.Prelude.{pos, nat_lt}
use Rattle.fzn_lexer.specs.declared.token.Kind.{Kind}
use Rattle.fzn_lexer.specs.declared.token.Symbol.{Symbol}
use Rattle.fzn_lexer.specs.declared.token.Token.{Token}
use Rattle.fzn_lexer.specs.declared.token.Kind.TheVariants as k
use Rattle.fzn_lexer.specs.declared.token.Symbol.TheVariants as s
use Rattle.fzn_tree.specs.Piece.{placed, piece_at}
use Rattle.fzn_tree.specs.Grammar as G
use Rattle.fzn_parser.specs.declared.cursor.Start.TheVariants as w
use Rattle.fzn_parser.specs.Begins.{begins}
use Rattle.fzn_parser.specs.GoesOn.{never, goes_further}
use Rattle.fzn_parser.specs.Taken.{is, one}
use Rattle.fzn_parser.proofs.TokenLaws.{name_token, int_token, number_token}
use Rattle.fzn_parser.proofs.LiteralLaws.{values_listed, listed_values, values_braced, values_range, tail, literal_true, literal_false, literal_set, literal_number, tail_range, tail_none}
use Rattle.fzn_parser.proofs.ValueLaws.{basic_name, basic_literal, entries_listed, array_of, arg_array, arg_basic}
use Rattle.fzn_parser.proofs.TypeLaws.{elements_any, elements_of, base_bool, base_int, base_set, base_values, index_of, array_size}
use Rattle.fzn_parser.proofs.PredicateLaws.{indices_any, indices_size, array_none, array_some, var_none, var_some, param_begun, params_listed, predicate_begun}
use Rattle.fzn_parser.proofs.UniqueLaws.{IsUnique, of_form, by_next, forms_unique, nothing_unique, piece_unique, token_unique, marked_unique, sign_unique, listed_unique}

-- ---- values

pub placed_unique : (x : Symbol) → (g : Token → Bool) → IsUnique (λ at. placed (k.Symbol x) at) g
placed_unique x g = piece_unique (λ at. piece_at (k.Symbol x) at) g (λ t a b p q. sym p.1 ∙ q.1)

pub name_unique : (g : Token → Bool) → IsUnique G.name g
name_unique = token_unique name_token

pub int_unique : (g : Token → Bool) → IsUnique G.int g
int_unique = token_unique int_token

pub number_unique : (g : Token → Bool) → IsUnique G.number g
number_unique = token_unique number_token

pub listed_values_unique : IsUnique listed_values never
listed_values_unique = listed_unique values_listed (λ n. marked_unique (number_unique never) (nat_lt n G.most_listed))

pub values_unique : IsUnique G.values never
values_unique =
    forms_unique
    (λ ts. by_next (is s.OpenBrace) ts
    (λ there. of_form (values_braced ts there) (sign_unique s.OpenBrace never, listed_values_unique))
    (λ there. of_form (values_range ts there) (int_unique never, (sign_unique s.Dots never, number_unique never))))

pub tail_unique : IsUnique tail goes_further
tail_unique =
    forms_unique
    (λ ts. by_next (is s.Dots) ts
    (λ there. of_form (tail_range ts there) (sign_unique s.Dots never, number_unique never))
    (λ there. of_form (tail_none ts there) (nothing_unique goes_further)))

pub literal_unique : IsUnique G.literal goes_further
literal_unique =
    forms_unique
    (λ ts. by_next (is s.True) ts
    (λ there. of_form (literal_true ts there) (placed_unique s.True never))
    (λ not_true. by_next (is s.False) ts
    (λ there. of_form (literal_false ts there) (placed_unique s.False never))
    (λ not_false. by_next (is s.OpenBrace) ts
    (λ there. of_form (literal_set ts there) (placed_unique s.OpenBrace never, listed_values_unique))
    (λ not_brace. of_form (literal_number ts not_true not_false not_brace) (int_unique never, tail_unique)))))

pub basic_unique : IsUnique G.basic goes_further
basic_unique =
    forms_unique
    (λ ts. by_next (begins w.Name) ts
    (λ there. of_form (basic_name ts there) (name_unique never))
    (λ there. of_form (basic_literal ts there) literal_unique))

pub array_unique : IsUnique G.array never
array_unique = forms_unique (λ ts. of_form (array_of ts) (placed_unique s.OpenBracket never, listed_unique entries_listed (λ n. marked_unique basic_unique (nat_lt n G.most))))

pub arg_unique : IsUnique G.arg goes_further
arg_unique =
    forms_unique
    (λ ts. by_next (is s.OpenBracket) ts
    (λ there. of_form (arg_array ts there) array_unique)
    (λ there. of_form (arg_basic ts there) basic_unique))

-- ---- types

pub elements_unique : IsUnique G.elements never
elements_unique =
    forms_unique
    (λ ts. by_next (is s.Int) ts
    (λ there. of_form (elements_any ts there) (sign_unique s.Int never))
    (λ there. of_form (elements_of ts there) values_unique))

pub base_unique : IsUnique G.base never
base_unique =
    forms_unique
    (λ ts. by_next (is s.Bool) ts
    (λ there. of_form (base_bool ts there) (sign_unique s.Bool never))
    (λ not_bool. by_next (is s.Int) ts
    (λ there. of_form (base_int ts there) (placed_unique s.Int never))
    (λ not_int. by_next (is s.Set) ts
    (λ there. of_form (base_set ts there) (placed_unique s.Set never, (sign_unique s.Of never, elements_unique)))
    (λ not_set. of_form (base_values ts not_bool not_int not_set) values_unique))))

pub size_unique : IsUnique G.array_length never
size_unique = piece_unique _ never (λ t a b p q. size_is a b (sym p.0 ∙ q.0))
  where
    size_is : (a b : ℕ) → ◌≡◌ {A = Kind} (k.Int (pos a)) (k.Int (pos b)) → a ≡ b
    size_is a b e = cc

pub one_unique : IsUnique one never
one_unique = piece_unique _ never (λ t a b p q. refl)

pub index_unique : IsUnique G.index never
index_unique = forms_unique (λ ts. of_form (index_of ts) (one_unique, (sign_unique s.Dots never, size_unique)))

pub array_of_unique : IsUnique G.array_of never
array_of_unique = forms_unique (λ ts. of_form (array_size ts) (placed_unique s.Array never, (sign_unique s.OpenBracket never, (index_unique, (sign_unique s.CloseBracket never, sign_unique s.Of never)))))

-- ---- predicates

pub index_set_unique : IsUnique G.index_set never
index_set_unique =
    forms_unique
    (λ ts. by_next (is s.Int) ts
    (λ there. of_form (indices_any ts there) (sign_unique s.Int never))
    (λ there. of_form (indices_size ts there) index_unique))

pub predicate_array_unique : IsUnique G.predicate_array (is s.Array)
predicate_array_unique =
    forms_unique
    (λ ts. by_next (is s.Array) ts
    (λ there. of_form (array_some ts there) (sign_unique s.Array never, (sign_unique s.OpenBracket never, (index_set_unique, (sign_unique s.CloseBracket never, sign_unique s.Of never)))))
    (λ there. of_form (array_none ts there) (nothing_unique (is s.Array))))

pub optional_var_unique : IsUnique G.optional_var (is s.Var)
optional_var_unique =
    forms_unique
    (λ ts. by_next (is s.Var) ts
    (λ there. of_form (var_some ts there) (sign_unique s.Var never))
    (λ there. of_form (var_none ts there) (nothing_unique (is s.Var))))

pub param_unique : IsUnique G.predicate_param never
param_unique = forms_unique (λ ts. of_form (param_begun ts) (predicate_array_unique, (optional_var_unique, (base_unique, (sign_unique s.Colon never, name_unique never)))))

pub predicate_unique : IsUnique G.predicate never
predicate_unique = forms_unique (λ ts. of_form (predicate_begun ts) (placed_unique s.Predicate never, (name_unique never, (sign_unique s.OpenParen never, (listed_unique params_listed (λ n. param_unique), sign_unique s.Semicolon never)))))
