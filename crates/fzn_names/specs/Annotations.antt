-- Annotations that say what is printed.
use Rattle.std.specs.Prelude.{ℕ, ◌*◌, Bool, true, false, not, ◌&&◌, ◌||◌, List, [], ◌∷◌, ◌++◌, Option, Some, None, map, filter, take, drop, length, nat_eq, nat_lt, is_some, bytes_eq, codes}
use Rattle.std.specs.List.{list_any, list_all, filter_map}
use Rattle.fzn_domain.specs.IntSet.{width}
use Rattle.fzn_lexer.specs.declared.token.Position.{Position}
use Rattle.fzn_meaning.specs.declared.model.IndexRange.{IndexRange}
use Rattle.fzn_tree.specs.declared.tree.Ann.{Ann, out-Ann}
use Rattle.fzn_tree.specs.declared.tree.AnnArg.{AnnArg}
use Rattle.fzn_tree.specs.declared.tree.AnnArg.TheVariants as a
use Rattle.fzn_tree.specs.declared.tree.AnnTerm.{AnnTerm}
use Rattle.fzn_tree.specs.declared.tree.AnnTerm.TheVariants as t
use Rattle.fzn_tree.specs.declared.tree.Literal.TheVariants as l

abbrev pub is_output_var : Ann → Bool
is_output_var ann = bytes_eq (out-Ann ann).name.text (codes "output_var")

abbrev pub is_output_array : Ann → Bool
is_output_array ann = bytes_eq (out-Ann ann).name.text (codes "output_array")

abbrev pub is_output : Ann → Bool
is_output ann = is_output_var ann || is_output_array ann

-- ---- single variables

abbrev pub is_empty_list : {A : Type 0} → List A → Bool
is_empty_list [] = true
is_empty_list (x ∷ xs) = false

abbrev pub has_no_args : {A : Type 0} → Option (List A) → Bool
has_no_args None = true
has_no_args (Some args) = is_empty_list args

-- it marks a single variable: `output_var` without arguments
abbrev pub is_mark : Ann → Bool
is_mark ann = is_output_var ann && has_no_args (out-Ann ann).args

-- whether the variable is printed
abbrev pub is_marked : List Ann → Bool
is_marked anns = list_any is_mark anns

-- ---- arrays

abbrev pub index_range : AnnTerm Ann → Option IndexRange
index_range (t.Literal (l.Range r)) = Some (record { low = r.low.value; high = r.high })
index_range _ = None

-- the ranges among these
abbrev pub ranges_in : List (AnnTerm Ann) → List IndexRange
ranges_in terms = filter_map index_range terms

-- how many indices there are
abbrev pub size_of : List IndexRange → ℕ
size_of [] = 1
size_of (r ∷ ranges) = width r.low r.high * size_of ranges

-- from 1 to 6 ranges and nothing else, with this many indices
abbrev pub have_form : ℕ → List (AnnTerm Ann) → Bool
have_form count terms =
    list_all (λ term. is_some (index_range term)) terms && nat_lt 0 (length terms) && nat_lt (length terms) 7 && nat_eq (size_of (ranges_in terms)) count

-- what stands in the list that is the one argument
abbrev pub listed_terms : Option (List (AnnArg Ann)) → List (AnnTerm Ann)
listed_terms (Some (a.List terms ∷ [])) = terms
listed_terms _ = []

-- it marks an array with this many entries: `output_array` with a list of that form
abbrev pub is_array_mark : ℕ → Ann → Bool
is_array_mark count ann = is_output_array ann && have_form count (listed_terms (out-Ann ann).args)

-- ---- faults

abbrev pub position_of_ann : Ann → Position
position_of_ann ann = (out-Ann ann).name.position

-- it is faulty by itself on a single variable, or on an array with this many entries
abbrev pub is_bad_mark : Ann → Bool
is_bad_mark ann = is_output ann && not (is_mark ann)

abbrev pub is_bad_array_mark : ℕ → Ann → Bool
is_bad_array_mark count ann = is_output ann && not (is_array_mark count ann)

-- the first output annotation where it is faulty by itself, and each behind it
abbrev pub mark_faults : (Ann → Bool) → List Ann → List Position
mark_faults is_bad anns = map position_of_ann (filter is_bad (take 1 (filter is_output anns)) ++ drop 1 (filter is_output anns))
