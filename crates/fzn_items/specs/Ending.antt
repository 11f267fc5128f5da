-- The lines of search annotations, of the goal, of mended places and of the counts.
use Rattle.std.specs.Prelude.{ℕ, ◌+◌, Bool, true, false, List, [], ◌∷◌, ◌++◌, Option, Some, None, codes, slice_range, if◌then◌else◌}
use Rattle.std.specs.List.{flat_map}
use Rattle.std.specs.Fmt.{decimal, signed_decimal}
use Rattle.fzn_lexer.specs.declared.token.Span.{Span}
use Rattle.fzn_meaning.specs.declared.model.Goal.{Goal}
use Rattle.fzn_meaning.specs.declared.model.Goal.TheVariants as goals
use Rattle.fzn_strategy.specs.declared.annotation.Annotation.{Annotation}
use Rattle.fzn_strategy.specs.declared.annotation.ValueChoice.{ValueChoice}
use Rattle.fzn_strategy.specs.declared.annotation.ValueChoice.TheVariants as v
use Rattle.fzn_strategy.specs.declared.annotation.VarChoice.{VarChoice}
use Rattle.fzn_strategy.specs.declared.annotation.VarChoice.TheVariants as x
use Rattle.fzn_mending.specs.declared.places.Change.{Change}
use Rattle.fzn_mending.specs.declared.places.Change.TheVariants as changes
use Rattle.fzn_mending.specs.declared.places.ConstantGoal.{ConstantGoal}
use Rattle.fzn_items.specs.declared.counts.Counts.{Counts}
use Rattle.fzn_mending.specs.declared.places.Part.{Part}
use Rattle.fzn_mending.specs.declared.places.Place.{Place}
use Rattle.fzn_items.specs.Pieces.{bytes_text, span_text, variable_text}

-- ---- search annotations

abbrev pub var_choice_name : VarChoice → List ℕ
var_choice_name x.InputOrder = codes "input_order"
var_choice_name x.FirstFail = codes "first_fail"
var_choice_name x.AntiFirstFail = codes "anti_first_fail"
var_choice_name x.Smallest = codes "smallest"
var_choice_name x.Largest = codes "largest"

abbrev pub value_choice_name : ValueChoice → List ℕ
value_choice_name v.Min = codes "indomain_min"
value_choice_name v.Max = codes "indomain_max"
value_choice_name v.Split = codes "indomain_split"
value_choice_name v.ReverseSplit = codes "indomain_reverse_split"

abbrev pub search_line : Annotation → List ℕ
search_line annotation =
    codes "search " ++ var_choice_name annotation.var_choice ++ codes " " ++ value_choice_name annotation.value_choice ++ codes " :" ++ flat_map variable_text annotation.vars ++ codes "\n"

-- ---- the goal

abbrev pub direction : Bool → List ℕ
direction true = codes "minimize"
direction false = codes "maximize"

-- the goal of the model, or the constant that is mended to it
abbrev pub goal_words : Option ConstantGoal → Goal → List ℕ
goal_words (Some constant) goal = direction constant.is_least ++ codes " constant " ++ signed_decimal constant.value
goal_words None goals.Satisfy = codes "satisfy"
goal_words None (goals.Minimize var) = direction true ++ variable_text var
goal_words None (goals.Maximize var) = direction false ++ variable_text var

-- with the item that states it, the first of these
abbrev pub goal_line : Option ConstantGoal → Goal → List Span → List ℕ
goal_line constant goal [] = []
goal_line constant goal (item ∷ items) = codes "goal " ++ goal_words constant goal ++ span_text item ++ codes "\n"

-- ---- mended places

abbrev pub part_text : Part → List ℕ
part_text part = bytes_text part.start part.end

abbrev pub change_word : Change → List ℕ
change_word changes.Unbounded = codes "unbounded "
change_word changes.Sets = codes "sets "

-- what is mended, whose, and where
abbrev pub place_line : List ℕ → Place → List ℕ
place_line bytes place = change_word place.change ++ slice_range bytes place.name.start place.name.end ++ part_text place.at ++ codes "\n"

abbrev pub constant_line : Option ConstantGoal → List ℕ
constant_line None = []
constant_line (Some constant) = codes "constant " ++ signed_decimal constant.value ++ part_text constant.at ++ codes "\n"

-- ---- the counts

abbrev pub tally_text : List ℕ → ℕ → List ℕ
tally_text word count = word ++ decimal count

abbrev pub counts_line : Counts → List ℕ
counts_line counts =
    tally_text (codes "end parameters ") counts.parameters ++ tally_text (codes " variables ") counts.variables ++ tally_text (codes " arrays ") counts.arrays
    ++ tally_text (codes " constraints ") counts.constraints ++ tally_text (codes " mended ") counts.mended ++ codes "\n"
