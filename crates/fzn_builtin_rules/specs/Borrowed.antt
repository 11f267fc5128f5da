-- The form that a borrowed one stands for.
use Rattle.std.specs.Prelude.{pos, negsuc, List, [], ◌∷◌, ◌++◌}
use Rattle.fzn_values.specs.declared.term.Place.{Place}
use Rattle.fzn_builtin_rules.specs.declared.form.Places.{Places}
use Rattle.fzn_builtin_rules.specs.declared.form.Places.TheVariants.{Both, Difference, BothLess, All, AllLess, Minus, Less}
use Rattle.fzn_builtin_rules.specs.declared.form.Form.{Form as Borrowed}
use Rattle.fzn_builtin_rules.specs.Form.{Form, form, place_with, difference, each_with}

abbrev pub places_in : Places → List Place
places_in (Both left right) = place_with (pos 1) left ∷ place_with (pos 1) right ∷ []
places_in (Difference left right) = difference left right
places_in (BothLess left right result) = place_with (pos 1) left ∷ place_with (pos 1) right ∷ place_with (negsuc 0) result ∷ []
places_in (All sum) = sum.now
places_in (AllLess sum total) = sum.now ++ place_with (negsuc 0) total ∷ []
places_in (Minus terms) = each_with (negsuc 0) terms.now
places_in (Less first second) = each_with (pos 1) first.now ++ each_with (negsuc 0) second.now

abbrev pub form_in : Borrowed → Form
form_in found = form (places_in found.places) found.comparison found.bound found.switch
