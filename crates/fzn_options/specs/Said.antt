-- What the options are, by what a command line says of each.
use Rattle.std.specs.Prelude.{◌≡◌, ◌≢◌, ℕ, ◌-◌, ◌^◌, ◌≤◌, Bool, List, Option, Some, None, IfSome, bytes_eq, codes, option_map, string_bytes}
use Rattle.std.specs.Option.{option_map_or}
use Rattle.std.specs.Prelude.{false, true}
use Rattle.clap.specs.Words.{Row, Text, first_of}
use Rattle.fzn_options.specs.declared.check.CheckOptions.{CheckOptions}
use Rattle.fzn_options.specs.declared.check.CheckOptions.TheVariants.{Check, ToVersion2, Trim, Core, Bound, Items}
use Rattle.fzn_strategy.specs.declared.learn.Learn.{Learn}
use Rattle.fzn_strategy.specs.declared.learn.Learn.TheVariants.{First}
use Rattle.fzn_strategy.specs.declared.parameters.Parameters.{Parameters}
use Rattle.fzn_strategy.specs.Standard.{standard}
use Rattle.fzn_options.specs.declared.solve.Options.{Options}
use Rattle.fzn_options.specs.Words.{number_between, learning_of}

-- a flag is set where it was given
abbrev pub is_flag_set : Option Text → Bool
is_flag_set said = option_map_or (λ text. bytes_eq text (codes "true")) said false

-- no number where none was given; else the one that the word spells, which is one of these
abbrev pub SaysNumber : ℕ → ℕ → Option Text → Option ℕ → Type 0
SaysNumber least most None number = number ≡ None
SaysNumber least most (Some word) number = (k : ℕ) × (number ≡ Some k) × (number_between least most word ≡ Some k)

-- the same, with a number for where none was given
abbrev pub SaysNumberOr : ℕ → ℕ → ℕ → Option Text → ℕ → Type 0
SaysNumberOr default least most None number = number ≡ default
SaysNumberOr default least most (Some word) number = number_between least most word ≡ Some number

-- that of the first unique point where none was given
abbrev pub SaysLearning : Option Text → Learn → Type 0
SaysLearning None learning = learning ≡ First
SaysLearning (Some word) learning = learning_of word ≡ Some learning

-- the standard ones where none was given
abbrev pub AreUntuned : Option Text → Parameters → Type 0
AreUntuned None parameters = parameters ≡ standard
AreUntuned (Some word) parameters = Unit {0}

-- Each option is what the command line says of it, or its default.
pub record AreSaid (rows : List Row) (options : Options) : Type 0 where
  pub all : options.all ≡ is_flag_set (first_of (codes "all") rows)
  pub limit : SaysNumber 1 (10 ^ 9) (first_of (codes "limit") rows) options.limit
  pub free : options.free ≡ is_flag_set (first_of (codes "free") rows)
  pub derive : options.derive ≡ is_flag_set (first_of (codes "derive") rows)
  pub seed : SaysNumber 0 (2 ^ 64 - 1) (first_of (codes "seed") rows) options.seed
  pub nodes : SaysNumberOr (10 ^ 7) 0 (10 ^ 12) (first_of (codes "nodes") rows) options.nodes
  pub learn : SaysLearning (first_of (codes "learn") rows) options.learn
  pub restart_after : options.restart_after ≡ 100
  pub keep : options.keep ≡ 2000
  pub parameters : AreUntuned (first_of (codes "tune") rows) options.parameters
  pub progress : options.progress ≡ is_flag_set (first_of (codes "progress") rows)
  pub model : first_of (codes "model") rows ≡ Some (string_bytes options.model)
  pub cert : first_of (codes "cert") rows ≡ option_map string_bytes options.cert
  pub hints : first_of (codes "hints") rows ≡ option_map string_bytes options.hints

-- each number lies in its range, and the certificate's path is named once
pub record AreFit (options : Options) : Type 0 where
  pub limit : IfSome options.limit (λ limit. (1 ≤ limit) × (limit ≤ 10 ^ 9))
  pub nodes : options.nodes ≤ 10 ^ 12
  pub restart_after : (1 ≤ options.restart_after) × (options.restart_after ≤ 10 ^ 9)
  pub keep : options.keep ≤ 10 ^ 9
  pub model : IfSome options.cert (λ cert. string_bytes cert ≢ string_bytes options.model)
  pub hints : IfSome options.cert (λ cert. IfSome options.hints (λ hints. string_bytes cert ≢ string_bytes hints))

-- what the words say of each form
abbrev pub AsksFor : List Row → Bool → Option Text → Bool → Bool → Bool → Type 0
AsksFor rows to2 trim core bound items = (is_flag_set (first_of (codes "to2") rows) ≡ to2) × (first_of (codes "trim") rows ≡ trim) × (is_flag_set (first_of (codes "core") rows) ≡ core)
    × (is_flag_set (first_of (codes "bound") rows) ≡ bound) × (is_flag_set (first_of (codes "items") rows) ≡ items)

-- the two paths that stand by themselves
abbrev pub Names : List Row → Text → Option Text → Type 0
Names rows model cert = (first_of (codes "model") rows ≡ Some model) × (first_of (codes "cert") rows ≡ cert)

-- the form is the one that the words ask for, and its paths are those that they say
abbrev pub IsCheckSaid : List Row → CheckOptions → Type 0
IsCheckSaid rows (Check all model cert) = AsksFor rows false None false false false × (all ≡ is_flag_set (first_of (codes "all") rows)) × Names rows (string_bytes model) (Some (string_bytes cert))
IsCheckSaid rows (ToVersion2 old new) = AsksFor rows true None false false false × Names rows (string_bytes old) (Some (string_bytes new))
IsCheckSaid rows (Trim model cert new) = AsksFor rows false (Some (string_bytes new)) false false false × Names rows (string_bytes model) (Some (string_bytes cert))
IsCheckSaid rows (Core model cert) = AsksFor rows false None true false false × Names rows (string_bytes model) (Some (string_bytes cert))
IsCheckSaid rows (Bound all model cert) = AsksFor rows false None false true false × (all ≡ is_flag_set (first_of (codes "all") rows)) × Names rows (string_bytes model) (Some (string_bytes cert))
IsCheckSaid rows (Items model) = AsksFor rows false None false false true × Names rows (string_bytes model) None

-- no path is named twice
abbrev pub AreOtherPaths : CheckOptions → Type 0
AreOtherPaths (Check all model cert) = string_bytes cert ≢ string_bytes model
AreOtherPaths (ToVersion2 old new) = string_bytes new ≢ string_bytes old
AreOtherPaths (Core model cert) = string_bytes cert ≢ string_bytes model
AreOtherPaths (Bound all model cert) = string_bytes cert ≢ string_bytes model
AreOtherPaths (Items model) = Unit {0}
AreOtherPaths (Trim model cert new) = (string_bytes cert ≢ string_bytes model) × (string_bytes new ≢ string_bytes model) × (string_bytes new ≢ string_bytes cert)
