-- What is read of a file that is too long is read of a front of it.
use Rattle.std.proofs.Common.{◌≡◌, ℕ, ◌<◌, List, ◌++◌, length, inl, inr, sym, subst, Option, Some, None, IfSome, Result, Ok, Err, arith, length-append}
use Rattle.std.specs.Result.{IsErrAnd}
use Rattle.fzn_lexer.specs.declared.fault.Fault.{Fault}
use Rattle.fzn_lexer.specs.declared.halt.Halt.{Halt}
use Rattle.fzn_lexer.specs.declared.halt.Halt.TheVariants as errors
use Rattle.fzn_lexer.specs.declared.token.Token.{Token}
use Rattle.fzn_lexer.specs.Tokens.{Lexes, max_file}
use Rattle.fzn_meaning.specs.declared.model.Model.{Model}
use Rattle.fzn_reading.specs.Reads.{Reads, IsEnoughOf}
use Rattle.fzn_sources.specs.declared.located.Stated.{Stated}
use Rattle.fzn_sources.specs.Files.{model_stated}

-- it has no tokens
no_tokens : (bytes : List ℕ) (tokens : List Token) → max_file < length bytes → Lexes bytes (Ok tokens) → ⊥
no_tokens bytes tokens long lexed = omega (arith, long, lexed.file.short)

-- its fault is that of the whole
fault_of_front : (bytes more : List ℕ) (fault : Fault) → max_file < length bytes → Lexes bytes (Err (errors.Fault fault)) → Lexes (bytes ++ more) (Err (errors.Fault fault))
fault_of_front bytes more fault long (inl f) = inl (f.0, omega (arith, long, length-append bytes more), f.2)
fault_of_front bytes more fault long (inr (inl f)) = absurd (omega (arith, long, f.1.short))
fault_of_front bytes more fault long (inr (inr f)) = absurd (omega (arith, long, f.file.short))

front_reads : (bytes more : List ℕ) (result : Result Model (Halt Fault)) → max_file < length bytes → Reads bytes result → Reads (bytes ++ more) result
front_reads bytes more (Ok model) long r = absurd (no_tokens bytes r.1.tokens long r.1.lexed)
front_reads bytes more (Err errors.Memory) long r = tt
front_reads bytes more (Err (errors.Fault fault)) long (inl f) = inl (fault_of_front bytes more fault long f)
front_reads bytes more (Err (errors.Fault fault)) long (inr (inl f)) = absurd (no_tokens bytes f.0 long f.1)
front_reads bytes more (Err (errors.Fault fault)) long (inr (inr f)) = absurd (no_tokens bytes f.1.tokens long f.1.lexed)

-- what is read of enough of a file is read of the file
pub enough_reads : (whole bytes : List ℕ) (result : Result Model (Halt Fault)) → IsEnoughOf whole bytes → Reads bytes result → Reads whole result
enough_reads whole bytes result (inl same) r = subst (λ z. Reads z result) (sym same) r
enough_reads whole bytes result (inr f) r = subst (λ z. Reads z result) (sym f.1) (front_reads bytes f.0 result f.2 r)

-- the same where the reader tells the file
pub known_reads : (known : Option (List ℕ)) (bytes seen : List ℕ) (result : Result Model (Halt Fault)) → seen ≡ bytes → IfSome known (λ whole. IsEnoughOf whole bytes) → Reads seen result → IfSome known (λ whole. Reads whole result)
known_reads None bytes seen result same enough r = tt
known_reads (Some whole) bytes seen result same enough r = enough_reads whole bytes result enough (subst (λ z. Reads z result) same r)

-- what has tokens was read whole
tokens-whole : (whole bytes : List ℕ) (tokens : List Token) → IsEnoughOf whole bytes → Lexes bytes (Ok tokens) → whole ≡ bytes
tokens-whole whole bytes tokens (inl same) lexed = same
tokens-whole whole bytes tokens (inr f) lexed = absurd (no_tokens bytes tokens f.2 lexed)

-- the same where the reader tells the file
pub known_tokens : (known : Option (List ℕ)) (bytes seen : List ℕ) (tokens : List Token) → seen ≡ bytes → IfSome known (λ whole. IsEnoughOf whole bytes) → Lexes seen (Ok tokens) → IfSome known (λ whole. whole ≡ seen)
known_tokens None bytes seen tokens same enough lexed = tt
known_tokens (Some whole) bytes seen tokens same enough lexed = tokens-whole whole seen tokens (subst (IsEnoughOf whole) (sym same) enough) lexed

-- what has a model was read whole
model-whole : (whole bytes : List ℕ) (model : Model) → IsEnoughOf whole bytes → Reads bytes (Ok model) → whole ≡ bytes
model-whole whole bytes model enough r = tokens-whole whole bytes r.1.tokens enough r.1.lexed

pub known_whole : (known : Option (List ℕ)) (bytes seen : List ℕ) (model : Model) → seen ≡ bytes → IfSome known (λ whole. IsEnoughOf whole bytes) → Reads seen (Ok model) → IfSome known (λ whole. whole ≡ bytes)
known_whole None bytes seen model same enough r = tt
known_whole (Some whole) bytes seen model same enough r = model-whole whole bytes model enough (subst (λ z. Reads z (Ok model)) same r)

-- where memory ran out nothing is said
pub memory-reads : (bytes : List ℕ) (result : Result Stated (Halt Fault)) → IsErrAnd result (λ e. e ≡ errors.Memory) → Reads bytes (model_stated result)
memory-reads bytes (Ok file) h = absurd h
memory-reads bytes (Err e) h = subst (λ x. Reads bytes (Err x)) (sym h) tt
