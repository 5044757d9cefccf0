-- Which fault a text has at a place where no token begins.
use Rattle.std.specs.Prelude.{◌≡◌, ◌≢◌, ℕ, ◌+◌, ◌⊎◌, List, slice_index}
use Rattle.token_model.specs.Bytes.{is_digit, Has, Passes, Fails}
use Rattle.token_model.specs.Tokens.{NoToken}
use Rattle.token_model.specs.declared.kind.Dialect.{Dialect}
use Rattle.token_model.specs.declared.fault.LexFault.{LexFault}
use Rattle.token_model.specs.declared.fault.LexFault.TheVariants.{BadByte, OpenString, OpenComment, BadNumeral}

-- what begins at i has its first quote there: a string, or a symbol written as one
abbrev pub HasQuote : List ℕ → ℕ → ℕ → Type 0
HasQuote text i quote = Has text quote 39 × ((quote ≡ i) ⊎ (Has text i 35 × (quote ≡ i + 1)))

-- what begins at i decides the fault: a string that stays open at its quote, a comment that does, a numeral, or any other byte
abbrev pub FaultsAs : List ℕ → ℕ → LexFault → Type 0
FaultsAs text i (BadByte at) =
    (at ≡ i) × ((quote : ℕ) → ¬ HasQuote text i quote) × (slice_index text i ≢ 34) × Fails is_digit text i
FaultsAs text i (OpenString at) = HasQuote text i at
FaultsAs text i (OpenComment at) = (at ≡ i) × Has text i 34
FaultsAs text i (BadNumeral at) = (at ≡ i) × Passes is_digit text i

-- no token begins at i, and this is the fault
pub record IsFault (dialect : Dialect) (text : List ℕ) (i : ℕ) (fault : LexFault) : Type 0 where
  pub none : NoToken dialect text i
  pub which : FaultsAs text i fault
