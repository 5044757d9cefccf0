-- What is wrong where a table is not read on.
use Rattle.std.specs.Prelude.{◌≡◌, ◌≢◌, ℕ, ◌^◌, ◌<◌, ◌⊎◌, ◌==◌, true, List, [], ◌∷◌, ◌++◌, length, decimal, codes, IsUtf8}
use Rattle.std.specs.Char.{is_ascii_digit}
use Rattle.std.specs.List.{before_first}
use Rattle.case_tables.specs.CaseTexts.{bytes_text}
use Rattle.case_tables.specs.declared.fault.TableFault.{TableFault}
use Rattle.case_tables.specs.declared.fault.TableFault.TheVariants.{Case, Name, Number, Blank, LineFeed, Utf8, BytesEnd, Status, Sent, Memory}

-- what is left does not begin with the text
abbrev pub Lacks : List ℕ → List ℕ → Type 0
Lacks text rest = (more : List ℕ) → rest ≢ text ++ more

abbrev pub BeginsWithDigit : List ℕ → Type 0
BeginsWithDigit [] = ⊥
BeginsWithDigit (byte ∷ bytes) = is_ascii_digit byte ≡ true

-- no piece begins there
abbrev pub LacksPiece : List ℕ → Type 0
LacksPiece rest = Lacks (codes "text ") rest × Lacks (codes "repeat ") rest × Lacks (codes "count ") rest

-- neither a piece begins there nor the number of puts
abbrev pub LacksEntry : List ℕ → Type 0
LacksEntry rest = LacksPiece rest × Lacks (codes "puts ") rest

-- no number of at most 4294967295 stands there as it is printed
abbrev pub LacksNumber : List ℕ → Type 0
LacksNumber rest = (number : ℕ) (more : List ℕ) → number < 2 ^ 32 → ¬ (BeginsWithDigit more) → rest ≢ decimal number ++ more

-- the line that stands there is no UTF-8, or the bytes that follow their length
abbrev pub LacksUtf8 : List ℕ → Type 0
LacksUtf8 rest = (¬ (IsUtf8 (before_first (λ byte. byte == 10) rest))) ⊎ ((bytes more : List ℕ) × (rest ≡ bytes_text bytes ++ more) × ¬ (IsUtf8 bytes))

-- where it is not read on, the fault says why; of want of memory nothing is said
abbrev pub IsWrongAt : TableFault → List ℕ → Type 0
IsWrongAt Case rest = Lacks (codes "case ") rest
IsWrongAt Name rest = (more : List ℕ) × (rest ≡ 10 ∷ more)
IsWrongAt Number rest = LacksNumber rest
IsWrongAt Blank rest = Lacks (codes " ") rest
IsWrongAt LineFeed rest = Lacks (codes "\n") rest
IsWrongAt Utf8 rest = LacksUtf8 rest
IsWrongAt (BytesEnd count) rest = count ≡ length rest
IsWrongAt Status rest = Lacks (codes "status ") rest
IsWrongAt Sent rest = Lacks (codes "sent\n") rest
IsWrongAt Memory rest = Unit {0}
