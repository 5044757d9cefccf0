-- Bytes by their class, and runs of them. Past the end of a text the byte is 0, which is in no class.
use Rattle.std.specs.Prelude.{◌≡◌, ℕ, ◌<◌, ◌≤◌, Bool, true, false, ◌||◌, ◌&&◌, not, ◌==◌, nat_le, List, slice_index}

-- a byte from low to high
abbrev pub is_between : ℕ → ℕ → ℕ → Bool
is_between low high b = nat_le low b && nat_le b high

-- tab, line feed, form feed, carriage return or space
abbrev pub is_blank : ℕ → Bool
is_blank b = b == 9 || b == 10 || b == 12 || b == 13 || b == 32

-- 0 to 9
abbrev pub is_digit : ℕ → Bool
is_digit b = is_between 48 57 b

-- A to Z
abbrev pub is_upper : ℕ → Bool
is_upper b = is_between 65 90 b

-- A to Z and a to z
abbrev pub is_letter : ℕ → Bool
is_letter b = is_upper b || is_between 97 122 b

-- a letter or a digit
abbrev pub is_word : ℕ → Bool
is_word b = is_letter b || is_digit b

-- a digit of a numeral with a radix: a digit or an upper-case letter
abbrev pub is_radix_digit : ℕ → Bool
is_radix_digit b = is_digit b || is_upper b

-- a character of binary selectors: + - * / \ ~ < > = @ % & ? ,
abbrev pub is_binary : ℕ → Bool
is_binary b = b == 43 || b == 45 || b == 42 || b == 47 || b == 92 || b == 126 || b == 60 || b == 62 || b == 61 || b == 64 || b == 37 || b == 38 || b == 63 || b == 44

-- one that may stand second in a binary selector: any but the minus sign
abbrev pub is_second : ℕ → Bool
is_second b = is_binary b && not (b == 45)

-- this byte stands at i
abbrev pub Has : List ℕ → ℕ → ℕ → Type 0
Has text i b = slice_index text i ≡ b

-- the byte at i is in the class
abbrev pub Passes : (ℕ → Bool) → List ℕ → ℕ → Type 0
Passes p text i = p (slice_index text i) ≡ true

-- the byte at i is not in the class
abbrev pub Fails : (ℕ → Bool) → List ℕ → ℕ → Type 0
Fails p text i = p (slice_index text i) ≡ false

-- the longest run of such bytes from i on ends at j
pub record IsRun (p : ℕ → Bool) (text : List ℕ) (i j : ℕ) : Type 0 where
  pub order : i ≤ j
  pub all : (k : ℕ) → i ≤ k → k < j → Passes p text k
  pub stops : Fails p text j
