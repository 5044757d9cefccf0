-- The blanks of a file-out.
use Rattle.std.specs.Prelude.{◌≡◌, ℕ, Bool, ◌||◌, ◌==◌, List, length, drop}
use Rattle.std.specs.List.{prefix_len}

-- a blank is a tab, a line feed, a form feed, a carriage return or a space
abbrev pub is_blank : ℕ → Bool
is_blank b = b == 9 || b == 10 || b == 12 || b == 13 || b == 32

-- how many blanks a text begins with
abbrev pub blank_len : List ℕ → ℕ
blank_len s = prefix_len is_blank s

-- the text holds nothing but blanks
abbrev pub IsBlank : List ℕ → Type 0
IsBlank s = blank_len s ≡ length s

-- the text without the blanks that it begins with
abbrev pub drop_blanks : List ℕ → List ℕ
drop_blanks s = drop (blank_len s) s

-- the text begins with no blank
abbrev pub HasNoLeadingBlank : List ℕ → Type 0
HasNoLeadingBlank s = blank_len s ≡ 0
