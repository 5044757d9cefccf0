-- Texts that stand for marks, in a table of names.
use Rattle.std.specs.Prelude.{◌≡◌, ℕ, if◌then◌else◌, Bool, true, List, [], ◌∷◌, ◌++◌, length, map}
use Rattle.std.specs.List.{AllByRecursion, list_all, list_any}
use Rattle.token_model.specs.Bytes.{is_digit}
use Rattle.certified_model.specs.Marks.{Text}
use Rattle.derivations.specs.Signs.{Sign, same_sign, is_unary_sign}
use Rattle.derivations.specs.Numbered.{Table}

-- the first byte of a text that stands for a mark: a letter or a backquote
abbrev pub first_byte : Sign → ℕ
first_byte s = if is_unary_sign s then 117 else 96

-- it and digits
pub record IsNameFor (text : Text) (s : Sign) : Type 0 where
  pub digits : Text
  pub are_digits : list_all is_digit digits ≡ true
  pub spelled : text ≡ first_byte s ∷ digits

-- whether a mark is among these
abbrev pub has_sign : List Sign → Sign → Bool
has_sign ss s = list_any (λ x. same_sign x s) ss

-- marks, and another one if it is not among them
abbrev pub with_sign : List Sign → Sign → List Sign
with_sign ss s = if has_sign ss s then ss else ss ++ s ∷ []

-- marks, and those of others that are not among them, each once
abbrev pub with_signs : List Sign → List Sign → List Sign
with_signs ss [] = ss
with_signs ss (t ∷ ts) = with_signs (with_sign ss t) ts

-- The texts that a table of names has at its end stand for these marks, in their order, from this number on.
pub record AreNamed (before : List Text) (signs : List Sign) (names : List Text) : Type 0 where
  pub rows : List (Text × Sign)
  pub texts : names ≡ before ++ map (λ (r : Text × Sign). r.0) rows
  pub signs_are : map (λ (r : Text × Sign). r.1) rows ≡ signs
  pub named : AllByRecursion (λ (r : Text × Sign). IsNameFor r.0 r.1) rows

-- each of the marks once, named by texts at the end
pub record IsNamedOnce (before : List Text) (all : List Sign) (table : Table) (names : List Text) : Type 0 where
  pub first : table.first ≡ length before
  pub once : table.signs ≡ with_signs [] all
  pub named : AreNamed before table.signs names

-- one more mark is named, if it is not among the others
abbrev pub IsPutOnce : Sign → Table → List Text → Table → List Text → Type 0
IsPutOnce s table names after later = (before : List Text) (all : List Sign) → IsNamedOnce before all table names → IsNamedOnce before (all ++ s ∷ []) after later
