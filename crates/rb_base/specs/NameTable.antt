-- The table by which the number of a text is found.
use Rattle.std.specs.Prelude.{◌≡◌, ℕ, List, Option, Some, Vec, slice_get}
use Rattle.std.specs.declared.alloc.Global.{Global}
use Rattle.std.specs.declared.hash.FoldHasher.{FoldHasher}
use Rattle.std.specs.declared.hash.BuildHasherDefault.{BuildHasherDefault}
use Rattle.std.specs.HashMap.{HashMap, get_by}
use Rattle.rb_base.specs.Names.{text_eq}

-- numbers by text
abbrev pub NameTable : Type 0
NameTable = HashMap (Vec ℕ Global) ℕ (BuildHasherDefault FoldHasher)

-- the number that stands under a text
abbrev pub number_under : NameTable → List ℕ → Option ℕ
number_under numbers t = get_by (λ key. text_eq t key.items) numbers

-- each text of a list stands in the table under its place, and no other text does
pub record KnowsTexts (numbers : NameTable) (texts : List (List ℕ)) : Type 0 where
  pub found : (n : ℕ) (t : List ℕ) → slice_get texts n ≡ Some t → number_under numbers t ≡ Some n
  pub there : (n : ℕ) (t : List ℕ) → number_under numbers t ≡ Some n → slice_get texts n ≡ Some t
