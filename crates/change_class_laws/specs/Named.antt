-- What the chunks of a change file name.
use Rattle.std.specs.Prelude.{◌≡◌, ◌⊎◌, ℕ, List, [], ◌∷◌, ◌++◌, codes, Bool}
use Rattle.std.specs.Fmt.{decimal}
use Rattle.std.specs.List.{AllByRecursion}
use Rattle.text_model.specs.Literals.{quoted_text}
use Rattle.chunk_format.specs.Blank.{IsBlank}
use Rattle.chunk_format.specs.Chunks.{Piece}
use Rattle.chunk_format.specs.Source.{IsSource}
use Rattle.image_model.specs.Image.{ClassOf, EntryOf, DoItOf, ImageOf}
use Rattle.file_model.specs.Changes.{ChangeOf, Define, DefineAt, Comment, SetClassSide, RemoveMethod, RemoveClass}
use Rattle.file_model.specs.Filing.{Text}
use Rattle.file_model.specs.Written.{run_of, side_text, user_methods}
use Rattle.change_model.specs.Differs.{differs}
use Rattle.change_model.specs.Edits.{Edit, Settle, Change, Put, Replace}
use Rattle.change_model.specs.Text.{change_source}
use Rattle.change_laws.specs.Merged.{Has}

-- the class of a name differs
abbrev pub ClassDiffers : ImageOf Text → ImageOf Text → Text → Type 0
ClassDiffers i j n = (c : ClassOf Text) × Has c (differs i j).classes × (c.name ≡ n)

-- the method of a class, a side and a selector differs
abbrev pub MethodDiffers : ImageOf Text → ImageOf Text → Text → Bool → Text → Type 0
MethodDiffers i j c meta s =
    (m : EntryOf Text) × Has m (differs i j).methods × ((run_of m).class ≡ c) × (m.meta ≡ meta) × (m.tree.selector ≡ s)

-- the do-it of a number differs
abbrev pub DoItDiffers : ImageOf Text → ImageOf Text → ℕ → Type 0
DoItDiffers i j k = Has k (differs i j).doits

-- the class or the method that a change names differs
abbrev pub ChangesDifference : ImageOf Text → ImageOf Text → ChangeOf Text → Type 0
ChangesDifference i j (Define d) = ClassDiffers i j d.name
ChangesDifference i j (DefineAt d k) = ClassDiffers i j d.name
ChangesDifference i j (Comment n text) = ClassDiffers i j n
ChangesDifference i j (SetClassSide n names) = ClassDiffers i j n
ChangesDifference i j (RemoveMethod c meta s) = MethodDiffers i j c meta s
ChangesDifference i j (RemoveClass n) = ClassDiffers i j n

-- a method of the second image that differs
abbrev pub IsOtherMethod : ImageOf Text → ImageOf Text → EntryOf Text → Type 0
IsOtherMethod i j m = Has m (user_methods j) × MethodDiffers i j (run_of m).class m.meta m.tree.selector

-- what an edit names differs
abbrev pub EditsDifference : ImageOf Text → ImageOf Text → Edit → Type 0
EditsDifference i j Settle = ⊥
EditsDifference i j (Change c) = ChangesDifference i j c
EditsDifference i j (Put m k) = IsOtherMethod i j m
EditsDifference i j (Replace k d) = DoItDiffers i j k

-- The source of a chunk names what differs.
pub data NamesDifference (i j : ImageOf Text) : Text → Type 0 where
  -- it changes a class or removes a method
  Names : (c : ChangeOf Text) → ChangesDifference i j c → NamesDifference i j (change_source c)
  -- it replaces a do-it
  Replaces : (k : ℕ) (d : DoItOf Text) → DoItDiffers i j k → NamesDifference i j (codes "Smalltalk replaceDoIt: " ++ decimal k ++ codes " with: " ++ quoted_text d.source)
  -- it opens the run of a method
  Opens : (m : EntryOf Text) (k : ℕ) → IsOtherMethod i j m → NamesDifference i j (side_text (run_of m) ++ codes " methodsFor: " ++ quoted_text m.protocol ++ codes " at: " ++ decimal k)
  -- it is that method's source
  IsTheMethod : (m : EntryOf Text) → IsOtherMethod i j m → NamesDifference i j m.source

-- a chunk is blank, or its source names what differs
abbrev pub IsBlankOrNames : ImageOf Text → ImageOf Text → Piece → Type 0
IsBlankOrNames i j p = IsBlank p.body ⊎ ((source : Text) × IsSource p.body source × NamesDifference i j source)

-- no chunk; or a blank one, the one that settles places, and such as name what differs or are blank
abbrev pub HoldsDifferences : ImageOf Text → ImageOf Text → List Piece → Type 0
HoldsDifferences i j [] = Unit {0}
HoldsDifferences i j (p ∷ []) = ⊥
HoldsDifferences i j (p ∷ q ∷ ps) = IsBlank p.body × IsSource q.body (codes "Smalltalk settlePlaces") × AllByRecursion (IsBlankOrNames i j) ps
