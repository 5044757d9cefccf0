-- How many methods and do-its differ in two images.
use Rattle.std.specs.Prelude.{ℕ, ◌+◌, max, List, [], ◌∷◌, length, Bool, ◌&&◌, if◌then◌else◌}
use Rattle.std.proofs.Math.Bool.{beq}
use Rattle.rb_base.specs.Names.{text_eq}
use Rattle.image_model.specs.Image.{EntryOf, DoItOf, ImageOf}

-- whether two methods are alike, but for the name of their class; each source spells its tree
abbrev pub are_alike : {N : Type 0} → EntryOf N → EntryOf N → Bool
are_alike m n = beq m.meta n.meta && (text_eq m.protocol n.protocol && (text_eq m.source n.source && beq m.kernel n.kernel))

-- whether two do-its are
abbrev pub are_alike_doits : {N : Type 0} → DoItOf N → DoItOf N → Bool
are_alike_doits d e = text_eq d.source e.source

-- a list without its first item that is alike
abbrev pub without_one : {X : Type 0} → (X → X → Bool) → X → List X → List X
without_one alike y [] = []
without_one alike y (x ∷ xs) = if alike y x then xs else x ∷ without_one alike y xs

-- what is left of a list once each item of another list has taken one away that is alike
abbrev pub left_of : {X : Type 0} → (X → X → Bool) → List X → List X → List X
left_of alike xs [] = xs
left_of alike xs (y ∷ ys) = left_of alike (without_one alike y xs) ys

-- how many items of one list the other does not have, or the other way round, whichever is more
abbrev pub differing : {X : Type 0} → (X → X → Bool) → List X → List X → ℕ
differing alike xs ys = max (length (left_of alike xs ys)) (length (left_of alike ys xs))

-- how many methods and do-its differ, without methods of which the name of their class alone does
abbrev pub touched : {N : Type 0} → ImageOf N → ImageOf N → ℕ
touched i j = differing are_alike i.methods j.methods + differing are_alike_doits i.doits j.doits
