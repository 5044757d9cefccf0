-- Images without what an expression cannot reach.
use Rattle.std.specs.Prelude.{◌≡◌, ℕ, List, true, nat_eq}
use Rattle.rb_base.specs.Names.{text_eq}
use Rattle.st_tree.specs.declared.tree.Sequence.{Sequence}
use Rattle.image_model.specs.Image.{ImageOf, plus}
use Rattle.image_model.specs.Words.{number_words, text_words}
use Rattle.strip_model.specs.Reach.{ReachOf, reach}
use Rattle.strip_model.specs.Stripped.{strip}
use Rattle.strip_model.specs.Within.{IsWithin}
use Rattle.class_table.specs.Slots.{Slots}
use Rattle.class_table.specs.View.{number_image}
use Rattle.image_doits.specs.Added.{IsWithDoIt}
use Rattle.image_strip.specs.Closed.{is_closed_with, start_of}
use Rattle.image_strip.specs.Reached.{Marks, reached}

-- what an image with an expression as its last do-it reaches
abbrev pub least_for : Slots → Sequence → ReachOf ℕ
least_for s start = reach (number_words s.names) (plus (number_image s) (start_of start))

-- the marks are closed, and what they mark is what is reached
pub record IsLeastFor (s : Slots) (start : Sequence) (m : Marks) : Type 0 where
  pub closed : is_closed_with s (start_of start) m ≡ true
  pub within : IsWithin nat_eq (reached s m) (least_for s start)
  pub whole : IsWithin nat_eq (least_for s start) (reached s m)

-- the rest of the image is the image without the classes and the methods that it cannot reach with the expression as its last do-it
pub record IsLeftFor (expression : List ℕ) (image rest : ImageOf (List ℕ)) : Type 0 where
  pub later : ImageOf (List ℕ)
  pub added : IsWithDoIt expression image later
  pub left : rest ≡ strip text_eq (reach text_words later) image
