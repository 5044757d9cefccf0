-- What an index of uses knows of the code of an image.
use Rattle.std.specs.Prelude.{◌≡◌, List, [], slice_get, Contains}
use Rattle.std.specs.Option.{option_map_or}
use Rattle.st_tree.specs.View.{method_of, sequence_of}
use Rattle.class_table.specs.declared.record.MethodRec.{MethodRec}
use Rattle.class_table.specs.declared.record.DoIt.{DoIt}
use Rattle.class_table.specs.declared.record.Place.{Place}
use Rattle.class_table.specs.declared.record.Place.TheVariants as place
use Rattle.class_table.specs.Slots.{Slots}
use Rattle.class_table.specs.View.{live_at}
use Rattle.reference_index.specs.Mentioned.{Mentioned, IsIndexOf, DiffersAtMost}
use Rattle.use_index.specs.declared.uses.UseAt.{UseAt}
use Rattle.use_index.specs.Uses.{method_uses, doit_uses}
use Rattle.use_index.specs.Rows.{Used, used_of}

-- which names the code at each place mentions, and its uses
pub record Known : Type 0 where
  pub names : Mentioned
  pub uses : Used

-- the uses in the code at a place; a method that is not live has none
abbrev pub uses_at : Slots → Place → List UseAt
uses_at s (place.Method k) = option_map_or (λ (m : MethodRec). method_uses s.names (method_of m.tree)) (live_at s.methods s.method_order k) []
uses_at s (place.DoIt n) = option_map_or (λ (d : DoIt). doit_uses s.names (sequence_of d.body)) (slice_get s.doits n) []

-- the rows are those of the image
abbrev pub AreUsesOf : Slots → Used → Type 0
AreUsesOf s x = (p : Place) → used_of x p ≡ uses_at s p

-- the index is that of the image: of the names that its code mentions, and of its uses
pub record IsUseIndexOf (s : Slots) (x : Known) : Type 0 where
  pub names : IsIndexOf s x.names
  pub uses : AreUsesOf s x.uses

-- code that has other uses, or mentions other names, in the second image stands at one of these places
pub record UsesDifferAtMost (s t : Slots) (touched : List Place) : Type 0 where
  pub names : DiffersAtMost s t touched
  pub uses : (p : Place) → ¬ Contains touched p → uses_at t p ≡ uses_at s p
