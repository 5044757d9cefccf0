-- Code that is made anew at places, with its canonical text, and the changes by which this is done.
use Rattle.std.specs.Prelude.{ℕ, Bool, Option, Some, None, slice_get, is_some, List, map, filter, if◌then◌else◌}
use Rattle.std.specs.List.{filter_map}
use Rattle.std.specs.Option.{option_and_then}
use Rattle.tree_model.specs.Tree.{SequenceOf, MethodOf}
use Rattle.st_tree.specs.View.{method_from, sequence_of, sequence_from}
use Rattle.image_model.specs.Image.{EntryOf, DoItOf, ImageOf}
use Rattle.class_table.specs.declared.record.MethodRec.{MethodRec}
use Rattle.class_table.specs.declared.record.DoIt.{DoIt}
use Rattle.class_table.specs.declared.record.Place.{Place}
use Rattle.class_table.specs.declared.record.Place.TheVariants as place
use Rattle.class_table.specs.Slots.{Slots}
use Rattle.class_table.specs.View.{live_at, entry_of, doit_of, number_image}
use Rattle.change_set.specs.declared.change.Change.{Change}
use Rattle.change_set.specs.declared.change.Change.TheVariants as change
use Rattle.command_model.specs.Numbers.{number_writing}

-- which methods and do-its are made anew, and what the tree of a method and the body of a do-it are then
pub record Remaking : Type 0 where
  pub is_method_remade : EntryOf ℕ → Bool
  pub method_after : EntryOf ℕ → MethodOf ℕ
  pub is_doit_remade : DoItOf ℕ → Bool
  pub body_after : SequenceOf ℕ → SequenceOf ℕ

module _ (s : Slots) (r : Remaking) where
  -- a method and a do-it of the image after
  abbrev pub entry_after : EntryOf ℕ → EntryOf ℕ
  entry_after m =
      if r.is_method_remade m
      then record m { tree = r.method_after m; source = (number_writing s.names).method_text (r.method_after m) }
      else m

  abbrev pub doit_after : DoItOf ℕ → DoItOf ℕ
  doit_after d =
      if r.is_doit_remade d
      then record { body = r.body_after d.body; source = (number_writing s.names).doit_text (r.body_after d.body) }
      else d

  -- the image after
  abbrev pub image_after : ImageOf ℕ
  image_after = record (number_image s) {
    methods = map entry_after (number_image s).methods;
    doits = map doit_after (number_image s).doits;
  }

  -- the record of a method that is made anew, and that of a do-it
  abbrev pub method_rec_after : MethodRec → MethodRec
  method_rec_after m =
      let tree = r.method_after (entry_of s.classes m) in
      record m { tree = method_from tree; source = (number_writing s.names).method_text tree }

  abbrev pub doit_rec_after : DoIt → DoIt
  doit_rec_after d =
      let body = r.body_after (sequence_of d.body) in
      record { body = sequence_from body; source = (number_writing s.names).doit_text body }

  -- the change of the code at a place, if it is made anew
  abbrev pub change_at : Place → Option Change
  change_at (place.Method k) =
      option_and_then (λ (m : MethodRec). if r.is_method_remade (entry_of s.classes m) then Some (change.Method k (method_rec_after m)) else None)
      (live_at s.methods s.method_order k)
  change_at (place.DoIt n) =
      option_and_then (λ (d : DoIt). if r.is_doit_remade (doit_of d) then Some (change.DoIt n (doit_rec_after d)) else None)
      (slice_get s.doits n)

  -- the changes at these places, and the places where there is one
  abbrev pub changes_at : List Place → List Change
  changes_at places = filter_map change_at places

  abbrev pub touched : List Place → List Place
  touched places = filter (λ p. is_some (change_at p)) places
