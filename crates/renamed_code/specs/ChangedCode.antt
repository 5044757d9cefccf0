-- The changes of code where something is renamed.
use Rattle.std.specs.Prelude.{ℕ, Option, Some, None, slice_get, if◌then◌else◌}
use Rattle.std.specs.Option.{option_and_then}
use Rattle.st_tree.specs.View.{method_from, sequence_from}
use Rattle.image_model.specs.Words.{number_words}
use Rattle.command_model.specs.Numbers.{number_writing}
use Rattle.class_table.specs.declared.record.MethodRec.{MethodRec}
use Rattle.class_table.specs.declared.record.DoIt.{DoIt}
use Rattle.class_table.specs.declared.record.Place.{Place}
use Rattle.class_table.specs.declared.record.Place.TheVariants as place
use Rattle.class_table.specs.Slots.{Slots}
use Rattle.class_table.specs.View.{live_at, entry_of, doit_of, number_image}
use Rattle.change_set.specs.declared.change.Change.{Change}
use Rattle.change_set.specs.declared.change.Change.TheVariants as change
use Rattle.name_meanings.specs.Meanings.{kind_of}
use Rattle.renamed_code.specs.declared.renamed.Renamed.{Renamed}
use Rattle.renamed_code.specs.declared.renamed.Renamed.TheVariants as renamed
use Rattle.renamed_code.specs.Anew.{RenamedOf, of_a_class, of_a_variable, of_a_selector, entry_after, is_entry_changed, doit_after, is_doit_changed}

-- what is renamed, over the numbers of names
abbrev pub renamed_of : Renamed → RenamedOf ℕ
renamed_of (renamed.Class c) = of_a_class c
renamed_of (renamed.Variable kind c x) = of_a_variable (kind_of kind) c x
renamed_of (renamed.Selector s) = of_a_selector s

module _ (s : Slots) (what : RenamedOf ℕ) (to : ℕ) where
  -- a method after, with the same class
  abbrev pub method_rec_after : MethodRec → MethodRec
  method_rec_after m =
      let after = entry_after (number_words s.names) (number_writing s.names) (number_image s) to what (entry_of s.classes m) in
      record m { tree = method_from after.tree; source = after.source }

  -- a do-it after
  abbrev pub doit_rec_after : DoIt → DoIt
  doit_rec_after d =
      let after = doit_after (number_words s.names) (number_writing s.names) (number_image s) to what (doit_of d) in
      record { body = sequence_from after.body; source = after.source }

  -- the change of the code at a place, if it speaks of what is renamed
  abbrev pub change_at : Place → Option Change
  change_at (place.Method k) =
      option_and_then (λ (m : MethodRec). if is_entry_changed (number_words s.names) (number_writing s.names) (number_image s) to what (entry_of s.classes m) then Some (change.Method k (method_rec_after m)) else None)
      (live_at s.methods s.method_order k)
  change_at (place.DoIt n) =
      option_and_then (λ (d : DoIt). if is_doit_changed (number_words s.names) (number_writing s.names) (number_image s) to what (doit_of d) then Some (change.DoIt n (doit_rec_after d)) else None)
      (slice_get s.doits n)
