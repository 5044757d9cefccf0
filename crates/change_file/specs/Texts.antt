-- The texts of edits, piece by piece.
use Rattle.std.specs.Prelude.{List, ◌++◌, codes, flat_map, Bool, false, Option}
use Rattle.std.specs.Option.{option_map_or}
use Rattle.rb_base.specs.Names.{text_eq}
use Rattle.file_model.specs.Filing.{Text}
use Rattle.file_model.specs.Places.{PlacedOf}
use Rattle.file_model.specs.Written.{chunk_text, side_text, run_end}
use Rattle.change_model.specs.Edits.{Edit}
use Rattle.change_model.specs.Text.{symbol_text, placed_run_start, edit_text}
use Rattle.change_file.specs.Shown.{Shown}

-- edits
abbrev pub edit_texts : List Edit → Text
edit_texts edits = flat_map edit_text edits

-- the removal of a method
abbrev pub removal_text : Shown → Text
removal_text m = side_text m.run ++ codes " removeSelector: " ++ symbol_text m.selector

-- a method in a run of its own that states its place
abbrev pub put_text : PlacedOf Shown → Text
put_text p = placed_run_start p.item.run p.place ++ chunk_text p.item.source ++ run_end

-- whether there is this text
abbrev pub has_text : Option Text → Text → Bool
has_text former text = option_map_or (λ t. text_eq t text) former false
