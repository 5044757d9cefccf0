-- How far a file-out was read, and what the next chunk makes of that.
use Rattle.std.specs.Prelude.{ℕ, ◌+◌, ◌-◌, ◌==◌, nat_le, List, [], ◌∷◌, length, slice_set, Bool, true, false, not, ◌||◌, if◌then◌else◌, Option, Some, None, Result, Ok, Err}
use Rattle.std.specs.Option.{option_map_or}
use Rattle.std.specs.Result.{result_map_both}
use Rattle.rb_base.specs.Names.{text_eq}
use Rattle.token_model.specs.declared.kind.Dialect.{Dialect}
use Rattle.tree_model.specs.Tree.{SequenceOf, MethodOf}
use Rattle.chunk_format.specs.Blank.{blank_len}
use Rattle.grammar_model.specs.Checks.{Fault}
use Rattle.image_model.specs.Image.{DoItOf, ImageOf, plus}
use Rattle.file_model.specs.Causes.{Cause, Syntax, UnknownDefinition, Condition, when, unless}
use Rattle.file_model.specs.Changes.{RunOf}
use Rattle.file_model.specs.Forms.{Form, Evaluates, Changes, Opens, OpensAt, Settles, Refuses, form_of, Replacement, is_doit}
use Rattle.file_model.specs.Numerals.{place_in}
use Rattle.file_model.specs.Refusals.{run_refusals}
use Rattle.file_model.specs.Applied.{changed, method_added}
use Rattle.file_model.specs.Places.{PlacesOf, no_places, places_after, opened_at, places_behind, placed}

-- texts as names
abbrev pub Text : Type 0
Text = List ℕ

-- the image so far; the run of methods in which the next chunk stands, if it stands in one; whether all chunks so far that are not blank are do-its; and the places that were stated and are not settled yet
pub record Filing : Type 0 where
  pub image : ImageOf Text
  pub run : Option (RunOf Text)
  pub at_head : Bool
  pub places : PlacesOf Text

-- a text begins behind an image: no run, no chunk before, no place stated
abbrev pub begun : ImageOf Text → Filing
begun i = record { image = i; run = None; at_head = true; places = no_places }

-- What a chunk is.
pub data Item : Type 0 where
  -- it has an empty source
  Blank : Item
  -- a source that spells a do-it
  DoItChunk : Text → SequenceOf Text → Item
  -- a source that replaces a do-it by one that spells this
  ReplacementChunk : Replacement → SequenceOf Text → Item
  -- a source that spells a method, in a run of methods
  MethodChunk : RunOf Text → Text → MethodOf Text → Item
  -- a source that is neither, with its first fault
  Faulty : Fault → Item

-- the next chunk goes on from an image that is not at the head of the file any more
abbrev pub goes_on : PlacesOf Text → Option (RunOf Text) → ImageOf Text → Filing
goes_on places run i = record { image = i; run = run; at_head = false; places = places }

-- a do-it is put at the end; it is counted where all before it are do-its
abbrev pub with_doit : Filing → DoItOf Text → Filing
with_doit f d = record f { image = record (plus f.image d) { heads = if f.at_head then f.image.heads + 1 else f.image.heads } }

-- what a chunk that spells a do-it makes by what it says
abbrev pub form_taken : Bool → Filing → DoItOf Text → Form → Result Filing Cause
form_taken kernel f d Evaluates = Ok (with_doit f d)
form_taken kernel f d (Changes c) = result_map_both (goes_on (places_after text_eq c f.places) None) (λ e. e) (changed text_eq kernel c f.image)
form_taken kernel f d (Opens r) = unless (run_refusals text_eq f.image.classes r) (goes_on (opened_at None f.places) (Some r) f.image)
form_taken kernel f d (OpensAt r k) = unless (run_refusals text_eq f.image.classes r) (goes_on (opened_at (Some k) f.places) (Some r) f.image)
form_taken kernel f d Settles = Ok (goes_on no_places None (placed text_eq f.places f.image))
form_taken kernel f d (Refuses cause) = Err cause

-- whether there is a do-it of the number that a numeral states, counted from 1
abbrev pub has_doit : ImageOf Text → Text → Bool
has_doit i numeral = option_map_or (λ k. nat_le k (length i.doits)) (place_in numeral) false

-- of the replacement of a do-it: there is none of its number, or what it would be is no do-it as a chunk of its own
abbrev pub replacement_refusals : Dialect → Bool → ImageOf Text → Replacement → SequenceOf Text → List Condition
replacement_refusals d kernel i r b =
    when (not (has_doit i r.numeral)) UnknownDefinition
    ∷ when (length r.source == 0 || not (blank_len r.source == 0)) UnknownDefinition
    ∷ when (not (is_doit (form_of d kernel b))) UnknownDefinition ∷ []

-- the image with another do-it in place of the one of a number
abbrev pub with_replaced : ImageOf Text → Text → DoItOf Text → ImageOf Text
with_replaced i numeral d = record i { doits = option_map_or (λ k. slice_set i.doits (k - 1) d) (place_in numeral) i.doits }

-- what a chunk makes, or the cause of its refusal; a blank chunk ends a run of methods, and does nothing outside one
abbrev pub taken : Dialect → Bool → Filing → Item → Result Filing Cause
taken d kernel f Blank = Ok (record f { run = None })
taken d kernel f (DoItChunk source b) = form_taken kernel f (record { source = source; body = b }) (form_of d kernel b)
taken d kernel f (ReplacementChunk r b) =
    unless (replacement_refusals d kernel f.image r b)
    (goes_on (opened_at None f.places) None (with_replaced f.image r.numeral (record { source = r.source; body = b })))
taken d kernel f (MethodChunk r source m) =
    result_map_both (goes_on (places_behind r.class r.meta m.selector f.places) (Some r)) (λ e. e) (method_added text_eq kernel r source m f.image)
taken d kernel f (Faulty fault) = Err (Syntax fault)
