-- A text has no more do-its than bytes.
use Rattle.std.proofs.Common.{◌≡◌, ℕ, ◌+◌, ◌≤◌, List, [], ◌∷◌, ◌++◌, length, Option, Some, None, Ok, Err, refl, ap, sym, ◌∙◌, arith, length-append}
use Rattle.std.specs.Prelude.{Result, ◌-◌, slice_set, false}
use Rattle.std.specs.Option.{option_map_or}
use Rattle.std.specs.Result.{result_map_both}
use Rattle.std.proofs.lemmas.List.{length-set}
use Rattle.rb_base.specs.Names.{text_eq}
use Rattle.token_model.specs.declared.kind.Dialect.{Dialect}
use Rattle.chunk_format.specs.Left.{Left, start_of}
use Rattle.chunk_format.specs.Chunks.{Piece, HasChunks, First, Over as NoChunk, Refused as CutOff}
use Rattle.chunk_format.specs.declared.chunk_iter.Unended.{Unended}
use Rattle.image_model.specs.Image.{DoItOf, ImageOf}
use Rattle.file_model.specs.Applied.{with_definition, defined, with_comment, with_class_side, without_method, without_class, changed, with_method, method_added}
use Rattle.file_model.specs.Causes.{Cause, Refusal}
use Rattle.file_model.specs.Changes.{ChangeOf, Define, DefineAt, Comment, SetClassSide, RemoveMethod, RemoveClass}
use Rattle.file_model.specs.Filing.{Text, Filing, Item, Blank, DoItChunk, ReplacementChunk, MethodChunk, Faulty, begun, goes_on, with_doit, with_replaced, replacement_refusals, form_taken, taken}
use Rattle.file_model.specs.Forms.{Form, Evaluates, Changes, Opens, OpensAt, Settles, Refuses, form_of}
use Rattle.file_model.specs.Numerals.{place_in}
use Rattle.file_model.specs.Places.{no_places, places_after, places_behind, opened_at, placed}
use Rattle.file_model.specs.Reading.{TakesAll, Over, Cut, Taken, Refused, IsKernelOf, IsImageOf}
use Rattle.file_model.specs.Refusals.{run_refusals, definition_refusals, comment_refusals, class_side_refusals, removal_refusals, class_removal_refusals, method_refusals}
use Rattle.file_model.proofs.OneImage.{one_kernel}
use Rattle.file_laws.proofs.Refused.{unless_ok}

-- how many do-its there are
abbrev size : ImageOf Text → ℕ
size i = length i.doits

-- a change leaves the do-its
size_changed : (c : ChangeOf Text) (i j : ImageOf Text) → changed text_eq false c i ≡ Ok j → size i ≡ size j
size_changed (Define d) i j e = ap size (unless_ok (definition_refusals text_eq i.classes d (with_definition text_eq false d i.classes)) (record i { classes = defined text_eq false d i.classes }) j e)
size_changed (DefineAt d k) i j e = ap size (unless_ok (definition_refusals text_eq i.classes d (with_definition text_eq false d i.classes)) (record i { classes = with_definition text_eq false d i.classes }) j e)
size_changed (Comment n t) i j e = ap size (unless_ok (comment_refusals text_eq i.classes n) (record i { classes = with_comment text_eq n t i.classes }) j e)
size_changed (SetClassSide n names) i j e = ap size (unless_ok (class_side_refusals text_eq i.classes n names (with_class_side text_eq n names i.classes)) (record i { classes = with_class_side text_eq n names i.classes }) j e)
size_changed (RemoveMethod c meta s) i j e = ap size (unless_ok (removal_refusals text_eq i c meta s) (without_method text_eq c meta s i) j e)
size_changed (RemoveClass n) i j e = ap size (unless_ok (class_removal_refusals text_eq i.classes n) (without_class text_eq n i) j e)

-- at most one more than before
abbrev IsOneMore : Filing → Filing → Type 0
IsOneMore f g = size g.image ≤ 1 + size f.image

-- as many as before
as_many : (f g : Filing) → size f.image ≡ size g.image → IsOneMore f g
as_many f g e = omega (arith, e)

-- what a form makes
form_counted : (f g : Filing) (x : DoItOf Text) (form : Form) → form_taken false f x form ≡ Ok g → IsOneMore f g
form_counted f g x Evaluates e =
    let same : with_doit f x ≡ g = cc in
    let more : size g.image ≡ length (f.image.doits ++ x ∷ []) = ap (λ (h : Filing). size h.image) (sym same) in
    omega (arith, more, length-append f.image.doits (x ∷ []))
form_counted f g x (Changes c) e = by (changed text_eq false c f.image) refl e
  where
    by : (r : Result (ImageOf Text) Cause) → changed text_eq false c f.image ≡ r → result_map_both (goes_on (places_after text_eq c f.places) None) (λ y. y) r ≡ Ok g → IsOneMore f g
    by (Ok j) made k = let same : goes_on (places_after text_eq c f.places) None j ≡ g = cc in as_many f g (size_changed c f.image j made ∙ ap (λ (h : Filing). size h.image) same)
    by (Err cause) made k = absurd (cc)
form_counted f g x (Opens r) e = as_many f g (ap (λ (h : Filing). size h.image) (unless_ok (run_refusals text_eq f.image.classes r) (goes_on (opened_at None f.places) (Some r) f.image) g e))
form_counted f g x (OpensAt r k) e = as_many f g (ap (λ (h : Filing). size h.image) (unless_ok (run_refusals text_eq f.image.classes r) (goes_on (opened_at (Some k) f.places) (Some r) f.image) g e))
form_counted f g x Settles e = let same : goes_on no_places None (placed text_eq f.places f.image) ≡ g = cc in as_many f g (ap (λ (h : Filing). size h.image) same)
form_counted f g x (Refuses cause) e = absurd (cc)

-- another do-it in place of one
replaced_counted : (i : ImageOf Text) (numeral : Text) (x : DoItOf Text) → size i ≡ size (with_replaced i numeral x)
replaced_counted i numeral x = by (place_in numeral)
  where
    by : (o : Option ℕ) → size i ≡ length (option_map_or (λ k. slice_set i.doits (k - 1) x) o i.doits)
    by None = refl
    by (Some k) = sym (length-set i.doits (k - 1) x)

-- what a chunk makes
item_counted : (d : Dialect) (f g : Filing) (x : Item) → taken d false f x ≡ Ok g → IsOneMore f g
item_counted d f g Blank e = let same : record f { run = None } ≡ g = cc in as_many f g (ap (λ (h : Filing). size h.image) same)
item_counted d f g (DoItChunk source b) e = form_counted f g (record { source = source; body = b }) (form_of d false b) e
item_counted d f g (ReplacementChunk r b) e =
    let x : DoItOf Text = record { source = r.source; body = b } in
    as_many f g (replaced_counted f.image r.numeral x ∙ ap (λ (h : Filing). size h.image) (unless_ok (replacement_refusals d false f.image r b) (goes_on (opened_at None f.places) None (with_replaced f.image r.numeral x)) g e))
item_counted d f g (MethodChunk r source m) e = by (method_added text_eq false r source m f.image) refl e
  where
    by : (o : Result (ImageOf Text) Cause) → method_added text_eq false r source m f.image ≡ o → result_map_both (goes_on (places_behind r.class r.meta m.selector f.places) (Some r)) (λ y. y) o ≡ Ok g → IsOneMore f g
    by (Ok j) made k =
        let same : goes_on (places_behind r.class r.meta m.selector f.places) (Some r) j ≡ g = cc in
        as_many f g (ap size (unless_ok (method_refusals text_eq f.image.methods r m.selector) (record f.image { methods = with_method text_eq false r source m f.image.methods }) j made) ∙ ap (λ (h : Filing). size h.image) same)
    by (Err cause) made k = absurd (cc)
item_counted d f g (Faulty fault) e = absurd (cc)

-- what chunks make
all_counted : (d : Dialect) (f g : Filing) (pieces : List Piece) (end : Option Unended) (r : Result Filing Refusal) → TakesAll d false f pieces end r → r ≡ Ok g → size g.image ≤ length pieces + size f.image
all_counted d f g pieces end r Over e = let same : f ≡ g = cc in let sizes : size f.image ≡ size g.image = ap (λ (h : Filing). size h.image) same in omega (arith, sizes)
all_counted d f g pieces end r (Cut {e = x}) e = absurd (cc)
all_counted d f g pieces end r (Taken {g = h} {ps} t rest) e = omega (arith, item_counted d f h t.item (sym t.result), all_counted d h g ps end r rest e)
all_counted d f g pieces end r (Refused t) e = absurd (cc)

-- each chunk has a byte
chunks_counted : (left : Left) (pieces : List Piece) (end : Option Unended) → HasChunks left pieces end → length pieces ≤ length left.rest
chunks_counted left pieces end (First {new} {p} {ps} t h) =
    let whole : length left.rest ≡ length (p.body ++ 33 ∷ new.rest) = ap (λ (s : Text). length s) t.cut.whole in
    omega (arith, whole, length-append p.body (33 ∷ new.rest), chunks_counted new ps end h)
chunks_counted left pieces end (NoChunk over) = omega arith
chunks_counted left pieces end (CutOff fault) = omega arith

-- the image of a file-out, behind a kernel without do-its
pub doits_counted : (d : Dialect) (prelude text : Text) (kernel i : ImageOf Text) → IsKernelOf d prelude kernel → kernel.doits ≡ [] → IsImageOf d prelude text i → length i.doits ≤ length text
doits_counted d prelude text kernel i is none r =
    let start : size r.kernel ≡ 0 = ap size (sym (one_kernel d prelude kernel r.kernel is r.is_kernel)) ∙ ap (λ (ds : List (DoItOf Text)). length ds) none in
    let last : size i ≡ size r.end.image = ap size r.image in
    let all : size r.end.image ≤ length r.reads.pieces + size r.kernel = all_counted d (begun r.kernel) r.end r.reads.pieces r.reads.end (Ok r.end) r.reads.takes refl in
    let few : length r.reads.pieces ≤ length text = chunks_counted (start_of text) r.reads.pieces r.reads.end r.reads.chunks in
    omega (arith, start, last, all, few)
