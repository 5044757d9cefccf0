-- The text of one image and a change file behind it make the other image.
use Rattle.std.proofs.Common.{◌≡◌, ◌<◌, ◌^◌, Bool, true, false, not, List, [], ◌∷◌, ◌++◌, length, filter, Option, None, Ok, refl, ap, sym, subst, ◌∙◌, arith, append-nil}
use Rattle.std.specs.Prelude.{codes, flat_map, ◌==◌, if◌then◌else◌}
use Rattle.std.specs.List.{AllByRecursion}
use Rattle.std.proofs.lemmas.Bool.{eqb-true}
use Rattle.rb_base.specs.Names.{text_eq}
use Rattle.rb_base.proofs.NamesLemmas.{text_eq-refl}
use Rattle.token_model.specs.declared.kind.Dialect.TheVariants.{Second}
use Rattle.chunk_format.specs.Chunks.{HasChunks}
use Rattle.chunk_format.specs.Blank.{IsBlank}
use Rattle.chunk_format.specs.Left.{Left, start_of}
use Rattle.chunk_format.specs.declared.chunk_iter.Unended.{Unended}
use Rattle.image_model.specs.Image.{ClassOf, EntryOf, ImageOf}
use Rattle.image_model.specs.Words.{text_words}
use Rattle.image_model.specs.Valid.{IsValid}
use Rattle.file_model.specs.Fileable.{reading_of}
use Rattle.file_model.specs.Filing.{Text, Filing, Blank, begun, goes_on}
use Rattle.file_model.specs.Hierarchy.{has_class}
use Rattle.file_model.specs.Places.{no_places, placed}
use Rattle.file_model.specs.Reading.{Empty, IsImageOf}
use Rattle.file_model.specs.Written.{user_classes, user_methods}
use Rattle.file_laws.proofs.Moves.{text_equal}
use Rattle.file_laws.proofs.PlacedImages.{placed_stays}
use Rattle.file_laws.proofs.PutAgain.{filter_pass}
use Rattle.file_rereading.specs.Rereading.{KernelFirst}
use Rattle.change_model.specs.Edits.{Edit, Settle, edits}
use Rattle.change_model.specs.Edited.{Stage, AreMade, Over, Made}
use Rattle.change_model.specs.Text.{edit_text, change_text}
use Rattle.change_laws.specs.Chunks.{rests}
use Rattle.change_laws.specs.Images.{CanBeMade, IsMade, at_rest}
use Rattle.change_file_laws.specs.Behind.{with_edits, IsRead}
use Rattle.change_file_laws.specs.Stated.{IsStated}
use Rattle.change_file_laws.proofs.Behind.{goes_on_behind, all_end, takes_further}
use Rattle.change_file_laws.proofs.EditsRead.{SpellsClasses, reads_settling, reads_edits}
use Rattle.change_file_laws.proofs.Named.{stated_edits}
use Rattle.change_file_laws.proofs.Readings.{ReadsOn, reads_further, reads_blanks, reads_chunk, reads_text}

-- what is chosen by the negation of a test has it false
all_not : {X : Type 0} (p : X → Bool) (xs : List X) → AllByRecursion (λ x. p x ≡ false) (filter (λ x. not (p x)) xs)
all_not p [] = tt
all_not p (x ∷ xs) = by (p x) refl (all_not p xs)
  where
    by : (b : Bool) → p x ≡ b → AllByRecursion (λ y. p y ≡ false) (filter (λ y. not (p y)) xs) → AllByRecursion (λ y. p y ≡ false) (if not b then x ∷ filter (λ y. not (p y)) xs else filter (λ y. not (p y)) xs)
    by true e rest = rest
    by false e rest = (e, rest)

-- a valid image stays where no place is stated
stays_so : (kernel i : ImageOf Text) → IsValid text_words (reading_of Second kernel) i → KernelFirst kernel i → placed text_eq no_places i ≡ i
stays_so kernel i valid first =
    placed_stays text_eq text_eq-refl text_equal i valid.superclasses_before
    (record {
      front = kernel.classes;
      back = user_classes i;
      whole = first.classes;
      of_kernel = subst (AllByRecursion (λ (c : ClassOf Text). c.kernel ≡ true)) valid.kernel_classes (filter_pass (λ (c : ClassOf Text). c.kernel) i.classes);
      of_user = all_not (λ (c : ClassOf Text). c.kernel) i.classes;
    })
    (record {
      front = kernel.methods;
      back = user_methods i;
      whole = first.methods;
      of_kernel = subst (AllByRecursion (λ (m : EntryOf Text). m.kernel ≡ true)) valid.kernel_methods (filter_pass (λ (m : EntryOf Text). m.kernel) i.methods);
      of_user = all_not (λ (m : EntryOf Text). m.kernel) i.methods;
    })

-- the end of a run, the settling of places and edits are read behind whatever was read before
pub reads_after : SpellsClasses → (es : List Edit) (f : Filing) (i : ImageOf Text) (t : Stage) → i ≡ placed text_eq f.places f.image → AllByRecursion IsStated es → AreMade es (at_rest i) t → ReadsOn (with_edits es) f [] (rests t)
reads_after k es f i t settled stated made =
    let rest = flat_map edit_text es in
    let blank : ReadsOn (with_edits es) f (edit_text Settle ++ rest) (record f { run = None }) =
    reads_blanks (10 ∷ []) refl (reads_chunk [] (10 ∷ 10 ∷ []) (edit_text Settle ++ rest) Blank refl refl (λ e. omega arith) Empty refl) in
    let settle : ReadsOn (edit_text Settle ++ rest) (record f { run = None }) rest (rests (at_rest i)) =
    subst (λ (x : ImageOf Text). ReadsOn (edit_text Settle ++ rest) (record f { run = None }) rest (goes_on no_places None x)) (sym settled) (reads_settling f rest) in
    let further : ReadsOn rest (rests (at_rest i)) [] (rests t) = subst (λ (x : Text). ReadsOn x (rests (at_rest i)) [] (rests t)) (append-nil rest) (reads_edits k es (at_rest i) t [] stated made) in
    reads_further blank (reads_further settle further)

pub reads_on : SpellsClasses → (es : List Edit) (f : Filing) (i : ImageOf Text) (t : Stage) (left : Left) (blanks : Text) → AllByRecursion IsStated es → i ≡ placed text_eq f.places f.image → AreMade es (at_rest i) t → IsBlank blanks → left.rest ≡ blanks ++ with_edits es → IsRead Second left f (rests t)
reads_on k es f i t left blanks stated settled made blank rest = reads_text (reads_blanks blanks blank (reads_after k es f i t settled stated made)) left rest

-- a text that makes one image, with such edits behind it
pub makes_behind : SpellsClasses → (prelude text : Text) (es : List Edit) (i j : ImageOf Text) (t : Stage) → AllByRecursion IsStated es → AreMade es (at_rest i) t → placed text_eq t.places t.image ≡ j → IsImageOf Second prelude text i → IsImageOf Second prelude (text ++ with_edits es) j
makes_behind k prelude text es i j t stated made is r =
    let none = all_end Second false (begun r.kernel) r.end r.reads.pieces r.reads.end (Ok r.end) r.reads.takes refl in
    let g = goes_on_behind text (with_edits es) r.reads.pieces (λ e. omega arith) (subst (λ (o : Option Unended). HasChunks (start_of text) r.reads.pieces o) none r.reads.chunks) in
    let more = reads_on k es r.end i t g.last g.blanks stated r.image made g.blank g.rest in
    record {
      kernel = r.kernel;
      is_kernel = r.is_kernel;
      end = rests t;
      reads = record {
        pieces = r.reads.pieces ++ more.pieces;
        end = None;
        chunks = g.chunks more.pieces None more.chunks;
        takes = takes_further Second false (begun r.kernel) r.end (rests t) r.reads.pieces more.pieces r.reads.end (Ok r.end) r.reads.takes refl more.takes;
      };
      image = sym is;
    }

-- no edits make the image itself
none_made : (es : List Edit) (s t : Stage) → AreMade es s t → es ≡ [] → s ≡ t
none_made es s t Over e = refl
none_made es s t (Made {e = x} one rest) e = absurd (cc)

-- where the edits make the second image, the change file does
pub changes : SpellsClasses → (prelude text : Text) (kernel i j : ImageOf Text) → has_class text_eq kernel.classes (codes "Object") ≡ true → CanBeMade kernel i j → IsMade i j → length j.doits < 10 ^ 9 → IsImageOf Second prelude text i → IsImageOf Second prelude (text ++ change_text i j) j
changes k prelude text kernel i j root can made few r = by (length (edits i j) == 0) refl
  where
    whole : IsImageOf Second prelude (text ++ with_edits (edits i j)) j
    whole = makes_behind k prelude text (edits i j) i j made.end (stated_edits kernel i j can root few) made.made made.is r

    none : (es : List Edit) → (length es == 0) ≡ true → es ≡ []
    none [] e = refl
    none (x ∷ es) e = absurd (omega (arith, eqb-true (length (x ∷ es)) 0 e))

    by : (b : Bool) → (length (edits i j) == 0) ≡ b → IsImageOf Second prelude (text ++ (if b then [] else with_edits (edits i j))) j
    by false e = whole
    by true e =
        let rests_so : at_rest i ≡ made.end = none_made (edits i j) (at_rest i) made.end made.made (none (edits i j) e) in
        let same : i ≡ j = sym (stays_so kernel i can.old can.old_first) ∙ ap (λ (s : Stage). placed text_eq s.places s.image) rests_so ∙ made.is in
        subst (λ (x : Text). IsImageOf Second prelude x j) (sym (append-nil text)) (subst (IsImageOf Second prelude text) same r)
