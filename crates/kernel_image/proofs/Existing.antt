-- The text of the kernel is read to its end, and makes the image of the tables.
use Rattle.std.proofs.Common.{◌≡◌, ◌↔◌, Bool, true, false, not, List, [], ◌∷◌, ◌++◌, length, map, Option, Some, None, Result, Ok, Err, refl, sym, subst, ◌∙◌, true≢false}
use Rattle.std.specs.Prelude.{codes, flat_map, ◌&&◌, ◌==◌, if◌then◌else◌, unwrap_or}
use Rattle.std.specs.Fmt.{digits}
use Rattle.std.proofs.lemmas.Bool.{and_parts}
use Rattle.token_model.specs.declared.kind.Dialect.{Dialect}
use Rattle.token_model.specs.declared.kind.Dialect.TheVariants.{Second}
use Rattle.tree_model.specs.Tree.{MethodOf}
use Rattle.scope_model.specs.SpecialNames.{is_pseudo_variable}
use Rattle.text_model.specs.Literals.{is_identifier}
use Rattle.text_model.specs.Whole.{canonical_method}
use Rattle.chunk_format.specs.Blank.{drop_blanks}
use Rattle.chunk_format.specs.Chunks.{Piece}
use Rattle.chunk_format.specs.Left.{start_of}
use Rattle.grammar_model.specs.Spelling.{SpellsDoIt, SpellsMethod}
use Rattle.reread_law.specs.WholeTrees.{WellFormedMethod}
use Rattle.st_kernel.specs.KernelText.{prelude_text}
use Rattle.image_model.specs.Image.{ClassOf, ImageOf}
use Rattle.file_model.specs.Causes.{Cause}
use Rattle.file_model.specs.Changes.{RunOf}
use Rattle.file_model.specs.Filing.{Text, Filing, begun, Item, Blank, DoItChunk, MethodChunk, taken}
use Rattle.file_model.specs.Places.{no_places}
use Rattle.file_model.specs.Reading.{IsItem, Empty, DoItRead, MethodRead, no_image, IsKernelOf}
use Rattle.file_model.specs.Written.{definition_text}
use Rattle.file_model.proofs.OneImage.{one_kernel}
use Rattle.file_rereading.specs.Trees.{definition_tree, opening_tree, opening_text}
use Rattle.kernel_image.specs.KernelClasses.{kernel_classes}
use Rattle.kernel_image.specs.KernelCode.{SideCode, kernel_sides, whole_kernel}
use Rattle.kernel_image.specs.KernelMethods.{row_of, kernel_methods}
use Rattle.kernel_image.specs.KernelNames.{knows_names}
use Rattle.kernel_image.proofs.Tests.{not_empty}
use Rattle.kernel_image.proofs.Braces.{has_no_brace, doit_in, method_in_dialect}
use Rattle.kernel_image.proofs.Forms.{definition_replaces_none, opening_replaces_none}
use Rattle.kernel_image.proofs.Parts.{HasBodies, has_bodies}
use Rattle.kernel_image.proofs.Sources.{Reads, Nothing, Source, takes_sources}
use Rattle.kernel_image.proofs.Texts.{first_part, other_parts, kernel_bodies, whole, is_cut, plain_pieces, sources_of}
use Rattle.kernel_image.proofs.Trees.{is_well_formed, method_tested}

-- what the sources of the text are, by the tables: the definition of a class, an empty source, the opening of a run, or a method of the run
data Part : Type 0 where
  Definition : ClassOf Text → Part
  Gap : Part
  Opening : RunOf Text → Part
  Code : MethodOf Text → Part

-- the methods of a side are one run
abbrev parts_of : SideCode → List Part
parts_of side = Gap ∷ Opening (record { class = side.class; meta = side.meta; protocol = codes "kernel" }) ∷ map Code side.methods ++ Gap ∷ []

abbrev kernel_parts : List Part
kernel_parts = map Definition kernel_classes ++ flat_map parts_of kernel_sides

-- the source of a part
abbrev source_of : Part → Text
source_of (Definition c) = definition_text c
source_of Gap = []
source_of (Opening r) = opening_text r
source_of (Code m) = canonical_method m

-- the text has these sources
sources_known : map drop_blanks kernel_bodies ≡ map source_of kernel_parts
unfolding first_part other_parts prelude_text kernel_classes kernel_sides digits
sources_known = refl

-- what the source of a part is, outside a run or in one
abbrev item_in : Option (RunOf Text) → Part → Item
item_in run (Definition c) = DoItChunk (definition_text c) (definition_tree c)
item_in run Gap = Blank
item_in run (Opening r) = DoItChunk (opening_text r) (opening_tree r)
item_in None (Code m) = Blank
item_in (Some r) (Code m) = MethodChunk r (canonical_method m) m

-- whether a source is not empty, and holds no brace
abbrev is_plain : Text → Bool
is_plain s = not (length s == 0) && has_no_brace s

-- whether a class and its superclass have identifiers as names
abbrev is_named : ClassOf Text → Bool
is_named c = is_identifier (unwrap_or c.superclass (codes "nil")) && is_identifier c.name

-- whether the source of a part spells it there
abbrev is_spelled : Option (RunOf Text) → Part → Bool
is_spelled None (Definition c) = is_plain (definition_text c) && is_named c
is_spelled None Gap = true
is_spelled None (Opening r) = is_plain (opening_text r) && is_identifier r.class
is_spelled None (Code m) = false
is_spelled (Some r) (Definition c) = false
is_spelled (Some r) Gap = true
is_spelled (Some r) (Opening q) = false
is_spelled (Some r) (Code m) = is_plain (canonical_method m) && is_well_formed m

-- what parts make, if each is spelled and none is refused
abbrev end_by : (Filing → Option Filing) → Result Filing Cause → Option Filing
end_by p (Ok f) = p f
end_by p (Err cause) = None

abbrev end_of : Dialect → List Part → Filing → Option Filing
end_of d [] f = Some f
end_of d (p ∷ ps) f = if is_spelled f.run p then end_by (end_of d ps) (taken d true f (item_in f.run p)) else None

-- the text is read to its end, and makes the classes and the methods of the tables
whole_end : Filing
whole_end = record { image = whole_kernel; run = None; at_head = false; places = no_places }

reads_whole : (d : Dialect) → end_of d kernel_parts (begun no_image) ≡ Some whole_end
unfolding whole_end kernel_classes kernel_sides is_pseudo_variable digits
reads_whole d = refl

-- what the methods are by their selectors and primitives
pub its_rows : map row_of whole_kernel.methods ≡ kernel_methods
unfolding kernel_sides kernel_methods
its_rows = refl

-- each name in their code stands for something
pub its_names : knows_names whole_kernel ≡ true
unfolding kernel_classes kernel_sides is_pseudo_variable
its_names = refl

-- what a source is, by the laws on what texts spell
module _ (definitions : (class : ClassOf Text) → is_identifier (unwrap_or class.superclass (codes "nil")) ≡ true → is_identifier class.name ≡ true → SpellsDoIt Second (definition_text class) (definition_tree class))
    (openings : (run : RunOf Text) → is_identifier run.class ≡ true → SpellsDoIt Second (opening_text run) (opening_tree run))
    (some_text : (kernel : Bool) (tree : MethodOf Text) → ((text : Text) × SpellsMethod Second kernel text tree) ↔ WellFormedMethod kernel tree)
    (canonical : (dialect : Dialect) (kernel : Bool) (text : Text) (tree : MethodOf Text) → SpellsMethod dialect kernel text tree → SpellsMethod Second kernel (canonical_method tree) tree) where
  spelled_item : (d : Dialect) (run : Option (RunOf Text)) (p : Part) → is_spelled run p ≡ true → IsItem d true run (source_of p) (item_in run p)
  spelled_item d None (Definition c) h =
      let text = definition_text c in
      let parts = and_parts (is_plain text) (is_named c) h in
      let plain = and_parts (not (length text == 0)) (has_no_brace text) parts.0 in
      let named = and_parts (is_identifier (unwrap_or c.superclass (codes "nil"))) (is_identifier c.name) parts.1 in
      DoItRead (not_empty text plain.0) (doit_in d text (definition_tree c) plain.1 (definitions c named.0 named.1)) (definition_replaces_none c)
  spelled_item d None Gap h = Empty
  spelled_item d None (Opening r) h =
      let text = opening_text r in
      let parts = and_parts (is_plain text) (is_identifier r.class) h in
      let plain = and_parts (not (length text == 0)) (has_no_brace text) parts.0 in
      DoItRead (not_empty text plain.0) (doit_in d text (opening_tree r) plain.1 (openings r parts.1)) (opening_replaces_none r)
  spelled_item d None (Code m) h = absurd (true≢false (sym h))
  spelled_item d (Some r) (Definition c) h = absurd (true≢false (sym h))
  spelled_item d (Some r) Gap h = Empty
  spelled_item d (Some r) (Opening q) h = absurd (true≢false (sym h))
  spelled_item d (Some r) (Code m) h =
      let text = canonical_method m in
      let parts = and_parts (is_plain text) (is_well_formed m) h in
      let plain = and_parts (not (length text == 0)) (has_no_brace text) parts.0 in
      let some = (some_text true m).1 (method_tested m parts.1) in
      MethodRead (not_empty text plain.0) (method_in_dialect d true text m plain.1 (canonical Second true some.0 m some.1))

  sources_end : (d : Dialect) (ps : List Part) (f g : Filing) → end_of d ps f ≡ Some g → Reads d f (map source_of ps) g
  sources_end d [] f g h = let same : f ≡ g = cc in subst (λ (x : Filing). Reads d f [] x) same Nothing
  sources_end d (p ∷ ps) f g h = by (is_spelled f.run p) refl (taken d true f (item_in f.run p)) refl h (λ k e. sources_end d ps k g e)
    where
      none : ◌≡◌ {A = Option Filing} None (Some g) → ⊥
      none e = cc

      by : (b : Bool) → is_spelled f.run p ≡ b → (r : Result Filing Cause) → taken d true f (item_in f.run p) ≡ r → (if b then end_by (end_of d ps) r else None) ≡ Some g → ((k : Filing) → end_of d ps k ≡ Some g → Reads d k (map source_of ps) g) → Reads d f (source_of p ∷ map source_of ps) g
      by true s (Ok k) made e rest = Source (spelled_item d f.run p s) (sym made) (rest k e)
      by true s (Err cause) made e rest = absurd (none e)
      by false s r made e rest = absurd (none e)

  -- the text has this image in each dialect
  pub is_kernel : (d : Dialect) → IsKernelOf d prelude_text whole_kernel
  unfolding whole_end
  is_kernel d =
      let start : Filing = begun no_image in
      let bodies : HasBodies (start_of prelude_text) kernel_bodies = has_bodies first_part other_parts (start_of prelude_text) (sym whole) is_cut in
      let sources : map source_of kernel_parts ≡ map (λ (p : Piece). drop_blanks p.body) bodies.pieces = sym (sources_of bodies.pieces bodies.same ∙ sources_known) in
      record {
        end = whole_end;
        reads = record {
          pieces = bodies.pieces;
          end = None;
          chunks = bodies.chunks;
          takes = takes_sources d bodies.pieces start whole_end (plain_pieces bodies.pieces bodies.same)
              (subst (λ (ss : List Text). Reads d start ss whole_end) sources (sources_end d kernel_parts start whole_end (reads_whole d)));
        };
        image = refl;
      }

  -- and no other
  pub is_whole : (d : Dialect) (k : ImageOf Text) → IsKernelOf d prelude_text k → k ≡ whole_kernel
  is_whole d k is = one_kernel d prelude_text k whole_kernel is (is_kernel d)
