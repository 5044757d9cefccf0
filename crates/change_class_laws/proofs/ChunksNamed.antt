-- The chunks of a change file name what differs.
use Rattle.std.proofs.Common.{◌≡◌, inl, inr, ℕ, Bool, true, false, not, List, [], ◌∷◌, ◌++◌, filter, length, Option, Some, None, refl, ap, sym, subst, ◌∙◌, arith, append_assoc, append-nil}
use Rattle.std.specs.Prelude.{◌&&◌, ◌==◌, codes, reverse, flat_map, if◌then◌else◌, unwrap_or, IsTrue}
use Rattle.std.specs.Fmt.{decimal}
use Rattle.std.specs.List.{AllByRecursion}
use Rattle.rb_base.specs.Names.{text_eq}
use Rattle.rb_base.specs.Doubling.{Empty, BeginsOtherwise, doubled}
use Rattle.token_model.specs.declared.kind.Dialect.TheVariants.{Second}
use Rattle.chunk_format.specs.Blank.{IsBlank, HasNoLeadingBlank}
use Rattle.chunk_format.specs.Left.{Left, start_of}
use Rattle.chunk_format.specs.Chunks.{Piece, HasChunks, First, Over as NoChunk, written_piece, left_behind}
use Rattle.chunk_format.specs.Source.{IsSource}
use Rattle.chunk_format.specs.declared.chunk_iter.Unended.{Unended}
use Rattle.chunk_format.proofs.Unique.{Takes-written, HasChunks-same}
use Rattle.text_model.specs.Literals.{is_identifier, quoted_text}
use Rattle.image_model.specs.Image.{ClassOf, EntryOf, DoItOf, ImageOf}
use Rattle.image_model.specs.Valid.{IsValid, GivesNames}
use Rattle.image_model.specs.Words.{text_words}
use Rattle.file_model.specs.Changes.{DefinitionOf, DefineAt, Comment, SetClassSide, RemoveMethod, RemoveClass}
use Rattle.file_model.specs.Fileable.{MayStand, reading_of}
use Rattle.file_model.specs.Filing.{Text}
use Rattle.file_model.specs.Hierarchy.{has_class}
use Rattle.file_model.specs.Places.{PlacedOf}
use Rattle.file_model.specs.Written.{chunk_text, paragraph, names_text, keyword_line, side_text, run_of, run_end, user_classes, user_methods}
use Rattle.file_model.specs.Words.{may_name}
use Rattle.change_model.specs.Equal.{is_namesake, is_counterpart}
use Rattle.change_model.specs.Differs.{is_among, differing_from, class_stays, method_stays, other_doits}
use Rattle.change_model.specs.Edits.{Edit, Settle, Change, Put, Replace, definition_of, bare_definition, category_in, cleared, filed, removal, clearings, class_removals, class_filings, method_removals, method_filings, replacements, edits}
use Rattle.change_model.specs.Text.{stated_definition, symbol_text, owner_text, change_source, placed_run_start, edit_text, change_text}
use Rattle.change_laws.specs.Merged.{Has}
use Rattle.change_laws.specs.Images.{CanBeMade}
use Rattle.change_laws.proofs.Placing.{all_has}
use Rattle.change_laws.proofs.Orders.{filter_has}
use Rattle.change_laws.proofs.Filed.{its_item}
use Rattle.change_laws.proofs.Images.{user_of}
use Rattle.change_laws.proofs.Rest.{class_there}
use Rattle.change_laws.proofs.Tests.{namesake_same, namesake_back, namesake_through, counterpart_same, counterpart_back, counterpart_through, has_at}
use Rattle.change_class_laws.specs.Named.{IsOtherMethod, EditsDifference, NamesDifference, Names, Replaces, Opens, IsTheMethod, HoldsDifferences}
use Rattle.change_class_laws.proofs.Stands.{named_has}
use Rattle.change_class_laws.proofs.Differences.{all_append, all_flat, all_map, each_edit}
use Rattle.change_class_laws.proofs.WrittenChunks.{written_source, identifier_of, Lettered, more, lettered, no_blank, no_mark, WritesOn, on_further, on_none, on_blanks, on_chunk, on_paragraph, Chunked, chunked}
use Rattle.file_rereading.proofs.Prefixes.{named_there}

-- the sources of an edit begin with no blank, and the name of a run with a letter
abbrev BeginsWell : Edit → Type 0
BeginsWell Settle = Unit {0}
BeginsWell (Change c) = HasNoLeadingBlank (change_source c)
BeginsWell (Put m k) = is_identifier (run_of m).class ≡ true × HasNoLeadingBlank m.source
BeginsWell (Replace k d) = Unit {0}

-- a definition begins with the name of the superclass
definition_begins : (d : DefinitionOf Text) → Lettered (unwrap_or d.superclass (codes "nil")) → Lettered (stated_definition d)
definition_begins d l =
    more (keyword_line (codes "category: ") (quoted_text d.category))
    (more (keyword_line (codes "poolDictionaries: ") (quoted_text []))
    (more (keyword_line (codes "classVariableNames: ") (names_text d.shared))
    (more (keyword_line (codes "instanceVariableNames: ") (names_text d.instance)) (more d.name (more (codes " subclass: #") l)))))

side_begins : (c : Text) (meta : Bool) → is_identifier c ≡ true → Lettered (owner_text c meta)
side_begins c meta h = more (if meta then codes " class" else []) (lettered c h)

module _ (kernel i : ImageOf Text) (valid : IsValid text_words (reading_of Second kernel) i) where
  -- the name of a class is an identifier
  identifier_at : (n : Text) → has_class text_eq i.classes n ≡ true → is_identifier n ≡ true
  identifier_at n h =
      let c = named_has i.classes n h in
      subst (λ (m : Text). is_identifier m ≡ true) c.named (identifier_of (c.class).name (all_has (GivesNames (λ n. IsTrue (may_name n))) i.classes c.class valid.names_may_be_given c.there).name)

  class_named_well : (x : ClassOf Text) → Has x (user_classes i) → is_identifier x.name ≡ true
  class_named_well x h = identifier_of x.name (all_has (GivesNames (λ n. IsTrue (may_name n))) i.classes x valid.names_may_be_given (filter_has (λ (c : ClassOf Text). not c.kernel) i.classes x h).there).name

  method_named_well : (m : EntryOf Text) → Has m (user_methods i) → is_identifier (run_of m).class ≡ true
  method_named_well m h = identifier_at (run_of m).class (class_there kernel i valid m h)

  superclass_begins : (x : ClassOf Text) → Has x (user_classes i) → Lettered (unwrap_or x.superclass (codes "nil"))
  superclass_begins x h = by x.superclass refl
    where
      in_image : Has x i.classes
      in_image = (filter_has (λ (c : ClassOf Text). not c.kernel) i.classes x h).there

      by : (o : Option Text) → x.superclass ≡ o → Lettered (unwrap_or o (codes "nil"))
      by None e = lettered (codes "nil") refl
      by (Some n) e =
          let at = has_at i.classes x in_image in let b = valid.superclasses_before at.0 x n at.1 e in
          lettered n (identifier_at n (named_there i.classes b.0 n b.2))

module _ (kernel i j : ImageOf Text) (c : CanBeMade kernel i j) where
  abbrev us : List (ClassOf Text)
  us = user_classes i

  abbrev vs : List (ClassOf Text)
  vs = user_classes j

  of_clearings : AllByRecursion BeginsWell (clearings i j)
  of_clearings = all_flat BeginsWell (cleared j) (filter (λ x. not (class_stays i j x) && is_among is_namesake vs x) us) each
    where
      each : (x : ClassOf Text) → Has x (filter (λ x. not (class_stays i j x) && is_among is_namesake vs x) us) → AllByRecursion BeginsWell (cleared j x)
      each x h =
          let word = class_named_well kernel i c.old x (filter_has (λ x. not (class_stays i j x) && is_among is_namesake vs x) us x h).there in (
            no_blank (stated_definition (bare_definition x.name (category_in j x))) (definition_begins (bare_definition x.name (category_in j x)) (lettered (codes "Object") refl)),
            (no_blank (change_source (SetClassSide x.name [])) (more (names_text []) (more (codes " class instanceVariableNames: ") (lettered x.name word))), tt),
          )

  of_class_removals : AllByRecursion BeginsWell (class_removals i j)
  of_class_removals = all_map BeginsWell (λ (x : ClassOf Text). Change (RemoveClass x.name)) (reverse (filter (λ x. not (is_among is_namesake vs x)) us)) (λ x h. refl)

  of_class_filings : AllByRecursion BeginsWell (class_filings i j)
  of_class_filings = all_flat BeginsWell filed (differing_from 1 (class_stays j i) vs) each
    where
      each : (p : PlacedOf (ClassOf Text)) → Has p (differing_from 1 (class_stays j i) vs) → AllByRecursion BeginsWell (filed p)
      each p h = (
        no_blank (change_source (DefineAt (definition_of p.item) p.place)) (more (keyword_line (codes "at: ") (decimal p.place)) (definition_begins (definition_of p.item) (superclass_begins kernel j c.new p.item there))),
        all_append BeginsWell (if length p.item.class_side == 0 then [] else Change (SetClassSide p.item.name p.item.class_side) ∷ []) (Change (Comment p.item.name p.item.comment) ∷ []) (side (length p.item.class_side == 0))
            (no_blank (change_source (Comment p.item.name p.item.comment)) (more (quoted_text p.item.comment) (more (codes " comment: ") (lettered p.item.name word))), tt),
      )
        where
          there : Has p.item vs
          there = its_item is_namesake namesake_same namesake_back namesake_through (class_stays j i) 1 vs p h

          word : is_identifier p.item.name ≡ true
          word = class_named_well kernel j c.new p.item there

          side : (b : Bool) → AllByRecursion BeginsWell (if b then [] else Change (SetClassSide p.item.name p.item.class_side) ∷ [])
          side true = tt
          side false = (no_blank (change_source (SetClassSide p.item.name p.item.class_side)) (more (names_text p.item.class_side) (more (codes " class instanceVariableNames: ") (lettered p.item.name word))), tt)

  abbrev method_goes : EntryOf Text → Bool
  method_goes x = not (is_among is_counterpart (user_methods j) x) && has_class text_eq j.classes (run_of x).class

  of_method_removals : AllByRecursion BeginsWell (method_removals i j)
  of_method_removals = all_map BeginsWell removal (filter method_goes (user_methods i)) each
    where
      each : (x : EntryOf Text) → Has x (filter method_goes (user_methods i)) → BeginsWell (removal x)
      each x h =
          let word = method_named_well kernel i c.old x (filter_has method_goes (user_methods i) x h).there in
          no_blank (change_source (RemoveMethod (run_of x).class x.meta x.tree.selector)) (more (symbol_text x.tree.selector) (more (codes " removeSelector: ") (side_begins (run_of x).class x.meta word)))

  of_method_filings : AllByRecursion BeginsWell (method_filings i j)
  of_method_filings = all_map BeginsWell (λ (p : PlacedOf (EntryOf Text)). Put p.item p.place) (differing_from 1 (method_stays j i) (user_methods j)) each
    where
      each : (p : PlacedOf (EntryOf Text)) → Has p (differing_from 1 (method_stays j i) (user_methods j)) → BeginsWell (Put p.item p.place)
      each p h =
          let there = its_item is_counterpart counterpart_same counterpart_back counterpart_through (method_stays j i) 1 (user_methods j) p h in
          let in_image = (filter_has (λ (x : EntryOf Text). not x.kernel) j.methods p.item there).there in
          let stands = all_has (λ (x : EntryOf Text). x.kernel ≡ false → MayStand x.source) j.methods p.item c.new_fileable.method_sources in_image (user_of kernel j c.new p.item there).user in
          (method_named_well kernel j c.new p.item there, stands.no_blank)

  of_replacements : AllByRecursion BeginsWell (replacements i j)
  of_replacements = all_map BeginsWell (λ (p : PlacedOf (DoItOf Text)). Replace p.place p.item) (other_doits 1 i.doits j.doits) (λ p h. tt)

  all_begin : AllByRecursion BeginsWell (edits i j)
  all_begin =
      let last = all_append BeginsWell (method_filings i j) (replacements i j) of_method_filings of_replacements in
      let methods = all_append BeginsWell (method_removals i j) (method_filings i j ++ replacements i j) of_method_removals last in
      let filings = all_append BeginsWell (class_filings i j) (method_removals i j ++ (method_filings i j ++ replacements i j)) of_class_filings methods in
      let removals = all_append BeginsWell (class_removals i j) (class_filings i j ++ (method_removals i j ++ (method_filings i j ++ replacements i j))) of_class_removals filings in
      all_append BeginsWell (clearings i j) (class_removals i j ++ (class_filings i j ++ (method_removals i j ++ (method_filings i j ++ replacements i j)))) of_clearings removals

  abbrev P : Text → Type 0
  P source = NamesDifference i j source

  -- a run of its own
  put_written : (m : EntryOf Text) (k : ℕ) (behind : Text) → IsOtherMethod i j m → BeginsWell (Put m k) → WritesOn P (edit_text (Put m k) ++ behind) behind
  put_written m k behind other begins = subst (λ (s : Text). WritesOn P s behind) (sym whole) (on_further P mark (on_further P open_ (on_further P source end)))
    where
      opening : Text
      opening = side_text (run_of m) ++ codes " methodsFor: " ++ quoted_text m.protocol ++ codes " at: " ++ decimal k

      after_source : Text
      after_source = run_end ++ behind

      after_opening : Text
      after_opening = chunk_text m.source ++ (run_end ++ behind)

      after_mark : Text
      after_mark = chunk_text opening ++ (10 ∷ after_opening)

      opening_letter : Lettered opening
      opening_letter = more (decimal k) (more (codes " at: ") (more (quoted_text m.protocol) (more (codes " methodsFor: ") (side_begins (run_of m).class m.meta begins.0))))

      whole : edit_text (Put m k) ++ behind ≡ 33 ∷ after_mark
      whole =
          append_assoc (placed_run_start (run_of m) k ++ chunk_text m.source) run_end behind
          ∙ append_assoc (placed_run_start (run_of m) k) (chunk_text m.source) (run_end ++ behind)
          ∙ ap (λ (s : Text). 33 ∷ s) (append_assoc (chunk_text opening) (10 ∷ []) after_opening)

      not_marked : BeginsOtherwise 33 after_mark
      not_marked = subst (λ (s : Text). BeginsOtherwise 33 s) (sym (append_assoc (doubled 33 opening) (33 ∷ []) (10 ∷ after_opening))) (no_mark opening (33 ∷ 10 ∷ after_opening) opening_letter)

      mark : WritesOn P (33 ∷ after_mark) after_mark
      mark = on_chunk P [] [] after_mark (inl refl) refl not_marked

      open_ : WritesOn P after_mark after_opening
      open_ = on_chunk P opening (10 ∷ []) after_opening (inr (no_blank opening opening_letter, Opens m k other)) refl (λ e. omega arith)

      source : WritesOn P after_opening after_source
      source = on_chunk P m.source [] after_source (inr (begins.1, IsTheMethod m other)) refl (λ e. omega arith)

      end : WritesOn P after_source behind
      end = on_blanks P (32 ∷ []) refl (on_chunk P [] (10 ∷ 10 ∷ []) behind (inl refl) refl (λ e. omega arith))

  edit_written : (e : Edit) (behind : Text) → EditsDifference i j e → BeginsWell e → WritesOn P (edit_text e ++ behind) behind
  edit_written Settle behind d b = absurd d
  edit_written (Change change) behind d b = on_paragraph P (change_source change) behind (inr (b, Names change d))
  edit_written (Put m k) behind d b = put_written m k behind d b
  edit_written (Replace k x) behind d b = on_paragraph P (codes "Smalltalk replaceDoIt: " ++ decimal k ++ codes " with: " ++ quoted_text x.source) behind (inr (refl, Replaces k x d))

  edits_written : (es : List Edit) (behind : Text) → AllByRecursion (EditsDifference i j) es → AllByRecursion BeginsWell es → WritesOn P (flat_map edit_text es ++ behind) behind
  edits_written [] behind d b = on_none P
  edits_written (e ∷ es) behind d b =
      subst (λ (s : Text). WritesOn P s behind) (sym (append_assoc (edit_text e) (flat_map edit_text es) behind))
      (on_further P (edit_written e (flat_map edit_text es ++ behind) d.0 b.0) (edits_written es behind d.1 b.1))

  -- the chunks of a text, which name what differs
  record Shown (text : Text) : Type 0 where
    pieces : List Piece
    chunks : HasChunks (start_of text) pieces None
    holds : HoldsDifferences i j pieces

  shown : (es : List Edit) → AllByRecursion (EditsDifference i j) es → AllByRecursion BeginsWell es → Shown (10 ∷ 33 ∷ 10 ∷ 10 ∷ flat_map edit_text (Settle ∷ es))
  shown es d b = record { pieces = blank ∷ settles ∷ rest.pieces; chunks = First (Takes-written (start_of whole) (10 ∷ []) [] (10 ∷ 10 ∷ (paragraph settle ++ others)) refl (λ e. omega arith) refl) (First (Takes-written after_blank (10 ∷ 10 ∷ []) settle (10 ∷ 10 ∷ others) refl (λ e. omega arith) refl) rest.chunks); holds = (refl, settles_is, rest.are) }
    where
      settle : Text
      settle = codes "Smalltalk settlePlaces"

      others : Text
      others = flat_map edit_text es

      whole : Text
      whole = 10 ∷ 33 ∷ 10 ∷ 10 ∷ (paragraph settle ++ others)

      blank : Piece
      blank = written_piece (start_of whole) (10 ∷ []) []

      after_blank : Left
      after_blank = left_behind blank (10 ∷ 10 ∷ (paragraph settle ++ others))

      settles : Piece
      settles = written_piece after_blank (10 ∷ 10 ∷ []) settle

      after_settles : Left
      after_settles = left_behind settles (10 ∷ 10 ∷ others)

      settles_is : IsSource settles.body settle
      settles_is = written_source (10 ∷ 10 ∷ []) settle refl refl

      rest : Chunked P after_settles
      rest =
          let x = edits_written es [] d b (10 ∷ 10 ∷ []) refl in
          chunked P x.2 (subst IsBlank (sym (append-nil x.0)) x.1) after_settles (ap (λ (s : Text). 10 ∷ 10 ∷ s) (sym (append-nil others)))

  all_shown : Shown (change_text i j)
  all_shown = by (length (edits i j) == 0)
    where
      by : (b : Bool) → Shown (if b then [] else 10 ∷ 33 ∷ 10 ∷ 10 ∷ flat_map edit_text (Settle ∷ edits i j))
      by true = record { pieces = []; chunks = NoChunk (Empty, refl); holds = tt }
      by false = shown (edits i j) (each_edit kernel i j c) all_begin

  pub chunks_named : (pieces : List Piece) (end : Option Unended) → HasChunks (start_of (change_text i j)) pieces end → (end ≡ None) × HoldsDifferences i j pieces
  chunks_named pieces end chunks =
      let same = HasChunks-same (start_of (change_text i j)) all_shown.pieces pieces None end all_shown.chunks chunks in
      (sym same.1, subst (λ (ps : List Piece). HoldsDifferences i j ps) same.0 all_shown.holds)
