-- The text of edits that are made one after the other is read, and makes what they make.
use Rattle.std.proofs.Common.{◌≡◌, ◌≢◌, ℕ, true, false, List, [], ◌∷◌, ◌++◌, Option, Some, None, Ok, refl, ap, sym, subst, ◌∙◌, arith, append_assoc, append-nil}
use Rattle.std.specs.Prelude.{codes, flat_map, unwrap_or, if◌then◌else◌}
use Rattle.std.specs.Fmt.{decimal}
use Rattle.std.specs.List.{AllByRecursion}
use Rattle.rb_base.specs.Doubling.{BeginsOtherwise, doubled}
use Rattle.rb_base.specs.Names.{text_eq}
use Rattle.token_model.specs.declared.kind.Dialect.TheVariants.{Second}
use Rattle.tree_model.specs.Tree.{SequenceOf}
use Rattle.chunk_format.specs.Blank.{HasNoLeadingBlank}
use Rattle.text_model.specs.Literals.{is_identifier, quoted_text}
use Rattle.grammar_model.specs.Spelling.{SpellsDoIt}
use Rattle.image_model.specs.Image.{ClassOf, EntryOf, DoItOf}
use Rattle.file_model.specs.Applied.{new_class}
use Rattle.file_model.specs.Changes.{DefinitionOf, ChangeOf, RunOf, Define, DefineAt, Comment, SetClassSide, RemoveMethod, RemoveClass}
use Rattle.file_model.specs.Filing.{Text, Filing, Blank, DoItChunk, ReplacementChunk, MethodChunk, goes_on, form_taken}
use Rattle.file_model.specs.Forms.{form_of, replacement_in}
use Rattle.file_model.specs.Places.{no_places, opened_at, placed}
use Rattle.file_model.specs.Reading.{Empty, DoItRead, ReplacementRead, MethodRead}
use Rattle.file_model.specs.Written.{chunk_text, paragraph, keyword_line, names_text, definition_text, class_side_text, comment_text, side_text, run_of, run_end}
use Rattle.file_rereading.specs.Trees.{definition_tree, class_side_tree, comment_tree}
use Rattle.file_rereading.proofs.Replacements.{changes_none}
use Rattle.change_model.specs.Edits.{Edit, Settle, Change, Put, Replace}
use Rattle.change_model.specs.Edited.{Stage, edited, AreMade, Over, Made}
use Rattle.change_model.specs.Text.{change_source, placed_run_start, owner_text, symbol_text, edit_text}
use Rattle.change_laws.specs.Chunks.{rests}
use Rattle.change_laws.proofs.Chunks.{change_taken, put_taken, replacement_taken}
use Rattle.change_file_laws.specs.Stated.{IsStatedDefinition, IsStatedChange, IsStatedMethod, IsStatedDoIt, IsStated}
use Rattle.change_file_laws.specs.Trees.{settling_tree, placed_opening_tree, placed_opening_text, change_tree}
use Rattle.change_file_laws.proofs.Lines.{spells_removal, spells_class_removal, spells_settling, spells_replacement, spells_placed_opening}
use Rattle.change_file_laws.proofs.Names.{identifier_of, word_selects, begins_no_blank, is_not_empty, begins_otherwise}
use Rattle.change_file_laws.proofs.Numbers.{numeral_unsigned, place_stated}
use Rattle.change_file_laws.proofs.PlacedDefinitions.{right, spells_placed_definition}
use Rattle.change_file_laws.proofs.Readings.{ReadsOn, reads_further, reads_none, reads_blanks, reads_chunk}
use Rattle.change_file_laws.proofs.Says.{known_as, says_change, says_settling, settling_alone, says_replacement, says_placed_opening, opening_alone}

-- what the chunks spell that a change file shares with the text of an image
pub record SpellsClasses : Type 0 where
  pub definition : (c : ClassOf Text) → is_identifier (unwrap_or c.superclass (codes "nil")) ≡ true → is_identifier c.name ≡ true → SpellsDoIt Second (definition_text c) (definition_tree c)
  pub class_side : (c : ClassOf Text) → is_identifier c.name ≡ true → SpellsDoIt Second (class_side_text c) (class_side_tree c)
  pub comment : (c : ClassOf Text) → is_identifier c.name ≡ true → SpellsDoIt Second (comment_text c) (comment_tree c)

-- a text that may stand as a chunk, by the identifier at its beginning
record BeginsWithWord (text : Text) : Type 0 where
  word : Text
  rest : Text
  whole : text ≡ word ++ rest
  is_word : is_identifier word ≡ true

some_text : (text : Text) → BeginsWithWord text → text ≢ []
some_text text b = subst (λ (x : Text). x ≢ []) (sym b.whole) (is_not_empty b.word b.rest b.is_word)

no_blank_first : (text : Text) → BeginsWithWord text → HasNoLeadingBlank text
no_blank_first text b = subst HasNoLeadingBlank (sym b.whole) (begins_no_blank b.word b.rest b.is_word)

other_first : (text u : Text) → BeginsWithWord text → BeginsOtherwise 33 (doubled 33 text ++ u)
other_first text u b = subst (λ (x : Text). BeginsOtherwise 33 (doubled 33 x ++ u)) (sym b.whole) (begins_otherwise b.word b.rest u b.is_word)

-- a do-it by the grammar outside a run, by what it says
reads_said : (source : Text) (b : SequenceOf Text) (f g : Filing) (behind : Text) → BeginsWithWord source → SpellsDoIt Second source b → replacement_in b ≡ None →
    form_taken false (record f { run = None }) (record { source = source; body = b }) (form_of Second false b) ≡ Ok g → ReadsOn (paragraph source ++ behind) (record f { run = None }) behind g
reads_said source b f g behind begins spells none takes =
    subst (λ (s : Text). ReadsOn s (record f { run = None }) behind g) (sym (append_assoc (chunk_text source) (10 ∷ 10 ∷ []) behind))
    (reads_chunk source (10 ∷ 10 ∷ []) behind (DoItChunk source b) (no_blank_first source begins) refl (λ e. omega arith) (DoItRead (some_text source begins) spells none) (sym takes))

-- the name of the superclass of a definition
above_word : (d : DefinitionOf Text) → IsStatedDefinition d → is_identifier (unwrap_or d.superclass (codes "nil")) ≡ true
above_word d s = ap (λ (o : Option Text). is_identifier (unwrap_or o (codes "nil"))) s.under ∙ identifier_of s.above s.above_named

-- a definition begins with it
definition_begins : (d : DefinitionOf Text) → IsStatedDefinition d → (tail : Text) → BeginsWithWord (definition_text (new_class false d) ++ tail)
definition_begins d s tail =
    let c = new_class false d in
    let p = unwrap_or d.superclass (codes "nil") in
    let a = keyword_line (codes "instanceVariableNames: ") (names_text c.instance) in
    let b = keyword_line (codes "classVariableNames: ") (names_text c.shared) in
    let x = keyword_line (codes "poolDictionaries: ") (quoted_text []) in
    let e = keyword_line (codes "category: ") (quoted_text c.category) in
    let rest = codes " subclass: #" ++ (c.name ++ (a ++ (b ++ (x ++ e)))) in
    record {
      word = p;
      rest = rest ++ tail;
      whole = ap (λ (y : Text). y ++ tail) (right p (codes " subclass: #") c.name a b x e) ∙ append_assoc p rest tail;
      is_word = above_word d s;
    }

-- the text of each change does
change_begins : (c : ChangeOf Text) → IsStatedChange c → BeginsWithWord (change_source c)
change_begins (Define d) s =
    let b = definition_begins d s [] in record { word = b.word; rest = b.rest; whole = sym (append-nil (definition_text (new_class false d))) ∙ b.whole; is_word = b.is_word }
change_begins (DefineAt d k) s = definition_begins d s.0 (keyword_line (codes "at: ") (decimal k))
change_begins (Comment n text) s = record { word = n; rest = codes " comment: " ++ quoted_text text; whole = append_assoc n (codes " comment: ") (quoted_text text); is_word = identifier_of n s }
change_begins (SetClassSide n names) s =
    record { word = n; rest = codes " class instanceVariableNames: " ++ names_text names; whole = append_assoc n (codes " class instanceVariableNames: ") (names_text names); is_word = identifier_of n s.0 }
change_begins (RemoveMethod c meta t) s = record {
  word = c;
  rest = (if meta then codes " class" else []) ++ (codes " removeSelector: " ++ symbol_text t);
  whole = append_assoc (owner_text c meta) (codes " removeSelector: ") (symbol_text t) ∙ append_assoc c (if meta then codes " class" else []) (codes " removeSelector: " ++ symbol_text t);
  is_word = identifier_of c s.0;
}
change_begins (RemoveClass n) s = record { word = codes "Smalltalk"; rest = codes " removeClassNamed: " ++ symbol_text n; whole = refl; is_word = refl }

-- what the text of each change spells
pub spells_change : SpellsClasses → (c : ChangeOf Text) → IsStatedChange c → SpellsDoIt Second (change_source c) (change_tree c)
spells_change k (Define d) s = k.definition (new_class false d) (above_word d s) (identifier_of d.name s.named)
spells_change k (DefineAt d n) s = spells_placed_definition (new_class false d) (decimal n) (above_word d s.0) (identifier_of d.name s.0.named) (numeral_unsigned n s.1)
spells_change k (Comment n text) s = k.comment (known_as n [] text) (identifier_of n s)
spells_change k (SetClassSide n names) s = k.class_side (known_as n names []) (identifier_of n s.0)
spells_change k (RemoveMethod c meta t) s = spells_removal c meta t (identifier_of c s.0) s.1
spells_change k (RemoveClass n) s = spells_class_removal n (word_selects n (identifier_of n s))

-- a change
reads_change : SpellsClasses → (c : ChangeOf Text) (s t : Stage) (behind : Text) → IsStatedChange c → edited (Change c) s ≡ Ok t → ReadsOn (edit_text (Change c) ++ behind) (rests s) behind (rests t)
reads_change k c s t behind stated e =
    let d : DoItOf Text = record { source = change_source c; body = change_tree c } in
    let says = says_change c stated in
    reads_said (change_source c) (change_tree c) (rests s) (rests t) behind (change_begins c stated) (spells_change k c stated) (changes_none Second false (change_tree c) c says)
    (ap (form_taken false (rests s) d) says ∙ change_taken (rests s) d c t e)

-- the settling of places
pub reads_settling : (f : Filing) (behind : Text) → ReadsOn (edit_text Settle ++ behind) (record f { run = None }) behind (goes_on no_places None (placed text_eq f.places f.image))
reads_settling f behind =
    reads_said (codes "Smalltalk settlePlaces") settling_tree f (goes_on no_places None (placed text_eq f.places f.image)) behind
    (record { word = codes "Smalltalk"; rest = codes " settlePlaces"; whole = refl; is_word = refl }) spells_settling settling_alone
    (ap (form_taken false (record f { run = None }) (record { source = codes "Smalltalk settlePlaces"; body = settling_tree })) says_settling)

-- the replacement of a do-it
reads_replacement : (n : ℕ) (d : DoItOf Text) (s t : Stage) (behind : Text) → IsStatedDoIt n d → edited (Replace n d) s ≡ Ok t → ReadsOn (edit_text (Replace n d) ++ behind) (rests s) behind (rests t)
reads_replacement n d s t behind stated e =
    let source = codes "Smalltalk replaceDoIt: " ++ decimal n ++ codes " with: " ++ quoted_text d.source in
    let rest = codes " replaceDoIt: " ++ (decimal n ++ (codes " with: " ++ quoted_text d.source)) in
    let begins : BeginsWithWord source = record {
      word = codes "Smalltalk";
      rest = rest;
      whole = append_assoc (codes "Smalltalk replaceDoIt: " ++ decimal n) (codes " with: ") (quoted_text d.source) ∙ append_assoc (codes "Smalltalk replaceDoIt: ") (decimal n) (codes " with: " ++ quoted_text d.source);
      is_word = refl;
    } in
    subst (λ (x : Text). ReadsOn x (rests s) behind (rests t)) (sym (append_assoc (chunk_text source) (10 ∷ 10 ∷ []) behind))
    (reads_chunk source (10 ∷ 10 ∷ []) behind (ReplacementChunk (record { numeral = decimal n; source = d.source }) d.body) (no_blank_first source begins) refl (λ e. omega arith)
    (ReplacementRead (some_text source begins) (spells_replacement (decimal n) d.source (numeral_unsigned n stated.number)) (says_replacement n d.source stated.number) stated.spells)
    (sym (replacement_taken (rests s) (decimal n) n d t (place_stated n stated.number) e)))

-- a method that is put in
module _ (m : EntryOf Text) (k : ℕ) (s t : Stage) (stated : IsStatedMethod m k) (e : edited (Put m k) s ≡ Ok t) where
  abbrev run : RunOf Text
  run = run_of m

  abbrev opening : Text
  opening = placed_opening_text run (decimal k)

  abbrev open_ : Filing
  open_ = goes_on (opened_at (Some k) s.places) (Some run) s.image

  word : is_identifier run.class ≡ true
  word = identifier_of run.class stated.class

  begins : BeginsWithWord opening
  begins =
      let side = if run.meta then codes " class" else [] in
      let protocol = quoted_text run.protocol in
      record {
        word = run.class;
        rest = side ++ (codes " methodsFor: " ++ (protocol ++ (codes " at: " ++ decimal k)));
        whole = append_assoc (side_text run ++ codes " methodsFor: " ++ protocol) (codes " at: ") (decimal k) ∙ append_assoc (side_text run ++ codes " methodsFor: ") protocol (codes " at: " ++ decimal k)
            ∙ append_assoc (side_text run) (codes " methodsFor: ") (protocol ++ (codes " at: " ++ decimal k)) ∙ append_assoc run.class side (codes " methodsFor: " ++ (protocol ++ (codes " at: " ++ decimal k)));
        is_word = word;
      }

  -- the beginning of its run
  reads_opening : (behind : Text) → ReadsOn (placed_run_start run k ++ behind) (rests s) behind open_
  reads_opening behind =
      let d : DoItOf Text = record { source = opening; body = placed_opening_tree run (decimal k) } in
      let after = (chunk_text opening ++ 10 ∷ []) ++ behind in
      let whole : doubled 33 opening ++ (33 ∷ 10 ∷ behind) ≡ after =
      sym (append_assoc (doubled 33 opening) (33 ∷ []) (10 ∷ behind)) ∙ sym (append_assoc (chunk_text opening) (10 ∷ []) behind) in
      let other : BeginsOtherwise 33 after = subst (BeginsOtherwise 33) whole (other_first opening (33 ∷ 10 ∷ behind) begins) in
      let mark : ReadsOn (33 ∷ after) (rests s) after (rests s) = reads_chunk [] [] after Blank refl refl other Empty refl in
      let takes : form_taken false (rests s) d (form_of Second false (placed_opening_tree run (decimal k))) ≡ Ok open_ =
      ap (form_taken false (rests s) d) (says_placed_opening run k stated.place) ∙ (put_taken Second (rests s) d m k t e).opens in
      let opens : ReadsOn after (rests s) behind open_ =
      subst (λ (x : Text). ReadsOn x (rests s) behind open_) (sym (append_assoc (chunk_text opening) (10 ∷ []) behind))
      (reads_chunk opening (10 ∷ []) behind (DoItChunk opening (placed_opening_tree run (decimal k))) (no_blank_first opening begins) refl (λ x. omega arith)
      (DoItRead (some_text opening begins) (spells_placed_opening run (decimal k) word (numeral_unsigned k stated.place)) (opening_alone run (decimal k))) (sym takes)) in
      reads_further mark opens

  -- the method, and the end of its run
  pub reads_put : (behind : Text) → ReadsOn (edit_text (Put m k) ++ behind) (rests s) behind (rests t)
  reads_put behind =
      let by = put_taken Second (rests s) (record { source = opening; body = placed_opening_tree run (decimal k) }) m k t e in
      let filed : Filing = goes_on t.places (Some run) t.image in
      let method : ReadsOn (chunk_text m.source ++ (run_end ++ behind)) open_ (run_end ++ behind) filed =
      reads_chunk m.source [] (run_end ++ behind) (MethodChunk run m.source m.tree) stated.stands.no_blank refl (λ x. omega arith) (MethodRead stated.stands.some stated.spells) (sym by.puts) in
      let end : ReadsOn (run_end ++ behind) filed behind (rests t) =
      reads_blanks (32 ∷ []) refl (reads_chunk [] (10 ∷ 10 ∷ []) behind Blank refl refl (λ x. omega arith) Empty (sym by.ends)) in
      let text : edit_text (Put m k) ++ behind ≡ placed_run_start run k ++ (chunk_text m.source ++ (run_end ++ behind)) =
      append_assoc (placed_run_start run k ++ chunk_text m.source) run_end behind ∙ append_assoc (placed_run_start run k) (chunk_text m.source) (run_end ++ behind) in
      subst (λ (x : Text). ReadsOn x (rests s) behind (rests t)) (sym text) (reads_further (reads_opening (chunk_text m.source ++ (run_end ++ behind))) (reads_further method end))

-- an edit
reads_edit : SpellsClasses → (e : Edit) (s t : Stage) (behind : Text) → IsStated e → edited e s ≡ Ok t → ReadsOn (edit_text e ++ behind) (rests s) behind (rests t)
reads_edit k Settle s t behind stated e =
    let same : ◌≡◌ {A = Stage} (record { image = placed text_eq s.places s.image; places = no_places }) t = cc in
    subst (λ (u : Stage). ReadsOn (edit_text Settle ++ behind) (rests s) behind (rests u)) same (reads_settling (rests s) behind)
reads_edit k (Change c) s t behind stated e = reads_change k c s t behind stated e
reads_edit k (Put m n) s t behind stated e = reads_put m n s t stated e behind
reads_edit k (Replace n d) s t behind stated e = reads_replacement n d s t behind stated e

-- edits
pub reads_edits : SpellsClasses → (es : List Edit) (s t : Stage) (behind : Text) → AllByRecursion IsStated es → AreMade es s t → ReadsOn (flat_map edit_text es ++ behind) (rests s) behind (rests t)
reads_edits k es s t behind all Over = reads_none
reads_edits k es s t behind all (Made {e} {es = more} {t = u} one rest) =
    subst (λ (x : Text). ReadsOn x (rests s) behind (rests t)) (sym (append_assoc (edit_text e) (flat_map edit_text more) behind))
    (reads_further (reads_edit k e s u (flat_map edit_text more ++ behind) all.0 one) (reads_edits k more u t behind all.1 rest))
