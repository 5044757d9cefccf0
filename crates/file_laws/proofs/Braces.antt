-- What the first dialect reads, the second reads alike.
use Rattle.std.proofs.Common.{◌≡◌, ◌⊎◌, inl, inr, ℕ, Bool, true, false, not, cond, List, [], ◌∷◌, length, filter, Option, Some, None, Result, Ok, Err, refl, sym, ap, ◌∙◌, true≢false}
use Rattle.std.specs.Prelude.{◌==◌, ◌&&◌, ◌||◌, if◌then◌else◌, codes}
use Rattle.std.specs.List.{list_all, slice_split, onto_first}
use Rattle.std.specs.Option.{option_map_or}
use Rattle.rb_base.specs.Names.{text_eq}
use Rattle.token_model.specs.declared.kind.Dialect.TheVariants.{First, Second}
use Rattle.tree_model.specs.Tree.{SequenceOf}
use Rattle.chunk_format.specs.Blank.{is_blank, blank_len}
use Rattle.chunk_format.specs.Chunks.{Piece}
use Rattle.chunk_format.specs.declared.chunk_iter.Unended.{Unended as NoEnd}
use Rattle.grammar_model.proofs.Dialects.{doit_second, method_second}
use Rattle.image_model.specs.Image.{ImageOf, DoItOf}
use Rattle.file_model.specs.Words.{may_name, words_of, is_blank_string, may_name_all}
use Rattle.file_model.specs.Causes.{Cause, UnknownDefinition, when, unless, Syntax}
use Rattle.file_model.specs.Changes.{RunOf, SetClassSide}
use Rattle.file_model.specs.Forms.{Argument, Symbol, String, Numeral, Other, Form, Evaluates, Changes, no_form, Sent, sent_of, definition_selector, definition_strings, the_argument, subclass_form, class_side_form, further_form, sent_form, form_of, is_doit}
use Rattle.file_model.specs.Filing.{Text, Filing, Item, Blank, DoItChunk, ReplacementChunk, MethodChunk, Faulty, goes_on, form_taken, has_doit, replacement_refusals, with_replaced, taken}
use Rattle.file_model.specs.Reading.{IsItem, Empty, DoItRead, ReplacementRead, ReplacementFault, DoItFault, MethodRead, MethodFault, Takes, TakesAll, Over, Taken, ReadsText, IsImageOf}
use Rattle.file_model.specs.Places.{opened_at}
use Rattle.file_laws.proofs.Refused.{allowed}
use Rattle.file_laws.proofs.Taking.{not_false}

-- a string of blanks has no words
pub no_words : (s : List ℕ) → list_all is_blank s ≡ true → filter (λ (w : List ℕ). not (length w == 0)) (slice_split is_blank s) ≡ []
no_words [] h = refl
no_words (b ∷ s) h = by (is_blank b) h (no_words s)
  where
    by : (t : Bool) → (t && list_all is_blank s) ≡ true → (list_all is_blank s ≡ true → filter (λ (w : List ℕ). not (length w == 0)) (slice_split is_blank s) ≡ [])
        → filter (λ (w : List ℕ). not (length w == 0)) (cond t ([] ∷ slice_split is_blank s) (onto_first b (slice_split is_blank s))) ≡ []
    by true h rest = rest h
    by false h rest = absurd (true≢false (sym h))

-- so each of its words may be a name
pub names_of_blanks : (s : List ℕ) → is_blank_string s ≡ true → may_name_all s ≡ true
names_of_blanks s h = ap (list_all may_name) (no_words s h)

-- class-instance variables in both dialects: the same, or none in the first
class_side_either : (n : List ℕ) (meta : Bool) (x : Argument) → (class_side_form First n meta x ≡ class_side_form Second n meta x) ⊎ (class_side_form First n meta x ≡ no_form)
class_side_either n true (String s) = by (is_blank_string s) refl
  where
    by : (b : Bool) → is_blank_string s ≡ b → (class_side_form First n true (String s) ≡ class_side_form Second n true (String s)) ⊎ (class_side_form First n true (String s) ≡ no_form)
    by true e = inl (ap (λ (t : Bool). if t then Changes (SetClassSide n (words_of s)) else no_form) (e ∙ sym (names_of_blanks s e)))
    by false e = inr (ap (λ (t : Bool). if t then Changes (SetClassSide n (words_of s)) else no_form) e)
class_side_either n true (Symbol s) = inl refl
class_side_either n true (Numeral s) = inl refl
class_side_either n true Other = inl refl
class_side_either n false (String s) = inl refl
class_side_either n false (Symbol s) = inl refl
class_side_either n false (Numeral s) = inl refl
class_side_either n false Other = inl refl

-- messages to classes in both dialects
sent_either : (kernel : Bool) (m : Sent) → (sent_form First kernel m ≡ sent_form Second kernel m) ⊎ (sent_form First kernel m ≡ no_form)
sent_either kernel m = by (text_eq m.selector definition_selector) (text_eq m.selector (codes "instanceVariableNames:")) (class_side_either m.class m.meta (the_argument m.arguments))
  where
    first : Form
    first = subclass_form kernel m.class m.meta (definition_strings m.arguments)

    last : Form
    last = further_form kernel m

    by : (a b : Bool) → (class_side_form First m.class m.meta (the_argument m.arguments) ≡ class_side_form Second m.class m.meta (the_argument m.arguments)) ⊎ (class_side_form First m.class m.meta (the_argument m.arguments) ≡ no_form)
        → ((if a then first else (if b then class_side_form First m.class m.meta (the_argument m.arguments) else last)) ≡ (if a then first else (if b then class_side_form Second m.class m.meta (the_argument m.arguments) else last)))
        ⊎ ((if a then first else (if b then class_side_form First m.class m.meta (the_argument m.arguments) else last)) ≡ no_form)
    by true b h = inl refl
    by false true h = h
    by false false h = inl refl

-- chunks in both dialects
form_either : (kernel : Bool) (b : SequenceOf Text) → (form_of First kernel b ≡ form_of Second kernel b) ⊎ (form_of First kernel b ≡ no_form)
form_either kernel b = by (sent_of b b.temporaries)
  where
    by : (o : Option Sent) → (option_map_or (sent_form First kernel) o Evaluates ≡ option_map_or (sent_form Second kernel) o Evaluates) ⊎ (option_map_or (sent_form First kernel) o Evaluates ≡ no_form)
    by None = inl refl
    by (Some m) = sent_either kernel m

-- what is taken in the first dialect is taken alike in the second
taken_alike : (kernel : Bool) (f g : Filing) (x : Item) → Ok g ≡ taken First kernel f x → Ok g ≡ taken Second kernel f x
taken_alike kernel f g Blank e = e
taken_alike kernel f g (MethodChunk r source m) e = e
taken_alike kernel f g (Faulty fault) e = e
taken_alike kernel f g (DoItChunk source b) e = by (form_either kernel b)
  where
    it : DoItOf Text
    it = record { source = source; body = b }

    by : (form_of First kernel b ≡ form_of Second kernel b) ⊎ (form_of First kernel b ≡ no_form) → Ok g ≡ form_taken kernel f (record { source = source; body = b }) (form_of Second kernel b)
    by (inl same) = e ∙ ap (form_taken kernel f (record { source = source; body = b })) same
    by (inr none) = absurd (differ (e ∙ ap (form_taken kernel f (record { source = source; body = b })) none))
      where
        differ : ◌≡◌ {A = Result Filing Cause} (Ok g) (Err UnknownDefinition) → ⊥
        differ h = cc
taken_alike kernel f g (ReplacementChunk r b) e = by (form_either kernel b)
  where
    new : Filing
    new = goes_on (opened_at None f.places) None (with_replaced f.image r.numeral (record { source = r.source; body = b }))

    by : (form_of First kernel b ≡ form_of Second kernel b) ⊎ (form_of First kernel b ≡ no_form) → Ok g ≡ unless (replacement_refusals Second kernel f.image r b) (goes_on (opened_at None f.places) None (with_replaced f.image r.numeral (record { source = r.source; body = b })))
    by (inl same) =
        e
        ∙ ap (λ (x : Form). unless (when (not (has_doit f.image r.numeral)) UnknownDefinition ∷ when (length r.source == 0 || not (blank_len r.source == 0)) UnknownDefinition ∷ when (not (is_doit x)) UnknownDefinition ∷ []) (goes_on (opened_at None f.places) None (with_replaced f.image r.numeral (record { source = r.source; body = b })))) same
    by (inr none) = absurd (true≢false (sym (not_false (is_doit (form_of First kernel b)) (allowed (replacement_refusals First kernel f.image r b) new g (sym e)).none.1.1.0) ∙ ap is_doit none))

-- what is read in the first dialect is read alike in the second
item_alike : (kernel : Bool) (f g : Filing) (run : Option (RunOf Text)) (source : Text) (x : Item) → IsItem First kernel run source x → Ok g ≡ taken First kernel f x → IsItem Second kernel run source x
item_alike kernel f g run source x Empty e = Empty
item_alike kernel f g run source x (DoItRead n s none) e = DoItRead n (doit_second source _ s) none
item_alike kernel f g run source x (ReplacementRead {r = r} n s states t) e = ReplacementRead n (doit_second source _ s) states (doit_second r.source _ t)
item_alike kernel f g run source x (ReplacementFault {fault = fault} n s states h) e = absurd (differ e)
  where
    differ : ◌≡◌ {A = Result Filing Cause} (Ok g) (Err (Syntax fault)) → ⊥
    differ k = cc
item_alike kernel f g run source x (DoItFault {fault = fault} n h) e = absurd (differ e)
  where
    differ : ◌≡◌ {A = Result Filing Cause} (Ok g) (Err (Syntax fault)) → ⊥
    differ k = cc
item_alike kernel f g run source x (MethodRead n s) e = MethodRead n (method_second kernel source _ s)
item_alike kernel f g run source x (MethodFault {fault = fault} n h) e = absurd (differ e)
  where
    differ : ◌≡◌ {A = Result Filing Cause} (Ok g) (Err (Syntax fault)) → ⊥
    differ k = cc

-- a chunk makes the same in the second dialect
take_alike : (kernel : Bool) (f g : Filing) (p : Piece) → Takes First kernel f p (Ok g) → Takes Second kernel f p (Ok g)
take_alike kernel f g p t = record {
  source = t.source;
  item = t.item;
  is_source = t.is_source;
  is_item = item_alike kernel f g f.run t.source t.item t.is_item t.result;
  result = taken_alike kernel f g t.item t.result;
}

-- chunks make the same in the second dialect
takes_alike : (kernel : Bool) (f g : Filing) (ps : List Piece) (end : Option NoEnd) → TakesAll First kernel f ps end (Ok g) → TakesAll Second kernel f ps end (Ok g)
takes_alike kernel f g ps end Over = Over
takes_alike kernel f g ps end (Taken {g = h} {p = p} t rest) = Taken (take_alike kernel f h p t) (takes_alike kernel h g _ _ rest)

-- a text makes the same in the second dialect
reading_alike : (kernel : Bool) (i : ImageOf Text) (text : Text) (g : Filing) → ReadsText First kernel i text (Ok g) → ReadsText Second kernel i text (Ok g)
reading_alike kernel i text g r = record { pieces = r.pieces; end = r.end; chunks = r.chunks; takes = takes_alike kernel _ g r.pieces r.end r.takes }

-- a file-out has the same image in the second dialect
pub image_alike : (prelude text : Text) (i : ImageOf Text) → IsImageOf First prelude text i → IsImageOf Second prelude text i
image_alike prelude text i h = record {
  kernel = h.kernel;
  is_kernel = record { end = h.is_kernel.end; reads = reading_alike true _ prelude h.is_kernel.end h.is_kernel.reads; image = h.is_kernel.image };
  end = h.end;
  reads = reading_alike false h.kernel text h.end h.reads;
  image = h.image;
}
