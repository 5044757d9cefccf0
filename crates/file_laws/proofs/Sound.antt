-- What holds of the image of each file-out.
use Rattle.std.proofs.Common.{◌≡◌, ℕ, zero, suc, ◌+◌, ◌≤◌, Bool, true, false, not, cond, List, [], ◌∷◌, ◌++◌, length, map, filter, Option, Some, None, Ok, refl, subst, arith, length-append}
use Rattle.std.specs.Prelude.{◌-◌, ◌&&◌, slice_set, if◌then◌else◌, codes}
use Rattle.std.specs.List.{AllByRecursion}
use Rattle.std.specs.Option.{option_map_or}
use Rattle.rb_base.specs.Names.{text_eq}
use Rattle.token_model.specs.declared.kind.Dialect.{Dialect}
use Rattle.tree_model.specs.Tree.{SequenceOf, MethodOf}
use Rattle.grammar_model.specs.Spelling.{SpellsDoIt, SpellsMethod}
use Rattle.grammar_model.proofs.Limits.{limit_DoIt, limit_Method, user_Method, normal_Method}
use Rattle.image_model.specs.Image.{EntryOf, DoItOf, ImageOf, plus}
use Rattle.image_model.specs.Lookup.{is_method}
use Rattle.image_model.specs.Valid.{IsFileable, IsUserMethod, IsUserDoIt}
use Rattle.file_model.specs.Words.{may_name, may_name_all, words_of, is_blank_string}
use Rattle.file_model.specs.Causes.{Cause, PoolsNotEmpty, UnknownDefinition, when, first_cause}
use Rattle.file_model.specs.Changes.{ChangeOf, Define, DefineAt, Comment, SetClassSide, RemoveMethod, RemoveClass, RunOf}
use Rattle.file_model.specs.Forms.{Form, Evaluates, Changes, Opens, OpensAt, Settles, Refuses, no_form, Sent, placed_definition_selector, PlacedStrings, placed_strings, at_place, placed_subclass_form, further_form, sent_of, definition_selector, DefinitionStrings, definition_strings, the_argument, superclass_named, definition_form, subclass_form, class_side_form, sent_form, form_of}
use Rattle.file_model.specs.Refusals.{has_method, definition_refusals, comment_refusals, class_side_refusals, removal_refusals, class_removal_refusals, method_refusals}
use Rattle.file_model.specs.Applied.{is_of_class, with_definition, with_comment, with_class_side, defined, without_class, without_method, changed, entry_in, with_method, method_added}
use Rattle.file_model.specs.Filing.{Text, with_replaced}
use Rattle.file_model.specs.Fileable.{MayStand, IsDoItChunk, reading_of}
use Rattle.file_model.specs.Reading.{IsImageOf}
use Rattle.file_model.specs.Numerals.{place_in}
use Rattle.file_model.specs.Places.{PlacesOf, put_again_behind, method_place, placed}
use Rattle.file_laws.proofs.OtherOrder.{all_reordered}
use Rattle.file_laws.proofs.PutAgain.{put_again_behind_same}
use Rattle.file_laws.proofs.Refused.{unless_ok}
use Rattle.file_laws.proofs.Taking.{IsChunkDoIt, IsKeptByChunks, kept_kernel, kept_image}
use Rattle.std.proofs.lemmas.List.{length-set}

-- a method of the kernel, or one whose source spells it and may stand as a chunk
abbrev SoundMethod : Dialect → EntryOf Text → Type 0
SoundMethod d m = m.kernel ≡ false → SpellsMethod d false m.source m.tree × MayStand m.source

-- a do-it whose source spells it and may stand as a chunk, which is read as a do-it
record SoundDoIt (d : Dialect) (x : DoItOf Text) : Type 0 where
  spells : SpellsDoIt d x.source x.body
  stands : MayStand x.source
  form : form_of d false x.body ≡ Evaluates

-- what holds of an image
record IsSoundImage (d : Dialect) (i : ImageOf Text) : Type 0 where
  methods : AllByRecursion (SoundMethod d) i.methods
  doits : AllByRecursion (SoundDoIt d) i.doits
  heads : i.heads ≤ length i.doits

-- of the items that pass
pub All-filter : {X : Type 0} (P : X → Type 0) (p : X → Bool) (xs : List X) → AllByRecursion P xs → AllByRecursion P (filter p xs)
All-filter P p [] all = tt
All-filter P p (x ∷ xs) all = by (p x) (All-filter P p xs all.1)
  where
    by : (b : Bool) → AllByRecursion P (filter p xs) → AllByRecursion P (cond b (x ∷ filter p xs) (filter p xs))
    by true rest = (all.0, rest)
    by false rest = rest

-- of one more item
pub All-last : {X : Type 0} (P : X → Type 0) (xs : List X) (x : X) → AllByRecursion P xs → P x → AllByRecursion P (xs ++ x ∷ [])
All-last P [] x all h = (h, tt)
All-last P (y ∷ ys) x all h = (all.0, All-last P ys x all.1 h)

-- of items some of which are replaced by one
pub All-replaced : {X : Type 0} (P : X → Type 0) (p : X → Bool) (new : X) (xs : List X) → AllByRecursion P xs → P new → AllByRecursion P (map (λ x. if p x then new else x) xs)
All-replaced P p new [] all h = tt
All-replaced P p new (x ∷ xs) all h = (by (p x), All-replaced P p new xs all.1 h)
  where
    by : (b : Bool) → P (if b then new else x)
    by true = h
    by false = all.0

-- a change keeps it
sound_changed : (d : Dialect) (kernel : Bool) (c : ChangeOf Text) (i j : ImageOf Text) → changed text_eq kernel c i ≡ Ok j → IsSoundImage d i → IsSoundImage d j
sound_changed d kernel (Define x) i j e s =
    subst (IsSoundImage d) (unless_ok (definition_refusals text_eq i.classes x (with_definition text_eq kernel x i.classes)) (record i { classes = defined text_eq kernel x i.classes }) j e)
    (record { methods = s.methods; doits = s.doits; heads = s.heads })
sound_changed d kernel (DefineAt x k) i j e s =
    subst (IsSoundImage d) (unless_ok (definition_refusals text_eq i.classes x (with_definition text_eq kernel x i.classes)) (record i { classes = with_definition text_eq kernel x i.classes }) j e)
    (record { methods = s.methods; doits = s.doits; heads = s.heads })
sound_changed d kernel (Comment n t) i j e s =
    subst (IsSoundImage d) (unless_ok (comment_refusals text_eq i.classes n) (record i { classes = with_comment text_eq n t i.classes }) j e)
    (record { methods = s.methods; doits = s.doits; heads = s.heads })
sound_changed d kernel (SetClassSide n ns) i j e s =
    subst (IsSoundImage d) (unless_ok (class_side_refusals text_eq i.classes n ns (with_class_side text_eq n ns i.classes)) (record i { classes = with_class_side text_eq n ns i.classes }) j e)
    (record { methods = s.methods; doits = s.doits; heads = s.heads })
sound_changed d kernel (RemoveMethod c meta t) i j e s =
    subst (IsSoundImage d) (unless_ok (removal_refusals text_eq i c meta t) (without_method text_eq c meta t i) j e)
    (record { methods = All-filter (SoundMethod d) (λ m. not (is_method text_eq c meta t m)) i.methods s.methods; doits = s.doits; heads = s.heads })
sound_changed d kernel (RemoveClass n) i j e s =
    subst (IsSoundImage d) (unless_ok (class_removal_refusals text_eq i.classes n) (without_class text_eq n i) j e)
    (record { methods = All-filter (SoundMethod d) (λ m. not (is_of_class text_eq n m)) i.methods s.methods; doits = s.doits; heads = s.heads })

-- a method that is added keeps it
sound_added : (d : Dialect) (kernel : Bool) (r : RunOf Text) (source : Text) (m : MethodOf Text) (i j : ImageOf Text) → SpellsMethod d kernel source m → MayStand source → method_added text_eq kernel r source m i ≡ Ok j → IsSoundImage d i → IsSoundImage d j
sound_added d kernel r source m i j spells stands e s =
    subst (IsSoundImage d) (unless_ok (method_refusals text_eq i.methods r m.selector) (record i { methods = with_method text_eq kernel r source m i.methods }) j e)
    (record { methods = by (has_method text_eq i.methods r.class r.meta m.selector); doits = s.doits; heads = s.heads })
  where
    new : SoundMethod d (entry_in kernel r source m)
    new user = (subst (λ (k : Bool). SpellsMethod d k source m) user spells, stands)

    by : (b : Bool) → AllByRecursion (SoundMethod d) (if b then map (λ e. if is_method text_eq r.class r.meta m.selector e then entry_in kernel r source m else e) i.methods else i.methods ++ entry_in kernel r source m ∷ [])
    by true = All-replaced (SoundMethod d) (is_method text_eq r.class r.meta m.selector) (entry_in kernel r source m) i.methods s.methods new
    by false = All-last (SoundMethod d) i.methods (entry_in kernel r source m) s.methods new

-- a do-it that is added keeps it
sound_doit : (d : Dialect) (i : ImageOf Text) (x : DoItOf Text) (at_head : Bool) → SoundDoIt d x → IsSoundImage d i → IsSoundImage d (record (plus i x) { heads = if at_head then i.heads + 1 else i.heads })
sound_doit d i x at_head h s = record {
  methods = s.methods;
  doits = All-last (SoundDoIt d) i.doits x s.doits h;
  heads = by at_head;
}
  where
    by : (b : Bool) → (if b then i.heads + 1 else i.heads) ≤ length (i.doits ++ x ∷ [])
    by true = omega (arith, s.heads, length-append i.doits (x ∷ []))
    by false = omega (arith, s.heads, length-append i.doits (x ∷ []))

-- of items of which one is replaced
All-set : {X : Type 0} (P : X → Type 0) (xs : List X) (k : ℕ) (x : X) → AllByRecursion P xs → P x → AllByRecursion P (slice_set xs k x)
All-set P [] k x all h = tt
All-set P (y ∷ ys) zero x all h = (h, all.1)
All-set P (y ∷ ys) (suc k) x all h = (all.0, All-set P ys k x all.1 h)

-- a do-it that replaces another keeps it
sound_replaced : (d : Dialect) (i : ImageOf Text) (numeral : Text) (x : DoItOf Text) → SoundDoIt d x → IsSoundImage d i → IsSoundImage d (with_replaced i numeral x)
sound_replaced d i numeral x h s = by (place_in numeral)
  where
    by : (o : Option ℕ) → IsSoundImage d (record i { doits = option_map_or (λ k. slice_set i.doits (k - 1) x) o i.doits })
    by None = record { methods = s.methods; doits = s.doits; heads = s.heads }
    by (Some k) = record {
      methods = s.methods;
      doits = All-set (SoundDoIt d) i.doits (k - 1) x s.doits h;
      heads = omega (arith, s.heads, length-set i.doits (k - 1) x);
    }

-- methods that go to the places that are stated for them keep it
sound_placed : (d : Dialect) (i : ImageOf Text) (stated : PlacesOf Text) → IsSoundImage d i → IsSoundImage d (placed text_eq stated i)
sound_placed d i stated s = record {
  methods = all_reordered (SoundMethod d) i.methods (put_again_behind (λ (m : EntryOf Text). m.kernel) (method_place text_eq stated.methods) i.methods) (put_again_behind_same (λ (m : EntryOf Text). m.kernel) (method_place text_eq stated.methods) i.methods) s.methods;
  doits = s.doits;
  heads = s.heads;
}

-- a definition is no do-it
definition_is_no_doit : (kernel : Bool) (p : List ℕ) (x : DefinitionStrings) → definition_form kernel p x ≡ Evaluates → ⊥
definition_is_no_doit kernel p x e = by (first_cause (when (not (may_name x.name && (may_name_all x.instance && may_name_all x.shared))) UnknownDefinition ∷ when (not (is_blank_string x.pools)) PoolsNotEmpty ∷ [])) e
  where
    by : (o : Option Cause) → option_map_or Refuses o (Changes (Define (record { name = x.name; superclass = superclass_named kernel p; instance = words_of x.instance; shared = words_of x.shared; category = x.category }))) ≡ Evaluates → ⊥
    by None h = cc
    by (Some cause) h = cc

-- neither is a message of its selector
subclass_is_no_doit : (kernel : Bool) (p : List ℕ) (meta : Bool) (o : Option DefinitionStrings) → subclass_form kernel p meta o ≡ Evaluates → ⊥
subclass_is_no_doit kernel p false (Some x) e = definition_is_no_doit kernel p x e
subclass_is_no_doit kernel p false None e = cc
subclass_is_no_doit kernel p true (Some x) e = cc
subclass_is_no_doit kernel p true None e = cc

-- nor is one with a place
placed_is_no_doit : (kernel : Bool) (p : List ℕ) (meta : Bool) (o : Option PlacedStrings) → placed_subclass_form kernel p meta o ≡ Evaluates → ⊥
placed_is_no_doit kernel p false (Some x) e = by (place_in x.numeral) e
  where
    at : (k : ℕ) (form : Form) → at_place k form ≡ Evaluates → form ≡ Evaluates
    at k Evaluates h = refl
    at k (Changes c) h = cc
    at k (Opens r) h = h
    at k (OpensAt r j) h = h
    at k Settles h = h
    at k (Refuses cause) h = h

    by : (o : Option ℕ) → option_map_or (λ k. at_place k (definition_form kernel p x.strings)) o no_form ≡ Evaluates → ⊥
    by None h = cc
    by (Some k) h = definition_is_no_doit kernel p x.strings (at k (definition_form kernel p x.strings) h)
placed_is_no_doit kernel p false None e = cc
placed_is_no_doit kernel p true (Some x) e = cc
placed_is_no_doit kernel p true None e = cc

-- what is a do-it in the text of the kernel is one in a user's
further_doit : (kernel : Bool) (m : Sent) → further_form kernel m ≡ Evaluates → further_form false m ≡ Evaluates
further_doit kernel m e = by (text_eq m.selector placed_definition_selector) _ e
  where
    by : (a : Bool) (last : Form) → (if a then placed_subclass_form kernel m.class m.meta (placed_strings m.arguments) else last) ≡ Evaluates → (if a then placed_subclass_form false m.class m.meta (placed_strings m.arguments) else last) ≡ Evaluates
    by true last h = absurd (placed_is_no_doit kernel m.class m.meta (placed_strings m.arguments) h)
    by false last h = h

user_doit : (d : Dialect) (kernel : Bool) (b : SequenceOf Text) → form_of d kernel b ≡ Evaluates → form_of d false b ≡ Evaluates
user_doit d kernel b e = by (sent_of b b.temporaries) e
  where
    at : (m : Sent) (a c : Bool) → (if a then subclass_form kernel m.class m.meta (definition_strings m.arguments) else (if c then class_side_form d m.class m.meta (the_argument m.arguments) else further_form kernel m)) ≡ Evaluates
        → (if a then subclass_form false m.class m.meta (definition_strings m.arguments) else (if c then class_side_form d m.class m.meta (the_argument m.arguments) else further_form false m)) ≡ Evaluates
    at m true c h = absurd (subclass_is_no_doit kernel m.class m.meta (definition_strings m.arguments) h)
    at m false true h = h
    at m false false h = further_doit kernel m h

    by : (o : Option Sent) → option_map_or (sent_form d kernel) o Evaluates ≡ Evaluates → option_map_or (sent_form d false) o Evaluates ≡ Evaluates
    by None h = refl
    by (Some m) h = at m (text_eq m.selector definition_selector) (text_eq m.selector (codes "instanceVariableNames:")) h

-- a do-it that stands as a chunk
sound_chunk : (d : Dialect) (kernel : Bool) (x : DoItOf Text) → IsChunkDoIt d kernel x → SoundDoIt d x
sound_chunk d kernel x h = record { spells = h.spells; stands = h.stands; form = user_doit d kernel x.body h.form }

-- all that chunks make keeps it
sound_keeps : (d : Dialect) (kernel : Bool) → IsKeptByChunks d kernel (IsSoundImage d)
sound_keeps d kernel = record {
  changes = λ b c i j says e s. sound_changed d kernel c i j e s;
  adds = λ r source m i j spells stands there e s. sound_added d kernel r source m i j spells stands e s;
  counts = λ i x at_head chunk s. sound_doit d i x at_head (sound_chunk d kernel x chunk) s;
  replaces = λ i numeral x chunk s. sound_replaced d i numeral x (sound_chunk d kernel x chunk) s;
  places = sound_placed d;
}

-- the image of a file-out
sound_image : (d : Dialect) (prelude text : Text) (i : ImageOf Text) → IsImageOf d prelude text i → IsSoundImage d i
sound_image d prelude text i h =
    kept_image d (IsSoundImage d) (sound_keeps d false) prelude text i h
    (kept_kernel d (IsSoundImage d) (sound_keeps d true) prelude h.kernel h.is_kernel (record { methods = tt; doits = tt; heads = omega arith }))

-- a fact of each item that follows from another
All-weaker : {X : Type 0} (P Q : X → Type 0) (xs : List X) → ((x : X) → P x → Q x) → AllByRecursion P xs → AllByRecursion Q xs
All-weaker P Q [] f all = tt
All-weaker P Q (x ∷ xs) f all = (f x all.0, All-weaker P Q xs f all.1)

-- it can be written and read again
pub fileable : (d : Dialect) (prelude text : Text) (kernel i : ImageOf Text) → IsImageOf d prelude text i → IsFileable (reading_of d kernel) i
fileable d prelude text kernel i h =
    let s = sound_image d prelude text i h in
    record {
      method_sources = All-weaker (SoundMethod d) (λ m. m.kernel ≡ false → MayStand m.source) i.methods (λ m sound user. (sound user).1) s.methods;
      doit_sources = All-weaker (SoundDoIt d) (λ (x : DoItOf Text). MayStand x.source) i.doits (λ x sound. sound.stands) s.doits;
      doit_chunks = All-weaker (SoundDoIt d) (λ (x : DoItOf Text). IsDoItChunk d x.source) i.doits (λ x sound. record { body = x.body; spells = sound.spells; form = sound.form }) s.doits;
      heads_within = s.heads;
    }

-- the sources of its user methods spell them
pub user_methods_spelled : (d : Dialect) (prelude text : Text) (kernel i : ImageOf Text) → IsImageOf d prelude text i → AllByRecursion (λ (m : EntryOf Text). m.kernel ≡ false → IsUserMethod (reading_of d kernel) m) i.methods
user_methods_spelled d prelude text kernel i h =
    All-weaker (SoundMethod d) (λ m. m.kernel ≡ false → IsUserMethod (reading_of d kernel) m) i.methods
    (λ m sound user. record {
      spells = (sound user).0;
      normal = normal_Method d false m.source m.tree (sound user).0;
      height = limit_Method d false m.source m.tree (sound user).0;
      no_primitive = user_Method d m.source m.tree (sound user).0;
    })
    (sound_image d prelude text i h).methods

-- the sources of its do-its spell them
pub doits_spelled : (d : Dialect) (prelude text : Text) (kernel i : ImageOf Text) → IsImageOf d prelude text i → AllByRecursion (IsUserDoIt (reading_of d kernel)) i.doits
doits_spelled d prelude text kernel i h =
    All-weaker (SoundDoIt d) (IsUserDoIt (reading_of d kernel)) i.doits
    (λ x sound. record { spells = sound.spells; height = limit_DoIt d x.source x.body sound.spells }) (sound_image d prelude text i h).doits
