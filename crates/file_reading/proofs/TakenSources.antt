-- What a source is, and what it makes.
use Rattle.std.proofs.Common.{◌≡◌, ◌≢◌, ◌<◌, Bool, [], length, Option, Some, None, Result, Ok, Err, option_map, refl, sym, ap, subst, ◌∙◌, arith}
use Rattle.std.specs.Prelude.{MatchOption, IsSome}
use Rattle.std.specs.Result.{result_map_both}
use Rattle.rb_base.specs.Names.{text_eq}
use Rattle.token_model.specs.declared.kind.Dialect.TheVariants.{Second}
use Rattle.tree_model.specs.Tree.{SequenceOf, MethodOf}
use Rattle.grammar_model.specs.Whole.{Form as TextForm, DoIt, Method}
use Rattle.grammar_model.specs.Checks.{Fault}
use Rattle.grammar_model.specs.Spelling.{SpellsDoIt, SpellsMethod, HasFirstFault, HasFirstFaultAs}
use Rattle.st_faults.specs.declared.fault.ParseFault.{ParseFault}
use Rattle.st_faults.specs.Faults.{fault_of, IsRefused}
use Rattle.chunk_format.specs.Chunks.{Piece}
use Rattle.chunk_format.specs.Source.{IsSource}
use Rattle.file_model.specs.Causes.{Cause, Syntax}
use Rattle.file_model.specs.Changes.{RunOf}
use Rattle.file_model.specs.Applied.{method_added}
use Rattle.file_model.specs.Places.{PlacesOf, places_behind}
use Rattle.file_model.specs.Forms.{Form, form_of, Replacement, replacement_in}
use Rattle.file_model.specs.Filing.{Text, Filing, Item, Blank, DoItChunk, ReplacementChunk, MethodChunk, Faulty, form_taken, goes_on, taken}
use Rattle.file_model.specs.Reading.{IsItem, Empty, DoItRead, ReplacementRead, ReplacementFault, DoItFault, MethodRead, MethodFault, Takes}
use Rattle.file_faults.specs.declared.fault.ImageCause.TheVariants as cause
use Rattle.file_reading.specs.declared.reading.Progress.{Progress}
use Rattle.file_reading.specs.declared.reading.Stop.{Stop}
use Rattle.file_reading.specs.declared.reading.Stop.TheVariants as stop
use Rattle.file_reading.specs.Filed.{filed, IsSoundSoFar}
use Rattle.file_reading.specs.Answers.{Answers, TakesSource, IsReplacing, Spells, HasFault, Replaces}
use Rattle.file_reading.proofs.Taking.{Answers-weaker}

-- what is there
pub some_of : {X : Type 0} (o : Option X) → IsSome o → (x : X) × (o ≡ Some x)
some_of None h = absurd (cc)
some_of (Some x) h = (x, refl)

-- a text with a byte is not empty
not_empty : (s : Text) → 0 < length s → s ≢ []
not_empty s h e = absurd (omega (arith, h, ap length e))

-- the answer of a source with a fault
fault_answered : (form : TextForm) (source : Text) (fault : ParseFault) (s : Stop) (P : Result Filing Cause → Type 0) → ((f : Fault) → HasFirstFaultAs form source f → P (Err (Syntax f)))
    → ((f : Fault) → fault_of fault ≡ Some f → s ≡ stop.Refused (cause.Syntax fault)) → (fault_of fault ≡ None → s ≡ stop.Memory) → IsRefused form source fault
    → Answers P (Err s)
fault_answered form source fault s P holds told memory first = by (fault_of fault) refl first
  where
    by : (o : Option Fault) → fault_of fault ≡ o → MatchOption o (Unit {0}) (HasFirstFaultAs form source) → Answers P (Err s)
    by None e h = subst (λ (t : Stop). Answers P (Err t)) (sym (memory e)) tt
    by (Some f) e h = subst (λ (t : Stop). Answers P (Err t)) (sym (told f e)) (Syntax f, ap (option_map Syntax) e, holds f h)

-- a replacement of a do-it by a source with a fault
pub replacement_fault : (kernel : Bool) (old : Filing) (replacement : Replacement) (fault : ParseFault) (s : Stop)
    → ((f : Fault) → fault_of fault ≡ Some f → s ≡ stop.Refused (cause.Syntax fault)) → (fault_of fault ≡ None → s ≡ stop.Memory) → IsRefused DoIt replacement.source fault
    → Answers (Replaces kernel old replacement) (Err s)
replacement_fault kernel old replacement fault s told memory first =
    fault_answered DoIt replacement.source fault s (Replaces kernel old replacement) (λ f h. record { item = Faulty f; is_item = HasFault h; result = refl }) told memory first

-- a replacement of a do-it by a source that spells one
pub replacement_made : (kernel : Bool) (old last : Filing) (replacement : Replacement) (b : SequenceOf Text) (a : Result Progress Stop) → last ≡ old → SpellsDoIt Second replacement.source b
    → Answers (λ r. r ≡ taken Second kernel last (ReplacementChunk replacement b)) a → Answers (Replaces kernel old replacement) a
replacement_made kernel old last replacement b a same spells h =
    Answers-weaker (λ r. r ≡ taken Second kernel last (ReplacementChunk replacement b)) (Replaces kernel old replacement)
    (λ r e. record { item = ReplacementChunk replacement b; is_item = Spells spells; result = e ∙ ap (λ (g : Filing). taken Second kernel g (ReplacementChunk replacement b)) same }) a h

module _ (kernel : Bool) (old : Filing) (source : Text) where
  -- an empty source
  pub blank_taken : (new : Progress) → source ≡ [] → IsSoundSoFar new → filed new ≡ record old { run = None } → Answers (TakesSource kernel old source) (Ok new)
  blank_taken new none sound is =
      (sound, record { item = Blank; is_item = subst (λ (s : Text). IsItem Second kernel old.run s Blank) (sym none) Empty; result = ap Ok is })

  module _ (some : 0 < length source) where
    -- a source that spells a do-it
    pub doit_taken : (b c : SequenceOf Text) (f : Form) (last : Filing) (a : Result Progress Stop) → old.run ≡ None → SpellsDoIt Second source b → replacement_in b ≡ None → last ≡ old → c ≡ b → f ≡ form_of Second kernel b
        → Answers (λ r. r ≡ form_taken kernel last (record { source = source; body = c }) f) a → Answers (TakesSource kernel old source) a
    doit_taken b c f last a outside spells no_replacement same same_tree same_form h =
        Answers-weaker (λ r. r ≡ form_taken kernel last (record { source = source; body = c }) f) (TakesSource kernel old source)
        (λ r e. record {
          item = DoItChunk source b;
          is_item = subst (λ (o : Option (RunOf Text)). IsItem Second kernel o source (DoItChunk source b)) (sym outside) (DoItRead (not_empty source some) spells no_replacement);
          result = e ∙ (λ i. form_taken kernel (same i) (record { source = source; body = same_tree i }) (same_form i));
        }) a h

    -- a source that spells the replacement of a do-it
    replacing_item : (b : SequenceOf Text) (replacement : Replacement) (item : Item) → SpellsDoIt Second source b → replacement_in b ≡ Some replacement → IsReplacing replacement item
        → IsItem Second kernel None source item
    replacing_item b replacement item spells is (Spells read) = ReplacementRead (not_empty source some) spells is read
    replacing_item b replacement item spells is (HasFault first) = ReplacementFault (not_empty source some) spells is first

    pub replacement_taken : (b : SequenceOf Text) (replacement : Replacement) (a : Result Progress Stop) → old.run ≡ None → SpellsDoIt Second source b → replacement_in b ≡ Some replacement
        → Answers (Replaces kernel old replacement) a → Answers (TakesSource kernel old source) a
    replacement_taken b replacement a outside spells is h =
        Answers-weaker (Replaces kernel old replacement) (TakesSource kernel old source)
        (λ r t. record {
          item = t.item;
          is_item = subst (λ (o : Option (RunOf Text)). IsItem Second kernel o source t.item) (sym outside) (replacing_item b replacement t.item spells is t.is_item);
          result = t.result;
        }) a h

    -- a source that spells a method
    pub method_taken : (run : RunOf Text) (m : MethodOf Text) (last : Filing) (places : PlacesOf Text) (a : Result Progress Stop) → last.run ≡ Some run → SpellsMethod Second kernel source m → last ≡ old
        → places ≡ places_behind run.class run.meta m.selector last.places
        → Answers (λ r. r ≡ result_map_both (goes_on places (Some run)) (λ e. e) (method_added text_eq kernel run source m last.image)) a → Answers (TakesSource kernel old source) a
    method_taken run m last places a inside spells same left h =
        Answers-weaker (λ r. r ≡ result_map_both (goes_on places (Some run)) (λ e. e) (method_added text_eq kernel run source m last.image)) (TakesSource kernel old source)
        (λ r e. record {
          item = MethodChunk run source m;
          is_item = subst (λ (o : Option (RunOf Text)). IsItem Second kernel o source (MethodChunk run source m)) (sym inside ∙ ap (λ (g : Filing). g.run) same) (MethodRead (not_empty source some) spells);
          result = e ∙ ap (λ (ps : PlacesOf Text). result_map_both (goes_on ps (Some run)) (λ (x : Cause). x) (method_added text_eq kernel run source m last.image)) left
              ∙ ap (λ (g : Filing). result_map_both (goes_on (places_behind run.class run.meta m.selector g.places) (Some run)) (λ (x : Cause). x) (method_added text_eq kernel run source m g.image)) same;
        }) a h

    -- a source with a fault
    pub fault_taken : (form : TextForm) (fault : ParseFault) (s : Stop) → ((f : Fault) → HasFirstFaultAs form source f → IsItem Second kernel old.run source (Faulty f))
        → ((f : Fault) → fault_of fault ≡ Some f → s ≡ stop.Refused (cause.Syntax fault)) → (fault_of fault ≡ None → s ≡ stop.Memory) → IsRefused form source fault
        → Answers (TakesSource kernel old source) (Err s)
    fault_taken form fault s item told memory first =
        fault_answered form source fault s (TakesSource kernel old source) (λ f h. record { item = Faulty f; is_item = item f h; result = refl }) told memory first

    -- what a source with a fault is outside a run
    pub doit_fault : old.run ≡ None → (f : Fault) → HasFirstFault Second DoIt source f → IsItem Second kernel old.run source (Faulty f)
    doit_fault outside f h = subst (λ (o : Option (RunOf Text)). IsItem Second kernel o source (Faulty f)) (sym outside) (DoItFault (not_empty source some) h)

    -- and in one
    pub method_fault : (run : RunOf Text) → old.run ≡ Some run → (f : Fault) → HasFirstFault Second (Method kernel) source f → IsItem Second kernel old.run source (Faulty f)
    method_fault run inside f h = subst (λ (o : Option (RunOf Text)). IsItem Second kernel o source (Faulty f)) (sym inside) (MethodFault (not_empty source some) h)

-- the same where what was read is the same
pub taken_same : (kernel : Bool) (old last : Filing) (source : Text) (a : Result Progress Stop) → last ≡ old → Answers (TakesSource kernel last source) a → Answers (TakesSource kernel old source) a
taken_same kernel old last source a same h = subst (λ (g : Filing). Answers (TakesSource kernel g source) a) same h

-- a chunk by its source
pub chunk_taken : (kernel : Bool) (old : Filing) (p : Piece) (source : Text) (a : Result Progress Stop) → IsSource p.body source → Answers (TakesSource kernel old source) a → Answers (Takes Second kernel old p) a
chunk_taken kernel old p source a is h =
    Answers-weaker (TakesSource kernel old source) (Takes Second kernel old p)
    (λ r t. record { source = source; item = t.item; is_source = is; is_item = t.is_item; result = t.result }) a h
