-- What follows of an answer.
use Rattle.std.proofs.Common.{◌≡◌, ◌≢◌, ℕ, ◌<◌, Bool, true, false, true≢false, List, [], ◌∷◌, length, Option, Some, None, Result, Ok, Err, option_map, refl, sym, ap, subst, ◌∙◌, arith}
use Rattle.std.specs.Prelude.{MatchOption, ◌==◌, if◌then◌else◌}
use Rattle.std.specs.Option.{option_map_or}
use Rattle.token_model.specs.declared.kind.Dialect.TheVariants.{Second}
use Rattle.tree_model.specs.Tree.{SequenceOf}
use Rattle.chunk_format.specs.Chunks.{Piece}
use Rattle.chunk_format.specs.Source.{IsSource}
use Rattle.grammar_model.specs.Whole.{DoIt}
use Rattle.grammar_model.specs.Checks.{Fault}
use Rattle.grammar_model.specs.Spelling.{SpellsDoIt, HasFirstFaultAs}
use Rattle.st_faults.specs.declared.fault.ParseFault.{ParseFault}
use Rattle.st_faults.specs.Faults.{fault_of, IsRefused}
use Rattle.file_model.specs.Causes.{Cause, Syntax, UnknownDefinition}
use Rattle.file_model.specs.Filing.{Text}
use Rattle.file_model.specs.Forms as forms
use Rattle.file_model.specs.Forms.{Form, Sent, Argument, DefinitionStrings, Replacement, subclass_form, form_of, replacement_in, sent_of}
use Rattle.file_faults.specs.declared.fault.ImageCause.{ImageCause}
use Rattle.file_faults.specs.declared.fault.ImageCause.TheVariants as cause
use Rattle.file_faults.specs.Faults.{cause_of}
use Rattle.chunk_forms.specs.Told.{FirstOf, string_first}
use Rattle.chunk_forms.proofs.Strings.{string_is}
use Rattle.import_model.specs.Foreign.{opens_stamped, announces_comment, first_argument, foreign_strings, cause_in}
use Rattle.import_model.specs.Steps as step
use Rattle.import_model.specs.Steps.{Made, Outside, InRun, opened, announced, defined, foreign, said, spelled, run_source, definition_source, changed, kept}
use Rattle.import_chunks.specs.declared.next.Next.{Next}
use Rattle.import_chunks.specs.declared.next.Stop.{Stop}
use Rattle.import_chunks.specs.declared.next.Stop.TheVariants as stop
use Rattle.import_chunks.specs.Told.{next_text, Answers}

-- a fact that follows
pub Answers-weaker : (P Q : Result Made Cause → Type 0) → ((r : Result Made Cause) → P r → Q r) → (names : List Text) (old new : Text) (a : Result Next Stop) → Answers P names old new a → Answers Q names old new a
Answers-weaker P Q h names old new (Ok n) b = record { text = b.text; appended = b.appended; becomes = h (Ok (record { text = b.text; next = next_text names n })) b.becomes }
Answers-weaker P Q h names old new (Err (stop.Refused k)) b = (b.0, b.1, h (Err b.0) b.2)
Answers-weaker P Q h names old new (Err stop.Memory) b = tt

-- another name of what it becomes
pub Answers-same : (x y : Result Made Cause) → x ≡ y → (names : List Text) (old new : Text) (a : Result Next Stop) → Answers (λ r. r ≡ x) names old new a → Answers (λ r. r ≡ y) names old new a
Answers-same x y e names old new a b = Answers-weaker (λ r. r ≡ x) (λ r. r ≡ y) (λ r f. f ∙ e) names old new a b

-- where no string is the first argument, no run is opened
pub no_run : (p : Piece) (m : Sent) (xs : List Argument) → None ≡ string_first xs → Err UnknownDefinition ≡ opened p m (first_argument xs)
no_run p m [] e = refl
no_run p m (forms.Symbol t ∷ xs) e = refl
no_run p m (forms.String t ∷ xs) e = absurd (cc)
no_run p m (forms.Numeral t ∷ xs) e = refl
no_run p m (forms.Other ∷ xs) e = refl

-- where one is, one is opened
pub one_run : (p : Piece) (m : Sent) (xs : List Argument) (first : FirstOf) → Some first ≡ string_first xs → changed p (run_source (record { class = m.class; meta = m.meta; protocol = first.text })) InRun ≡ opened p m (first_argument xs)
one_run p m xs first e = sym (ap (λ (ys : List Argument). opened p m (first_argument ys)) (string_is xs first e))

-- no comment of a class side is announced
pub no_comment : (p : Piece) (m : Sent) → m.meta ≡ true → Err UnknownDefinition ≡ announced p m
no_comment p m e = sym (ap (λ (b : Bool). if b then Err UnknownDefinition else Ok (record { text = step.blanks_of p; next = step.AtComment m.class p.number })) e)

-- a definition that is refused here too
pub definition_refused : (p : Piece) (m : Sent) (d : DefinitionStrings) (c : ImageCause) → Some (cause_of c) ≡ option_map Some (cause_in (subclass_form false m.class m.meta (Some d))) → (x : Cause) × (cause_of c ≡ Some x) × (Err x ≡ defined p m d)
definition_refused p m d c e = by (cause_in (subclass_form false m.class m.meta (Some d))) refl e
  where
    by : (o : Option Cause) → cause_in (subclass_form false m.class m.meta (Some d)) ≡ o → Some (cause_of c) ≡ option_map Some o → (x : Cause) × (cause_of c ≡ Some x) × (Err x ≡ defined p m d)
    by None f g = absurd (cc)
    by (Some x) f g =
        let same : cause_of c ≡ Some x = cc in
        (x, same, sym (ap (λ (o : Option Cause). option_map_or Err o (changed p (definition_source m.class d) Outside)) f))

-- and one that is not
pub definition_made : (p : Piece) (m : Sent) (d : DefinitionStrings) → None ≡ option_map Some (cause_in (subclass_form false m.class m.meta (Some d))) → changed p (definition_source m.class d) Outside ≡ defined p m d
definition_made p m d e = by (cause_in (subclass_form false m.class m.meta (Some d))) refl e
  where
    by : (o : Option Cause) → cause_in (subclass_form false m.class m.meta (Some d)) ≡ o → None ≡ option_map Some o → changed p (definition_source m.class d) Outside ≡ defined p m d
    by None f g = sym (ap (λ (o : Option Cause). option_map_or Err o (changed p (definition_source m.class d) Outside)) f)
    by (Some x) f g = absurd (cc)

-- a message of another Smalltalk, by its selector
pub foreign_run : (p : Piece) (k : Cause) (m : Sent) → opens_stamped m.selector ≡ true → opened p m (first_argument m.arguments) ≡ foreign p k m
foreign_run p k m e = sym (ap (λ (b : Bool). if b then opened p m (first_argument m.arguments) else (if announces_comment m.selector then announced p m else option_map_or (defined p m) (foreign_strings m.selector m.arguments) (Err k))) e)

foreign_other : (p : Piece) (k : Cause) (m : Sent) → opens_stamped m.selector ≡ false → (if announces_comment m.selector then announced p m else option_map_or (defined p m) (foreign_strings m.selector m.arguments) (Err k)) ≡ foreign p k m
foreign_other p k m e = sym (ap (λ (b : Bool). if b then opened p m (first_argument m.arguments) else (if announces_comment m.selector then announced p m else option_map_or (defined p m) (foreign_strings m.selector m.arguments) (Err k))) e)

pub foreign_comment : (p : Piece) (k : Cause) (m : Sent) → opens_stamped m.selector ≡ false → announces_comment m.selector ≡ true → announced p m ≡ foreign p k m
foreign_comment p k m e c = sym (ap (λ (b : Bool). if b then announced p m else option_map_or (defined p m) (foreign_strings m.selector m.arguments) (Err k)) c) ∙ foreign_other p k m e

pub foreign_definition : (p : Piece) (k : Cause) (m : Sent) (o : Option DefinitionStrings) → opens_stamped m.selector ≡ false → announces_comment m.selector ≡ false → o ≡ foreign_strings m.selector m.arguments → option_map_or (defined p m) o (Err k) ≡ foreign p k m
foreign_definition p k m o e c f =
    ap (λ (x : Option DefinitionStrings). option_map_or (defined p m) x (Err k)) f
    ∙ sym (ap (λ (b : Bool). if b then announced p m else option_map_or (defined p m) (foreign_strings m.selector m.arguments) (Err k)) c) ∙ foreign_other p k m e

-- a text with a byte is not empty
pub not_empty : (s : Text) → 0 < length s → s ≢ []
not_empty s h e = absurd (omega (arith, h, ap length e))

-- nor is a text whose length is another than none
pub not_none : (s : Text) → (length s == 0) ≡ false → s ≢ []
not_none s h e = true≢false (sym (ap (λ (t : Text). length t == 0) e) ∙ h)

-- a do-it, by its tree
pub doit_answered : (p : Piece) (source : Text) (b : SequenceOf Text) (names : List Text) (old new : Text) (a : Result Next Stop) → 0 < length source → SpellsDoIt Second source b → Answers (λ r. r ≡ spelled p b) names old new a → Answers (step.Becomes p Outside source) names old new a
doit_answered p source b names old new a some spells h =
    Answers-weaker (λ r. r ≡ spelled p b) (step.Becomes p Outside source) (λ r e. subst (λ (x : Result Made Cause). step.Becomes p Outside source x) (sym e) (step.IsDoIt (not_empty source some) spells)) names old new a h

-- a source with a fault
pub fault_answered : (p : Piece) (source : Text) (fault : ParseFault) (s : Stop) (names : List Text) (old new : Text) → 0 < length source
    → ((f : Fault) → fault_of fault ≡ Some f → s ≡ stop.Refused (cause.Syntax fault)) → (fault_of fault ≡ None → s ≡ stop.Memory) → IsRefused DoIt source fault
    → Answers (step.Becomes p Outside source) names old new (Err s)
fault_answered p source fault s names old new some told memory first = by (fault_of fault) refl first
  where
    by : (o : Option Fault) → fault_of fault ≡ o → MatchOption o (Unit {0}) (HasFirstFaultAs DoIt source) → Answers (step.Becomes p Outside source) names old new (Err s)
    by None e h = subst (λ (t : Stop). Answers (step.Becomes p Outside source) names old new (Err t)) (sym (memory e)) tt
    by (Some f) e h = subst (λ (t : Stop). Answers (step.Becomes p Outside source) names old new (Err t)) (sym (told f e)) (Syntax f, ap (option_map Syntax) e, step.HasFault (not_empty source some) h)

-- a chunk by its source
pub chunk_answered : (p : Piece) (source : Text) (now : step.Next) (names : List Text) (old new : Text) (a : Result Next Stop) → IsSource p.body source → Answers (step.Becomes p now source) names old new a → Answers (step.Imports p now) names old new a
chunk_answered p source now names old new a is h =
    Answers-weaker (step.Becomes p now source) (step.Imports p now) (λ r b. record { source = source; is_source = is; becomes = b }) names old new a h

-- a chunk that is blank, or is in a run
pub blank_outside : (p : Piece) (source : Text) (names : List Text) (old new : Text) (a : Result Next Stop) → source ≡ [] → Answers (λ r. r ≡ kept p Outside) names old new a → Answers (step.Becomes p Outside source) names old new a
blank_outside p source names old new a e h =
    Answers-weaker (λ r. r ≡ kept p Outside) (step.Becomes p Outside source) (λ r f. subst (λ (x : Result Made Cause). step.Becomes p Outside source x) (sym f) (subst (λ (s : Text). step.Becomes p Outside s (kept p Outside)) (sym e) step.Blank)) names old new a h

pub run_ends : (p : Piece) (source : Text) (names : List Text) (old new : Text) (a : Result Next Stop) → source ≡ [] → Answers (λ r. r ≡ kept p Outside) names old new a → Answers (step.Becomes p InRun source) names old new a
run_ends p source names old new a e h =
    Answers-weaker (λ r. r ≡ kept p Outside) (step.Becomes p InRun source) (λ r f. subst (λ (x : Result Made Cause). step.Becomes p InRun source x) (sym f) (subst (λ (s : Text). step.Becomes p InRun s (kept p Outside)) (sym e) step.RunEnds)) names old new a h

pub in_methods : (p : Piece) (source : Text) (names : List Text) (old new : Text) (a : Result Next Stop) → source ≢ [] → Answers (λ r. r ≡ kept p InRun) names old new a → Answers (step.Becomes p InRun source) names old new a
in_methods p source names old new a some h =
    Answers-weaker (λ r. r ≡ kept p InRun) (step.Becomes p InRun source) (λ r f. subst (λ (x : Result Made Cause). step.Becomes p InRun source x) (sym f) (step.IsMethod some)) names old new a h

-- a comment
pub comment_answered : (p : Piece) (now : step.Next) (class source : Text) (n : ℕ) (names : List Text) (old new : Text) (a : Result Next Stop) → now ≡ step.AtComment class n → Answers (λ r. r ≡ step.commented class source) names old new a → Answers (step.Becomes p now source) names old new a
comment_answered p now class source n names old new a is h =
    Answers-weaker (λ r. r ≡ step.commented class source) (step.Becomes p now source)
    (λ r e. subst (λ (k : step.Next). step.Becomes p k source r) (sym is) (subst (λ (x : Result Made Cause). step.Becomes p (step.AtComment class n) source x) (sym e) step.Comments)) names old new a h

-- the same where what the chunk is has another name
pub now_answered : (p : Piece) (now other : step.Next) (source : Text) (names : List Text) (old new : Text) (a : Result Next Stop) → now ≡ other → Answers (step.Becomes p other source) names old new a → Answers (step.Becomes p now source) names old new a
now_answered p now other source names old new a is h = Answers-weaker (step.Becomes p other source) (step.Becomes p now source) (λ r b. subst (λ (k : step.Next). step.Becomes p k source r) (sym is) b) names old new a h
