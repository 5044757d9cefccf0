-- What is written in place of a chunk of another Smalltalk is a chunk of this one.
use Rattle.std.proofs.Common.{◌≡◌, Bool, true, false, not, [], ◌∷◌, ◌++◌, Option, Some, None, refl, ap, ◌∙◌, append-nil}
use Rattle.std.specs.Prelude.{codes, ◌&&◌, if◌then◌else◌, unwrap_or}
use Rattle.std.specs.Option.{option_map_or}
use Rattle.rb_base.specs.Names.{text_eq}
use Rattle.token_model.specs.declared.kind.Dialect.TheVariants.{Second}
use Rattle.tree_model.specs.Tree.{SequenceOf}
use Rattle.grammar_model.specs.Spelling.{SpellsDoIt}
use Rattle.text_model.specs.Literals.{is_identifier}
use Rattle.image_model.specs.Image.{ClassOf}
use Rattle.file_model.specs.Causes.{PoolsNotEmpty, UnknownDefinition, when, first_cause}
use Rattle.file_model.specs.Changes.{ChangeOf, Define, RunOf}
use Rattle.file_model.specs.Words.{words_of, may_name, may_name_all, is_blank_string}
use Rattle.file_model.specs.Forms.{Form, Evaluates, Changes, Opens, OpensAt, Settles, Refuses, form_of, subclass_form, DefinitionStrings, Replacement, replacement_in}
use Rattle.file_model.specs.Filing.{Text}
use Rattle.file_model.specs.Written.{comment_text, definition_text, side_text}
use Rattle.file_rereading.specs.Trees.{comment_tree, definition_tree, opening_tree, opening_text}
use Rattle.file_rereading.proofs.Says.{says_comment, says_opening}
use Rattle.import_model.specs.Foreign.{cause_in}
use Rattle.import_model.specs.Steps.{Next, Outside, InRun, run_source, comment_source, definition_source}
use Rattle.import_laws.proofs.Starts.{Starts, and_first, word_starts, starts_append}

-- what the next chunk is after one that says this, unless it is refused
abbrev pub next_of : Form → Option Next
next_of Evaluates = Some Outside
next_of (Changes c) = Some Outside
next_of (Opens r) = Some InRun
next_of (OpensAt r k) = Some InRun
next_of Settles = Some Outside
next_of (Refuses cause) = None

-- what it is after a chunk that spells this tree
abbrev pub doit_next : Option Replacement → Form → Option Next
doit_next (Some r) form = Some Outside
doit_next None form = next_of form

-- a source that is a chunk here
pub record Says (source : Text) (next : Next) : Type 0 where
  pub tree : SequenceOf Text
  pub spells : SpellsDoIt Second source tree
  pub says : doit_next (replacement_in tree) (form_of Second false tree) ≡ Some next
  pub starts : Starts source

-- the chunks that are written spell their trees
pub record Spelling : Type 0 where
  pub definition : (c : ClassOf Text) → is_identifier (unwrap_or c.superclass (codes "nil")) ≡ true → is_identifier c.name ≡ true → SpellsDoIt Second (definition_text c) (definition_tree c)
  pub comment : (c : ClassOf Text) → is_identifier c.name ≡ true → SpellsDoIt Second (comment_text c) (comment_tree c)
  pub opening : (r : RunOf Text) → is_identifier r.class ≡ true → SpellsDoIt Second (opening_text r) (opening_tree r)

-- a message with another selector replaces no do-it
no_replacement : {X : Type 0} (a : Bool) (x : Option X) → (if a && false then x else None) ≡ None
no_replacement true x = refl
no_replacement false x = refl

-- the comment of a class
abbrev class_with : Text → Text → ClassOf Text
class_with class text = record { name = class; superclass = None; instance = []; shared = []; class_side = []; category = []; comment = text; kernel = false }

pub says_comment_source : Spelling → (class text : Text) → is_identifier class ≡ true → Says (comment_source class text) Outside
says_comment_source law class text word =
    let c = class_with class text in
    record {
      tree = comment_tree c;
      spells = law.comment c word;
      says = (λ i. doit_next (no_replacement (text_eq class (codes "Smalltalk")) None i) (says_comment c i));
      starts = starts_append _ _ (starts_append class (codes " comment: ") (word_starts class word));
    }

-- the beginning of a run
opening_replaces_none : (r : RunOf Text) → replacement_in (opening_tree r) ≡ None
opening_replaces_none r = by r.class r.meta r.protocol
  where
    by : (n : Text) (meta : Bool) (t : Text) → replacement_in (opening_tree (record { class = n; meta = meta; protocol = t })) ≡ None
    by n true t = refl
    by n false t = no_replacement (text_eq n (codes "Smalltalk")) None

pub says_run_source : Spelling → (r : RunOf Text) → is_identifier r.class ≡ true → Says (run_source r) InRun
says_run_source law r word = record {
  tree = opening_tree r;
  spells = law.opening r word;
  says = (λ i. doit_next (opening_replaces_none r i) (says_opening r i));
  starts = starts_append _ _ (starts_append (side_text r) (codes " methodsFor: ") (starts_append r.class _ (word_starts r.class word)));
}

-- a definition with these names, by whether they may be given and whether there are no pool dictionaries
abbrev named_form : Bool → Bool → ChangeOf Text → Form
named_form named blank change = option_map_or Refuses (first_cause (when (not named) UnknownDefinition ∷ when (not blank) PoolsNotEmpty ∷ [])) (Changes change)

-- if it is not refused, the names may be given
named_is : (named blank : Bool) (change : ChangeOf Text) → cause_in (named_form named blank change) ≡ None → named ≡ true
named_is true blank change e = refl
named_is false blank change e = absurd (cc)

-- without pool dictionaries it is not refused then
named_next : (named : Bool) (change : ChangeOf Text) → named ≡ true → next_of (named_form named true change) ≡ Some Outside
named_next named change e = ap (λ (b : Bool). next_of (named_form b true change)) e

abbrev names_given : DefinitionStrings → Bool
names_given d = may_name d.name && (may_name_all d.instance && may_name_all d.shared)

-- the class that a definition with these strings is written for
abbrev written_class : Text → DefinitionStrings → ClassOf Text
written_class p d = record { name = d.name; superclass = Some p; instance = d.instance ∷ []; shared = d.shared ∷ []; class_side = []; category = d.category; comment = []; kernel = false }

pub says_definition_source : Spelling → (p : Text) (d : DefinitionStrings) → is_identifier p ≡ true → cause_in (subclass_form false p false (Some d)) ≡ None → Says (definition_source p d) Outside
says_definition_source law p d word accepted =
    let c = written_class p d in
    let given : names_given d ≡ true = named_is (names_given d) (is_blank_string d.pools) (Define (record { name = d.name; superclass = Some p; instance = words_of d.instance; shared = words_of d.shared; category = d.category })) accepted in
    let may : may_name d.name ≡ true = and_first (may_name d.name) _ given in
    let named : is_identifier d.name ≡ true = and_first (is_identifier d.name) _ may in
    let again : names_given (record d { instance = d.instance ++ []; shared = d.shared ++ [] }) ≡ true = (λ i. names_given (record d { instance = append-nil d.instance i; shared = append-nil d.shared i })) ∙ given in
    record {
      tree = definition_tree c;
      spells = law.definition c word named;
      says = ap (λ (o : Option Replacement). doit_next o (form_of Second false (definition_tree c))) (no_replacement (text_eq p (codes "Smalltalk")) None)
          ∙ named_next (names_given (record d { instance = d.instance ++ []; shared = d.shared ++ [] })) (Define (record { name = d.name; superclass = Some p; instance = words_of (d.instance ++ []); shared = words_of (d.shared ++ []); category = d.category })) again;
      starts = starts_append _ _ (starts_append _ _ (starts_append _ _ (starts_append _ _ (starts_append _ _ (starts_append p (codes " subclass: #") (word_starts p word))))));
    }
