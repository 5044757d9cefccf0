-- What becomes of a chunk, by cases.
use Rattle.std.proofs.Common.{◌≡◌, ◌≢◌, ℕ, Bool, true, false, List, [], ◌∷◌, ◌++◌, Option, Some, None, Result, Ok, Err, refl, ap, subst, ◌∙◌}
use Rattle.std.specs.Prelude.{if◌then◌else◌, codes}
use Rattle.std.specs.Option.{option_map, option_map_or}
use Rattle.rb_base.specs.Names.{text_eq}
use Rattle.token_model.specs.declared.kind.Dialect.TheVariants.{Second}
use Rattle.tree_model.specs.Tree.{TreeOf, var, literal, send, cascade, assign, block, brace, return, TreesOf, StatementsOf, no_statements, more_statements, SequenceOf}
use Rattle.chunk_format.specs.Chunks.{Piece}
use Rattle.chunk_format.specs.Source.{IsSource}
use Rattle.grammar_model.specs.Spelling.{SpellsDoIt}
use Rattle.text_model.specs.Literals.{is_identifier}
use Rattle.reread_law.specs.WellFormed.{WellFormed, WellFormedStatements}
use Rattle.reread_law.proofs.Starting.{well_formed_doit}
use Rattle.file_model.specs.Causes.{Cause, UnknownDefinition}
use Rattle.file_model.specs.Written.{chunk_text}
use Rattle.file_model.specs.Filing.{Text}
use Rattle.file_model.specs.Forms as forms
use Rattle.file_model.specs.Forms.{Form, Evaluates, Changes, Opens, OpensAt, Settles, Refuses, form_of, subclass_form, Receiver, receiver_of, side_in, name_in, Sent, sent_by, sent_in_statements, sent_of, arguments_of, DefinitionStrings, Replacement, replacement_in}
use Rattle.import_model.specs.Foreign.{opens_stamped, announces_comment, first_argument, foreign_strings, cause_in}
use Rattle.import_model.specs.Steps as step
use Rattle.import_model.specs.Steps.{Next, Outside, InRun, AtComment, Made, blanks_of, kept, changed, run_source, comment_source, definition_source, opened, announced, defined, foreign, said, spelled, Becomes, Imports}
use Rattle.import_laws.proofs.Sources.{next_of, doit_next, Spelling, Says, says_run_source, says_definition_source}

-- a chunk that stays, and what the next one is
pub data Plain (body : Text) : Next → Next → Type 0 where
  BlankOutside : IsSource body [] → Plain body Outside Outside
  RunEnds : IsSource body [] → Plain body InRun Outside
  InMethods : {source : Text} → IsSource body source → source ≢ [] → Plain body InRun InRun
  PlainDoIt : {source : Text} {b : SequenceOf Text} {next : Next} → IsSource body source → source ≢ [] → SpellsDoIt Second source b → doit_next (replacement_in b) (form_of Second false b) ≡ Some next → Plain body Outside next

-- what becomes of a chunk: it stays, another source is written, a comment is announced, or it is one
pub data Step (p : Piece) : Next → Made → Type 0 where
  Stays : {now : Next} {m : Made} → Plain p.body now m.next → m.text ≡ p.body ++ 33 ∷ [] → Step p now m
  Writes : {m : Made} (source : Text) → Says source m.next → m.text ≡ blanks_of p ++ chunk_text source → Step p Outside m
  Announces : {m : Made} (class : Text) (n : ℕ) → is_identifier class ≡ true → m.text ≡ blanks_of p → m.next ≡ AtComment class n → Step p Outside m
  Comments : {m : Made} {class : Text} {n : ℕ} (source : Text) → m.text ≡ chunk_text (comment_source class source) → m.next ≡ Outside → Step p (AtComment class n) m

-- the receiver of a message in a tree that is well formed is a word
name_word : (t : TreeOf Text) (n : Text) → WellFormed t → name_in t ≡ Some n → is_identifier n ≡ true
name_word (var m) n w e = subst (λ (x : Text). is_identifier x ≡ true) (let same : m ≡ n = cc in same) w
name_word (literal l) n w e = absurd (cc)
name_word (send r s xs) n w e = absurd (cc)
name_word (cascade r ms) n w e = absurd (cc)
name_word (assign m t) n w e = absurd (cc)
name_word (block ps ds ss c) n w e = absurd (cc)
name_word (brace ts) n w e = absurd (cc)
name_word (return t) n w e = absurd (cc)

side_word : (o : Option Text) (r : Receiver) → ((n : Text) → o ≡ Some n → is_identifier n ≡ true) → option_map (λ n. record { class = n; meta = true }) o ≡ Some r → is_identifier r.class ≡ true
side_word None r w e = absurd (cc)
side_word (Some n) r w e = let same : record { class = n; meta = true } ≡ r = cc in subst (λ (x : Receiver). is_identifier x.class ≡ true) same (w n refl)

class_word : (t : TreeOf Text) (s : Text) (r : Receiver) → WellFormed t → side_in t s ≡ Some r → is_identifier r.class ≡ true
class_word t s r w e = by (text_eq s (codes "class")) e
  where
    by : (b : Bool) → (if b then option_map (λ n. record { class = n; meta = true }) (name_in t) else None) ≡ Some r → is_identifier r.class ≡ true
    by true f = side_word (name_in t) r (λ n g. name_word t n w g) f
    by false f = absurd (cc)

receiver_word : (t : TreeOf Text) (r : Receiver) → WellFormed t → receiver_of t ≡ Some r → is_identifier r.class ≡ true
receiver_word (var n) r w e = let same : record { class = n; meta = false } ≡ r = cc in subst (λ (x : Receiver). is_identifier x.class ≡ true) same w
receiver_word (literal l) r w e = absurd (cc)
receiver_word (send t s xs) r w e = class_word t s r w.0 e
receiver_word (cascade t ms) r w e = absurd (cc)
receiver_word (assign n t) r w e = absurd (cc)
receiver_word (block ps ds ss c) r w e = absurd (cc)
receiver_word (brace ts) r w e = absurd (cc)
receiver_word (return t) r w e = absurd (cc)

message_word : (o : Option Receiver) (s : Text) (xs : TreesOf Text) (m : Sent) → ((r : Receiver) → o ≡ Some r → is_identifier r.class ≡ true)
    → option_map (λ (c : Receiver). record { class = c.class; meta = c.meta; selector = s; arguments = arguments_of xs }) o ≡ Some m → is_identifier m.class ≡ true
message_word None s xs m w e = absurd (cc)
message_word (Some r) s xs m w e =
    let same : record { class = r.class; meta = r.meta; selector = s; arguments = arguments_of xs } ≡ m = cc in subst (λ (x : Sent). is_identifier x.class ≡ true) same (w r refl)

sent_word : (t : TreeOf Text) (m : Sent) → WellFormed t → sent_by t ≡ Some m → is_identifier m.class ≡ true
sent_word (var n) m w e = absurd (cc)
sent_word (literal l) m w e = absurd (cc)
sent_word (send t s xs) m w e = message_word (receiver_of t) s xs m (λ r f. receiver_word t r w.0 f) e
sent_word (cascade t ms) m w e = absurd (cc)
sent_word (assign n t) m w e = absurd (cc)
sent_word (block ps ds ss c) m w e = absurd (cc)
sent_word (brace ts) m w e = absurd (cc)
sent_word (return t) m w e = absurd (cc)

statement_word : (ss : StatementsOf Text) (m : Sent) → WellFormedStatements ss → sent_in_statements ss ≡ Some m → is_identifier m.class ≡ true
statement_word no_statements m w e = absurd (cc)
statement_word (more_statements c t no_statements) m w e = sent_word t m w.1 e
statement_word (more_statements c t (more_statements d u ss)) m w e = absurd (cc)

doit_word : (b : SequenceOf Text) (ts : List Text) (m : Sent) → WellFormedStatements b.statements → sent_of b ts ≡ Some m → is_identifier m.class ≡ true
doit_word b [] m w e = statement_word b.statements m w e
doit_word b (t ∷ ts) m w e = absurd (cc)

module _ (law : Spelling) (p : Piece) (m : Made) where
  -- what is made of a changed chunk
  writes : (source : Text) (next : Next) → Says source next → changed p source next ≡ Ok m → Step p Outside m
  writes source next says e =
      let same : record { text = blanks_of p ++ chunk_text source; next = next } ≡ m = cc in
      subst (λ (x : Made). Step p Outside x) same (Writes source says refl)

  -- a run with a stamp
  opens : (s : Sent) (x : forms.Argument) → is_identifier s.class ≡ true → opened p s x ≡ Ok m → Step p Outside m
  opens s (forms.String protocol) word e = writes (run_source (record { class = s.class; meta = s.meta; protocol = protocol })) InRun (says_run_source law (record { class = s.class; meta = s.meta; protocol = protocol }) word) e
  opens s (forms.Symbol t) word e = absurd (cc)
  opens s (forms.Numeral t) word e = absurd (cc)
  opens s forms.Other word e = absurd (cc)

  -- a comment that is announced
  announces : (s : Sent) (meta : Bool) → is_identifier s.class ≡ true → (if meta then Err UnknownDefinition else Ok (record { text = blanks_of p; next = AtComment s.class p.number })) ≡ Ok m → Step p Outside m
  announces s true word e = absurd (cc)
  announces s false word e =
      let same : record { text = blanks_of p; next = AtComment s.class p.number } ≡ m = cc in
      subst (λ (x : Made). Step p Outside x) same (Announces s.class p.number word refl refl)

  -- a definition
  unless_refused : (o : Option Cause) (x : Result Made Cause) → option_map_or Err o x ≡ Ok m → (o ≡ None) × (x ≡ Ok m)
  unless_refused None x e = (refl, e)
  unless_refused (Some cause) x e = absurd (cc)

  not_meta : (s : Sent) (meta : Bool) (d : DefinitionStrings) → cause_in (subclass_form false s.class meta (Some d)) ≡ None → cause_in (subclass_form false s.class false (Some d)) ≡ None
  not_meta s true d e = absurd (cc)
  not_meta s false d e = e

  defines : (s : Sent) (cause : Cause) (o : Option DefinitionStrings) → is_identifier s.class ≡ true → option_map_or (defined p s) o (Err cause) ≡ Ok m → Step p Outside m
  defines s cause None word e = absurd (cc)
  defines s cause (Some d) word e =
      let u = unless_refused (cause_in (subclass_form false s.class s.meta (Some d))) (changed p (definition_source s.class d) Outside) e in
      writes (definition_source s.class d) Outside (says_definition_source law s.class d word (not_meta s s.meta d u.0)) u.1

  -- a message of another Smalltalk
  is_foreign : (s : Sent) (cause : Cause) (a b : Bool) → is_identifier s.class ≡ true
      → (if a then opened p s (first_argument s.arguments) else (if b then announced p s else option_map_or (defined p s) (foreign_strings s.selector s.arguments) (Err cause))) ≡ Ok m → Step p Outside m
  is_foreign s cause true b word e = opens s (first_argument s.arguments) word e
  is_foreign s cause false true word e = announces s s.meta word e
  is_foreign s cause false false word e = defines s cause (foreign_strings s.selector s.arguments) word e

  messages : (o : Option Sent) (cause : Cause) → ((s : Sent) → o ≡ Some s → is_identifier s.class ≡ true) → option_map_or (foreign p cause) o (Err cause) ≡ Ok m → Step p Outside m
  messages None cause w e = absurd (cc)
  messages (Some s) cause w e = is_foreign s cause (opens_stamped s.selector) (announces_comment s.selector) (w s refl) e

  -- a chunk that stays
  stays : (now next : Next) → Plain p.body now next → kept p next ≡ Ok m → Step p now m
  stays now next plain e =
      let same : record { text = p.body ++ 33 ∷ []; next = next } ≡ m = cc in
      subst (λ (x : Made). Step p now x) same (Stays plain refl)

  module _ (source : Text) (b : SequenceOf Text) (is : IsSource p.body source) (some : source ≢ []) (spells : SpellsDoIt Second source b) where
    by_form : (form : Form) → ((next : Next) → next_of form ≡ Some next → doit_next (replacement_in b) (form_of Second false b) ≡ Some next) → said p b form ≡ Ok m → Step p Outside m
    by_form Evaluates n e = stays Outside Outside (PlainDoIt is some spells (n Outside refl)) e
    by_form (Changes c) n e = stays Outside Outside (PlainDoIt is some spells (n Outside refl)) e
    by_form (Opens r) n e = stays Outside InRun (PlainDoIt is some spells (n InRun refl)) e
    by_form (OpensAt r k) n e = stays Outside InRun (PlainDoIt is some spells (n InRun refl)) e
    by_form Settles n e = stays Outside Outside (PlainDoIt is some spells (n Outside refl)) e
    by_form (Refuses cause) n e = messages (sent_of b b.temporaries) cause (λ s f. doit_word b b.temporaries s (well_formed_doit source b spells).statements f) e

    by_tree : (o : Option Replacement) → replacement_in b ≡ o → option_map_or (λ (r : Replacement). kept p Outside) o (said p b (form_of Second false b)) ≡ Ok m → Step p Outside m
    by_tree (Some r) f e = stays Outside Outside (PlainDoIt is some spells (ap (λ (o : Option Replacement). doit_next o (form_of Second false b)) f)) e
    by_tree None f e = by_form (form_of Second false b) (λ next g. ap (λ (o : Option Replacement). doit_next o (form_of Second false b)) f ∙ g) e

  -- a chunk by its source
  by_source : (now : Next) (source : Text) (r : Result Made Cause) → Becomes p now source r → r ≡ Ok m → IsSource p.body source → Step p now m
  by_source now source r (step.Comments {class} {source = text} {n}) e is =
      let same : record { text = chunk_text (comment_source class text); next = Outside } ≡ m = cc in
      subst (λ (x : Made). Step p (AtComment class n) x) same (Comments text refl refl)
  by_source now source r step.Blank e is = stays Outside Outside (BlankOutside is) e
  by_source now source r step.RunEnds e is = stays InRun Outside (RunEnds is) e
  by_source now source r (step.IsMethod some) e is = stays InRun InRun (InMethods is some) e
  by_source now source r (step.IsDoIt {b} some spells) e is = by_tree source b is some spells (replacement_in b) refl e
  by_source now source r (step.HasFault some wrong) e is = absurd (cc)

-- what becomes of a chunk that is accepted
pub steps : Spelling → (p : Piece) (now : Next) (m : Made) → Imports p now (Ok m) → Step p now m
steps law p now m i = by_source law p m now i.source (Ok m) i.becomes refl i.is_source
