-- What a chunk becomes.
use Rattle.std.specs.Prelude.{◌≢◌, ℕ, [], ◌∷◌, ◌++◌, take, false, if◌then◌else◌, codes, Some, Result, Ok, Err}
use Rattle.std.specs.Option.{option_map_or}
use Rattle.token_model.specs.declared.kind.Dialect.TheVariants.{Second}
use Rattle.tree_model.specs.Tree.{SequenceOf}
use Rattle.chunk_format.specs.Blank.{blank_len}
use Rattle.chunk_format.specs.Chunks.{Piece}
use Rattle.chunk_format.specs.Source.{IsSource}
use Rattle.grammar_model.specs.Whole.{DoIt}
use Rattle.grammar_model.specs.Checks.{Fault}
use Rattle.grammar_model.specs.Spelling.{SpellsDoIt, HasFirstFault}
use Rattle.text_model.specs.Literals.{quoted_text}
use Rattle.file_model.specs.Causes.{Cause, UnknownDefinition, Syntax}
use Rattle.file_model.specs.Changes.{RunOf}
use Rattle.file_model.specs.Filing.{Text}
use Rattle.file_model.specs.Forms.{Form, Evaluates, Changes, Opens, OpensAt, Settles, Refuses, Argument, Symbol, String, Numeral, Other, Sent, sent_of, form_of, subclass_form, DefinitionStrings, Replacement, replacement_in}
use Rattle.file_model.specs.Written.{chunk_text, side_text, definition_text}
use Rattle.import_model.specs.Foreign.{opens_stamped, announces_comment, first_argument, foreign_strings, cause_in}

-- What the next chunk is.
pub data Next : Type 0 where
  -- it stands outside a run of methods
  Outside : Next
  -- it stands in one
  InRun : Next
  -- it is the comment of a class, which the chunk of a number announced
  AtComment : Text → ℕ → Next

-- what a chunk becomes: the text in its place; and what the next chunk is
pub record Made : Type 0 where
  pub text : Text
  pub next : Next

-- the blanks before the source of a chunk
abbrev pub blanks_of : Piece → Text
blanks_of p = take (blank_len p.body) p.body

-- the chunk stays as it is
abbrev pub kept : Piece → Next → Result Made Cause
kept p next = Ok (record { text = p.body ++ 33 ∷ []; next = next })

-- another source stands in the chunk, after the same blanks
abbrev pub changed : Piece → Text → Next → Result Made Cause
changed p source next = Ok (record { text = blanks_of p ++ chunk_text source; next = next })

-- the beginning of a run, without a stamp
abbrev pub run_source : RunOf Text → Text
run_source r = side_text r ++ codes " methodsFor: " ++ quoted_text r.protocol

-- the comment of a class, as a message
abbrev pub comment_source : Text → Text → Text
comment_source class text = class ++ codes " comment: " ++ quoted_text text

-- the definition of a class, with its strings as they stand
abbrev pub definition_source : Text → DefinitionStrings → Text
definition_source p d = definition_text (record {
  name = d.name;
  superclass = Some p;
  instance = d.instance ∷ [];
  shared = d.shared ∷ [];
  class_side = [];
  category = d.category;
  comment = [];
  kernel = false;
})

-- a run of methods with a stamp begins
abbrev pub opened : Piece → Sent → Argument → Result Made Cause
opened p m (String protocol) = changed p (run_source (record { class = m.class; meta = m.meta; protocol = protocol })) InRun
opened p m (Symbol t) = Err UnknownDefinition
opened p m (Numeral t) = Err UnknownDefinition
opened p m Other = Err UnknownDefinition

-- a comment is announced: only the blanks stay
abbrev pub announced : Piece → Sent → Result Made Cause
announced p m = if m.meta then Err UnknownDefinition else Ok (record { text = blanks_of p; next = AtComment m.class p.number })

-- a class is defined, unless the definition with these strings is refused here too
abbrev pub defined : Piece → Sent → DefinitionStrings → Result Made Cause
defined p m d = option_map_or Err (cause_in (subclass_form false m.class m.meta (Some d))) (changed p (definition_source m.class d) Outside)

-- a message that is refused here for a cause, unless another Smalltalk files out by it
abbrev pub foreign : Piece → Cause → Sent → Result Made Cause
foreign p cause m =
    if opens_stamped m.selector then opened p m (first_argument m.arguments)
    else if announces_comment m.selector then announced p m
    else option_map_or (defined p m) (foreign_strings m.selector m.arguments) (Err cause)

-- a chunk outside a run of methods, by what it says here
abbrev pub said : Piece → SequenceOf Text → Form → Result Made Cause
said p b Evaluates = kept p Outside
said p b (Changes c) = kept p Outside
said p b (Opens r) = kept p InRun
said p b (OpensAt r k) = kept p InRun
said p b Settles = kept p Outside
said p b (Refuses cause) = option_map_or (foreign p cause) (sent_of b b.temporaries) (Err cause)

-- a chunk outside a run of methods, by its tree; one that replaces a do-it stays
abbrev pub spelled : Piece → SequenceOf Text → Result Made Cause
spelled p b = option_map_or (λ (r : Replacement). kept p Outside) (replacement_in b) (said p b (form_of Second false b))

-- the comment of a class
abbrev pub commented : Text → Text → Result Made Cause
commented class source = Ok (record { text = chunk_text (comment_source class source); next = Outside })

-- what a chunk of a source becomes, or the cause for which it is refused: in a run of methods it stays, whatever it is
pub data Becomes (p : Piece) : Next → Text → Result Made Cause → Type 0 where
  Comments : {class source : Text} {n : ℕ} → Becomes p (AtComment class n) source (commented class source)
  Blank : Becomes p Outside [] (kept p Outside)
  RunEnds : Becomes p InRun [] (kept p Outside)
  IsMethod : {source : Text} → source ≢ [] → Becomes p InRun source (kept p InRun)
  IsDoIt : {source : Text} {b : SequenceOf Text} → source ≢ [] → SpellsDoIt Second source b → Becomes p Outside source (spelled p b)
  HasFault : {source : Text} {fault : Fault} → source ≢ [] → HasFirstFault Second DoIt source fault → Becomes p Outside source (Err (Syntax fault))

-- what a chunk becomes
pub record Imports (p : Piece) (now : Next) (r : Result Made Cause) : Type 0 where
  pub source : Text
  pub is_source : IsSource p.body source
  pub becomes : Becomes p now source r
