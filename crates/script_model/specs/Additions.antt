-- What lines of `addMethod` ask for: behind the word stand a class, a side and a protocol, and then the text of a method, to the end of the line.
use Rattle.std.specs.Prelude.{◌≡◌, ℕ, ◌==◌, Bool, false, not, ◌&&◌, if◌then◌else◌, take, drop, length, Option, Some, None, Result, Ok, Err}
use Rattle.std.specs.List.{prefix_len}
use Rattle.token_model.specs.declared.kind.Dialect.TheVariants.{Second}
use Rattle.chunk_format.specs.Blank.{is_blank, drop_blanks}
use Rattle.tree_model.specs.Tree.{MethodOf}
use Rattle.grammar_model.specs.Whole.{Method}
use Rattle.grammar_model.specs.Checks.{Fault}
use Rattle.grammar_model.specs.Spelling.{SpellsMethod, HasFirstFault}
use Rattle.text_model.specs.Literals.{is_identifier}
use Rattle.command_model.specs.Commands.{AddMethod}
use Rattle.session_model.specs.Scripts.{Request}
use Rattle.script_model.specs.Arguments.{side_of}
use Rattle.script_model.specs.Makers.{Text, single}
use Rattle.script_model.specs.Commands.{Cause, BadArgument}

-- how many bytes a text has before its first blank
abbrev pub word_len : Text → ℕ
word_len t = prefix_len (λ byte. not (is_blank byte)) t

-- the first word of a text, and what stands behind it
abbrev pub first_word : Text → Text
first_word t = take (word_len (drop_blanks t)) (drop_blanks t)

abbrev pub behind_word : Text → Text
behind_word t = drop (word_len (drop_blanks t)) (drop_blanks t)

-- a method that is to be added: its class, whether it is one of the class side, its protocol and its text
pub record Addition : Type 0 where
  pub class : Text
  pub meta : Bool
  pub protocol : Text
  pub text : Text

-- these parts, where each is there and is spelled as it is to be
abbrev pub addition : Text → Option Bool → Text → Text → Option Addition
addition c None p s = None
addition c (Some meta) p s =
    if is_identifier c && (not (length p == 0) && not (length s == 0)) then Some (record { class = c; meta = meta; protocol = p; text = s }) else None

-- what the text behind the command's word says; blanks in front of the method are no part of it
abbrev pub addition_of : Text → Option Addition
addition_of t =
    let behind_class = behind_word t in
    let behind_side = behind_word behind_class in
    addition (first_word t) (side_of (first_word behind_class)) (first_word behind_side) (drop_blanks (behind_word behind_side))

-- what `addMethod` asks for with a text behind it: a method of a user that the text spells; or nothing, where a part is missing or wrong, or the text has a fault
pub data AddsMethod (t : Text) (answer : Result Request Cause) : Type 0 where
  Spelled : (a : Addition) (tree : MethodOf Text) → addition_of t ≡ Some a → SpellsMethod Second false a.text tree → answer ≡ Ok (single (AddMethod a.class a.meta a.protocol a.text tree)) → AddsMethod t answer
  Incomplete : addition_of t ≡ None → answer ≡ Err BadArgument → AddsMethod t answer
  Faulty : (a : Addition) (fault : Fault) → addition_of t ≡ Some a → HasFirstFault Second (Method false) a.text fault → answer ≡ Err BadArgument → AddsMethod t answer
