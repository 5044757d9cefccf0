-- Commands that change code, and what becomes of them in small images.
use Rattle.std.specs.Prelude.{◌≡◌, ℕ, List, [], ◌∷◌, false, codes, Option, Some, None, Result, Ok, Err}
use Rattle.tree_model.specs.Tree.{number, array, word, literals_of}
use Rattle.image_model.specs.Image.{ImageOf}
use Rattle.rename_model.specs.ClassRenamed.{canonical}
use Rattle.command_model.specs.Parts.{Part, Expression, Run}
use Rattle.command_model.specs.Asked.{AskedOf, asked_of_texts}
use Rattle.command_model.specs.Commands.{CommandOf, AddParameter, RemoveParameter, AbstractInstVar, ExtractMethod, InlineMethod, ExtractTemp, InlineTemp, RenameTemp}
use Rattle.command_model.specs.Conditions.{AtPart, ConditionOf, SelectorFresh, Implements, PlainArguments, AtomLiteral, PartIs, TempsSteady, OneTarget, NoNewControl, NotIn, LetForm, FirstEvaluated}
use Rattle.command_model.specs.Judged.{judged}
use Rattle.command_examples.specs.ExampleImage.{Text}
use Rattle.command_examples.specs.CodeImages.{noted, noted_by_name, noted_once, counting, paying, paying_scaled, due, due_alone, due_inlined, going, up, up_abstracted, fee, fee_of, twice, twice_named, twice_inlined, summing, asking, stated, stated_inlined, emptied, emptied_inlined, running, running_extracted, renaming, renaming_done}

-- an image, a command, the part that stands at its places in the source, and the image after it or its first condition that is false
pub record Row : Type 0 where
  pub before : ImageOf Text
  pub command : CommandOf Text
  pub part : Option Part
  pub verdict : Result (ImageOf Text) (ConditionOf Text)

-- what the definition makes of a row
abbrev pub asked_of : Row → AskedOf Text
asked_of r = asked_of_texts (λ source from to. r.part)

abbrev pub verdict_of : Row → Result (ImageOf Text) (ConditionOf Text)
verdict_of r = judged (asked_of r) canonical r.before r.command

-- each row is as the definition has it
abbrev pub AllJudged : List Row → Type 0
AllJudged [] = Unit {0}
AllJudged (r ∷ rs) = (verdict_of r ≡ r.verdict) × AllJudged rs

-- a command that is accepted, and one that is refused
abbrev pub accepted : ImageOf Text → CommandOf Text → Option Part → ImageOf Text → Row
accepted before command part after = record { before = before; command = command; part = part; verdict = Ok after }

abbrev pub refused : ImageOf Text → CommandOf Text → Option Part → ConditionOf Text → Row
refused before command part condition = record { before = before; command = command; part = part; verdict = Err condition }

-- the node to which a path leads
abbrev pub node : List ℕ → Option Part
node path = Some (Expression path)

-- names
abbrev pub a : Text
a = codes "A"

abbrev pub note_at : Text
note_at = codes "note:at:"

-- parameters come in and go; what is passed is no message, and what is passed then is an atom, of which a word is a constant
abbrev pub parameters : List Row
parameters =
    refused noted (RemoveParameter note_at 2 (codes "note:")) None (PlainArguments note_at 2)
    ∷ accepted noted_by_name (RemoveParameter note_at 2 (codes "note:")) None noted_once
    ∷ accepted fee (AddParameter (codes "fee") (codes "feeOf:") (codes "x") (number (codes "7"))) None fee_of
    ∷ refused fee (AddParameter (codes "fee") (codes "feeOf:") (codes "x") (array (literals_of (number (codes "1") ∷ [])))) None AtomLiteral
    ∷ refused fee (AddParameter (codes "fee") (codes "feeOf:") (codes "x") (word (codes "foo"))) None AtomLiteral
    ∷ []

-- a part is taken out, be it an expression or two statements, unless a closure assigns what it reads; a message is replaced by what it runs, unless a class below runs another method, or a block would make a control send, and also where that is statements or none; a variable is reached by messages alone
abbrev pub methods : List Row
methods =
    refused counting (ExtractMethod a false (codes "go") 39 50 (codes "sum:with:")) (node (2 ∷ 0 ∷ [])) (TempsSteady a false (codes "go") 39 50)
    ∷ accepted paying (ExtractMethod a false (codes "pay:") 28 36 (codes "scaled:by:")) (node (1 ∷ 0 ∷ 0 ∷ [])) paying_scaled
    ∷ accepted running (ExtractMethod a false (codes "go:") 65 79 (codes "run:")) (Some (Run (2 ∷ 1 ∷ []) 0 2)) running_extracted
    ∷ refused due (InlineMethod a false (codes "due") 5 13) (node (0 ∷ 0 ∷ [])) (OneTarget a false (codes "fee"))
    ∷ accepted due_alone (InlineMethod a false (codes "due") 5 13) (node (0 ∷ 0 ∷ [])) due_inlined
    ∷ refused going (InlineMethod a false (codes "go:") 23 32) (node (0 ∷ 0 ∷ 1 ∷ [])) (NoNewControl a false (codes "go:") (AtPart 23 32))
    ∷ accepted stated (InlineMethod a false (codes "go:") 21 32) (node (0 ∷ [])) stated_inlined
    ∷ accepted emptied (InlineMethod a false (codes "go") 7 19) (node (0 ∷ [])) emptied_inlined
    ∷ accepted up (AbstractInstVar a (codes "count") (codes "count:") (codes "anObject")) None up_abstracted
    ∷ refused up_abstracted (AbstractInstVar a (codes "count") (codes "count:") (codes "anObject")) None (SelectorFresh (codes "count"))
    ∷ []

-- an expression has a name, and has none again, but not past another message, and not where the name is read in a block; a parameter has another name; no method has the selector, and no part stands there
abbrev pub temporaries : List Row
temporaries =
    accepted twice (ExtractTemp a false (codes "pay:") 8 13 (codes "t")) (node (0 ∷ 0 ∷ 0 ∷ [])) twice_named
    ∷ accepted twice_named (InlineTemp a false (codes "pay:") (codes "t")) None twice_inlined
    ∷ refused summing (ExtractTemp a false (codes "go") 15 23 (codes "t")) (node (0 ∷ 0 ∷ 1 ∷ [])) (FirstEvaluated a false (codes "go") 15 23)
    ∷ refused asking (InlineTemp a false (codes "go:") (codes "x")) None (LetForm a false (codes "go:") (codes "x"))
    ∷ accepted renaming (RenameTemp a false (codes "go:") (codes "b") (codes "c")) None renaming_done
    ∷ refused renaming (RenameTemp a false (codes "go:") (codes "b") (codes "t")) None (NotIn a false (codes "go:") (codes "t"))
    ∷ refused renaming (RenameTemp a false (codes "went:") (codes "b") (codes "c")) None (Implements a false (codes "went:"))
    ∷ refused twice (ExtractTemp a false (codes "pay:") 8 14 (codes "t")) None (PartIs a false (codes "pay:") 8 14)
    ∷ []
