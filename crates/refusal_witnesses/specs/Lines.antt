-- The lines of witnesses.
use Rattle.std.specs.Prelude.{◌≡◌, ℕ, Bool, true, false, not, ◌==◌, if◌then◌else◌, List, [], ◌∷◌, ◌++◌, Some, slice_get, codes}
use Rattle.std.specs.Fmt.{decimal}
use Rattle.token_model.specs.declared.kind.Dialect.TheVariants.{Second}
use Rattle.grammar_model.specs.Spanned.{SpannedSequence, SpannedMethod}
use Rattle.grammar_model.specs.Spans.{Span}
use Rattle.grammar_model.specs.Spelling.{SpellsDoItAt, SpellsMethodAt}
use Rattle.image_model.specs.Image.{EntryOf, DoItOf, ImageOf}
use Rattle.image_model.specs.Means.{VariableKind, of_instance, of_class_side, of_class, MeaningOf, pseudo, argument, temporary, variable, a_class, transcript, undeclared}
use Rattle.image_model.specs.Nodes.{in_method, in_doit}
use Rattle.query_model.specs.Queries.{is_users}
use Rattle.query_model.specs.Lines.{Text, method_title, title, node_line}
use Rattle.command_model.specs.Parts.{Part, Expression}
use Rattle.command_model.specs.PartsOfText.{span_of_part}
use Rattle.refusal_witnesses.specs.Witnesses.{OwnerOf, AtPlace, InMethod, WitnessOf, APart, AWhole, AClass, ASelector, AStep, TwoMeanings}

module _ (i : ImageOf Text) where
  -- the method or do-it in which a witness stands: `Account>>balance`, or `doit 3`
  abbrev pub owner_title : OwnerOf Text → Text
  owner_title (AtPlace place) = title i place
  owner_title (InMethod m) = method_title m

  -- whether that is the user's; of the kernel no places are shown
  abbrev pub is_of_user : OwnerOf Text → Bool
  is_of_user (AtPlace place) = is_users i place
  is_of_user (InMethod m) = not m.kernel

  -- a whole method or do-it
  abbrev pub whole_title : OwnerOf Text → Text
  whole_title (AtPlace (in_method k)) = codes "method " ++ title i (in_method k)
  whole_title (AtPlace (in_doit k)) = title i (in_doit k)
  whole_title (InMethod m) = codes "method " ++ method_title m

-- a part stands there in the source of a method of the user, or of a do-it
pub record IsInMethod (m : EntryOf Text) (part : Part) (span : Span) : Type 0 where
  pub tree : SpannedMethod
  pub spells : SpellsMethodAt Second false m.source tree
  pub at : span_of_part tree.body part ≡ Some span

pub record IsInDoIt (d : DoItOf Text) (part : Part) (span : Span) : Type 0 where
  pub tree : SpannedSequence
  pub spells : SpellsDoItAt Second d.source tree
  pub at : span_of_part tree part ≡ Some span

abbrev pub StandsIn : ImageOf Text → OwnerOf Text → Part → Span → Type 0
StandsIn i (AtPlace (in_method k)) part span = (m : EntryOf Text) × (slice_get i.methods k ≡ Some m) × IsInMethod m part span
StandsIn i (AtPlace (in_doit k)) part span = (d : DoItOf Text) × (slice_get i.doits k ≡ Some d) × IsInDoIt d part span
StandsIn i (InMethod m) part span = IsInMethod m part span

-- what a name means, in words
abbrev pub kind_text : VariableKind → Text
kind_text of_instance = codes "instance variable of "
kind_text of_class_side = codes "class-side variable of "
kind_text of_class = codes "class variable of "

abbrev pub meaning_text : MeaningOf Text → Text
meaning_text pseudo = codes "name of the language"
meaning_text (argument scope) = if scope == 0 then codes "argument" else codes "block parameter"
meaning_text (temporary scope) = if scope == 0 then codes "temporary" else codes "temporary of a block"
meaning_text (variable kind c) = kind_text kind ++ c
meaning_text (a_class c) = codes "class " ++ c
meaning_text transcript = codes "Transcript"
meaning_text undeclared = codes "nothing"

-- a name with its two meanings: `rate: instance variable of Savings, nothing`
abbrev pub meanings_text : Text → MeaningOf Text → MeaningOf Text → Text
meanings_text n one other = n ++ codes ": " ++ meaning_text one ++ codes ", " ++ meaning_text other

abbrev pub line_of : Text → Text
line_of text = text ++ codes "\n"

-- the line of a node and a name in it
abbrev pub name_line : Text → Span → Text → Text
name_line owner span name = line_of (owner ++ codes " " ++ decimal span.from ++ codes " " ++ decimal span.to ++ codes " " ++ name)

-- the line of a witness: a part of the user's with its offsets, and what stands in the kernel by its method alone
pub data IsLine (i : ImageOf Text) : WitnessOf Text → Text → Type 0 where
  part_line : {owner : OwnerOf Text} {part : Part} → (span : Span) → is_of_user i owner ≡ true → StandsIn i owner part span → IsLine i (APart owner part) (node_line (owner_title i owner) span)
  kernel_line : {owner : OwnerOf Text} {part : Part} → is_of_user i owner ≡ false → IsLine i (APart owner part) (line_of (whole_title i owner))
  whole_line : {owner : OwnerOf Text} → IsLine i (AWhole owner) (line_of (whole_title i owner))
  class_line : {c : Text} → IsLine i (AClass c) (line_of (codes "class " ++ c))
  selector_line : {s : Text} → IsLine i (ASelector s) (line_of (codes "selector " ++ s))
  step_line : {k : ℕ} → IsLine i (AStep k) (line_of (codes "step " ++ decimal k))
  meanings_line : {owner : OwnerOf Text} {path : List ℕ} {n : Text} {one other : MeaningOf Text} → (span : Span) → is_of_user i owner ≡ true → StandsIn i owner (Expression path) span → IsLine i (TwoMeanings owner path n one other) (name_line (owner_title i owner) span (meanings_text n one other))
  kernel_meanings_line : {owner : OwnerOf Text} {path : List ℕ} {n : Text} {one other : MeaningOf Text} → is_of_user i owner ≡ false → IsLine i (TwoMeanings owner path n one other) (line_of (whole_title i owner ++ codes " " ++ meanings_text n one other))

-- the lines of witnesses, one for each, in their order
pub data AreLines (i : ImageOf Text) : List (WitnessOf Text) → List Text → Type 0 where
  no_lines : AreLines i [] []
  more_lines : {w : WitnessOf Text} {ws : List (WitnessOf Text)} {text : Text} {texts : List Text} → IsLine i w text → AreLines i ws texts → AreLines i (w ∷ ws) (text ∷ texts)
