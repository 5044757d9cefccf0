-- The lines that answer a question.
use Rattle.std.specs.Prelude.{◌≡◌, ℕ, suc, List, [], ◌∷◌, ◌++◌, false, if◌then◌else◌, Some, unwrap_or, slice_get, codes}
use Rattle.std.specs.List.{flat_map}
use Rattle.std.specs.Option.{option_map_or}
use Rattle.std.specs.Fmt.{decimal}
use Rattle.token_model.specs.declared.kind.Dialect.TheVariants.{Second}
use Rattle.grammar_model.specs.Spanned.{SpannedSequence, SpannedMethod}
use Rattle.grammar_model.specs.Spans.{Span, span_at}
use Rattle.grammar_model.specs.Spelling.{SpellsDoItAt, SpellsMethodAt}
use Rattle.image_model.specs.Image.{EntryOf, DoItOf, ImageOf}
use Rattle.image_model.specs.Words.{text_words}
use Rattle.image_model.specs.Nodes.{Place, in_method, in_doit, Use}
use Rattle.query_model.specs.Queries.{QueryOf, methods_asked, users_nodes}

abbrev pub Text : Type 0
Text = List ℕ

-- a method by its class, its side and its selector: `Account>>balance`, or `Account class>>new`
abbrev pub method_title : EntryOf Text → Text
method_title m = unwrap_or m.class [] ++ (if m.meta then codes " class>>" else codes ">>") ++ m.tree.selector

-- a method, or a do-it by its number from 1
abbrev pub title : ImageOf Text → Place → Text
title i (in_method k) = option_map_or method_title (slice_get i.methods k) []
title i (in_doit k) = codes "doit " ++ decimal (suc k)

-- the line of a method: its title
abbrev pub method_line : EntryOf Text → Text
method_line m = method_title m ++ codes "\n"

-- the line of a node: the method or do-it in which it is, the place of its first byte in the source there, and the place behind its last one
abbrev pub node_line : Text → Span → Text
node_line owner span = owner ++ codes " " ++ decimal span.from ++ codes " " ++ decimal span.to ++ codes "\n"

-- the node of a user's method stands there in its source
pub record StandsInMethod (m : EntryOf Text) (path : List ℕ) (span : Span) : Type 0 where
  pub tree : SpannedMethod
  pub spells : SpellsMethodAt Second false m.source tree
  pub at : span_at tree.body path ≡ Some span

-- the node of a do-it stands there in its source
pub record StandsInDoIt (d : DoItOf Text) (path : List ℕ) (span : Span) : Type 0 where
  pub tree : SpannedSequence
  pub spells : SpellsDoItAt Second d.source tree
  pub at : span_at tree path ≡ Some span

-- the node of an image stands there in the source of its method or do-it
abbrev pub StandsAt : ImageOf Text → Place → List ℕ → Span → Type 0
StandsAt i (in_method k) path span = (m : EntryOf Text) × (slice_get i.methods k ≡ Some m) × StandsInMethod m path span
StandsAt i (in_doit k) path span = (d : DoItOf Text) × (slice_get i.doits k ≡ Some d) × StandsInDoIt d path span

-- the lines of nodes, one for each, in their order
pub data AreLines (i : ImageOf Text) : List Use → Text → Type 0 where
  no_lines : AreLines i [] []
  one_line : {u : Use} {us : List Use} {text : Text} → (span : Span) → StandsAt i u.place u.path span → AreLines i us text → AreLines i (u ∷ us) (node_line (title i u.place) span ++ text)

-- the answer to a question: the lines of the methods that are asked for, and those of the nodes
pub record IsAnswer (i : ImageOf Text) (q : QueryOf Text) (text : Text) : Type 0 where
  pub nodes : Text
  pub lines : AreLines i (users_nodes text_words i q) nodes
  pub is : text ≡ flat_map method_line (methods_asked text_words i q) ++ nodes
