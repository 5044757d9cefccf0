-- What stands in spelled code has a line.
use Rattle.std.proofs.Common.{◌≡◌, ℕ, List, [], ◌∷◌, Option, Some, None, refl, sym, ap, ◌∙◌}
use Rattle.std.specs.Prelude.{Bool, true, false, not, filter, slice_get, option_map}
use Rattle.std.specs.List.{AllByRecursion, flat_map, enumerate_from}
use Rattle.std.specs.Option.{option_map_or}
use Rattle.token_model.specs.declared.kind.Dialect.TheVariants.{Second}
use Rattle.tree_model.specs.Tree.{TreeOf, SequenceOf}
use Rattle.tree_model.specs.Path.{part_in}
use Rattle.tree_model.specs.Nodes.{Placed, nodes}
use Rattle.grammar_model.specs.Spanned.{SpannedTree, SpannedSequence, plain_tree}
use Rattle.grammar_model.specs.Spans.{Span, spanned_in, span_of}
use Rattle.grammar_model.specs.Spelling.{SpellsDoIt, SpellsMethod}
use Rattle.grammar_model.proofs.Places.{plain_in, plain_in_Method}
use Rattle.image_model.specs.Image.{EntryOf, DoItOf, ImageOf}
use Rattle.image_model.specs.Means.{MeaningOf}
use Rattle.image_model.specs.Nodes.{Place, in_method, in_doit, NodeOf, nodes_of, image_nodes}
use Rattle.query_model.specs.Lines.{Text}
use Rattle.command_model.specs.Parts.{Part, Expression}
use Rattle.refusal_witnesses.specs.Witnesses.{OwnerOf, AtPlace, InMethod, WitnessOf, APart, AWhole, AClass, ASelector, AStep, TwoMeanings, a_node, a_use, nodes_that, in_doits}
use Rattle.refusal_witnesses.specs.Lines.{IsInMethod, IsInDoIt, IsLine, part_line, kernel_line, whole_line, class_line, selector_line, step_line, meanings_line, kernel_meanings_line, AreLines, no_lines, more_lines}
use Rattle.refusal_witnesses.specs.Spelled.{IsSpelledMethod, IsSpelledDoIt, IsSpelledImage}
use Rattle.refusal_witnesses.proofs.Alls.{all-weaker, all-mapped, all-filtered, all-joined, all-both, all-from-first}
use Rattle.refusal_witnesses.proofs.Leading.{nodes-lead}

-- a node of a tree with places has a span
pub spanned : (s : SpannedSequence) (path : List ℕ) (t : TreeOf Text) → option_map plain_tree (spanned_in s path) ≡ Some t → (span : Span) × (option_map span_of (spanned_in s path) ≡ Some span)
spanned s path t e = by (spanned_in s path) e
  where
    by : (o : Option SpannedTree) → option_map plain_tree o ≡ Some t → (span : Span) × (option_map span_of o ≡ Some span)
    by None g = absurd (cc)
    by (Some d) g = (span_of d, refl)

-- a node of a spelled method, or do-it, stands in its source
pub stands-in-method : (m : EntryOf Text) (path : List ℕ) (t : TreeOf Text) → SpellsMethod Second false m.source m.tree → part_in m.tree.body path ≡ Some t → (span : Span) × IsInMethod m (Expression path) span
stands-in-method m path t spells e =
    let there = spanned spells.spanned.body path t (plain_in_Method spells.spanned path ∙ ap (λ n. part_in n.body path) (sym spells.same) ∙ e) in
    (there.0, record { tree = spells.spanned; spells = spells.spells; at = there.1 })

stands-in-doit : (d : DoItOf Text) (path : List ℕ) (t : TreeOf Text) → SpellsDoIt Second d.source d.body → part_in d.body path ≡ Some t → (span : Span) × IsInDoIt d (Expression path) span
stands-in-doit d path t spells e =
    let there = spanned spells.spanned path t (plain_in spells.spanned path ∙ ap (λ b. part_in b path) (sym spells.same) ∙ e) in
    (there.0, record { tree = spells.spanned; spells = spells.spells; at = there.1 })

module _ (i : ImageOf Text) where
  -- a witness has a line
  abbrev pub HasLine : WitnessOf Text → Type 0
  HasLine w = (text : Text) × IsLine i w text

  abbrev pub HaveLines : List (WitnessOf Text) → Type 0
  HaveLines ws = AllByRecursion HasLine ws

  pub lines-of : (ws : List (WitnessOf Text)) → HaveLines ws → (texts : List Text) × AreLines i ws texts
  lines-of [] h = ([], no_lines)
  lines-of (w ∷ ws) h = let rest = lines-of ws h.1 in (h.0.0 ∷ rest.0, more_lines h.0.1 rest.1)

  pub step-lined : (k : ℕ) → HasLine (AStep k)
  step-lined k = (_, step_line)

  pub class-lined : (c : Text) → HasLine (AClass c)
  class-lined c = (_, class_line)

  pub whole-lined : (owner : OwnerOf Text) → HasLine (AWhole owner)
  whole-lined owner = (_, whole_line)

  pub selector-lined : (s : Text) → HasLine (ASelector s)
  selector-lined s = (_, selector_line)

  -- a part of a method
  pub part-lined : (m : EntryOf Text) (part : Part) → (m.kernel ≡ false → (span : Span) × IsInMethod m part span) → HasLine (APart (InMethod m) part)
  part-lined m part stands = by m.kernel refl
    where
      by : (b : Bool) → m.kernel ≡ b → HasLine (APart (InMethod m) part)
      by true e = (_, kernel_line (ap not e))
      by false e = let at = stands e in (_, part_line at.0 (ap not e) at.1)

  -- a node of a method, and a name in it
  pub node-lined : (m : EntryOf Text) (path : List ℕ) (t : TreeOf Text) → IsSpelledMethod m → part_in m.tree.body path ≡ Some t → HasLine (a_node (InMethod m) path)
  node-lined m path t spells e = part-lined m (Expression path) (λ users. stands-in-method m path t (spells users) e)

  pub meanings-lined : (m : EntryOf Text) (path : List ℕ) (t : TreeOf Text) (n : Text) (one other : MeaningOf Text) → IsSpelledMethod m → part_in m.tree.body path ≡ Some t → HasLine (TwoMeanings (InMethod m) path n one other)
  meanings-lined m path t n one other spells e = by m.kernel refl
    where
      by : (b : Bool) → m.kernel ≡ b → HasLine (TwoMeanings (InMethod m) path n one other)
      by true k = (_, kernel_meanings_line (ap not k))
      by false k = let at = stands-in-method m path t (spells k) e in (_, meanings_line at.0 (ap not k) at.1)

  -- the nodes of a method that pass a test
  pub nodes-lined : (m : EntryOf Text) (test : Placed Text → Bool) → IsSpelledMethod m → HaveLines (nodes_that test (InMethod m) m.tree.body)
  nodes-lined m test spells =
      all-mapped HasLine (λ (e : Placed Text). a_node (InMethod m) e.0) (filter test (nodes m.tree.body))
      (all-filtered (λ (e : Placed Text). HasLine (a_node (InMethod m) e.0)) test (nodes m.tree.body)
      (all-weaker (λ (e : Placed Text). part_in m.tree.body e.0 ≡ Some e.1) (λ (e : Placed Text). HasLine (a_node (InMethod m) e.0)) (λ e at. node-lined m e.0 e.1 spells at) (nodes m.tree.body) (nodes-lead m.tree.body)))

  -- a node at a place of the image
  pub doit-lined : (k : ℕ) (d : DoItOf Text) (path : List ℕ) (t : TreeOf Text) → slice_get i.doits k ≡ Some d → IsSpelledDoIt d → part_in d.body path ≡ Some t → HasLine (a_node (AtPlace (in_doit k)) path)
  doit-lined k d path t there spells e = let at = stands-in-doit d path t spells e in (_, part_line at.0 refl (d, there, at.1))

  method-lined : (k : ℕ) (m : EntryOf Text) (path : List ℕ) (t : TreeOf Text) → slice_get i.methods k ≡ Some m → IsSpelledMethod m → part_in m.tree.body path ≡ Some t → HasLine (a_node (AtPlace (in_method k)) path)
  method-lined k m path t there spells e = by m.kernel refl
    where
      users : option_map_or (λ (n : EntryOf Text). not n.kernel) (slice_get i.methods k) false ≡ not m.kernel
      users = ap (λ (o : Option (EntryOf Text)). option_map_or (λ (n : EntryOf Text). not n.kernel) o false) there

      by : (b : Bool) → m.kernel ≡ b → HasLine (a_node (AtPlace (in_method k)) path)
      by true q = (_, kernel_line (users ∙ ap not q))
      by false q = let at = stands-in-method m path t (spells q) e in (_, part_line at.0 (users ∙ ap not q) (m, there, at.1))

  module _ (spelled : IsSpelledImage i) where
    -- what stands in do-its
    pub doits-lined : (f : OwnerOf Text → SequenceOf Text → List (WitnessOf Text)) → ((k : ℕ) (d : DoItOf Text) → slice_get i.doits k ≡ Some d → IsSpelledDoIt d → HaveLines (f (AtPlace (in_doit k)) d.body)) → HaveLines (in_doits f i)
    doits-lined f h =
        all-joined HasLine (λ (e : ℕ × DoItOf Text). f (AtPlace (in_doit e.0)) e.1.body) (enumerate_from 0 i.doits)
        (all-weaker (λ (e : ℕ × DoItOf Text). (slice_get i.doits e.0 ≡ Some e.1) × IsSpelledDoIt e.1) (λ (e : ℕ × DoItOf Text). HaveLines (f (AtPlace (in_doit e.0)) e.1.body)) (λ e at. h e.0 e.1 at.0 at.1) (enumerate_from 0 i.doits)
        (all-from-first IsSpelledDoIt i.doits spelled.doits))

    -- the nodes of do-its that pass a test
    pub doit-nodes-lined : (test : Placed Text → Bool) (k : ℕ) (d : DoItOf Text) → slice_get i.doits k ≡ Some d → IsSpelledDoIt d → HaveLines (nodes_that test (AtPlace (in_doit k)) d.body)
    doit-nodes-lined test k d there spells =
        all-mapped HasLine (λ (e : Placed Text). a_node (AtPlace (in_doit k)) e.0) (filter test (nodes d.body))
        (all-filtered (λ (e : Placed Text). HasLine (a_node (AtPlace (in_doit k)) e.0)) test (nodes d.body)
        (all-weaker (λ (e : Placed Text). part_in d.body e.0 ≡ Some e.1) (λ (e : Placed Text). HasLine (a_node (AtPlace (in_doit k)) e.0)) (λ e at. doit-lined k d e.0 e.1 there spells at) (nodes d.body) (nodes-lead d.body)))

    -- all nodes of the image

    nodes-of-lined : (place : Place) (b : SequenceOf Text) → ((path : List ℕ) (t : TreeOf Text) → part_in b path ≡ Some t → HasLine (a_node (AtPlace place) path)) → AllByRecursion (λ (e : NodeOf Text). HasLine (a_use e.use_of)) (nodes_of place b)
    nodes-of-lined place b h =
        all-mapped (λ (e : NodeOf Text). HasLine (a_use e.use_of)) (λ (e : Placed Text). record { use_of = record { place = place; path = e.0 }; tree = e.1 }) (nodes b)
        (all-weaker (λ (e : Placed Text). part_in b e.0 ≡ Some e.1) (λ (e : Placed Text). HasLine (a_node (AtPlace place) e.0)) (λ e at. h e.0 e.1 at) (nodes b) (nodes-lead b))

    pub image-lined : AllByRecursion (λ (e : NodeOf Text). HasLine (a_use e.use_of)) (image_nodes i)
    image-lined =
        all-both (λ (e : NodeOf Text). HasLine (a_use e.use_of))
        (flat_map (λ (e : ℕ × EntryOf Text). nodes_of (in_method e.0) e.1.tree.body) (enumerate_from 0 i.methods))
        (flat_map (λ (e : ℕ × DoItOf Text). nodes_of (in_doit e.0) e.1.body) (enumerate_from 0 i.doits))
        (all-joined (λ (e : NodeOf Text). HasLine (a_use e.use_of)) (λ (e : ℕ × EntryOf Text). nodes_of (in_method e.0) e.1.tree.body) (enumerate_from 0 i.methods)
        (all-weaker (λ (e : ℕ × EntryOf Text). (slice_get i.methods e.0 ≡ Some e.1) × IsSpelledMethod e.1) (λ (e : ℕ × EntryOf Text). AllByRecursion (λ (n : NodeOf Text). HasLine (a_use n.use_of)) (nodes_of (in_method e.0) e.1.tree.body))
        (λ e at. nodes-of-lined (in_method e.0) e.1.tree.body (λ path t leads. method-lined e.0 e.1 path t at.0 at.1 leads)) (enumerate_from 0 i.methods)
        (all-from-first IsSpelledMethod i.methods spelled.methods)))
        (all-joined (λ (e : NodeOf Text). HasLine (a_use e.use_of)) (λ (e : ℕ × DoItOf Text). nodes_of (in_doit e.0) e.1.body) (enumerate_from 0 i.doits)
        (all-weaker (λ (e : ℕ × DoItOf Text). (slice_get i.doits e.0 ≡ Some e.1) × IsSpelledDoIt e.1) (λ (e : ℕ × DoItOf Text). AllByRecursion (λ (n : NodeOf Text). HasLine (a_use n.use_of)) (nodes_of (in_doit e.0) e.1.body))
        (λ e at. nodes-of-lined (in_doit e.0) e.1.body (λ path t leads. doit-lined e.0 e.1 path t at.0 at.1 leads)) (enumerate_from 0 i.doits)
        (all-from-first IsSpelledDoIt i.doits spelled.doits)))
