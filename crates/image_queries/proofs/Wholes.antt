-- The lines of all methods and do-its are the answer.
use Rattle.std.proofs.Common.{◌≡◌, ℕ, suc, ◌+◌, ◌<◌, Bool, true, false, cond, not, ◌&&◌, if◌then◌else◌, List, [], ◌∷◌, ◌++◌, drop, length, map, slice_get, Option, Some, None, refl, sym, ap, subst, ◌∙◌, arith}
use Rattle.std.specs.Prelude.{filter, flat_map, codes, nat_eq}
use Rattle.std.specs.Fmt.{decimal}
use Rattle.std.specs.List.{AllByRecursion, cons_option}
use Rattle.std.specs.Option.{option_map_or}
use Rattle.rb_base.specs.Names.{text_eq, name_at}
use Rattle.token_model.specs.declared.kind.Dialect.TheVariants.{Second}
use Rattle.tree_model.specs.Tree.{SequenceOf, MethodOf, map_sequence}
use Rattle.tree_model.specs.AllNames.{AllNames, SequenceNames}
use Rattle.tree_model.specs.Nodes.{Placed, nodes, map_placed}
use Rattle.tree_model.proofs.NodesLemmas.{nodes-map_sequence}
use Rattle.grammar_model.specs.Spanned.{SpannedSequence}
use Rattle.grammar_model.specs.Spans.{span_at}
use Rattle.grammar_model.specs.Spelling.{SpellsDoIt, SpellsMethod}
use Rattle.st_tree.specs.View.{sequence_of, method_of}
use Rattle.image_model.specs.Image.{EntryOf, DoItOf, ImageOf, map_entry, map_doit}
use Rattle.image_model.specs.ImageNames.{EntryNames, DoItNames}
use Rattle.image_model.specs.Words.{KeepsWords, number_words, text_words}
use Rattle.image_model.specs.Means.{MeaningOf, undeclared, map_meaning, means, means_in_doit}
use Rattle.image_model.specs.Nodes.{Place, in_method, in_doit, Use, NodeOf, means_in}
use Rattle.image_model.specs.Uses.{places}
use Rattle.image_model.proofs.Lists.{all-implies}
use Rattle.image_model.proofs.Changed.{means-map_image, means_in_doit-map_image}
use Rattle.image_model.proofs.Tables.{KeepsWords-number_words}
use Rattle.class_table.specs.declared.record.MethodRec.{MethodRec}
use Rattle.class_table.specs.declared.record.DoIt.{DoIt}
use Rattle.class_table.specs.Slots.{Slots}
use Rattle.class_table.specs.View.{live, live_at, entry_of, doit_of, number_image, image_of}
use Rattle.class_table.specs.Valid.{IsLive, IsOrderly}
use Rattle.class_table.proofs.Live.{IsLive-first, IsLive-rest, there}
use Rattle.event_spans.specs.declared.search.NodeSpan.{NodeSpan}
use Rattle.event_spans.specs.Answers.{of_span, sequence_spans}
use Rattle.query_model.specs.Queries.{QueryOf, of_senders, of_implementors, of_class, of_variable, map_query, is_asked, methods_asked, users_nodes}
use Rattle.query_model.specs.Lines.{Text, StandsAt, title, method_title, method_line, AreLines, no_lines}
use Rattle.image_queries.specs.Spelled.{AreSpelled}
use Rattle.image_queries.specs.Asked.{QueryNames, implemented, mentions, is_meant, meaning_in_tree, meaning_in_body}
use Rattle.image_queries.specs.Marks.{statements_marks, marked_lines}
use Rattle.image_queries.specs.Parts.{title_of, IsMethodText, IsDoItText, AreTexts, IsSlotText, implementor_line, slot_line}
use Rattle.image_queries.proofs.Lists.{filter-none, at-drop}
use Rattle.image_queries.proofs.Split.{node_asked, uses_in, method_uses, doit_uses, users_nodes-split}
use Rattle.image_queries.proofs.KnownNames.{known-nodes, answers-statements}
use Rattle.image_queries.proofs.Fitting.{Fits, fits-means, fits-means_in_doit}
use Rattle.image_queries.proofs.Tests.{asked}
use Rattle.image_queries.proofs.Places.{span_paths, node_paths, sequence_paths, method_paths, spans_stand}
use Rattle.image_queries.proofs.Lined.{lines-append, lined}

-- what a live slot holds is there
live_at-live : {X : Type 0} (xs : List X) (order : List ℕ) (k : ℕ) → IsLive order k → live_at xs order k ≡ slice_get xs k
live_at-live xs order k l = ap (λ (b : Bool). if b then slice_get xs k else None) l

-- the paths stay where names are changed
paths_changed : {M N : Type 0} (f : M → N) (b : SequenceOf M) → node_paths (nodes (map_sequence f b)) ≡ node_paths (nodes b)
paths_changed f b = ap (node_paths {N = _}) (nodes-map_sequence f b) ∙ by (nodes b)
  where
    by : (ns : List (Placed _)) → node_paths (map_placed f ns) ≡ node_paths ns
    by [] = refl
    by (n ∷ ns) = ap (λ (ps : List (List ℕ)). n.0 ∷ ps) (by ns)

module _ (s : Slots) (o : IsOrderly s) (q : QueryOf ℕ) (known : QueryNames (λ n. n < length s.names) q) where
  -- the text of a name, and a name that has one
  abbrev text : ℕ → Text
  text = name_at s.names

  abbrev Known : ℕ → Type 0
  Known n = n < length s.names

  -- the image over texts, and the question over texts
  abbrev image : ImageOf Text
  image = image_of s

  abbrev question : QueryOf Text
  question = map_query text q

  -- the lines of the nodes of a body that stands in the image, from the names in it, from what names stand for there, and from the spans of its nodes
  of_body : (place : Place) (owner : Text) (b : SequenceOf ℕ) (spans : SpannedSequence) (meaning : List ℕ → ℕ → MeaningOf ℕ)
      → SequenceNames Known b → title image place ≡ owner
      → ((path : List ℕ) (n : ℕ) → Fits Known n (meaning path n))
      → ((path : List ℕ) (n : ℕ) → Known n → means_in text_words image place path (text n) ≡ map_meaning text (meaning path n))
      → span_paths (sequence_spans spans) ≡ node_paths (nodes (map_sequence text b))
      → AllByRecursion (λ (e : NodeSpan). StandsAt image place e.path (of_span e.span)) (sequence_spans spans)
      → AreLines image (uses_in text_words image question place (map_sequence text b))
      (marked_lines (λ path. is_meant q (meaning path)) owner (sequence_spans spans) (statements_marks (mentions q) b.statements))
  of_body place owner b spans meaning names is_title fits means paths stand =
      let all = lined image place owner is_title (node_asked text_words image question) (mentions q) (λ path. is_meant q (meaning path)) text (nodes b) (sequence_spans spans)
      (paths ∙ paths_changed text b) stand
      (all-implies (λ (e : Placed ℕ). AllNames Known e.1) _
      (λ (e : Placed ℕ) k. asked s.names o.names_distinct image place e.0 (meaning e.0) (fits e.0) (means e.0) q e.1 known k) (nodes b) (known-nodes Known b names)) in
      subst (λ (ns : List (Placed Text)). AreLines image (places (filter (node_asked text_words image question) (map (λ (e : Placed Text). let n : NodeOf Text = record { use_of = record { place = place; path = e.0 }; tree = e.1 } in n) ns)))
      (marked_lines (λ path. is_meant q (meaning path)) owner (sequence_spans spans) (statements_marks (mentions q) b.statements))) (sym (nodes-map_sequence text b))
      (subst (λ (marks : List Bool). AreLines image (places (filter (node_asked text_words image question) (map (λ (e : Placed Text). let n : NodeOf Text = record { use_of = record { place = place; path = e.0 }; tree = e.1 } in n) (map_placed text (nodes b)))))
      (marked_lines (λ path. is_meant q (meaning path)) owner (sequence_spans spans) marks)) (answers-statements (mentions q) 0 b.statements) all)

  -- the words answer over texts what they answer over numbers
  keeps : KeepsWords Known text (number_words s.names) text_words
  keeps = KeepsWords-number_words s.names o.names_distinct

  -- the lines of a user's method at its place
  of_method : (place : ℕ) (m : MethodRec) (lines : Text) → slice_get image.methods place ≡ Some (map_entry text (entry_of s.classes m)) → EntryNames Known (entry_of s.classes m)
      → SpellsMethod Second false m.source (map_entry text (entry_of s.classes m)).tree → m.kernel ≡ false → IsMethodText s q lines m
      → AreLines image (uses_in text_words image question (in_method place) (map_entry text (entry_of s.classes m)).tree.body) lines
  of_method place m lines there names spelled user told =
      subst (AreLines image (uses_in text_words image question (in_method place) (map_entry text (entry_of s.classes m)).tree.body)) (sym (told.user user spelled.spanned spelled.spells))
      (of_body (in_method place) (title_of s.names s.classes m.class m.meta m.tree.selector) (sequence_of m.tree.body) spelled.spanned.body (meaning_in_tree s m.class m.meta (method_of m.tree))
      names.tree.body
      (ap (λ (x : Option (EntryOf Text)). option_map_or method_title x []) there)
      (λ path n. fits-means s.names o.names_distinct (number_image s) o.names_known (entry_of s.classes m) path n)
      (λ path n k. ap (λ (x : Option (EntryOf Text)). option_map_or (λ (e : EntryOf Text). means text_words image e path (text n)) x undeclared) there
      ∙ means-map_image Known text (number_words s.names) text_words keeps (number_image s) o.names_known (entry_of s.classes m) path n names k)
      (method_paths spelled.spanned ∙ ap (λ (t : MethodOf Text). node_paths (nodes t.body)) (sym spelled.same))
      (all-implies (λ (e : NodeSpan). span_at spelled.spanned.body e.path ≡ Some (of_span e.span)) (λ (e : NodeSpan). StandsAt image (in_method place) e.path (of_span e.span)) (λ (e : NodeSpan) at. (map_entry text (entry_of s.classes m), there, record { tree = spelled.spanned; spells = spelled.spells; at = at })) (sequence_spans spelled.spanned.body) (spans_stand spelled.spanned.body)))

  -- the lines of a do-it at its place
  of_doit : (place : ℕ) (d : DoIt) (lines : Text) → slice_get image.doits place ≡ Some (map_doit text (doit_of d)) → DoItNames Known (doit_of d)
      → SpellsDoIt Second d.source (map_doit text (doit_of d)).body → IsDoItText s q place d lines
      → AreLines image (uses_in text_words image question (in_doit place) (map_doit text (doit_of d)).body) lines
  of_doit place d lines there names spelled told =
      let next : suc place ≡ place + 1 = omega arith in
      subst (AreLines image (uses_in text_words image question (in_doit place) (map_doit text (doit_of d)).body)) (sym (told spelled.spanned spelled.spells))
      (of_body (in_doit place) (codes "doit " ++ decimal (place + 1)) (sequence_of d.body) spelled.spanned (meaning_in_body s (sequence_of d.body))
      names
      (ap (λ (n : ℕ). codes "doit " ++ decimal n) next)
      (λ path n. fits-means_in_doit s.names o.names_distinct (number_image s) o.names_known (doit_of d) path n)
      (λ path n k. ap (λ (x : Option (DoItOf Text)). option_map_or (λ (e : DoItOf Text). means_in_doit text_words image e path (text n)) x undeclared) there
      ∙ means_in_doit-map_image Known text (number_words s.names) text_words keeps (number_image s) o.names_known (doit_of d) path n names k)
      (sequence_paths spelled.spanned ∙ ap (λ (b : SequenceOf Text). node_paths (nodes b)) (sym spelled.same))
      (all-implies (λ (e : NodeSpan). span_at spelled.spanned e.path ≡ Some (of_span e.span)) (λ (e : NodeSpan). StandsAt image (in_doit place) e.path (of_span e.span)) (λ (e : NodeSpan) at. (map_doit text (doit_of d), there, record { tree = spelled.spanned; spells = spelled.spells; at = at })) (sequence_spans spelled.spanned) (spans_stand spelled.spanned)))

  -- a text of no lines
  no_text : (lines : Text) → lines ≡ [] → AreLines image [] lines
  no_text lines e = subst (AreLines image []) (sym e) no_lines

  -- methods over texts
  abbrev entries : List ℕ → List (EntryOf Text)
  entries order = map (map_entry text) (map (entry_of s.classes) (live s.methods order))

  -- a source of a user spells its tree
  abbrev Spelled : EntryOf Text → Type 0
  Spelled m = m.kernel ≡ false → SpellsMethod Second false m.source m.tree

  -- the methods of an order have names, and their sources spell their trees
  abbrev AreKnown : List ℕ → Type 0
  AreKnown order = AllByRecursion (EntryNames Known) (map (entry_of s.classes) (live s.methods order))

  -- the lines of the method in a slot, before those of others
  method_more : (place k : ℕ) (ks : List ℕ) (head rest : Text) → IsLive s.method_order k → IsSlotText s q k head
      → (drop (place + 1) image.methods ≡ entries ks → AreKnown ks → AllByRecursion Spelled (entries ks) → AreLines image (method_uses text_words image question (place + 1) (entries ks)) rest)
      → drop place image.methods ≡ entries (k ∷ ks) → AreKnown (k ∷ ks) → AllByRecursion Spelled (entries (k ∷ ks)) → AreLines image (method_uses text_words image question place (entries (k ∷ ks))) (head ++ rest)
  method_more place k ks head rest is_live first others = by (slice_get s.methods k) refl
    where
      by : (x : Option MethodRec) → slice_get s.methods k ≡ x → drop place image.methods ≡ map (map_entry text) (map (entry_of s.classes) (cons_option x (live s.methods ks)))
          → AllByRecursion (EntryNames Known) (map (entry_of s.classes) (cons_option x (live s.methods ks))) → AllByRecursion Spelled (map (map_entry text) (map (entry_of s.classes) (cons_option x (live s.methods ks))))
          → AreLines image (method_uses text_words image question place (map (map_entry text) (map (entry_of s.classes) (cons_option x (live s.methods ks))))) (head ++ rest)
      by None e b n sp = let held = there s.methods k (o.method_order.below k is_live) in let none : None ≡ Some held.0 = sym e ∙ held.1 in cc
      by (Some m) e b n sp =
          let at = at-drop place image.methods (entries ks) (map_entry text (entry_of s.classes m)) b in
          lines-append image (if not m.kernel then uses_in text_words image question (in_method place) (map_entry text (entry_of s.classes m)).tree.body else []) (method_uses text_words image question (place + 1) (entries ks)) head rest
          (mine m.kernel refl) (others at.1 n.1 sp.1)
        where
          told : IsMethodText s q head m
          told = first m (live_at-live s.methods s.method_order k is_live ∙ e)

          mine : (kernel : Bool) → m.kernel ≡ kernel → AreLines image (if not kernel then uses_in text_words image question (in_method place) (map_entry text (entry_of s.classes m)).tree.body else []) head
          mine true kernel = no_text head (told.kernel kernel)
          mine false user = of_method place m head (at-drop place image.methods (entries ks) (map_entry text (entry_of s.classes m)) b).0 n.0 (sp.0 user) user told

  -- the lines of methods from a place on
  methods_lined : (place : ℕ) (order : List ℕ) (lines : Text) → ((k : ℕ) → IsLive order k → IsLive s.method_order k)
      → AreTexts (λ (p : ℕ) (slot : ℕ) (t : Text). IsSlotText s q slot t) place order lines
      → drop place image.methods ≡ entries order → AreKnown order → AllByRecursion Spelled (entries order) → AreLines image (method_uses text_words image question place (entries order)) lines
  methods_lined place [] lines live_there texts behind names spelled = no_text lines texts
  methods_lined place (k ∷ ks) lines live_there (head, rest, first, others, is) behind names spelled =
      subst (AreLines image (method_uses text_words image question place (entries (k ∷ ks)))) (sym is)
      (method_more place k ks head rest (live_there k (IsLive-first k ks)) first (methods_lined (place + 1) ks rest (λ j l. live_there j (IsLive-rest j k ks l)) others) behind names spelled)

  -- the lines of do-its from a place on
  doits_lined : (place : ℕ) (ds : List DoIt) (lines : Text) → drop place image.doits ≡ map (map_doit text) (map doit_of ds)
      → AllByRecursion (DoItNames Known) (map doit_of ds) → AllByRecursion (λ (d : DoItOf Text). SpellsDoIt Second d.source d.body) (map (map_doit text) (map doit_of ds))
      → AreTexts (λ (n : ℕ) (d : DoIt) (t : Text). IsDoItText s q n d t) place ds lines → AreLines image (doit_uses text_words image question place (map (map_doit text) (map doit_of ds))) lines
  doits_lined place [] lines behind names spelled texts = no_text lines texts
  doits_lined place (d ∷ ds) lines behind names spelled (head, rest, first, others, is) =
      let at = at-drop place image.doits (map (map_doit text) (map doit_of ds)) (map_doit text (doit_of d)) behind in
      subst (AreLines image (doit_uses text_words image question place (map (map_doit text) (map doit_of (d ∷ ds))))) (sym is)
      (lines-append image (uses_in text_words image question (in_doit place) (map_doit text (doit_of d)).body) (doit_uses text_words image question (place + 1) (map (map_doit text) (map doit_of ds))) head rest (of_doit place d head at.0 names.0 spelled.0 first) (doits_lined (place + 1) ds rest at.1 names.1 spelled.1 others))

  -- the lines of all nodes that are asked for
  pub nodes_lined : (methods doits : Text) → AreSpelled image → AreTexts (λ (p : ℕ) (slot : ℕ) (t : Text). IsSlotText s q slot t) 0 s.method_order methods
      → AreTexts (λ (n : ℕ) (d : DoIt) (t : Text). IsDoItText s q n d t) 0 s.doits doits → AreLines image (users_nodes text_words image question) (methods ++ doits)
  nodes_lined methods doits spelled a b =
      subst (λ (us : List Use). AreLines image us (methods ++ doits)) (sym (users_nodes-split text_words image question))
      (lines-append image (method_uses text_words image question 0 image.methods) (doit_uses text_words image question 0 image.doits) methods doits
      (methods_lined 0 s.method_order methods (λ k l. l) a refl o.names_known.methods spelled.methods)
      (doits_lined 0 s.doits doits refl o.names_known.doits spelled.doits b))

-- the line of an item that is kept, and the lines of the others
flat-cond : {X : Type 0} (g : X → Text) (b : Bool) (x : X) (xs : List X) → flat_map g (cond b (x ∷ xs) xs) ≡ (if b then g x else []) ++ flat_map g xs
flat-cond g true x xs = refl
flat-cond g false x xs = refl

module _ (s : Slots) (o : IsOrderly s) (selector : ℕ) (known : selector < length s.names) where
  -- whether a method is asked for
  abbrev is_wanted : EntryOf Text → Bool
  is_wanted m = is_asked text_words (of_implementors (name_at s.names selector)) m

  -- the methods of an order over texts, of which each has known names
  abbrev entries_of : List ℕ → List (EntryOf Text)
  entries_of order = map (map_entry (name_at s.names)) (map (entry_of s.classes) (live s.methods order))

  abbrev HaveNames : List ℕ → Type 0
  HaveNames order = AllByRecursion (EntryNames (λ n. n < length s.names)) (map (entry_of s.classes) (live s.methods order))

  -- the line of a method, before those of others
  implementor_more : (k : ℕ) (ks : List ℕ) (rest : Text) → IsLive s.method_order k → (HaveNames ks → rest ≡ flat_map method_line (filter is_wanted (entries_of ks)))
      → HaveNames (k ∷ ks) → slot_line s selector k ++ rest ≡ flat_map method_line (filter is_wanted (entries_of (k ∷ ks)))
  implementor_more k ks rest is_live others names =
      ap (λ (x : Option MethodRec). option_map_or (implementor_line s selector) x [] ++ rest) (live_at-live s.methods s.method_order k is_live) ∙ by (slice_get s.methods k) names
    where
      by : (x : Option MethodRec) → AllByRecursion (EntryNames (λ n. n < length s.names)) (map (entry_of s.classes) (cons_option x (live s.methods ks)))
          → option_map_or (implementor_line s selector) x [] ++ rest ≡ flat_map method_line (filter is_wanted (map (map_entry (name_at s.names)) (map (entry_of s.classes) (cons_option x (live s.methods ks)))))
      by None n = others n
      by (Some m) n =
          let same : nat_eq selector m.tree.selector ≡ text_eq (name_at s.names selector) (name_at s.names m.tree.selector) = sym ((KeepsWords-number_words s.names o.names_distinct).tests.same selector m.tree.selector known n.0.tree.selector) in
          (λ i. (if not m.kernel && same i then method_line (map_entry (name_at s.names) (entry_of s.classes m)) else []) ++ others n.1 i)
          ∙ sym (flat-cond method_line (is_wanted (map_entry (name_at s.names) (entry_of s.classes m))) (map_entry (name_at s.names) (entry_of s.classes m)) (filter is_wanted (entries_of ks)))

  -- the lines of the methods of an order
  implementors_of : (order : List ℕ) → ((k : ℕ) → IsLive order k → IsLive s.method_order k) → HaveNames order → flat_map (slot_line s selector) order ≡ flat_map method_line (filter is_wanted (entries_of order))
  implementors_of [] live_there names = refl
  implementors_of (k ∷ ks) live_there names =
      implementor_more k ks (flat_map (slot_line s selector) ks) (live_there k (IsLive-first k ks)) (implementors_of ks (λ j l. live_there j (IsLive-rest j k ks l))) names

  -- the lines of all methods that implement the selector
  pub implementors_lined : flat_map (slot_line s selector) s.method_order ≡ flat_map method_line (methods_asked text_words (image_of s) (of_implementors (name_at s.names selector)))
  implementors_lined = implementors_of s.method_order (λ k l. l) o.names_known.methods

-- the lines of the methods that are asked for
pub methods_told : (s : Slots) (o : IsOrderly s) (q : QueryOf ℕ) → QueryNames (λ n. n < length s.names) q → (selector : Option ℕ) (lines : Text) → selector ≡ implemented q
    → lines ≡ option_map_or (λ (n : ℕ). flat_map (slot_line s n) s.method_order) selector [] → lines ≡ flat_map method_line (methods_asked text_words (image_of s) (map_query (name_at s.names) q))
methods_told s o (of_senders n) known selector lines e is =
    is ∙ ap (λ (x : Option ℕ). option_map_or (λ (n : ℕ). flat_map (slot_line s n) s.method_order) x []) e ∙ sym (ap (λ (ms : List (EntryOf Text)). flat_map method_line ms) (filter-none (image_of s).methods))
methods_told s o (of_implementors n) known selector lines e is =
    is ∙ ap (λ (x : Option ℕ). option_map_or (λ (n : ℕ). flat_map (slot_line s n) s.method_order) x []) e ∙ implementors_lined s o n known
methods_told s o (of_class c) known selector lines e is =
    is ∙ ap (λ (x : Option ℕ). option_map_or (λ (n : ℕ). flat_map (slot_line s n) s.method_order) x []) e ∙ sym (ap (λ (ms : List (EntryOf Text)). flat_map method_line ms) (filter-none (image_of s).methods))
methods_told s o (of_variable kind c n) known selector lines e is =
    is ∙ ap (λ (x : Option ℕ). option_map_or (λ (n : ℕ). flat_map (slot_line s n) s.method_order) x []) e ∙ sym (ap (λ (ms : List (EntryOf Text)). flat_map method_line ms) (filter-none (image_of s).methods))
