-- The lines of all methods and do-its are those of the nodes that the pattern matches.
use Rattle.std.proofs.Common.{◌≡◌, ℕ, suc, ◌+◌, ◌<◌, Bool, true, false, if◌then◌else◌, List, [], ◌∷◌, ◌++◌, drop, length, map, slice_get, Option, Some, None, refl, sym, ap, subst, ◌∙◌, arith}
use Rattle.std.specs.Prelude.{flat_map, codes}
use Rattle.std.specs.Fmt.{decimal}
use Rattle.std.specs.List.{AllByRecursion, cons_option, enumerate_from}
use Rattle.std.specs.Option.{option_map_or}
use Rattle.rb_base.specs.Names.{name_at}
use Rattle.tree_model.specs.Tree.{SequenceOf, map_sequence}
use Rattle.tree_model.specs.AllNames.{SequenceNames}
use Rattle.grammar_model.specs.Spans.{Span}
use Rattle.st_tree.specs.View.{sequence_of}
use Rattle.image_model.specs.Image.{EntryOf, DoItOf, ImageOf, map_entry, map_doit}
use Rattle.image_model.specs.ImageNames.{EntryNames, DoItNames}
use Rattle.image_model.specs.Nodes.{Place, in_method, in_doit, Use}
use Rattle.class_table.specs.declared.record.MethodRec.{MethodRec}
use Rattle.class_table.specs.declared.record.DoIt.{DoIt}
use Rattle.class_table.specs.Slots.{Slots}
use Rattle.class_table.specs.View.{live, live_at, entry_of, doit_of, image_of}
use Rattle.class_table.specs.Valid.{IsLive, IsOrderly}
use Rattle.class_table.proofs.Live.{IsLive-first, IsLive-rest, there}
use Rattle.query_model.specs.Lines.{Text, StandsAt, title, method_title, node_line, AreLines, no_lines, one_line}
use Rattle.pattern_model.specs.Patterns.{PatternOf}
use Rattle.pattern_model.specs.Named.{map_pattern}
use Rattle.pattern_model.specs.Search.{all_matches}
use Rattle.patterns.specs.Names.{PatternNames}
use Rattle.pattern_match.specs.Words.{number_words}
use Rattle.pattern_match.proofs.Numbers.{search_texts}
use Rattle.rewrite_model.specs.Searched.{matches_in, matches}
use Rattle.image_queries.specs.Parts.{title_of, AreTexts}
use Rattle.image_queries.proofs.Lists.{at-drop}
use Rattle.image_queries.proofs.Lined.{lines-append}
use Rattle.image_search.specs.Parts.{StandsInMethodText, StandsInDoItText, IsNodeLine, AreNodeLines, IsMethodText, IsSlotText, IsDoItText}

-- what a live slot holds is there
live_at-live : {X : Type 0} (xs : List X) (order : List ℕ) (k : ℕ) → IsLive order k → live_at xs order k ≡ slice_get xs k
live_at-live xs order k l = ap (λ (b : Bool). if b then slice_get xs k else None) l

-- the lines of the nodes of a place
lined : (i : ImageOf Text) (place : Place) (owner : Text) (P : List ℕ → Span → Type 0) → title i place ≡ owner → ((path : List ℕ) (span : Span) → P path span → StandsAt i place path span)
    → (n : ℕ) (paths : List (List ℕ)) (text : Text) → AreTexts (λ (m : ℕ) (path line : List ℕ). IsNodeLine owner P path line) n paths text
    → AreLines i (map (λ (path : List ℕ). let u : Use = record { place = place; path = path } in u) paths) text
lined i place owner P is_title stand n [] text e = subst (AreLines i []) (sym e) no_lines
lined i place owner P is_title stand n (path ∷ paths) text (head, rest, (span, stands, told), others, e) =
    subst (AreLines i (record { place = place; path = path } ∷ map (λ (p : List ℕ). let u : Use = record { place = place; path = p } in u) paths))
    (ap (λ (t : Text). node_line t span ++ rest) is_title ∙ ap (λ (t : Text). t ++ rest) (sym told) ∙ sym e)
    (one_line span (stand path span stands) (lined i place owner P is_title stand (n + 1) paths rest others))

module _ (s : Slots) (o : IsOrderly s) (p : PatternOf ℕ) (known : PatternNames (λ n. n < length s.names) p) where
  -- the text of a name, and a name that has one
  abbrev text : ℕ → Text
  text = name_at s.names

  abbrev Known : ℕ → Type 0
  Known n = n < length s.names

  -- the image over texts, and the pattern over texts
  abbrev image : ImageOf Text
  image = image_of s

  abbrev asked : PatternOf Text
  asked = map_pattern text p

  -- the nodes of methods and of do-its that match, whose numbers go up from k
  abbrev method_matches : ℕ → List (EntryOf Text) → List Use
  method_matches k ms = flat_map (λ e. if e.1.kernel then [] else matches_in asked (in_method e.0) e.1.tree.body) (enumerate_from k ms)

  abbrev doit_matches : ℕ → List (DoItOf Text) → List Use
  doit_matches k ds = flat_map (λ e. matches_in asked (in_doit e.0) e.1.body) (enumerate_from k ds)

  -- the lines of a body that stands in the image
  of_body : (place : Place) (owner : Text) (b : SequenceOf ℕ) (P : List ℕ → Span → Type 0) (lines : Text) → SequenceNames Known b → title image place ≡ owner
      → ((path : List ℕ) (span : Span) → P path span → StandsAt image place path span) → AreNodeLines owner P (all_matches (number_words s.names) p b) lines
      → AreLines image (matches_in asked place (map_sequence text b)) lines
  of_body place owner b P lines names is_title stand told =
      subst (λ (paths : List (List ℕ)). AreLines image (map (λ (path : List ℕ). let u : Use = record { place = place; path = path } in u) paths) lines)
      (sym (search_texts s.names o.names_distinct p known b names))
      (lined image place owner P is_title stand 0 (all_matches (number_words s.names) p b) lines told)

  -- the lines of a user's method at its place
  of_method : (place : ℕ) (m : MethodRec) (lines : Text) → slice_get image.methods place ≡ Some (map_entry text (entry_of s.classes m)) → EntryNames Known (entry_of s.classes m)
      → m.kernel ≡ false → IsMethodText s p lines m → AreLines image (matches_in asked (in_method place) (map_entry text (entry_of s.classes m)).tree.body) lines
  of_method place m lines held names user told =
      of_body (in_method place) (title_of s.names s.classes m.class m.meta m.tree.selector) (sequence_of m.tree.body) (StandsInMethodText m.source) lines
      names.tree.body
      (ap (λ (x : Option (EntryOf Text)). option_map_or method_title x []) held)
      (λ path span stands. (map_entry text (entry_of s.classes m), held, record { tree = stands.tree; spells = stands.spells; at = stands.holds }))
      (told.user user)

  -- the lines of a do-it at its place
  of_doit : (place : ℕ) (d : DoIt) (lines : Text) → slice_get image.doits place ≡ Some (map_doit text (doit_of d)) → DoItNames Known (doit_of d)
      → IsDoItText s p place d lines → AreLines image (matches_in asked (in_doit place) (map_doit text (doit_of d)).body) lines
  of_doit place d lines held names told =
      let next : suc place ≡ place + 1 = omega arith in
      of_body (in_doit place) (codes "doit " ++ decimal (place + 1)) (sequence_of d.body) (StandsInDoItText d.source) lines
      names
      (ap (λ (n : ℕ). codes "doit " ++ decimal n) next)
      (λ path span stands. (map_doit text (doit_of d), held, record { tree = stands.tree; spells = stands.spells; at = stands.holds }))
      told

  -- a text of no lines
  no_text : (lines : Text) → lines ≡ [] → AreLines image [] lines
  no_text lines e = subst (AreLines image []) (sym e) no_lines

  -- methods over texts
  abbrev entries : List ℕ → List (EntryOf Text)
  entries order = map (map_entry text) (map (entry_of s.classes) (live s.methods order))

  -- the methods of an order have names
  abbrev AreKnown : List ℕ → Type 0
  AreKnown order = AllByRecursion (EntryNames Known) (map (entry_of s.classes) (live s.methods order))

  -- the lines of the method in a slot, before those of others
  method_more : (place k : ℕ) (ks : List ℕ) (head rest : Text) → IsLive s.method_order k → IsSlotText s p k head
      → (drop (place + 1) image.methods ≡ entries ks → AreKnown ks → AreLines image (method_matches (place + 1) (entries ks)) rest)
      → drop place image.methods ≡ entries (k ∷ ks) → AreKnown (k ∷ ks) → AreLines image (method_matches place (entries (k ∷ ks))) (head ++ rest)
  method_more place k ks head rest is_live first others = by (slice_get s.methods k) refl
    where
      by : (x : Option MethodRec) → slice_get s.methods k ≡ x → drop place image.methods ≡ map (map_entry text) (map (entry_of s.classes) (cons_option x (live s.methods ks)))
          → AllByRecursion (EntryNames Known) (map (entry_of s.classes) (cons_option x (live s.methods ks)))
          → AreLines image (method_matches place (map (map_entry text) (map (entry_of s.classes) (cons_option x (live s.methods ks))))) (head ++ rest)
      by None e b n = let held = there s.methods k (o.method_order.below k is_live) in let none : None ≡ Some held.0 = sym e ∙ held.1 in cc
      by (Some m) e b n =
          let at = at-drop place image.methods (entries ks) (map_entry text (entry_of s.classes m)) b in
          lines-append image (if m.kernel then [] else matches_in asked (in_method place) (map_entry text (entry_of s.classes m)).tree.body) (method_matches (place + 1) (entries ks)) head rest
          (mine m.kernel refl) (others at.1 n.1)
        where
          told : IsMethodText s p head m
          told = first m (live_at-live s.methods s.method_order k is_live ∙ e)

          mine : (kernel : Bool) → m.kernel ≡ kernel → AreLines image (if kernel then [] else matches_in asked (in_method place) (map_entry text (entry_of s.classes m)).tree.body) head
          mine true kernel = no_text head (told.kernel kernel)
          mine false user = of_method place m head (at-drop place image.methods (entries ks) (map_entry text (entry_of s.classes m)) b).0 n.0 user told

  -- the lines of methods from a place on
  methods_lined : (place : ℕ) (order : List ℕ) (lines : Text) → ((k : ℕ) → IsLive order k → IsLive s.method_order k)
      → AreTexts (λ (n : ℕ) (slot : ℕ) (t : Text). IsSlotText s p slot t) place order lines
      → drop place image.methods ≡ entries order → AreKnown order → AreLines image (method_matches place (entries order)) lines
  methods_lined place [] lines live_there texts behind names = no_text lines texts
  methods_lined place (k ∷ ks) lines live_there (head, rest, first, others, is) behind names =
      subst (AreLines image (method_matches place (entries (k ∷ ks)))) (sym is)
      (method_more place k ks head rest (live_there k (IsLive-first k ks)) first (methods_lined (place + 1) ks rest (λ j l. live_there j (IsLive-rest j k ks l)) others) behind names)

  -- the lines of do-its from a place on
  doits_lined : (place : ℕ) (ds : List DoIt) (lines : Text) → drop place image.doits ≡ map (map_doit text) (map doit_of ds)
      → AllByRecursion (DoItNames Known) (map doit_of ds)
      → AreTexts (λ (n : ℕ) (d : DoIt) (t : Text). IsDoItText s p n d t) place ds lines → AreLines image (doit_matches place (map (map_doit text) (map doit_of ds))) lines
  doits_lined place [] lines behind names texts = no_text lines texts
  doits_lined place (d ∷ ds) lines behind names (head, rest, first, others, is) =
      let at = at-drop place image.doits (map (map_doit text) (map doit_of ds)) (map_doit text (doit_of d)) behind in
      subst (AreLines image (doit_matches place (map (map_doit text) (map doit_of (d ∷ ds))))) (sym is)
      (lines-append image (matches_in asked (in_doit place) (map_doit text (doit_of d)).body) (doit_matches (place + 1) (map (map_doit text) (map doit_of ds))) head rest
      (of_doit place d head at.0 names.0 first) (doits_lined (place + 1) ds rest at.1 names.1 others))

  -- the lines of all nodes that match
  pub matches_lined : (methods doits : Text) → AreTexts (λ (n : ℕ) (slot : ℕ) (t : Text). IsSlotText s p slot t) 0 s.method_order methods
      → AreTexts (λ (n : ℕ) (d : DoIt) (t : Text). IsDoItText s p n d t) 0 s.doits doits → AreLines image (matches asked image) (methods ++ doits)
  matches_lined methods doits a b =
      lines-append image (method_matches 0 image.methods) (doit_matches 0 image.doits) methods doits
      (methods_lined 0 s.method_order methods (λ k l. l) a refl o.names_known.methods)
      (doits_lined 0 s.doits doits refl o.names_known.doits b)
