-- The lines of what is in the way in a method that a command brings.
use Rattle.std.proofs.Common.{◌≡◌, ℕ, suc, ◌+◌, ◌<◌, Bool, true, false, not, cond, List, [], ◌∷◌, ◌++◌, length, take, get_or, map, Option, Some, None, refl, sym, ap, subst, ◌∙◌, arith}
use Rattle.std.specs.Prelude.{filter, codes, option_map}
use Rattle.std.specs.Option.{option_map_or}
use Rattle.std.proofs.Math.Seq.{take-suc}
use Rattle.std.proofs.lemmas.List.{map-append}
use Rattle.rb_base.specs.Names.{name_at}
use Rattle.tree_model.specs.Nodes.{Placed, nodes}
use Rattle.token_model.specs.declared.kind.Dialect.TheVariants.{Second}
use Rattle.scope_model.specs.Control.{is_empty}
use Rattle.grammar_model.specs.Spans.{Span, span_at}
use Rattle.grammar_model.specs.Spelling.{SpellsMethodAt}
use Rattle.image_model.specs.Image.{EntryOf, ImageOf, map_entry}
use Rattle.query_model.specs.Lines.{Text, node_line}
use Rattle.class_table.specs.Slots.{Slots}
use Rattle.class_table.specs.View.{number_image}
use Rattle.rename_model.specs.Conditions.{is_reflective}
use Rattle.command_model.specs.CodeEffects.{part_at}
use Rattle.command_model.specs.Commands.{ExtractMethod}
use Rattle.command_model.specs.Extracted.{method_of}
use Rattle.command_model.specs.MethodEffects.{new_method}
use Rattle.command_model.specs.ParameterConditions.{is_low}
use Rattle.command_model.specs.Parts.{Part}
use Rattle.commands.specs.Views.{asked_by}
use Rattle.event_spans.specs.Answers.{of_span, to_span}
use Rattle.rb_base.specs.declared.text.Span as spans
use Rattle.st_spans.specs.Trees.{OfMethod}
use Rattle.refusal_witnesses.specs.NameWitnesses.{reflections_in}
use Rattle.refusal_witnesses.specs.Witnesses.{OwnerOf, InMethod, WitnessOf, AWhole, a_node, a_method, nodes_that, where_true}
use Rattle.refusal_witnesses.specs.Lines.{IsLine, AreLines, no_lines, more_lines, part_line, whole_line, line_of}
use Rattle.witness_lists.specs.declared.nodes.Sought.TheVariants as sought
use Rattle.witness_lists.specs.declared.witness.Witness.{Witness}
use Rattle.witness_lists.specs.Views.{shown, witness_of}
use Rattle.witness_lists.specs.Sought.{heads_method, passes}
use Rattle.witness_lists.specs.Walks.{standing_in}
use Rattle.witness_numbers.specs.MappedWitnesses.{map_witness}
use Rattle.witness_texts.proofs.StartLines.{one-more}
use Rattle.use_witnesses.specs.Brought.{as_in, brought_heights}
use Rattle.explained_scripts.specs.Lines.{title_named, IsTitled}

-- the lines of some witnesses, and then those of others
pub are-append : (i : ImageOf Text) (ws vs : List (WitnessOf Text)) (xs ys : List Text) → AreLines i ws xs → AreLines i vs ys → AreLines i (ws ++ vs) (xs ++ ys)
are-append i [] vs [] ys no_lines m = m
are-append i [] vs (t ∷ ts) ys ks m = elim ks [ ]
are-append i (w ∷ ws) vs [] ys ks m = elim ks [ ]
are-append i (w ∷ ws) vs (t ∷ ts) ys (more_lines k ks) m = more_lines k (are-append i ws vs ts ys ks m)

-- the lines of three lists of witnesses, one after the other
pub three-lined : (i : ImageOf Text) (names : List Text) (us vs ws : List (WitnessOf ℕ)) (xs ys zs all : List Text) → AreLines i (map (map_witness (name_at names)) us) xs → AreLines i (map (map_witness (name_at names)) vs) ys → AreLines i (map (map_witness (name_at names)) ws) zs
    → all ≡ (xs ++ ys) ++ zs → AreLines i (map (map_witness (name_at names)) ((us ++ vs) ++ ws)) all
three-lined i names us vs ws xs ys zs all a b d e =
    subst (AreLines i (map (map_witness (name_at names)) ((us ++ vs) ++ ws))) (sym e)
    (subst (λ (ts : List (WitnessOf Text)). AreLines i ts ((xs ++ ys) ++ zs))
    (sym (map-append (map_witness (name_at names)) (us ++ vs) ws ∙ ap (λ ts. ts ++ map (map_witness (name_at names)) ws) (map-append (map_witness (name_at names)) us vs)))
    (are-append i (map (map_witness (name_at names)) us ++ map (map_witness (name_at names)) vs) (map (map_witness (name_at names)) ws) (xs ++ ys) zs
    (are-append i (map (map_witness (name_at names)) us) (map (map_witness (name_at names)) vs) xs ys a b) d))

module _ (i : ImageOf Text) (m : EntryOf Text) (title source : Text) (titled : IsTitled m title source) where
  -- a node of the method, and the whole method
  pub node-inside : (path : List ℕ) (span : Span) → OfMethod source (λ b. span_at b path ≡ Some span) → IsLine i (a_node (InMethod m) path) (node_line title span)
  node-inside path span of =
      subst (λ (t : Text). IsLine i (a_node (InMethod m) path) (node_line t span)) titled.title_is
      (part_line span (ap not titled.users) (record { tree = of.tree; spells = subst (λ (t : Text). SpellsMethodAt Second false t of.tree) (sym titled.source_is) of.spells; at = of.holds }))

  pub whole-inside : IsLine i (AWhole (InMethod m)) (line_of (codes "method " ++ title))
  whole-inside = subst (λ (t : Text). IsLine i (AWhole (InMethod m)) (line_of (codes "method " ++ t))) titled.title_is whole_line

-- the span of a node that is found
pub found-there : (source : Text) (path : List ℕ) (span : spans.Span) → OfMethod source (λ b. Some span ≡ option_map to_span (span_at b path)) → OfMethod source (λ b. span_at b path ≡ Some (of_span span))
found-there source path span of = record { tree = of.tree; spells = of.spells; holds = by (span_at of.tree.body path) of.holds }
  where
    by : (o : Option Span) → Some span ≡ option_map to_span o → o ≡ Some (of_span span)
    by None e = absurd (cc)
    by (Some x) e =
        let same : span ≡ to_span x = cc in
        ap (λ (y : spans.Span). Some (of_span y)) (sym same)

-- a witness in the method
abbrev pub inside : Slots → EntryOf Text → Witness → WitnessOf Text
inside s m w = as_in m (map_witness (name_at s.names) (witness_of s w))

-- the lines of some witnesses in any such method
abbrev pub AreInside : Text → Text → List Witness → List Text → Type 0
AreInside title source ws lines = (s : Slots) (i : ImageOf Text) (m : EntryOf Text) → IsTitled m title source → AreLines i (map (inside s m) ws) lines

pub next-inside : (title source : Text) (ws : List Witness) (k : ℕ) (w : Witness) (lines : List Text) (line : Text) → k < length ws → w ≡ get_or ws k w
    → AreInside title source (take k ws) lines → ((s : Slots) (i : ImageOf Text) (m : EntryOf Text) → IsTitled m title source → IsLine i (inside s m w) line)
    → AreInside title source (take (k + 1) ws) (lines ++ line ∷ [])
next-inside title source ws k w lines line within is before here s i m titled =
    let next : suc k ≡ k + 1 = omega arith in
    let taken : take k ws ++ w ∷ [] ≡ take (k + 1) ws =
    ap (λ (x : Witness). take k ws ++ x ∷ []) is ∙ sym (take-suc ws k w within) ∙ ap (λ (n : ℕ). take n ws) next in
    subst (λ (xs : List (WitnessOf Text)). AreLines i xs (lines ++ line ∷ []))
    (sym (map-append (inside s m) (take k ws) (w ∷ [])) ∙ ap (map (inside s m)) taken)
    (one-more i (map (inside s m) (take k ws)) lines (inside s m w) line (before s i m titled) (here s i m titled))

module _ (s : Slots) (m : EntryOf ℕ) (users : m.kernel ≡ false) where
  abbrev f : ℕ → Text
  f n = name_at s.names n

  -- a witness over texts in the method
  abbrev moved : WitnessOf ℕ → WitnessOf Text
  moved x = as_in (map_entry (name_at s.names) m) (map_witness (name_at s.names) x)

  moved-nodes : (owner : OwnerOf ℕ) (es : List (Placed ℕ)) → map moved (map (λ (e : Placed ℕ). a_node owner e.0) es) ≡ map (map_witness (name_at s.names)) (map (λ (e : Placed ℕ). a_node (InMethod m) e.0) es)
  moved-nodes owner [] = refl
  moved-nodes owner (e ∷ es) = ap (λ ys. a_node (InMethod (map_entry (name_at s.names) m)) e.0 ∷ ys) (moved-nodes owner es)

  moved-whole : (owner : OwnerOf ℕ) (b : Bool) → map moved (where_true b (AWhole owner)) ≡ map (map_witness (name_at s.names)) (where_true b (a_method m))
  moved-whole owner true = refl
  moved-whole owner false = refl

  moved-all : (owner : OwnerOf ℕ) (b : Bool) (es : List (Placed ℕ)) → map moved (where_true b (AWhole owner) ++ map (λ (e : Placed ℕ). a_node owner e.0) es) ≡ map (map_witness (name_at s.names)) (where_true b (a_method m) ++ map (λ (e : Placed ℕ). a_node (InMethod m) e.0) es)
  moved-all owner b es =
      map-append moved (where_true b (AWhole owner)) (map (λ (e : Placed ℕ). a_node owner e.0) es)
      ∙ (λ j. moved-whole owner b j ++ moved-nodes owner es j)
      ∙ sym (map-append (map_witness (name_at s.names)) (where_true b (a_method m)) (map (λ (e : Placed ℕ). a_node (InMethod m) e.0) es))

  each-moved : (ws : List Witness) → map (inside s (map_entry (name_at s.names) m)) ws ≡ map moved (shown s ws)
  each-moved [] = refl
  each-moved (w ∷ ws) = ap (λ ys. moved (witness_of s w) ∷ ys) (each-moved ws)

  pub all-brought : (owner : OwnerOf ℕ) (ws : List Witness) → shown s ws ≡ standing_in s.names sought.Reflection owner m.tree
      → map (inside s (map_entry (name_at s.names) m)) ws ≡ map (map_witness (name_at s.names)) (reflections_in (asked_by s.names).command_words m)
  all-brought owner ws is =
      each-moved ws ∙ ap (map moved) is
      ∙ moved-all owner (heads_method s.names sought.Reflection m.tree) (filter (λ (e : Placed ℕ). passes s.names sought.Reflection e.1) (nodes m.tree.body))
      ∙ ap (λ (b : Bool). map (map_witness (name_at s.names)) (cond b [] (where_true ((asked_by s.names).command_words.is_not_understood m.tree.selector) (a_method m) ++ nodes_that (λ e. is_reflective (asked_by s.names).command_words e.1) (InMethod m) m.tree.body))) (sym users)

-- nothing is there
pub none-there : (xs : List (WitnessOf ℕ)) → not (is_empty xs) ≡ false → xs ≡ []
none-there [] e = refl
none-there (x ∷ xs) e = absurd (cc)

-- the method that a part becomes, if it is too high
module _ (i : ImageOf Text) (s : Slots) (c : ℕ) (meta : Bool) (n from to t : ℕ) where
  abbrev made : EntryOf ℕ × Part → EntryOf ℕ
  made e = new_method c meta e.0.protocol [] (method_of (asked_by s.names) t e.0.tree e.1)

  pub high-line : not (is_empty (brought_heights (asked_by s.names) (number_image s) (ExtractMethod c meta n from to t))) ≡ true → (line : Text) → line ≡ line_of (codes "method " ++ title_named s.names (record { class = c; meta = meta; selector = t }))
      → AreLines i (map (map_witness (name_at s.names)) (brought_heights (asked_by s.names) (number_image s) (ExtractMethod c meta n from to t))) (line ∷ [])
  high-line high line is = by (part_at (asked_by s.names) (number_image s) c meta n from to) high
    where
      with : (e : EntryOf ℕ × Part) (b : Bool) → not (is_empty (where_true b (a_method (made e)))) ≡ true → AreLines i (map (map_witness (name_at s.names)) (where_true b (a_method (made e)))) (line ∷ [])
      with e true g = more_lines (subst (IsLine i (a_method (map_entry (name_at s.names) (made e)))) (sym is) whole_line) no_lines
      with e false g = absurd (cc)

      by : (o : Option (EntryOf ℕ × Part)) → not (is_empty (option_map_or (λ (e : EntryOf ℕ × Part). where_true (not (is_low (method_of (asked_by s.names) t e.0.tree e.1).body)) (a_method (made e))) o [])) ≡ true
          → AreLines i (map (map_witness (name_at s.names)) (option_map_or (λ (e : EntryOf ℕ × Part). where_true (not (is_low (method_of (asked_by s.names) t e.0.tree e.1).body)) (a_method (made e))) o [])) (line ∷ [])
      by None g = absurd (cc)
      by (Some e) g = with e (not (is_low (method_of (asked_by s.names) t e.0.tree e.1).body)) g
