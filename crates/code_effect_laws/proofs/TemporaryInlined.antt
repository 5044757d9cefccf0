-- The tree after `inlineTemp` is proper.
use Rattle.std.proofs.Common.{◌≡◌, inl, inr, ℕ, Bool, true, false, not, List, [], ◌∷◌, ◌++◌, filter, Option, Some, None, is_some, refl, sym, ap, ◌∙◌}
use Rattle.std.specs.Prelude.{if◌then◌else◌}
use Rattle.std.specs.List.{list_all, list_any}
use Rattle.rb_base.specs.Names.{text_eq}
use Rattle.tree_model.specs.Tree.{Notes, TreeOf, var, assign, block, StatementsOf, no_statements, more_statements, SequenceOf, MethodOf}
use Rattle.tree_model.specs.Path.{statement_trees, part_among}
use Rattle.tree_model.specs.Nodes.{Placed, nodes}
use Rattle.tree_model.proofs.NodesLemmas.{Contains-part_in}
use Rattle.scope_model.specs.FreeNames.{drop_statements, each_once, free_occurrences, free_names}
use Rattle.scope_model.specs.SpecialNames.{is_pseudo_variable}
use Rattle.scope_model.specs.Scope.{local_in}
use Rattle.grammar_model.specs.Checks.{Known, is_fixed}
use Rattle.reread_law.specs.WellFormed.{IsWord, IsValue}
use Rattle.reread_law.specs.Declarations.{known_names}
use Rattle.image_model.specs.Image.{EntryOf, ImageOf}
use Rattle.image_model.specs.Words.{text_words}
use Rattle.image_model.specs.Means.{means}
use Rattle.file_model.specs.Filing.{Text}
use Rattle.file_laws.proofs.Moves.{text_equal}
use Rattle.command_model.specs.Asked.{text_asked}
use Rattle.command_model.specs.LetConditions.{let_path, is_value_kept}
use Rattle.command_model.specs.Places.{temporary_scope}
use Rattle.command_model.specs.SameMethods.{same_meaning}
use Rattle.command_model.specs.Sequences.{noted, first_notes, put_for}
use Rattle.command_model.specs.Temporaries.{LetOf, reads_of, temporary_inlined}
use Rattle.command_model.specs.Walk.{rebuilt_statements, rebuilt_method}
use Rattle.effect_laws.proofs.Items.{In, in_contains, in_filter, in_map}
use Rattle.effect_laws.proofs.Kernel.{all_pass}
use Rattle.code_effect_laws.proofs.Proper.{IsProper}
use Rattle.code_effect_laws.proofs.Stands.{IsEnd, StandsFor, value_no_return, itself_stands}
use Rattle.code_effect_laws.proofs.Statements.{drop_proper, taken_proper, noted_proper, first_proper, tail_proper}
use Rattle.code_effect_laws.proofs.WalkedMethods.{rebuilt_method_proper}
use Rattle.code_effect_laws.proofs.Methods.{IsProperSequence, IsProperMethod, IsSequenceAt, IsBody, IsInBlock, method_part, changed_proper, changed_selector, known_in}
use Rattle.code_effect_laws.proofs.Elsewhere.{tree_elsewhere, statements_elsewhere}
use Rattle.code_effect_laws.proofs.Locals.{same_fixed}
use Rattle.code_effect_laws.proofs.Names.{words_fewer, once_fewer, fewer_loose}
use Rattle.code_effect_laws.proofs.Counted.{once_outside}
use Rattle.code_effect_laws.proofs.RebuiltPlaces.{LeavesMore, from_place, more_from, method_place_rebuilt}
use Rattle.code_effect_laws.proofs.Lets.{IsLet}

-- each name is one of them where each stands once
in_each_once : (ns : List Text) (n : Text) → In ns n → In (each_once text_eq ns) n
in_each_once [] n h = h
in_each_once (m ∷ ns) n (inl e) = inl e
in_each_once (m ∷ ns) n (inr h) = by (text_eq m n) refl (in_each_once ns n h)
  where
    by : (b : Bool) → text_eq m n ≡ b → In (each_once text_eq ns) n → In (m ∷ filter (λ k. not (text_eq m k)) (each_once text_eq ns)) n
    by true q g = inl (text_equal m n q)
    by false q g = inr (in_filter (λ k. not (text_eq m k)) (each_once text_eq ns) n g (ap not q))

-- a sequence without one statement, and without the declaration of a name
abbrev without : ℕ → Text → SequenceOf Text → SequenceOf Text
without k x b = let c : SequenceOf Text = put_for k no_statements b in record c { temporaries = filter (λ n. not (text_eq x n)) c.temporaries }

nothing_noted : (notes : Notes) (ss : StatementsOf Text) → IsEnd ss → IsEnd (noted notes (drop_statements 1 ss))
nothing_noted notes no_statements h = tt
nothing_noted notes (more_statements c t ss) h = absurd h

without_proper : (ks : List Known) (ps : List Text) (b : SequenceOf Text) (k : ℕ) (x : Text) → IsProperSequence ks ps b → (list_any (text_eq x) b.temporaries ≡ true → is_fixed ks x ≡ false) → IsProperSequence ks ps (without k x b)
without_proper ks ps b k x p outside =
    let known : List Known = known_names ps b.temporaries ++ ks in
    let old : StatementsOf Text = drop_statements k b.statements in
    let left = drop_proper known k b.statements p.statements in
    let notes = first_proper known old left in
    record {
      words = words_fewer (λ n. not (text_eq x n)) b.temporaries p.words;
      once = once_fewer (λ n. not (text_eq x n)) ps b.temporaries [] p.once;
      statements =
          statements_elsewhere (put_for k no_statements b).statements known (known_names ps (filter (λ n. not (text_eq x n)) b.temporaries) ++ ks)
          (taken_proper known k b.statements (noted (first_notes old) (drop_statements 1 old)) p.statements (noted_proper known (first_notes old) (drop_statements 1 old) notes (drop_proper known 1 old left))
          (nothing_noted (first_notes old) old))
          (λ n there ordinary free. fewer_loose ps b.temporaries ks x n outside free);
      notes = tail_proper (first_notes old) (drop_statements 1 old) b.tail notes p.notes;
    }

-- how many steps lead to the scope of a temporary that a node reads
abbrev read_scope : MethodOf Text → Text → Placed Text → Option ℕ
read_scope m x (path, var n) = if text_eq x n then temporary_scope (local_in text_eq is_pseudo_variable m path n) else None
read_scope m x (path, t) = None

module _ (i : ImageOf Text) (its : EntryOf Text) (x : Text) (e : LetOf Text) (p : IsProperMethod its.tree) (l : IsLet its.tree x e) (kept : is_value_kept text_asked i its x e ≡ true) where
  abbrev m : MethodOf Text
  m = its.tree

  abbrev valued : List ℕ → TreeOf Text → TreeOf Text
  valued path (var n) = if is_some (read_scope m x (path, var n)) then e.value else var n
  valued path t = t

  valued_leaves : LeavesMore valued
  valued_leaves = record {
    leaves = record {
      literals = λ path k. refl;
      sends = λ path r s xs. refl;
      cascades = λ path r ms. refl;
      blocks = λ path ps ds ss c. refl;
      braces = λ path ts. refl;
      returns = λ path t. refl;
    };
    assigns = λ path n t. refl;
  }

  -- the value, where it is assigned
  value : IsProper (known_in m (let_path e)) e.value × IsValue e.value
  value = let q = method_part m (let_path e) (assign l.name e.value) p l.there in (q.3, q.4)

  -- and at a read
  value_at : (path : List ℕ) (n : Text) → part_among (statement_trees m.body.statements) path ≡ Some (var n) → is_some (read_scope m x (path, var n)) ≡ true → IsProper (known_in m path) e.value
  value_at path n found read =
      tree_elsewhere e.value (known_in m (let_path e)) (known_in m path) value.0
      (λ y there ordinary free. (let same : same_meaning text_eq (means text_words i its (let_path e) y) (means text_words i its path y) ≡ true =
      all_pass _ (free_names text_eq is_pseudo_variable e.value) each y (in_each_once (free_occurrences text_eq is_pseudo_variable e.value) y there) in
      sym (same_fixed i its its (let_path e) path y ordinary same) ∙ free))
    where
      node : Placed Text
      node = (path, var n)

      is_read : In (reads_of text_asked m x) path
      is_read =
          in_map (λ (y : Placed Text). y.0) (filter (λ y. is_some (read_scope m x y)) (nodes m.body)) (path, var n)
          (in_filter (λ y. is_some (read_scope m x y)) (nodes m.body) (path, var n) (in_contains (nodes m.body) (path, var n) (Contains-part_in m.body path (var n) found)) read)

      each : list_all (λ y. same_meaning text_eq (means text_words i its (let_path e) y) (means text_words i its path y)) (free_names text_eq is_pseudo_variable e.value) ≡ true
      each = all_pass _ (reads_of text_asked m x) kept path is_read

  read : (path : List ℕ) (n : Text) → IsWord n → (b : Bool) → (b ≡ true → IsProper (known_in m path) e.value) → IsProper (known_in m path) (if b then e.value else var n) × StandsFor (var n) (if b then e.value else var n)
  read path n w true h = (h refl, inr (tt, value_no_return e.value value.1, λ v. value.1))
  read path n w false h = (w, itself_stands (var n))

  abbrev between : MethodOf Text
  between = rebuilt_method valued m

  between_proper : IsProperMethod between
  between_proper =
      rebuilt_method_proper valued m valued_leaves.leaves
      (record {
        reads = λ path n q w. read path n w (is_some (read_scope m x (path, var n))) (λ r. value_at path n q r);
        assigns = λ path n u v q w o free inner val. ((w, o, free, inner, val), itself_stands (assign n v));
      })
      p

  -- the sequence after, outside which the temporary is not declared
  record HasOutside (path : List ℕ) : Type 0 where
    known : List Known
    parameters : List Text
    sequence : SequenceOf Text
    there : IsSequenceAt between path known parameters sequence
    outside : list_any (text_eq x) sequence.temporaries ≡ true → is_fixed known x ≡ false

  has_outside : (path : List ℕ) (ks : List Known) (ps : List Text) (b : SequenceOf Text) → IsSequenceAt m path ks ps b → HasOutside path
  has_outside path ks ps b IsBody = record { known = []; parameters = m.arguments; sequence = between.body; there = IsBody; outside = λ h. refl }
  has_outside path ks ps b (IsInBlock {k = k} {path = way} {ts = ts} {ss = ss} {e = c} found) =
      let place = method_place_rebuilt valued m k way (block ps ts ss c) valued_leaves found in
      record {
        known = known_in between (k ∷ way);
        parameters = ps;
        sequence = record { temporaries = ts; statements = rebuilt_statements (from_place (k ∷ way) valued) 0 ss; tail = c };
        there = IsInBlock (place.0 ∙ ap Some ((more_from (k ∷ way) valued valued_leaves).leaves.blocks [] ps ts (rebuilt_statements (from_place (k ∷ way) valued) 0 ss) c));
        outside = λ h. ap (λ zs. is_fixed zs x) place.1 ∙ once_outside m x k way ps ts ss c l.once found h;
      }

  module _ (ks : List Known) (ps : List Text) (b : SequenceOf Text) (there : IsSequenceAt m e.sequence ks ps b) where
    pub inlined_temporary_proper : IsProperMethod (temporary_inlined text_asked m x e) × ((temporary_inlined text_asked m x e).selector ≡ m.selector)
    inlined_temporary_proper =
        let o = has_outside e.sequence ks ps b there in (
          changed_proper (without e.number x) between e.sequence o.known o.parameters o.sequence o.there between_proper (λ q. without_proper o.known o.parameters o.sequence e.number x q o.outside),
          changed_selector (without e.number x) e.sequence between,
        )
