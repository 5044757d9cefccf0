-- An image whose selector has an argument that is not read, and is passed as something plain, may lose it.
use Rattle.std.proofs.Common.{◌≡◌, ℕ, ◌<◌, List, [], ◌∷◌, ◌++◌, length, Option, Some, None, refl, sym, ap, ◌∙◌, subst, arith}
use Rattle.std.specs.Prelude.{Bool, true, false, if◌then◌else◌, map, option_map, unwrap_or}
use Rattle.std.specs.List.{AllByRecursion, list_any}
use Rattle.std.proofs.lemmas.Bool.{false≢true}
use Rattle.std.proofs.lemmas.List.Elements.{All-contains, All-from_recursion}
use Rattle.rb_base.specs.Names.{text_eq}
use Rattle.tree_model.specs.Tree.{TreeOf, SequenceOf}
use Rattle.tree_model.specs.Path.{nth, statement_trees, part_in}
use Rattle.tree_model.specs.Nodes.{Placed, nodes}
use Rattle.tree_model.proofs.NodesLemmas.{Contains-part_in}
use Rattle.scope_model.specs.Scope.{ScopeOf, entered}
use Rattle.image_model.specs.Image.{EntryOf, DoItOf, ImageOf}
use Rattle.image_model.specs.Words.{text_words}
use Rattle.image_model.specs.Means.{MeaningOf, means_outside, means, means_in_doit}
use Rattle.run_model.specs.Values.{Name}
use Rattle.run_model.specs.Runs.{doit_class}
use Rattle.run_model.proofs.Finite.{by_cases}
use Rattle.resolved_model.specs.ResolvedTrees.{ResolvedCode}
use Rattle.resolved_model.specs.Resolving.{MeantAt, meant_in, meant_in_doit, resolved_doit}
use Rattle.resolved_model.specs.ResolvedImages.{doing_of, resolved_entry, resolved_image}
use Rattle.mapped_model.proofs.NodesBelow.{among-first}
use Rattle.argument_laws.specs.ArgumentGone.{gap_in}
use Rattle.argument_laws.specs.PlainArguments.{IsAmongParameters, LinesMayLose, DoingMayLose, ImageMayLose}
use Rattle.resolved_model.specs.Environments.{opened, statements_in}
use Rattle.resolved_model.proofs.ResolvingLemmas.{meant_by, AreInScopes, method-resolved, doit-resolved}
use Rattle.rename_laws.proofs.Unnamed.{each-fails}
use Rattle.parameter_laws.proofs.Reading.{reads_argument, HasNoPrimitive}
use Rattle.parameter_laws.proofs.PlainStrictly.{node_plain}
use Rattle.parameter_laws.proofs.UnreadCarried.{method-gap, Plain, Unread, lines-may}

-- a test that no node passes
pub node-fails : (p : Placed Name → Bool) (b : SequenceOf Name) → list_any p (nodes b) ≡ false → (path : List ℕ) (u : TreeOf Name) → part_in b path ≡ Some u → p (path, u) ≡ false
node-fails p b e path u q = All-contains (λ x. p x ≡ false) (nodes b) (path, u) (All-from_recursion (λ x. p x ≡ false) (nodes b) (each-fails p (nodes b) e)) (Contains-part_in b path u q)

module _ (s : Name) (k : ℕ) where
  -- the gap, by whether a selector is the one
  abbrev gap_by : Bool → Option ℕ
  gap_by b = if b then Some k else None

  -- what each message in code passes for the argument is plain
  abbrev pub IsPlainCode : (List ℕ → Name → MeaningOf Name) → SequenceOf Name → Type 0
  IsPlainCode at body = (path : List ℕ) (u : TreeOf Name) → part_in body path ≡ Some u → node_plain s k (at path) u ≡ true

  -- code of a method that has the argument and does not read it
  abbrev pub IsUnread : List Name → (List ℕ → Name → MeaningOf Name) → SequenceOf Name → Type 0
  IsUnread args at body = (k < length args) × ((path : List ℕ) (u : TreeOf Name) → part_in body path ≡ Some u → reads_argument k args (at path) u ≡ false)

  module _ (g : Name → MeaningOf Name) (args : List Name) (body : SequenceOf Name) (at : MeantAt) where
    -- the code as a scope
    abbrev scope : ScopeOf Name
    scope = record { arguments = args; temporaries = body.temporaries; statements = body.statements }

    -- names mean what they mean in it
    abbrev MeansThere : Type 0
    MeansThere = (m : ℕ) (path : List ℕ) (n : Name) → at (m ∷ path) n ≡ meant_by g (unwrap_or (option_map (λ c. entered 1 c path) (nth (statement_trees body.statements) m)) [] ++ (0, scope) ∷ []) n

    in-scopes : MeansThere → AreInScopes g 1 (statement_trees body.statements) 0 ((0, scope) ∷ []) at
    in-scopes h j m c path n e q =
        let here : m ≡ j = omega (arith, e) in
        h m path n ∙ ap (λ x. meant_by g (unwrap_or (option_map (λ c. entered 1 c path) (nth (statement_trees body.statements) x)) [] ++ (0, scope) ∷ []) n) here
        ∙ ap (λ o. meant_by g (unwrap_or (option_map (λ c. entered 1 c path) o) [] ++ (0, scope) ∷ []) n) q

    -- code whose messages pass something plain, by whether it is that of a method of the selector, which does not read the argument
    code-may : (b : Bool) → MeansThere → IsPlainCode (λ path n. (at path n).meaning) body → (b ≡ true → IsUnread args (λ path n. (at path n).meaning) body) →
        IsAmongParameters (gap_by b) (length args) × LinesMayLose s k (gap_by b) (statements_in g (opened args body.temporaries []) body.statements)
    code-may true h plain unread = (
      (unread refl).0,
      lines-may g s k args body.statements (Some k) 1 0 ((0, scope) ∷ []) at (in-scopes h) (method-gap k scope (unread refl).0) (among-first (Plain g s k args at) (statement_trees body.statements) plain)
          (among-first (Unread g s k args (Some k) at) (statement_trees body.statements) (unread refl).1),
    )
    code-may false h plain unread = (
      tt,
      lines-may g s k args body.statements None 1 0 ((0, scope) ∷ []) at (in-scopes h) (λ n q. absurd (false≢true q)) (among-first (Plain g s k args at) (statement_trees body.statements) plain)
          (among-first (Unread g s k args None at) (statement_trees body.statements) (λ path u q. tt)),
    )

  module _ (i : ImageOf Name) where
    -- a method, which does not read the argument if it is one of the selector
    abbrev pub IsUnreadMethod : EntryOf Name → Type 0
    IsUnreadMethod m = text_eq s m.tree.selector ≡ true → IsUnread m.tree.arguments (means text_words i m) m.tree.body

    -- what a method does
    doing-may : (m : EntryOf Name) → IsPlainCode (means text_words i m) m.tree.body → IsUnreadMethod m → HasNoPrimitive s m → (p : Option ℕ) → m.tree.primitive ≡ p → DoingMayLose s k m.tree.selector (doing_of i m p)
    doing-may m plain unread own (Some n) e = by_cases (text_eq s m.tree.selector) (λ t. absurd (unlike (sym e ∙ own t))) (λ f. f)
      where
        unlike : Some n ≡ None → ⊥
        unlike q = cc
    doing-may m plain unread own None e =
        let g : Name → MeaningOf Name = λ n. means_outside text_words i m.class m.meta n in
        subst (λ (c : ResolvedCode). IsAmongParameters (gap_in s k m.tree.selector) c.parameters × LinesMayLose s k (gap_in s k m.tree.selector) c.statements) (sym (method-resolved i m))
        (code-may g m.tree.arguments m.tree.body (meant_in i m) (text_eq s m.tree.selector) (λ j path n. refl) plain unread)

    -- methods
    methods-may : (ms : List (EntryOf Name)) → AllByRecursion (λ (m : EntryOf Name). IsPlainCode (means text_words i m) m.tree.body) ms → AllByRecursion IsUnreadMethod ms → AllByRecursion (HasNoPrimitive s) ms → AllByRecursion (λ (m : _). DoingMayLose s k m.selector m.doing) (map (resolved_entry i) ms)
    methods-may [] p u o = tt
    methods-may (m ∷ ms) p u o = (doing-may m p.0 u.0 o.0 m.tree.primitive refl, methods-may ms p.1 u.1 o.1)

    -- a do-it
    doit-may : (d : DoItOf Name) → IsPlainCode (means_in_doit text_words i d) d.body → LinesMayLose s k None (resolved_doit i d).statements
    doit-may d plain =
        subst (λ (c : ResolvedCode). LinesMayLose s k None c.statements) (sym (doit-resolved i d))
        (code-may (λ n. means_outside text_words i (doit_class i) false n) [] d.body (meant_in_doit i d) false (λ j path n. refl) plain (λ e. absurd (false≢true e))).1

    -- do-its
    doits-may : (ds : List (DoItOf Name)) → AllByRecursion (λ (d : DoItOf Name). IsPlainCode (means_in_doit text_words i d) d.body) ds → AllByRecursion (λ (c : ResolvedCode). LinesMayLose s k None c.statements) (map (resolved_doit i) ds)
    doits-may [] p = tt
    doits-may (d ∷ ds) p = (doit-may d p.0, doits-may ds p.1)

    -- the image
    pub image-may : AllByRecursion (λ (m : EntryOf Name). IsPlainCode (means text_words i m) m.tree.body) i.methods → AllByRecursion (λ (d : DoItOf Name). IsPlainCode (means_in_doit text_words i d) d.body) i.doits →
        AllByRecursion IsUnreadMethod i.methods → AllByRecursion (HasNoPrimitive s) i.methods → ImageMayLose s k (resolved_image i)
    image-may plain rest unread own = record { methods = methods-may i.methods plain unread own; doits = doits-may i.doits rest }
