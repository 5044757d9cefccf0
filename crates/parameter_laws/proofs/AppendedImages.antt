-- An image whose selector has one more argument: without it, it is the image before, once names are resolved.
use Rattle.std.proofs.Common.{◌≡◌, ℕ, ◌-◌, ◌<◌, List, [], ◌∷◌, ◌++◌, length, Option, Some, None, refl, sym, ap, ◌∙◌, subst, arith, length-append}
use Rattle.std.specs.Prelude.{Bool, true, false, ◌||◌, if◌then◌else◌, map}
use Rattle.std.specs.List.{AllByRecursion, list_any}
use Rattle.std.specs.Option.{option_map_or}
use Rattle.std.proofs.lemmas.Bool.{false≢true}
use Rattle.rb_base.specs.Names.{text_eq}
use Rattle.tree_model.specs.Tree.{TreeOf, TreesOf, no_trees, more_trees, SequenceOf}
use Rattle.tree_model.specs.Path.{append, part_in}
use Rattle.tree_model.specs.Nodes.{Placed, nodes}
use Rattle.tree_model.proofs.NodesLemmas.{Contains-part_in}
use Rattle.std.proofs.lemmas.List.Elements.{All-contains, All-from_recursion}
use Rattle.image_model.specs.Image.{EntryOf, DoItOf, ImageOf}
use Rattle.image_model.specs.Words.{text_words}
use Rattle.image_model.specs.Means.{MeaningOf, means_outside}
use Rattle.image_model.specs.Uses.{name_used}
use Rattle.run_model.specs.Values.{Name}
use Rattle.run_model.specs.Runs.{doit_class}
use Rattle.run_model.proofs.Finite.{by_cases}
use Rattle.resolved_model.specs.ResolvedTrees.{ResolvedCode}
use Rattle.resolved_model.specs.Resolving.{resolved_doit}
use Rattle.resolved_model.specs.ResolvedImages.{by_code, doing_of, resolved_entry, resolved_image}
use Rattle.rename_model.specs.ClassRenamed.{WritingOf}
use Rattle.rename_model.specs.NamesThere.{declared_by, is_named_by, is_named_in}
use Rattle.argument_laws.specs.ArgumentGone.{code_without, gap_in, doing_without, method_without, image_without}
use Rattle.argument_laws.specs.PlainArguments.{IsAmongParameters, LinesMayLose, DoingMayLose, ImageMayLose}
use Rattle.resolved_model.specs.Environments.{opened, code_in}
use Rattle.resolved_model.proofs.ResolvingLemmas.{method-resolved, doit-resolved}
use Rattle.rename_laws.proofs.Unnamed.{neither_left, neither_right, each-fails}
use Rattle.parameter_laws.specs.ArgumentsChanged.{sequence_passing, method_after, doit_after, argument_appended}
use Rattle.parameter_laws.specs.Arities.{PassesAsMany, MethodMayTake, MayTakeMore}
use Rattle.parameter_laws.proofs.GapsInNames.{Closes, closes-none, Hidden, last-hidden, last-gone}
use Rattle.parameter_laws.proofs.AtomTrees.{is_atom_tree}
use Rattle.parameter_laws.proofs.EachNode.{EachLines, sequence-each}
use Rattle.parameter_laws.proofs.AppendedTrees.{NodeFits, lines-more}

module _ (s x : Name) (k : ℕ) (a : TreeOf Name) (atom : is_atom_tree a ≡ true) where
  -- the gap, by whether a selector is the one
  abbrev gap_by : Bool → Option ℕ
  gap_by b = if b then Some k else None

  -- which names may be used there
  abbrev MayBy : Bool → Name → Type 0
  MayBy true n = text_eq x n ≡ false
  MayBy false n = Unit {0}

  -- what messages pass
  abbrev pass : TreesOf Name → TreesOf Name
  pass args = append args (more_trees a no_trees)

  -- what methods take
  abbrev take : List Name → List Name
  take ns = ns ++ x ∷ []

  -- no node of a sequence has the name
  node-unnamed : (b : SequenceOf Name) → is_named_in text_eq x b ≡ false → (path : List ℕ) (u : TreeOf Name) → part_in b path ≡ Some u → is_named_by text_eq x u ≡ false
  node-unnamed b e path u q =
      All-contains (λ (p : Placed Name). is_named_by text_eq x p.1 ≡ false) (nodes b) (path, u)
      (All-from_recursion (λ (p : Placed Name). is_named_by text_eq x p.1 ≡ false) (nodes b) (each-fails (λ (p : Placed Name). is_named_by text_eq x p.1) (nodes b) (neither_right (list_any (text_eq x) b.temporaries) (list_any (λ (p : Placed Name). is_named_by text_eq x p.1) (nodes b)) e)))
      (Contains-part_in b path u q)

  -- the name that a node reads or assigns
  used-other : (u : TreeOf Name) → is_named_by text_eq x u ≡ false → (n : Name) → name_used u ≡ Some n → text_eq x n ≡ false
  used-other u e n q = ap (λ o. option_map_or (text_eq x) o false) (sym q) ∙ neither_left (option_map_or (text_eq x) (name_used u) false) (list_any (text_eq x) (declared_by u)) e

  module _ (g : Name → MeaningOf Name) where
    -- each node of code fits, by whether it is that of a method of the selector
    lines-fit : (b : Bool) (args : List Name) (body : SequenceOf Name) → PassesAsMany text_eq s k body → (b ≡ true → (list_any (text_eq x) args || is_named_in text_eq x body) ≡ false) → EachLines (NodeFits g s k a atom (MayBy b)) body.statements
    lines-fit true args body h e =
        sequence-each (NodeFits g s k a atom (MayBy true)) body
        (λ path u q. record { passed = h path u q; may = used-other u (node-unnamed body (neither_right (list_any (text_eq x) args) (is_named_in text_eq x body) (e refl)) path u q) })
    lines-fit false args body h e = sequence-each (NodeFits g s k a atom (MayBy false)) body (λ path u q. record { passed = h path u q; may = λ n p. tt })

    -- code with one more argument, by whether it is that of a method of the selector
    code-more : (b : Bool) (args : List Name) (body : SequenceOf Name) → PassesAsMany text_eq s k body → (b ≡ true → length args ≡ k) → (b ≡ true → (list_any (text_eq x) args || is_named_in text_eq x body) ≡ false) →
        let c = code_in g [] (if b then take args else args) (sequence_passing text_eq s pass body) in
        (IsAmongParameters (gap_by b) c.parameters × LinesMayLose s k (gap_by b) c.statements) × (code_in g [] args body ≡ code_without s k (gap_by b) c)
    code-more true args body h many e =
        let gone = subst (λ n. Closes (Some n) (opened (take args) body.temporaries []) (opened args body.temporaries [])) (many refl) (last-gone x args body.temporaries) in
        let hidden = subst (λ n. Hidden (MayBy true) (Some n) (opened (take args) body.temporaries [])) (many refl) (last-hidden x args body.temporaries) in
        let both = lines-more g s k a atom (MayBy true) body.statements (Some k) (opened args body.temporaries []) (opened (take args) body.temporaries []) gone hidden (lines-fit true args body h e) in
        let longer = length-append args (x ∷ []) in
        let size : length args ≡ k = many refl in
        let one_fewer : length args ≡ length (take args) - 1 = omega arith in
        let among : k < length (take args) = omega arith in
        ((among, both.0), λ i. record { parameters = one_fewer i; temporaries = length body.temporaries; statements = both.1 i })
    code-more false args body h many e =
        let env = opened args body.temporaries [] in
        let both = lines-more g s k a atom (MayBy false) body.statements None env env (closes-none env) (λ n p. refl) (lines-fit false args body h e) in
        ((tt, both.0), λ i. record { parameters = length args; temporaries = length body.temporaries; statements = both.1 i })

  module _ (writing : WritingOf Name) (i : ImageOf Name) where
    -- the image after
    abbrev pub j : ImageOf Name
    j = argument_appended text_eq writing s x a i

    -- a method after, and a do-it
    abbrev after : EntryOf Name → EntryOf Name
    after m = method_after text_eq s pass writing take m

    abbrev doit_then : DoItOf Name → DoItOf Name
    doit_then d = doit_after text_eq s pass writing take d

    -- what a method does, by whether it is a primitive
    doing-more : (m : EntryOf Name) → MethodMayTake s x k m → (p : Option ℕ) → m.tree.primitive ≡ p →
        DoingMayLose s k m.tree.selector (doing_of j (after m) p) × (doing_of i m p ≡ doing_without s k m.tree.selector (doing_of j (after m) p))
    doing-more m h (Some n) e = (by_cases (text_eq s m.tree.selector) (λ t. absurd (unlike (sym e ∙ h.no_primitive t))) (λ f. f), refl)
      where
        unlike : Some n ≡ None → ⊥
        unlike q = cc
    doing-more m h None e =
        let g : Name → MeaningOf Name = λ n. means_outside text_words i m.class m.meta n in
        let both = code-more g (text_eq s m.tree.selector) m.tree.arguments m.tree.body h.passed h.taken h.unnamed in
        let after-is = method-resolved j (after m) in (
          subst (λ (c : ResolvedCode). IsAmongParameters (gap_in s k m.tree.selector) c.parameters × LinesMayLose s k (gap_in s k m.tree.selector) c.statements) (sym after-is) both.0,
          ap by_code (method-resolved i m ∙ both.1 ∙ ap (code_without s k (gap_in s k m.tree.selector)) (sym after-is)),
        )

    -- methods
    methods-more : (ms : List (EntryOf Name)) → AllByRecursion (MethodMayTake s x k) ms →
        AllByRecursion (λ (m : _). DoingMayLose s k m.selector m.doing) (map (resolved_entry j) (map after ms)) × (map (resolved_entry i) ms ≡ map (method_without s k) (map (resolved_entry j) (map after ms)))
    methods-more [] h = (tt, refl)
    methods-more (m ∷ ms) h =
        let own = doing-more m h.0 m.tree.primitive refl in
        let rest = methods-more ms h.1 in
        ((own.0, rest.0), λ n. record { class = m.class; meta = m.meta; selector = m.tree.selector; doing = own.1 n } ∷ rest.1 n)

    -- a do-it
    doit-more : (d : DoItOf Name) → PassesAsMany text_eq s k d.body → LinesMayLose s k None (resolved_doit j (doit_then d)).statements × (resolved_doit i d ≡ code_without s k None (resolved_doit j (doit_then d)))
    doit-more d h =
        let both = code-more (λ n. means_outside text_words i (doit_class i) false n) false [] d.body h (λ e. absurd (false≢true e)) (λ e. absurd (false≢true e)) in
        let after-is = doit-resolved j (doit_then d) in
        (subst (λ (c : ResolvedCode). LinesMayLose s k None c.statements) (sym after-is) both.0.1, doit-resolved i d ∙ both.1 ∙ ap (code_without s k None) (sym after-is))

    -- do-its
    doits-more : (ds : List (DoItOf Name)) → AllByRecursion (λ (d : DoItOf Name). PassesAsMany text_eq s k d.body) ds →
        AllByRecursion (λ (c : ResolvedCode). LinesMayLose s k None c.statements) (map (resolved_doit j) (map doit_then ds)) × (map (resolved_doit i) ds ≡ map (code_without s k None) (map (resolved_doit j) (map doit_then ds)))
    doits-more [] h = (tt, refl)
    doits-more (d ∷ ds) h =
        let own = doit-more d h.0 in
        let rest = doits-more ds h.1 in
        ((own.0, rest.0), λ n. own.1 n ∷ rest.1 n)

    -- the image
    pub may-lose : MayTakeMore s x k i → ImageMayLose s k (resolved_image j)
    may-lose h = record { methods = (methods-more i.methods h.methods).0; doits = (doits-more i.doits h.doits).0 }

    pub image-before : MayTakeMore s x k i → resolved_image i ≡ image_without s k (resolved_image j)
    image-before h = λ n. record {
      classes = (resolved_image i).classes;
      methods = (methods-more i.methods h.methods).1 n;
      doits = (doits-more i.doits h.doits).1 n;
    }
