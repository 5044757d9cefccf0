-- An image in which a temporary has another name is, once its names are resolved, the image before.
use Rattle.std.proofs.Common.{◌≡◌, ℕ, List, [], ◌∷◌, ◌++◌, Option, Some, None, slice_get, refl, sym, ap, ◌∙◌, arith}
use Rattle.std.specs.Prelude.{Bool, true, false, not, ◌&&◌, ◌||◌, if◌then◌else◌, map, option_and_then, option_map, unwrap_or}
use Rattle.std.specs.List.{AllByRecursion, list_any}
use Rattle.std.specs.Option.{option_map_or}
use Rattle.std.proofs.lemmas.Bool.{false≢true}
use Rattle.std.proofs.lemmas.Simd.{map-map}
use Rattle.std.proofs.lemmas.List.Folds.{list_any-append}
use Rattle.rb_base.specs.Names.{text_eq}
use Rattle.tree_model.specs.Tree.{LiteralOf, TreeOf, var, literal, send, cascade, assign, block, brace, return, TreesOf, MessagesOf, StatementsOf, no_statements, more_statements, SequenceOf, MethodOf}
use Rattle.tree_model.specs.Path.{part_in, statement_trees, nth}
use Rattle.tree_model.specs.Normal.{without_leading, without_leading_of, normal, normal_by}
use Rattle.tree_model.proofs.NormalLemmas.{bare_method-normal}
use Rattle.scope_model.specs.declared.local.Local.{Local}
use Rattle.scope_model.specs.declared.local.Local.TheVariants.{Argument, Temporary, NotLocal}
use Rattle.scope_model.specs.SpecialNames.{is_pseudo_variable}
use Rattle.scope_model.specs.Scope.{ScopeOf, PlacedScope, method_scope, scopes_round, local_by, local_in, entered}
use Rattle.same_trees.specs.SameTrees.{same_code}
use Rattle.image_model.specs.Image.{EntryOf, DoItOf, ImageOf}
use Rattle.image_model.specs.Words.{text_words}
use Rattle.image_model.specs.Lookup.{is_method}
use Rattle.image_model.specs.Means.{MeaningOf, pseudo, undeclared, means_by, means, means_outside}
use Rattle.image_model.specs.Valid.{HasNoRepeat, signature}
use Rattle.image_model.proofs.Lists.{length-map, map-all}
use Rattle.run_model.specs.Values.{Name}
use Rattle.run_model.proofs.Finite.{by_cases, and-true_left}
use Rattle.resolved_model.specs.Resolving.{MeantAt, place_at, resolved_doit}
use Rattle.resolved_model.specs.ResolvedImages.{plain_class, by_code, doing_of, resolved_entry, resolved_image}
use Rattle.resolved_model.specs.Environments.{declared_in, opened, statements_in, code_in}
use Rattle.resolved_model.proofs.LookupLemmas.{everywhere}
use Rattle.resolved_model.proofs.ResolvingLemmas.{meant_by, AreInScopes, method-resolved, doit-resolved}
use Rattle.mapped_model.proofs.NodesBelow.{among-first}
use Rattle.mapped_model.proofs.RenamedVariableLemmas.{all-at, at-all}
use Rattle.rename_model.specs.NamesThere.{is_named_in, is_named_in_method}
use Rattle.rename_model.specs.ClassRenamed.{WritingOf}
use Rattle.rename_laws.specs.BehindKernel.{is_fixed, AssignsNothingFixed, IsBehindKernel}
use Rattle.rename_laws.proofs.OwnMethods.{found-one}
use Rattle.rename_laws.proofs.Unnamed.{neither_left, neither_right, denied, node-unnamed}
use Rattle.command_model.specs.Asked.{text_asked}
use Rattle.command_model.specs.Walk.{Making, rebuilt_statements}
use Rattle.command_model.specs.Places.{is_local, users_method}
use Rattle.command_model.specs.Sequences.{retold, with_tree}
use Rattle.command_model.specs.Temporaries.{temporary_renamed}
use Rattle.command_model.specs.Commands.{RenameTemp}
use Rattle.command_model.specs.Conditions.{NotIn}
use Rattle.command_model.specs.Effects.{effect}
use Rattle.command_model.specs.Holds.{holds}
use Rattle.command_model.proofs.UsersMethods.{users-own}
use Rattle.temporary_laws.proofs.Declarations.{to, Lacks, opened-anew, lacks-opened}
use Rattle.temporary_laws.proofs.Walk.{alone, is_of_code, name_called, Calls, Fine, statements-kept}

-- comments in normal form make no difference once names are resolved
lines-normal : (g : Name → MeaningOf Name) (ps ts : List Name) (b : SequenceOf Name) → code_in g [] ps (without_leading b) ≡ code_in g [] ps b
lines-normal g ps ts b = by b.statements
  where
    by : (ss : StatementsOf Name) → code_in g [] ps (without_leading_of b.temporaries ss b.tail) ≡ code_in g [] ps (record b { statements = ss })
    by no_statements = refl
    by (more_statements c t ss) = refl

pub code-normal : (g : Name → MeaningOf Name) (m : MethodOf Name) (ts : List Name) → code_in g [] (normal_by ts m).arguments (normal_by ts m).body ≡ code_in g [] m.arguments m.body
code-normal g m [] = lines-normal g m.arguments m.body.temporaries m.body
code-normal g m (n ∷ ns) = refl

-- what is fixed is so where nothing stands outside
fixed-alone : (b : Bool) (l : Local) (g : MeaningOf Name) → is_fixed (if b then pseudo else means_by l g) ≡ false → is_fixed (if b then pseudo else means_by l undeclared) ≡ false
fixed-alone true l g e = e
fixed-alone false (Argument s) g e = e
fixed-alone false (Temporary s) g e = refl
fixed-alone false NotLocal g e = refl

-- a local is declared in code
local-told : (b : Bool) (l : Local) → is_local (if b then NotLocal else l) ≡ is_of_code (if b then pseudo else means_by (if b then NotLocal else l) undeclared)
local-told true l = refl
local-told false (Argument s) = refl
local-told false (Temporary s) = refl
local-told false NotLocal = refl

module _ (x y : Name) (m : EntryOf Name) where
  -- what names mean in the method where nothing stands outside
  abbrev within : MeantAt
  within path n = record { meaning = if is_pseudo_variable n then pseudo else means_by (local_in text_eq is_pseudo_variable m.tree path n) undeclared; place = place_at (method_scope m.tree) path n }

  -- nodes that are made anew, by their forms
  calls : (f : Making Name) → ((path : List ℕ) (n : Name) → f path (var n) ≡ var (name_called x y (within path n) n)) → ((path : List ℕ) (l : LiteralOf Name) → f path (literal l) ≡ literal l) →
      ((path : List ℕ) (r : TreeOf Name) (s : Name) (args : TreesOf Name) → f path (send r s args) ≡ send r s args) → ((path : List ℕ) (r : TreeOf Name) (ms : MessagesOf Name) → f path (cascade r ms) ≡ cascade r ms) →
      ((path : List ℕ) (n : Name) (t : TreeOf Name) → f path (assign n t) ≡ assign (name_called x y (within path n) n) t) →
      ((path : List ℕ) (ps ts : List Name) (ss : StatementsOf Name) (e : List (List ℕ)) → f path (block ps ts ss e) ≡ block (map (to x y) ps) (map (to x y) ts) ss e) →
      ((path : List ℕ) (ts : TreesOf Name) → f path (brace ts) ≡ brace ts) → ((path : List ℕ) (t : TreeOf Name) → f path (return t) ≡ return t) → Calls x y f within
  calls f v l s c a b r t path (var n) = v path n
  calls f v l s c a b r t path (literal k) = l path k
  calls f v l s c a b r t path (send q u args) = s path q u args
  calls f v l s c a b r t path (cascade q ms) = c path q ms
  calls f v l s c a b r t path (assign n u) = a path n u
  calls f v l s c a b r t path (block ps ts ss e) = b path ps ts ss e
  calls f v l s c a b r t path (brace ts) = r path ts
  calls f v l s c a b r t path (return u) = t path u

  -- the code of a method, with its names resolved where they mean this outside
  module _ (g : Name → MeaningOf Name) (proper : is_pseudo_variable y ≡ false) (unnamed : is_named_in_method text_eq y m ≡ false) (fixed : AssignsNothingFixed (λ path n. (within path n).meaning) m.tree.body) where
    abbrev code : ScopeOf Name
    code = method_scope m.tree

    abbrev round : List (PlacedScope Name)
    round = (0, code) ∷ []

    in-body : is_named_in text_eq y m.tree.body ≡ false
    in-body = neither_right (list_any (text_eq y) m.tree.arguments) _ unnamed

    -- names mean what the scopes say
    in-scopes : AreInScopes alone 1 (statement_trees code.statements) 0 round within
    in-scopes k l u path n e q =
        let here : l ≡ k = omega (arith, e) in
        ap (λ z. meant_by alone (unwrap_or (option_map (λ o. entered 1 o path) (nth (statement_trees code.statements) z)) [] ++ round) n) here
        ∙ ap (λ o. meant_by alone (unwrap_or (option_map (λ z. entered 1 z path) o) [] ++ round) n) q

    -- each node is fine
    all-fine : (path : List ℕ) (u : TreeOf Name) → part_in m.tree.body path ≡ Some u → Fine x y within path u
    all-fine path u q = (node-unnamed y y m.tree.body in-body path u q, λ n t e. fixed path n t (q ∙ ap Some e))

    lacks-first : Lacks x y (declared_in round)
    lacks-first =
        lacks-opened x y m.tree.arguments m.tree.body.temporaries []
        (list_any-append (text_eq y) m.tree.arguments m.tree.body.temporaries ∙ (λ k. neither_left (list_any (text_eq y) m.tree.arguments) _ unnamed k || neither_left (list_any (text_eq y) m.tree.body.temporaries) _ in-body k)) tt

    lines-kept : (f : Making Name) → Calls x y f within →
        statements_in g (opened (map (to x y) m.tree.arguments) (map (to x y) m.tree.body.temporaries) []) (rebuilt_statements f 0 m.tree.body.statements) ≡ statements_in g (opened m.tree.arguments m.tree.body.temporaries []) m.tree.body.statements
    lines-kept f c =
        ap (λ env. statements_in g env (rebuilt_statements f 0 m.tree.body.statements)) (opened-anew x y m.tree.arguments m.tree.body.temporaries [])
        ∙ statements-kept x y g proper m.tree.body.statements f 1 0 round within c in-scopes (among-first (Fine x y within) (statement_trees code.statements) all-fine) lacks-first

    -- the statements are resolved as before
    abbrev after : MethodOf Name
    after = temporary_renamed text_asked m.tree x y

    told : (path : List ℕ) (n : Name) → is_local (local_in text_eq is_pseudo_variable m.tree path n) ≡ is_of_code (within path n).meaning
    told path n = local-told (is_pseudo_variable n) (local_by text_eq (scopes_round code path) n)

    lines-after : statements_in g (opened after.arguments after.body.temporaries []) after.body.statements ≡ statements_in g (opened m.tree.arguments m.tree.body.temporaries []) m.tree.body.statements
    lines-after =
        lines-kept _
        (calls _ (λ path n. ap (λ b. var (if b then to x y n else n)) (told path n)) (λ path l. refl) (λ path r s args. refl) (λ path r ms. refl) (λ path n t. ap (λ b. assign (if b then to x y n else n) t) (told path n))
        (λ path ps ts ss e. refl) (λ path ts. refl) (λ path t. refl))

    -- so is the code
    pub code-after : code_in g [] after.arguments after.body ≡ code_in g [] m.tree.arguments m.tree.body
    code-after = λ k. record { parameters = length-map (to x y) m.tree.arguments k; temporaries = length-map (to x y) m.tree.body.temporaries k; statements = lines-after k }

module _ (writing : WritingOf Name) (c : Name) (meta : Bool) (s x y : Name) (i : ImageOf Name) where
  -- by the tree that the method is given
  module _ (tree : MethodOf Name) where
    -- the image after
    abbrev j : ImageOf Name
    j = with_tree text_eq writing c meta s tree i

    -- a method that is not changed
    other-kept : (m : EntryOf Name) → resolved_entry j m ≡ resolved_entry i m
    other-kept m = ap (λ d. record { class = m.class; meta = m.meta; selector = m.tree.selector; doing = d }) (by m.tree.primitive)
      where
        by : (p : Option ℕ) → doing_of j m p ≡ doing_of i m p
        by (Some k) = refl
        by None = ap by_code (method-resolved j m ∙ sym (method-resolved i m))

    -- a do-it
    doit-kept : (d : DoItOf Name) → resolved_doit j d ≡ resolved_doit i d
    doit-kept d = doit-resolved j d ∙ sym (doit-resolved i d)

    -- one that is
    module _ (m : EntryOf Name) (same : tree ≡ temporary_renamed text_asked m.tree x y) (proper : is_pseudo_variable y ≡ false) (unnamed : is_named_in_method text_eq y m ≡ false) (fixed : AssignsNothingFixed (means text_words i m) m.tree.body) where
      abbrev outside : Name → MeaningOf Name
      outside n = means_outside text_words i m.class m.meta n

      -- the method with its new tree
      abbrev anew : EntryOf Name
      anew = record m { tree = normal tree; source = writing.method_text (normal tree) }

      code-anew : code_in outside [] anew.tree.arguments anew.tree.body ≡ code_in outside [] m.tree.arguments m.tree.body
      code-anew =
          code-normal outside tree tree.body.temporaries ∙ ap (λ (t : MethodOf Name). code_in outside [] t.arguments t.body) same
          ∙ code-after x y m outside proper unnamed (λ path n t e. fixed-alone (is_pseudo_variable n) (local_in text_eq is_pseudo_variable m.tree path n) (outside n) (fixed path n t e))

      anew-kept : resolved_entry j anew ≡ resolved_entry i m
      anew-kept = λ k. record { class = m.class; meta = m.meta; selector = (ap (λ (t : MethodOf Name). t.selector) (bare_method-normal tree) ∙ ap (λ (t : MethodOf Name). t.selector) same) k; doing = doing k }
        where
          by : (p : Option ℕ) → doing_of j anew p ≡ doing_of i m p
          by (Some k) = refl
          by None = ap by_code (method-resolved j anew ∙ code-anew ∙ sym (method-resolved i m))

          doing : doing_of j anew anew.tree.primitive ≡ doing_of i m m.tree.primitive
          doing = ap (doing_of j anew) (ap (λ (t : MethodOf Name). t.primitive) (bare_method-normal tree) ∙ ap (λ (t : MethodOf Name). t.primitive) same) ∙ by m.tree.primitive

      retold-kept : resolved_entry j (retold text_eq writing m tree) ≡ resolved_entry i m
      retold-kept = by_cases (same_code text_eq m.tree (normal tree)) (λ t. ap (λ b. resolved_entry j (if b then m else anew)) t ∙ other-kept m) (λ f. ap (λ b. resolved_entry j (if b then m else anew)) f ∙ anew-kept)

  -- the image, where the method is found
  module _ (behind : IsBehindKernel i) (once : HasNoRepeat (map signature i.methods)) (proper : is_pseudo_variable y ≡ false) (n : EntryOf Name) (found : users_method text_eq i c meta s ≡ Some n) (unnamed : is_named_in_method text_eq y n ≡ false) where
    abbrev tree_after : MethodOf Name
    tree_after = temporary_renamed text_asked n.tree x y

    one-kept : (k : ℕ) (m : EntryOf Name) → slice_get i.methods k ≡ Some m → is_method text_eq c meta s m ≡ true → resolved_entry (j tree_after) (retold text_eq writing m tree_after) ≡ resolved_entry i m
    one-kept k m at h =
        let same = found-one c meta s i.methods once k m at h n (users-own text_eq i c meta s n found) in
        retold-kept tree_after m (ap (λ (e : EntryOf Name). temporary_renamed text_asked e.tree x y) same) proper (ap (is_named_in_method text_eq y) (sym same) ∙ unnamed)
        (all-at (λ (z : EntryOf Name). AssignsNothingFixed (means text_words i z) z.tree.body) i.methods k m behind.methods at)

    each : AllByRecursion (λ m. resolved_entry (j tree_after) (if is_method text_eq c meta s m && not m.kernel then retold text_eq writing m tree_after else m) ≡ resolved_entry i m) i.methods
    each =
        at-all _ i.methods
        (λ k m at. by_cases (is_method text_eq c meta s m && not m.kernel)
        (λ t. ap (λ b. resolved_entry (j tree_after) (if b then retold text_eq writing m tree_after else m)) t ∙ one-kept k m at (and-true_left (is_method text_eq c meta s m) (not m.kernel) t))
        (λ f. ap (λ b. resolved_entry (j tree_after) (if b then retold text_eq writing m tree_after else m)) f ∙ other-kept tree_after m))

    with-tree : resolved_image i ≡ resolved_image (j tree_after)
    with-tree = λ k. record { classes = map plain_class i.classes; methods = methods k; doits = doits k }
      where
        methods : map (resolved_entry i) i.methods ≡ map (resolved_entry (j tree_after)) (j tree_after).methods
        methods =
            sym (map-map (resolved_entry (j tree_after)) (λ m. if is_method text_eq c meta s m && not m.kernel then retold text_eq writing m tree_after else m) i.methods
            ∙ map-all (λ m. resolved_entry (j tree_after) (if is_method text_eq c meta s m && not m.kernel then retold text_eq writing m tree_after else m)) (resolved_entry i) i.methods each)

        doits : map (resolved_doit i) i.doits ≡ map (resolved_doit (j tree_after)) (j tree_after).doits
        doits = sym (map-all (resolved_doit (j tree_after)) (resolved_doit i) i.doits (everywhere _ (doit-kept tree_after) i.doits))

  -- the image after the command, where the new name is not in the method
  pub image-kept : IsBehindKernel i → HasNoRepeat (map signature i.methods) → is_pseudo_variable y ≡ false → holds text_asked i (RenameTemp c meta s x y) (NotIn c meta s y) ≡ true → resolved_image i ≡ resolved_image (effect text_asked writing (RenameTemp c meta s x y) i)
  image-kept behind once proper free = by (users_method text_eq i c meta s) refl free
    where
      by : (o : Option (EntryOf Name)) → users_method text_eq i c meta s ≡ o → option_map_or (λ m. not (is_named_in_method text_eq y m)) o false ≡ true →
          resolved_image i ≡ resolved_image (unwrap_or (option_map (λ tree. with_tree text_eq writing c meta s tree i) (option_and_then (λ (m : EntryOf Name). Some (temporary_renamed text_asked m.tree x y)) o)) i)
      by None q e = absurd (false≢true e)
      by (Some n) q e = with-tree behind once proper n q (denied (is_named_in_method text_eq y n) e)
