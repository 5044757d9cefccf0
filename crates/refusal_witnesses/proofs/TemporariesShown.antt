-- The conditions of temporaries hold just where what they speak of is there and nothing is in their way.
use Rattle.std.proofs.Common.{◌≡◌, ℕ, suc, List, [], ◌∷◌, ◌++◌, Option, Some, None, map, refl, ap, sym, ◌∙◌}
use Rattle.std.specs.Prelude.{Bool, true, false, cond, not, ◌&&◌, ◌||◌, ◌==◌, filter, length, is_some, option_and_then, option_map, take, slice_get}
use Rattle.std.specs.List.{list_any, list_all, flat_map}
use Rattle.std.specs.Option.{option_map_or}
use Rattle.tree_model.specs.Tree.{assign, MethodOf}
use Rattle.tree_model.specs.Nodes.{Placed, nodes}
use Rattle.scope_model.specs.Control.{is_empty}
use Rattle.scope_model.specs.FreeNames.{free_names}
use Rattle.image_model.specs.Image.{EntryOf, ImageOf}
use Rattle.image_model.specs.Means.{means}
use Rattle.rename_model.specs.NamesThere.{declared_by}
use Rattle.command_model.specs.SameMethods.{same_meaning}
use Rattle.command_model.specs.Asked.{AskedOf}
use Rattle.command_model.specs.Temporaries.{LetOf, declared_in, is_declared_once, only, reads_of, let_of}
use Rattle.command_model.specs.Places.{temporary_scope}
use Rattle.scope_model.specs.Scope.{local_in}
use Rattle.command_model.specs.InlineConditions.{makes_control}
use Rattle.command_model.specs.LetConditions.{let_path, is_let_form, is_value_kept, is_value_no_control}
use Rattle.refusal_witnesses.specs.Witnesses.{InMethod, WitnessOf, TwoMeanings, a_node, a_method, nodes_that}
use Rattle.refusal_witnesses.specs.InlineWitnesses.{above}
use Rattle.refusal_witnesses.specs.TemporaryWitnesses.{declares_it, declarations_at, declarations, further_declarations, is_assignment_of, no_let, changed_name, changed_at, changed_names, new_controls}
use Rattle.refusal_witnesses.proofs.Lists.{or-or, empty-append, empty-map, empty-filter, flat-none, flat-all, two-none, empty-unless}

any-append : {X : Type 0} (p : X → Bool) (xs ys : List X) → (list_any p xs || list_any p ys) ≡ list_any p (xs ++ ys)
any-append p [] ys = refl
any-append p (x ∷ xs) ys = by (p x) (any-append p xs ys)
  where
    by : (b : Bool) → (list_any p xs || list_any p ys) ≡ list_any p (xs ++ ys) → ((b || list_any p xs) || list_any p ys) ≡ (b || list_any p (xs ++ ys))
    by true h = refl
    by false h = h

any-flat : {X Y : Type 0} (p : Y → Bool) (f : X → List Y) (xs : List X) → list_any (λ x. list_any p (f x)) xs ≡ list_any p (flat_map f xs)
any-flat p f [] = refl
any-flat p f (x ∷ xs) = ap (λ b. list_any p (f x) || b) (any-flat p f xs) ∙ any-append p (f x) (flat_map f xs)

module _ {N : Type 0} (a : AskedOf N) where
  -- whether two names are the same
  abbrev same : N → N → Bool
  same = a.words.tests.same

  module _ (m : EntryOf N) (x : N) where
    abbrev placed : List (Placed N)
    placed = nodes m.tree.body

    abbrev in_blocks : List N
    in_blocks = flat_map (λ e. declared_by e.1) placed

    abbrev is_in_blocks : Bool
    is_in_blocks = list_any (λ e. list_any (same x) (declared_by e.1)) placed

    abbrev is_argument : Bool
    is_argument = list_any (same x) m.tree.arguments

    abbrev is_temporary : Bool
    is_temporary = list_any (same x) m.tree.body.temporaries

    abbrev wholes : List N → List (WitnessOf N)
    wholes names = map (λ y. a_method m) (filter (same x) names)

    empty-wholes : (names : List N) → is_empty (wholes names) ≡ not (list_any (same x) names)
    empty-wholes names = empty-map (λ (y : N). a_method m) (filter (same x) names) ∙ empty-filter (same x) names

    empty-blocks : is_empty (flat_map (declarations_at a m x) placed) ≡ not is_in_blocks
    empty-blocks =
        flat-none (declarations_at a m x) (λ e. list_any (same x) (declared_by e.1))
        (λ e. empty-map (λ (y : N). a_node (InMethod m) e.0) (filter (same x) (declared_by e.1)) ∙ empty-filter (same x) (declared_by e.1)) placed

    declared-somewhere : (is_argument || (is_temporary || is_in_blocks)) ≡ declares_it a m.tree x
    declared-somewhere =
        sym (or-or is_argument is_temporary is_in_blocks)
        ∙ ap (λ b. (is_argument || is_temporary) || b) (any-flat (same x) (λ (e : Placed N). declared_by e.1) placed)
        ∙ ap (λ b. b || list_any (same x) in_blocks) (any-append (same x) m.tree.arguments m.tree.body.temporaries)
        ∙ any-append (same x) (m.tree.arguments ++ m.tree.body.temporaries) in_blocks

    shows-declarations : is_empty (declarations a m x) ≡ not (declares_it a m.tree x)
    shows-declarations =
        two-none (wholes m.tree.arguments) (wholes m.tree.body.temporaries ++ flat_map (declarations_at a m x) placed) is_argument (is_temporary || is_in_blocks)
        (empty-wholes m.tree.arguments)
        (two-none (wholes m.tree.body.temporaries) (flat_map (declarations_at a m x) placed) is_temporary is_in_blocks (empty-wholes m.tree.body.temporaries) empty-blocks)
        ∙ ap not declared-somewhere

  -- what is private where it stands
  abbrev assigned_scope : MethodOf N → N → Placed N → Option ℕ
  assigned_scope m x (path, assign n t) = cond (same x n) (temporary_scope (local_in same a.words.tests.is_pseudo m path n)) None
  assigned_scope m x (path, t) = None

  abbrev let_at : Placed N → ℕ → Option (LetOf N)
  let_at (path, assign n t) scope =
      cond (length path == suc scope) (option_map (λ k. record { sequence = take scope path; number = k; value = t }) (slice_get path scope)) None
  let_at (path, t) scope = None

  abbrev once_let : MethodOf N → N → Option (LetOf N)
  once_let m x = option_and_then (λ e. option_and_then (let_at e) (assigned_scope m x e)) (only (filter (λ e. is_some (assigned_scope m x e)) (nodes m.body)))

  -- a method that declares a name once declares it
  once-declares : (m : MethodOf N) (x : N) → is_declared_once a m x ≡ true → declares_it a m x ≡ true
  once-declares m x h = by (filter (same x) (declared_in m)) (declares_it a m x) h (empty-filter (same x) (declared_in m))
    where
      by : (ys : List N) (b : Bool) → (length ys == 1) ≡ true → is_empty ys ≡ not b → b ≡ true
      by ys true h e = refl
      by [] false h e = absurd (cc)
      by (y ∷ ys) false h e = absurd (cc)

  pub shows-further-declarations : (m : EntryOf N) (x : N) → is_declared_once a m.tree x ≡ (declares_it a m.tree x && is_empty (further_declarations a m x))
  shows-further-declarations m x = by (is_declared_once a m.tree x) (declares_it a m.tree x) (once-declares m.tree x) (shows-declarations m x)
    where
      by : (b d : Bool) → (b ≡ true → d ≡ true) → is_empty (declarations a m x) ≡ not d → b ≡ (d && is_empty (cond b [] (declarations a m x)))
      by true d h e = sym (ap (λ t. t && true) (h refl))
      by false true h e = sym e
      by false false h e = refl

  module _ (i : ImageOf N) (m : EntryOf N) (x : N) where
    let-declared : is_some (let_of a m.tree x) ≡ true → is_declared_once a m.tree x ≡ true
    let-declared h = by (is_declared_once a m.tree x) h
      where
        by : (b : Bool) → is_some (cond b (once_let m.tree x) None) ≡ true → b ≡ true
        by true h = refl
        by false h = absurd (cc)

    pub shows-no-let : option_map_or (is_let_form a i m x) (let_of a m.tree x) false ≡ (declares_it a m.tree x && is_empty (no_let a i m x))
    shows-no-let = by (let_of a m.tree x) (declares_it a m.tree x) (λ h. once-declares m.tree x (let-declared h)) (shows-declarations m x)
      where
        either : (b : Bool) (v : WitnessOf N) (vs : List (WitnessOf N)) → b ≡ is_empty (cond b [] (v ∷ vs))
        either true v vs = refl
        either false v vs = refl

        none : (d : Bool) → is_empty (declarations a m x) ≡ not d → false ≡ (d && is_empty (declarations a m x ++ nodes_that (is_assignment_of a x) (InMethod m) m.tree.body))
        none false e = refl
        none true e = sym (empty-append (declarations a m x) (nodes_that (is_assignment_of a x) (InMethod m) m.tree.body) ∙ ap (λ b. b && is_empty (nodes_that (is_assignment_of a x) (InMethod m) m.tree.body)) e)

        by : (o : Option (LetOf N)) (d : Bool) → (is_some o ≡ true → d ≡ true) → is_empty (declarations a m x) ≡ not d → option_map_or (is_let_form a i m x) o false ≡ (d && is_empty (option_map_or (λ e. cond (is_let_form a i m x e) [] (a_node (InMethod m) (let_path e) ∷ map (a_node (InMethod m)) (reads_of a m.tree x))) o (declarations a m x ++ nodes_that (is_assignment_of a x) (InMethod m) m.tree.body)))
        by None d h e = none d e
        by (Some l) d h e =
            either (is_let_form a i m x l) (a_node (InMethod m) (let_path l)) (map (a_node (InMethod m)) (reads_of a m.tree x))
            ∙ sym (ap (λ t. t && is_empty (cond (is_let_form a i m x l) [] (a_node (InMethod m) (let_path l) ∷ map (a_node (InMethod m)) (reads_of a m.tree x)))) (h refl))

    pub shows-changed-names : (e : LetOf N) → is_value_kept a i m x e ≡ is_empty (changed_names a i m x e)
    shows-changed-names e =
        let names : List N = free_names a.words.tests.same a.words.tests.is_pseudo e.value in
        let alike : List ℕ → N → Bool = λ r n. same_meaning a.words.tests.same (means a.words i m (let_path e) n) (means a.words i m r n) in
        let shown : List ℕ → N → WitnessOf N = λ r n. TwoMeanings (InMethod m) r n (means a.words i m (let_path e) n) (means a.words i m r n) in
        sym (flat-all (changed_at a i m x e) (λ r. list_all (alike r) names)
        (λ r. flat-all (changed_name a i m x e r) (alike r) (λ n. empty-unless (alike r n) (shown r n)) names) (reads_of a m.tree x))

    pub shows-new-controls : (e : LetOf N) → is_value_no_control a i m x e ≡ is_empty (new_controls a i m x e)
    shows-new-controls e =
        let makes : List ℕ → Bool = λ r. makes_control a.words.tests.form m.tree r e.value in
        let shown : List ℕ → WitnessOf N = λ r. a_node (InMethod m) (above r) in
        sym (empty-map shown (filter makes (reads_of a m.tree x)) ∙ empty-filter makes (reads_of a m.tree x))
