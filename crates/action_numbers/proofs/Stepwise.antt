-- The steps of composites.
use Rattle.std.proofs.Common.{◌≡◌, ◌↔◌, Bool, true, false, not, cond, ◌&&◌, ℕ, suc, ◌<◌, List, [], ◌∷◌, length, map, filter, arith, Option, Some, None, option_map, Contains, All, IsTrue, nat_eq, nat_lt, refl, sym, ap, ◌∙◌}
use Rattle.std.specs.List.{AllByRecursion, list_any, list_all}
use Rattle.std.specs.Option.{option_map_or}
use Rattle.std.proofs.lemmas.List.Elements.{All-contains}
use Rattle.std.proofs.lemmas.Bool.{lt-ltb, ltb-true}
use Rattle.rb_base.specs.Names.{HasNoTwice, name_at, text_eq}
use Rattle.tree_model.specs.Tree.{TreeOf, var, literal, send, cascade, assign, block, brace, return, SequenceOf, map_names, map_sequence}
use Rattle.tree_model.specs.AllNames.{SequenceNames, MethodNames}
use Rattle.tree_model.specs.Nodes.{Placed, nodes}
use Rattle.tree_model.proofs.AllNamesLemmas.{SequenceNames-implies}
use Rattle.tree_model.proofs.NodesLemmas.{nodes-map_sequence}
use Rattle.scope_model.proofs.ListsOfNames.{filter-map}
use Rattle.image_model.specs.Image.{ClassOf, EntryOf, ImageOf, map_class, map_entry, map_image}
use Rattle.image_model.specs.ImageNames.{OptionNames, ClassNames, EntryNames, ImageNames}
use Rattle.image_model.specs.Chain.{class_named}
use Rattle.image_model.specs.Means.{of_instance}
use Rattle.image_model.specs.Uses.{name_used}
use Rattle.image_model.proofs.Lists.{all-implies, map-all, find-map, find-all, any-map}
use Rattle.image_model.proofs.Tables.{KeepsWords-number_words}
use Rattle.rename_model.specs.ClassRenamed.{canonical}
use Rattle.rename_model.specs.Conditions.{has_variable}
use Rattle.command_model.specs.PartsOfText.{parts_of_text}
use Rattle.commands.specs.Views.{self_in}
use Rattle.command_model.specs.Commands.{CommandOf, AddClass, AddInstVar, PushUpInstVar, PushUpMethod}
use Rattle.command_model.specs.Conditions.{HasVariable}
use Rattle.command_model.specs.Hierarchy.{is_method_of}
use Rattle.command_model.specs.Numbers.{number_writing}
use Rattle.command_numbers.specs.CommandNames.{CommandNames}
use Rattle.command_numbers.specs.MappedCommands.{map_command}
use Rattle.session_model.specs.Actions.{ActionOf, Single, CreateAccessors, ExtractSuperclass, PushUpWithMethods}
use Rattle.session_model.specs.Steps.{names_it, shared_by, shared_pushes, steps_of}
use Rattle.mentions.specs.Mentions.{code_names}
use Rattle.commands.specs.Actions.{ActionNames, map_action}
use Rattle.action_numbers.proofs.Own.{HoldsByNumbers}

-- the names that stand in the nodes of a body, as they are listed
abbrev pub Used : Type 0
Used = (b : SequenceOf ℕ) (path : List ℕ) (t : TreeOf ℕ) (n : ℕ) → Contains (nodes b) (path, t) → name_used t ≡ Some n → Contains (code_names b) n

abbrev pub Complete : Type 0
Complete = (p : ℕ → Bool) (b : SequenceOf ℕ) → SequenceNames (λ n. IsTrue (p n)) b ↔ All (λ n. IsTrue (p n)) (code_names b)

-- a fact of each item that is there
all-there : {X : Type 0} (P : X → Type 0) (xs : List X) → ((x : X) → Contains xs x → P x) → AllByRecursion P xs
all-there P [] h = tt
all-there P (x ∷ xs) h = (h x (0, omega arith, refl), all-there P xs (λ y c. h y (suc c.0, omega (arith, c.1), c.2)))

-- what is kept of items that have a fact
all-kept : {X : Type 0} (P : X → Type 0) (q : X → Bool) (xs : List X) → AllByRecursion P xs → AllByRecursion P (filter q xs)
all-kept P q [] a = tt
all-kept P q (x ∷ xs) a = by (q x) (all-kept P q xs a.1)
  where
    by : (b : Bool) → AllByRecursion P (filter q xs) → AllByRecursion P (cond b (x ∷ filter q xs) (filter q xs))
    by true rest = (a.0, rest)
    by false rest = rest

-- lists of commands, with each name changed
pushes-map : {M N : Type 0} (f : M → N) (s : M) (xs : List M) → map (PushUpInstVar (f s)) (map f xs) ≡ map (map_command f) (map (PushUpInstVar s) xs)
pushes-map f s [] = refl
pushes-map f s (x ∷ xs) = λ j. PushUpInstVar (f s) (f x) ∷ pushes-map f s xs j

moves-map : {M N : Type 0} (f : M → N) (c : M) (ms : List (EntryOf M))
    → map (λ (m : EntryOf N). PushUpMethod (f c) false m.tree.selector) (map (map_entry f) ms) ≡ map (map_command f) (map (λ (m : EntryOf M). PushUpMethod c false m.tree.selector) ms)
moves-map f c [] = refl
moves-map f c (m ∷ ms) = λ j. PushUpMethod (f c) false (f m.tree.selector) ∷ moves-map f c ms j

module _ (names : List (List ℕ)) (i : ImageOf ℕ) where
  -- the number is that of a name
  abbrev Known : ℕ → Type 0
  Known n = n < length names

  known-shared : ImageNames Known i → (s : ℕ) (others : List ℕ) → AllByRecursion Known (shared_by nat_eq i s others)
  known-shared known s others = all-kept Known _ _ (by (class_named nat_eq i.classes s) (find-all (ClassNames Known) (λ (e : ClassOf ℕ). nat_eq s e.name) i.classes known.classes))
    where
      by : (o : Option (ClassOf ℕ)) → OptionNames (ClassNames Known) o → AllByRecursion Known (option_map_or (λ (e : ClassOf ℕ). e.instance) o [])
      by None h = tt
      by (Some e) h = h.instance

  known-pushes : (s : ℕ) → Known s → (xs : List ℕ) → AllByRecursion Known xs → AllByRecursion (CommandNames Known) (map (PushUpInstVar s) xs)
  known-pushes s h [] a = tt
  known-pushes s h (x ∷ xs) a = ((h, a.0), known-pushes s h xs a.1)

  known-moves : (c : ℕ) → Known c → (ms : List (EntryOf ℕ)) → AllByRecursion (EntryNames Known) ms → AllByRecursion (CommandNames Known) (map (λ (m : EntryOf ℕ). PushUpMethod c false m.tree.selector) ms)
  known-moves c h [] a = tt
  known-moves c h (m ∷ ms) a = ((h, a.0.tree.selector), known-moves c h ms a.1)

  pub steps-known : ImageNames Known i → (action : ActionOf ℕ) → ActionNames Known action → AllByRecursion (CommandNames Known) (steps_of nat_eq i (number_writing names) action)
  steps-known known (Single command) h = (h, tt)
  steps-known known (CreateAccessors c x s parameter) h = (
    (h.0, record { selector = h.1; arguments = tt; body = record { temporaries = tt; statements = (h.1, tt) } }),
    ((h.0, record { selector = h.2; arguments = (h.3, tt); body = record { temporaries = tt; statements = ((h.1, h.3), tt) } }), tt),
  )
  steps-known known (ExtractSuperclass d p under) h = (h, by under h.2)
    where
      by : (ss : List ℕ) → AllByRecursion Known ss → AllByRecursion (CommandNames Known) (shared_pushes nat_eq i ss)
      by [] a = tt
      by (s ∷ others) a = known-pushes s a.0 (shared_by nat_eq i s others) (known-shared known s others)
  steps-known known (PushUpWithMethods c x) h = (h, known-moves c h.0 (filter (names_it nat_eq c x) i.methods) (all-kept (EntryNames Known) (names_it nat_eq c x) i.methods known.methods))

  module _ (law : HoldsByNumbers) (used : Used) (complete : Complete) (distinct : HasNoTwice names) (known : ImageNames Known i) where
    abbrev text : ℕ → List ℕ
    text = name_at names

    -- two names are one where their texts are
    same-name : (m n : ℕ) → Known m → Known n → text_eq (text m) (text n) ≡ nat_eq m n
    same-name m n h k = (KeepsWords-number_words names distinct).tests.same m n h k

    -- the class of a name
    class-there : (s : ℕ) → Known s → class_named text_eq (map (map_class text) i.classes) (text s) ≡ option_map (map_class text) (class_named nat_eq i.classes s)
    class-there s h =
        find-map (map_class text) (λ (e : ClassOf ℕ). nat_eq s e.name) (λ (e : ClassOf (List ℕ)). text_eq (text s) e.name) i.classes
        (all-implies (ClassNames Known) (λ (e : ClassOf ℕ). text_eq (text s) (text e.name) ≡ nat_eq s e.name) (λ e k. same-name s e.name h k.name) i.classes known.classes)

    -- whether a class has a variable, and whether others have it
    variable-there : (t x : ℕ) → Known t → Known x → has_variable text_eq (map_image text i) of_instance (text t) (text x) ≡ has_variable nat_eq i of_instance t x
    variable-there t x h k = law names (self_in names) parts_of_text i (AddInstVar t x) (HasVariable t x) distinct known (h, k) (h, k) tt

    others-there : (x : ℕ) → Known x → (ts : List ℕ) → AllByRecursion Known ts
        → list_all (λ t. has_variable text_eq (map_image text i) of_instance t (text x)) (map text ts) ≡ list_all (λ t. has_variable nat_eq i of_instance t x) ts
    others-there x h [] a = refl
    others-there x h (t ∷ ts) a = λ j. variable-there t x a.0 h j && others-there x h ts a.1 j

    -- the variables that classes share
    shared-there : (s : ℕ) (others : List ℕ) → Known s → AllByRecursion Known others → shared_by text_eq (map_image text i) (text s) (map text others) ≡ map text (shared_by nat_eq i s others)
    shared-there s others h a =
        ap (λ (o : Option (ClassOf (List ℕ))). filter there (option_map_or (λ (e : ClassOf (List ℕ)). e.instance) o [])) (class-there s h)
        ∙ by (class_named nat_eq i.classes s) (find-all (ClassNames Known) (λ (e : ClassOf ℕ). nat_eq s e.name) i.classes known.classes)
      where
        here : ℕ → Bool
        here x = list_all (λ t. has_variable nat_eq i of_instance t x) others

        there : List ℕ → Bool
        there x = list_all (λ t. has_variable text_eq (map_image text i) of_instance t x) (map text others)

        by : (o : Option (ClassOf ℕ)) → OptionNames (ClassNames Known) o
            → filter there (option_map_or (λ (e : ClassOf (List ℕ)). e.instance) (option_map (map_class text) o) []) ≡ map text (filter here (option_map_or (λ (e : ClassOf ℕ). e.instance) o []))
        by None k = refl
        by (Some e) k = filter-map text here there e.instance (all-implies Known (λ x. there (text x) ≡ here x) (λ x l. others-there x l others a) e.instance k.instance)

    -- whether a method names a variable
    used-there : (x : ℕ) → Known x → (b : SequenceOf ℕ) → SequenceNames Known b
        → list_any (λ e. option_map_or (text_eq (text x)) (name_used e.1) false) (nodes (map_sequence text b)) ≡ list_any (λ e. option_map_or (nat_eq x) (name_used e.1) false) (nodes b)
    used-there x h b k =
        ap (list_any (λ e. option_map_or (text_eq (text x)) (name_used e.1) false)) (nodes-map_sequence text b)
        ∙ any-map (λ (e : Placed ℕ). (e.0, map_names text e.1)) (λ e. option_map_or (nat_eq x) (name_used e.1) false) (λ e. option_map_or (text_eq (text x)) (name_used e.1) false) (nodes b)
        (all-there _ (nodes b) (λ e c. at e.1 (λ n u. ltb-true n (length names) (All-contains (λ n. IsTrue (nat_lt n (length names))) (code_names b) n ((complete (λ n. nat_lt n (length names)) b).0 (SequenceNames-implies Known (λ n. IsTrue (nat_lt n (length names))) (λ n l. lt-ltb n (length names) l) b k)) (used b e.0 e.1 n c u)))))
      where
        at : (t : TreeOf ℕ) → ((n : ℕ) → name_used t ≡ Some n → Known n) → option_map_or (text_eq (text x)) (name_used (map_names text t)) false ≡ option_map_or (nat_eq x) (name_used t) false
        at (var n) l = same-name x n h (l n refl)
        at (literal v) l = refl
        at (send r s args) l = refl
        at (cascade r ms) l = refl
        at (assign n v) l = same-name x n h (l n refl)
        at (block ps ts ss e) l = refl
        at (brace ts) l = refl
        at (return v) l = refl

    method-there : (c : ℕ) → Known c → (o : Option ℕ) → OptionNames Known o → option_map_or (text_eq (text c)) (option_map text o) false ≡ option_map_or (nat_eq c) o false
    method-there c h None k = refl
    method-there c h (Some d) k = same-name c d h k

    names-there : (c x : ℕ) → Known c → Known x → (m : EntryOf ℕ) → EntryNames Known m → names_it text_eq (text c) (text x) (map_entry text m) ≡ names_it nat_eq c x m
    names-there c x h k m l = λ j. method-there c h m.class l.class j && (not m.meta && used-there x k m.tree.body (l.tree).body j)

    pub steps-numbers : (action : ActionOf ℕ) → ActionNames Known action
        → steps_of text_eq (map_image text i) canonical (map_action text action) ≡ map (map_command text) (steps_of nat_eq i (number_writing names) action)
    steps-numbers (Single command) h = refl
    steps-numbers (CreateAccessors c x s parameter) h = refl
    steps-numbers (ExtractSuperclass d p under) h = ap (λ ks. AddClass (text d) (text p) (map text under) ∷ ks) (by under h.2)
      where
        by : (ss : List ℕ) → AllByRecursion Known ss → shared_pushes text_eq (map_image text i) (map text ss) ≡ map (map_command text) (shared_pushes nat_eq i ss)
        by [] a = refl
        by (s ∷ others) a = ap (map (PushUpInstVar (text s))) (shared-there s others a.0 a.1) ∙ pushes-map text s (shared_by nat_eq i s others)
    steps-numbers (PushUpWithMethods c x) h =
        ap (λ ks. PushUpInstVar (text c) (text x) ∷ ks)
        (ap (map (λ (m : EntryOf (List ℕ)). PushUpMethod (text c) false m.tree.selector))
        (filter-map (map_entry text) (names_it nat_eq c x) (names_it text_eq (text c) (text x)) i.methods
        (all-implies (EntryNames Known) (λ m. names_it text_eq (text c) (text x) (map_entry text m) ≡ names_it nat_eq c x m) (names-there c x h.0 h.1) i.methods known.methods))
        ∙ moves-map text c (filter (names_it nat_eq c x) i.methods))
