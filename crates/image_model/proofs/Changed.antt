-- A change of names that keeps the answers changes no chain, no look-up and no meaning.
use Rattle.std.proofs.Common.{◌≡◌, ℕ, Bool, true, false, cond, ◌&&◌, List, length, map, find, Option, Some, None, option_map, unwrap_or, refl, sym, ap, ◌∙◌}
use Rattle.std.specs.Bool.{beq}
use Rattle.std.specs.List.{AllByRecursion, list_any}
use Rattle.std.specs.Option.{option_map_or, option_and_then, option_or}
use Rattle.scope_model.specs.declared.local.Local.{Local}
use Rattle.scope_model.specs.declared.local.Local.TheVariants.{Argument, Temporary, NotLocal}
use Rattle.scope_model.specs.Scope.{method_scope, doit_scope, local_in, local_in_doit}
use Rattle.scope_model.proofs.Changed.{local_in_scope-map_scope}
use Rattle.image_model.specs.Image.{ClassOf, EntryOf, DoItOf, ImageOf, map_class, map_entry, map_doit, map_image}
use Rattle.image_model.specs.ImageNames.{OptionNames, ClassNames, EntryNames, DoItNames, ImageNames}
use Rattle.image_model.specs.Words.{WordsOf, KeepsWords}
use Rattle.image_model.specs.Upwards.{upwards, first_given}
use Rattle.image_model.specs.Chain.{class_named, class_of_name, superclass_of, chain_from, chain}
use Rattle.image_model.specs.Lookup.{is_method, own_method, on_chain, as_object, lookup, super_lookup}
use Rattle.image_model.specs.Means.{VariableKind, of_instance, of_class_side, of_class, variables, MeaningOf, pseudo, variable, a_class, transcript, undeclared, map_meaning, definer, as_variable, side_kind, means_along, means_outside, means_by, means, means_in_doit}
use Rattle.image_model.proofs.Lists.{all-implies, length-map, find-map, find-all, any-map, option_map-option_or}
use Rattle.image_model.proofs.UpwardsLemmas.{upwards-all, upwards-map, first_given-map}

-- the variables of a kind of a mapped class
variables-map_class : {M N : Type 0} (f : M → N) (kind : VariableKind) (c : ClassOf M) → variables kind (map_class f c) ≡ map f (variables kind c)
variables-map_class f of_instance c = refl
variables-map_class f of_class_side c = refl
variables-map_class f of_class c = refl

-- a fact of each variable of a kind
ClassNames-variables : {N : Type 0} (P : N → Type 0) (kind : VariableKind) (c : ClassOf N) → ClassNames P c → AllByRecursion P (variables kind c)
ClassNames-variables P of_instance c p = p.instance
ClassNames-variables P of_class_side c p = p.class_side
ClassNames-variables P of_class c p = p.shared

module _ {M N : Type 0} (P : M → Type 0) (f : M → N) (w : WordsOf M) (v : WordsOf N) (keeps : KeepsWords P f w v) where
  -- the class of a name
  pub class_named-map : (classes : List (ClassOf M)) (n : M) → AllByRecursion (ClassNames P) classes → P n
      → class_named v.tests.same (map (map_class f) classes) (f n) ≡ option_map (map_class f) (class_named w.tests.same classes n)
  class_named-map classes n p q =
      find-map (map_class f) (λ c. w.tests.same n c.name) (λ c. v.tests.same (f n) c.name) classes (all-implies _ _ (λ c r. keeps.tests.same n c.name q r.name) classes p)

  -- the names of the class of a name
  pub ClassNames-class_of_name : (classes : List (ClassOf M)) (o : Option M) → AllByRecursion (ClassNames P) classes → OptionNames (ClassNames P) (class_of_name w.tests.same classes o)
  ClassNames-class_of_name classes None p = tt
  ClassNames-class_of_name classes (Some n) p = find-all (ClassNames P) (λ c. w.tests.same n c.name) classes p

  pub class_of_name-map : (classes : List (ClassOf M)) (o : Option M) → AllByRecursion (ClassNames P) classes → OptionNames P o
      → class_of_name v.tests.same (map (map_class f) classes) (option_map f o) ≡ option_map (map_class f) (class_of_name w.tests.same classes o)
  class_of_name-map classes None p q = refl
  class_of_name-map classes (Some n) p q = class_named-map classes n p q

  -- a chain
  pub chain_from-map : (classes : List (ClassOf M)) (o : Option (ClassOf M)) → AllByRecursion (ClassNames P) classes → OptionNames (ClassNames P) o
      → chain_from v.tests.same (map (map_class f) classes) (option_map (map_class f) o) ≡ map (map_class f) (chain_from w.tests.same classes o)
  chain_from-map classes o p q =
      ap (λ (k : ℕ). upwards (superclass_of v.tests.same (map (map_class f) classes)) k (option_map (map_class f) o)) (length-map (map_class f) classes)
      ∙ upwards-map (map_class f) (superclass_of w.tests.same classes) (superclass_of v.tests.same (map (map_class f) classes)) (ClassNames P)
      (λ c r. ClassNames-class_of_name classes c.superclass p) (λ c r. class_of_name-map classes c.superclass p r.superclass) (length classes) o q

  -- the names of the classes on a chain
  pub ClassNames-chain_from : (classes : List (ClassOf M)) (o : Option (ClassOf M)) → AllByRecursion (ClassNames P) classes → OptionNames (ClassNames P) o → AllByRecursion (ClassNames P) (chain_from w.tests.same classes o)
  ClassNames-chain_from classes o p q =
      upwards-all (ClassNames P) (superclass_of w.tests.same classes) (λ c r. ClassNames-class_of_name classes c.superclass p) (length classes) o q

  -- whether a method is that of a class, a side and a selector
  is_method-map : (c : M) (meta : Bool) (s : M) (m : EntryOf M) → P c → P s → EntryNames P m
      → is_method v.tests.same (f c) meta (f s) (map_entry f m) ≡ is_method w.tests.same c meta s m
  is_method-map c meta s m p q r =
      λ i. of_class i && beq meta m.meta && keeps.tests.same s m.tree.selector q r.tree.selector i
    where
      by : (o : Option M) → OptionNames P o → option_map_or (v.tests.same (f c)) (option_map f o) false ≡ option_map_or (w.tests.same c) o false
      by None t = refl
      by (Some n) t = keeps.tests.same c n p t

      of_class : option_map_or (v.tests.same (f c)) (option_map f m.class) false ≡ option_map_or (w.tests.same c) m.class false
      of_class = by m.class r.class

  -- the method of a class, a side and a selector
  pub own_method-map : (methods : List (EntryOf M)) (c : M) (meta : Bool) (s : M) → AllByRecursion (EntryNames P) methods → P c → P s
      → own_method v.tests.same (map (map_entry f) methods) (f c) meta (f s) ≡ option_map (map_entry f) (own_method w.tests.same methods c meta s)
  own_method-map methods c meta s p q r =
      find-map (map_entry f) (is_method w.tests.same c meta s) (is_method v.tests.same (f c) meta (f s)) methods (all-implies _ _ (λ m t. is_method-map c meta s m q r t) methods p)

  module _ (i : ImageOf M) (named : ImageNames P i) where
    -- the first method of a chain
    pub on_chain-map : (o : Option (ClassOf M)) (meta : Bool) (s : M) → OptionNames (ClassNames P) o → P s
        → on_chain v.tests.same (map_image f i) (option_map (map_class f) o) meta (f s) ≡ option_map (map_entry f) (on_chain w.tests.same i o meta s)
    on_chain-map o meta s p q =
        ap (first_given (λ c. own_method v.tests.same (map (map_entry f) i.methods) c.name meta (f s))) (chain_from-map i.classes o named.classes p)
        ∙ first_given-map (map_class f) (map_entry f) (λ c. own_method w.tests.same i.methods c.name meta s) (λ c. own_method v.tests.same (map (map_entry f) i.methods) c.name meta (f s))
        (chain_from w.tests.same i.classes o) (all-implies _ _ (λ c r. own_method-map i.methods c.name meta s named.methods r.name q) (chain_from w.tests.same i.classes o) (ClassNames-chain_from i.classes o named.classes p))

    -- what a class understands as an object
    pub as_object-map : (s : M) → P s → as_object v (map_image f i) (f s) ≡ option_map (map_entry f) (as_object w i s)
    as_object-map s q =
        ap (λ o. on_chain v.tests.same (map_image f i) o false (f s)) (find-map (map_class f) (λ c. w.is_class c.name) (λ c. v.is_class c.name) i.classes (all-implies _ _ (λ c r. keeps.is_class c.name r.name) i.classes named.classes))
        ∙ on_chain-map (find (λ c. w.is_class c.name) i.classes) false s (find-all (ClassNames P) (λ c. w.is_class c.name) i.classes named.classes) q

    -- a look-up
    pub lookup-map_image : (c : Option M) (meta : Bool) (s : M) → OptionNames P c → P s → lookup v (map_image f i) (option_map f c) meta (f s) ≡ option_map (map_entry f) (lookup w i c meta s)
    lookup-map_image c meta s p q =
        (λ j. option_or (first j) (second meta j)) ∙ sym (option_map-option_or (map_entry f) (on_chain w.tests.same i (class_of_name w.tests.same i.classes c) meta s) (cond meta (as_object w i s) None))
      where
        first : on_chain v.tests.same (map_image f i) (class_of_name v.tests.same (map (map_class f) i.classes) (option_map f c)) meta (f s) ≡ option_map (map_entry f) (on_chain w.tests.same i (class_of_name w.tests.same i.classes c) meta s)
        first =
            ap (λ o. on_chain v.tests.same (map_image f i) o meta (f s)) (class_of_name-map i.classes c named.classes p)
            ∙ on_chain-map (class_of_name w.tests.same i.classes c) meta s (ClassNames-class_of_name i.classes c named.classes) q

        second : (b : Bool) → cond b (as_object v (map_image f i) (f s)) None ≡ option_map (map_entry f) (cond b (as_object w i s) None)
        second true = as_object-map s q
        second false = refl

    -- a look-up for `super`
    pub super_lookup-map_image : (c : Option M) (meta : Bool) (s : M) → OptionNames P c → P s → super_lookup v (map_image f i) (option_map f c) meta (f s) ≡ option_map (map_entry f) (super_lookup w i c meta s)
    super_lookup-map_image c meta s p q =
        ap (λ o. lookup v (map_image f i) (option_and_then (λ (d : ClassOf N). d.superclass) o) meta (f s)) (class_of_name-map i.classes c named.classes p)
        ∙ by (class_of_name w.tests.same i.classes c) (ClassNames-class_of_name i.classes c named.classes)
      where
        by : (o : Option (ClassOf M)) → OptionNames (ClassNames P) o
            → lookup v (map_image f i) (option_and_then (λ (d : ClassOf N). d.superclass) (option_map (map_class f) o)) meta (f s) ≡ option_map (map_entry f) (lookup w i (option_and_then (λ (d : ClassOf M). d.superclass) o) meta s)
        by None r = lookup-map_image None meta s tt q
        by (Some d) r = lookup-map_image d.superclass meta s r.superclass q

    -- the class of a chain that defines a variable
    definer-map : (kind : VariableKind) (classes : List (ClassOf M)) (n : M) → AllByRecursion (ClassNames P) classes → P n
        → definer v.tests.same kind (map (map_class f) classes) (f n) ≡ option_map (map_class f) (definer w.tests.same kind classes n)
    definer-map kind classes n p q =
        find-map (map_class f) (λ c. list_any (w.tests.same n) (variables kind c)) (λ c. list_any (v.tests.same (f n)) (variables kind c)) classes (all-implies _ _ defines classes p)
      where
        defines : (c : ClassOf M) → ClassNames P c → list_any (v.tests.same (f n)) (variables kind (map_class f c)) ≡ list_any (w.tests.same n) (variables kind c)
        defines c r =
            ap (list_any (v.tests.same (f n))) (variables-map_class f kind c)
            ∙ any-map f (w.tests.same n) (v.tests.same (f n)) (variables kind c) (all-implies _ _ (λ m t. keeps.tests.same n m q t) (variables kind c) (ClassNames-variables P kind c r))

    as_variable-map : (kind : VariableKind) (classes : List (ClassOf M)) (n : M) → AllByRecursion (ClassNames P) classes → P n
        → as_variable v.tests.same kind (map (map_class f) classes) (f n) ≡ option_map (map_meaning f) (as_variable w.tests.same kind classes n)
    as_variable-map kind classes n p q =
        ap (option_map (λ (c : ClassOf N). variable kind c.name)) (definer-map kind classes n p q) ∙ by (definer w.tests.same kind classes n)
      where
        by : (o : Option (ClassOf M)) → option_map (λ (c : ClassOf N). variable kind c.name) (option_map (map_class f) o) ≡ option_map (map_meaning f) (option_map (λ (c : ClassOf M). variable kind c.name) o)
        by None = refl
        by (Some c) = refl

    -- what a name stands for behind all scopes, along a chain
    means_along-map : (above : List (ClassOf M)) (meta : Bool) (n : M) → AllByRecursion (ClassNames P) above → P n
        → means_along v (map (map_class f) i.classes) (map (map_class f) above) meta (f n) ≡ map_meaning f (means_along w i.classes above meta n)
    means_along-map above meta n p q =
        (λ j. unwrap_or (option_or (as_variable-map (side_kind meta) above n p q j) (option_or (as_variable-map of_class above n p q j) (option_or (classes j) (whole j)))) undeclared)
        ∙ joined (as_variable w.tests.same (side_kind meta) above n) (as_variable w.tests.same of_class above n) (option_map (λ (d : ClassOf M). a_class d.name) (class_named w.tests.same i.classes n)) (cond (w.is_transcript n) (Some transcript) None)
      where
        class_there : (o : Option (ClassOf M)) → option_map (λ (d : ClassOf N). a_class d.name) (option_map (map_class f) o) ≡ option_map (map_meaning f) (option_map (λ (d : ClassOf M). a_class d.name) o)
        class_there None = refl
        class_there (Some d) = refl

        classes : option_map (λ (d : ClassOf N). a_class d.name) (class_named v.tests.same (map (map_class f) i.classes) (f n)) ≡ option_map (map_meaning f) (option_map (λ (d : ClassOf M). a_class d.name) (class_named w.tests.same i.classes n))
        classes = ap (option_map (λ (d : ClassOf N). a_class d.name)) (class_named-map i.classes n named.classes q) ∙ class_there (class_named w.tests.same i.classes n)

        test : (b : Bool) → cond b (Some transcript) None ≡ option_map (map_meaning f) (cond b (Some transcript) None)
        test true = refl
        test false = refl

        whole : cond (v.is_transcript (f n)) (Some transcript) None ≡ option_map (map_meaning f) (cond (w.is_transcript n) (Some transcript) None)
        whole = ap (λ b. cond b (Some transcript) None) (keeps.is_transcript n q) ∙ test (w.is_transcript n)

        joined : (a b d e : Option (MeaningOf M)) → unwrap_or (option_or (option_map (map_meaning f) a) (option_or (option_map (map_meaning f) b) (option_or (option_map (map_meaning f) d) (option_map (map_meaning f) e)))) undeclared ≡ map_meaning f (unwrap_or (option_or a (option_or b (option_or d e))) undeclared)
        joined (Some a) b d e = refl
        joined None (Some b) d e = refl
        joined None None (Some d) e = refl
        joined None None None (Some e) = refl
        joined None None None None = refl

    -- what a name stands for behind all scopes
    pub means_outside-map : (c : Option M) (meta : Bool) (n : M) → OptionNames P c → P n → means_outside v (map_image f i) (option_map f c) meta (f n) ≡ map_meaning f (means_outside w i c meta n)
    means_outside-map c meta n p q =
        ap (λ (above : List (ClassOf N)). means_along v (map (map_class f) i.classes) above meta (f n))
        (ap (chain_from v.tests.same (map (map_class f) i.classes)) (class_of_name-map i.classes c named.classes p)
        ∙ chain_from-map i.classes (class_of_name w.tests.same i.classes c) named.classes (ClassNames-class_of_name i.classes c named.classes))
        ∙ means_along-map (chain w.tests.same i.classes c) meta n (ClassNames-chain_from i.classes (class_of_name w.tests.same i.classes c) named.classes (ClassNames-class_of_name i.classes c named.classes)) q

    -- what scopes know
    by_scopes : (l : Local) (outside : MeaningOf M) → means_by l (map_meaning f outside) ≡ map_meaning f (means_by l outside)
    by_scopes (Argument scope) outside = refl
    by_scopes (Temporary scope) outside = refl
    by_scopes NotLocal outside = refl

    either : (b : Bool) (outside : MeaningOf M) → cond b pseudo (map_meaning f outside) ≡ map_meaning f (cond b pseudo outside)
    either true outside = refl
    either false outside = refl

    -- what a name stands for in a method
    pub means-map_image : (m : EntryOf M) (path : List ℕ) (n : M) → EntryNames P m → P n → means v (map_image f i) (map_entry f m) path (f n) ≡ map_meaning f (means w i m path n)
    means-map_image m path n p q =
        (λ j. cond (keeps.tests.is_pseudo n q j) pseudo (means_by (locals j) (means_outside-map m.class m.meta n p.class q j)))
        ∙ ap (cond (w.tests.is_pseudo n) pseudo) (by_scopes (local_in w.tests.same w.tests.is_pseudo m.tree path n) (means_outside w i m.class m.meta n))
        ∙ either (w.tests.is_pseudo n) (means_by (local_in w.tests.same w.tests.is_pseudo m.tree path n) (means_outside w i m.class m.meta n))
      where
        locals : local_in v.tests.same v.tests.is_pseudo (map_entry f m).tree path (f n) ≡ local_in w.tests.same w.tests.is_pseudo m.tree path n
        locals = local_in_scope-map_scope P f w.tests v.tests keeps.tests (method_scope m.tree) path n (record { arguments = p.tree.arguments; temporaries = p.tree.body.temporaries; statements = p.tree.body.statements }) q

    -- the name of the class of do-its
    undefined_object : option_map (λ (c : ClassOf N). c.name) (find (λ c. v.is_undefined_object c.name) (map (map_class f) i.classes)) ≡ option_map f (option_map (λ (c : ClassOf M). c.name) (find (λ c. w.is_undefined_object c.name) i.classes))
    undefined_object =
        ap (option_map (λ (c : ClassOf N). c.name)) (find-map (map_class f) (λ c. w.is_undefined_object c.name) (λ c. v.is_undefined_object c.name) i.classes (all-implies _ _ (λ c r. keeps.is_undefined_object c.name r.name) i.classes named.classes))
        ∙ by (find (λ c. w.is_undefined_object c.name) i.classes)
      where
        by : (o : Option (ClassOf M)) → option_map (λ (c : ClassOf N). c.name) (option_map (map_class f) o) ≡ option_map f (option_map (λ (c : ClassOf M). c.name) o)
        by None = refl
        by (Some c) = refl

    undefined_object_named : OptionNames P (option_map (λ (c : ClassOf M). c.name) (find (λ c. w.is_undefined_object c.name) i.classes))
    undefined_object_named = by (find (λ c. w.is_undefined_object c.name) i.classes) (find-all (ClassNames P) (λ c. w.is_undefined_object c.name) i.classes named.classes)
      where
        by : (o : Option (ClassOf M)) → OptionNames (ClassNames P) o → OptionNames P (option_map (λ (c : ClassOf M). c.name) o)
        by None r = tt
        by (Some c) r = r.name

    -- what a name stands for in a do-it
    pub means_in_doit-map_image : (d : DoItOf M) (path : List ℕ) (n : M) → DoItNames P d → P n → means_in_doit v (map_image f i) (map_doit f d) path (f n) ≡ map_meaning f (means_in_doit w i d path n)
    means_in_doit-map_image d path n p q =
        by (option_map (λ (c : ClassOf M). c.name) (find (λ c. w.is_undefined_object c.name) i.classes)) (option_map (λ (c : ClassOf N). c.name) (find (λ c. v.is_undefined_object c.name) (map (map_class f) i.classes)))
        undefined_object undefined_object_named
      where
        locals : local_in_doit v.tests.same v.tests.is_pseudo (map_doit f d).body path (f n) ≡ local_in_doit w.tests.same w.tests.is_pseudo d.body path n
        locals = local_in_scope-map_scope P f w.tests v.tests keeps.tests (doit_scope d.body) path n (record { arguments = tt; temporaries = p.temporaries; statements = p.statements }) q

        by : (c : Option M) (there : Option N) → there ≡ option_map f c → OptionNames P c
            → cond (v.tests.is_pseudo (f n)) pseudo (means_by (local_in_doit v.tests.same v.tests.is_pseudo (map_doit f d).body path (f n)) (means_outside v (map_image f i) there false (f n)))
            ≡ map_meaning f (cond (w.tests.is_pseudo n) pseudo (means_by (local_in_doit w.tests.same w.tests.is_pseudo d.body path n) (means_outside w i c false n)))
        by c there e r =
            (λ j. cond (keeps.tests.is_pseudo n q j) pseudo (means_by (locals j) (means_outside v (map_image f i) (e j) false (f n))))
            ∙ ap (λ o. cond (w.tests.is_pseudo n) pseudo (means_by (local_in_doit w.tests.same w.tests.is_pseudo d.body path n) o)) (means_outside-map c false n r q)
            ∙ ap (cond (w.tests.is_pseudo n) pseudo) (by_scopes (local_in_doit w.tests.same w.tests.is_pseudo d.body path n) (means_outside w i c false n))
            ∙ either (w.tests.is_pseudo n) (means_by (local_in_doit w.tests.same w.tests.is_pseudo d.body path n) (means_outside w i c false n))
