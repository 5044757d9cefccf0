-- Changes of images are the same where names are changed one to one.
use Rattle.std.proofs.Common.{◌≡◌, ℕ, Bool, true, false, not, cond, ◌||◌, List, [], ◌∷◌, ◌++◌, map, Option, Some, None, Result, option_map, refl, sym, ap, ◌∙◌}
use Rattle.std.specs.Prelude.{◌&&◌, ◌==◌, nat_le, is_some}
use Rattle.std.specs.Bool.{beq}
use Rattle.std.specs.List.{AllByRecursion}
use Rattle.std.specs.Option.{option_map_or}
use Rattle.std.specs.Result.{result_map_both, IfOk}
use Rattle.std.proofs.lemmas.List.{map-append}
use Rattle.tree_model.specs.Tree.{MethodOf, map_method}
use Rattle.tree_model.specs.AllNames.{MethodNames}
use Rattle.image_model.specs.Image.{ClassOf, EntryOf, ImageOf, map_class, map_entry, map_image}
use Rattle.image_model.specs.ImageNames.{OptionNames, ClassNames, EntryNames, ImageNames}
use Rattle.image_model.specs.Words.{WordsOf, KeepsWords}
use Rattle.image_model.specs.Lookup.{is_method, own_method}
use Rattle.image_model.specs.Means.{of_instance, of_class_side}
use Rattle.image_model.proofs.Lists.{all-implies, length-map}
use Rattle.image_model.proofs.Changed.{own_method-map}
use Rattle.file_model.specs.Causes.{Cause, when, UnknownSuperclass, Cycle, VariableTwice, KernelReplaced, UnknownClass, TooMany}
use Rattle.file_model.specs.Changes.{DefinitionOf, ChangeOf, Define, DefineAt, Comment, SetClassSide, RemoveMethod, RemoveClass, RunOf, map_definition, map_change, map_run}
use Rattle.file_model.specs.Hierarchy.{has_class, settled}
use Rattle.file_model.specs.Refusals.{class_limit, method_limit, has_method, is_kernel_method, definition_refusals, comment_refusals, class_side_refusals, removal_refusals, class_removal_refusals, run_refusals, method_refusals}
use Rattle.file_model.specs.Applied.{new_class, class_again, changed_class, with_definition, defined, with_class_side, with_comment, is_of_class, without_class, without_method, changed, entry_in, with_method, method_added}
use Rattle.file_numbers.specs.ChangeNames.{DefinitionNames, ChangeNames}
use Rattle.file_numbers.proofs.Mapped.{some-map, filter-map, all-append, all-filter, all-changed, changed-map, unless-map, unless-all}
use Rattle.file_numbers.proofs.Classes.{has_class-map, is_kernel_class-map, is_that-map, has_subclass-map, has_repeat-map, stands_twice-map, on_chain_of-map, settled-map, settled-names}

module _ {M N : Type 0} (P : M → Type 0) (f : M → N) (w : WordsOf M) (v : WordsOf N) (keeps : KeepsWords P f w v) where
  -- the classes with another one for that of a name
  changed_class-map : (n : M) (g : ClassOf M → ClassOf M) (h : ClassOf N → ClassOf N) (classes : List (ClassOf M)) → AllByRecursion (ClassNames P) classes → P n → ((c : ClassOf M) → h (map_class f c) ≡ map_class f (g c))
      → changed_class v.tests.same (f n) h (map (map_class f) classes) ≡ map (map_class f) (changed_class w.tests.same n g classes)
  changed_class-map n g h classes p q e =
      changed-map (map_class f) (λ (c : ClassOf M). w.tests.same n c.name) (λ (c : ClassOf N). v.tests.same (f n) c.name) g h classes e
      (all-implies _ _ (λ c r. keeps.tests.same n c.name q r.name) classes p)

  -- the classes with a definition
  with_definition-map : (kernel : Bool) (d : DefinitionOf M) (classes : List (ClassOf M)) → AllByRecursion (ClassNames P) classes → DefinitionNames P d
      → with_definition v.tests.same kernel (map_definition f d) (map (map_class f) classes) ≡ map (map_class f) (with_definition w.tests.same kernel d classes)
  with_definition-map kernel d classes p q =
      ap (λ (b : Bool). cond b (changed_class v.tests.same (f d.name) (class_again (map_definition f d)) (map (map_class f) classes)) (map (map_class f) classes ++ new_class kernel (map_definition f d) ∷ []))
      (has_class-map P f w v keeps classes d.name p q.name)
      ∙ by (has_class w.tests.same classes d.name)
    where
      by : (b : Bool) → cond b (changed_class v.tests.same (f d.name) (class_again (map_definition f d)) (map (map_class f) classes)) (map (map_class f) classes ++ new_class kernel (map_definition f d) ∷ [])
          ≡ map (map_class f) (cond b (changed_class w.tests.same d.name (class_again d) classes) (classes ++ new_class kernel d ∷ []))
      by true = changed_class-map d.name (class_again d) (class_again (map_definition f d)) classes p q.name (λ c. refl)
      by false = sym (map-append (map_class f) classes (new_class kernel d ∷ []))

  -- a fact of each name in them
  with_definition-names : (kernel : Bool) (d : DefinitionOf M) (classes : List (ClassOf M)) → AllByRecursion (ClassNames P) classes → DefinitionNames P d → AllByRecursion (ClassNames P) (with_definition w.tests.same kernel d classes)
  with_definition-names kernel d classes p q = by (has_class w.tests.same classes d.name)
    where
      again : (c : ClassOf M) → ClassNames P c → ClassNames P (class_again d c)
      again c r = record { name = r.name; superclass = q.superclass; instance = q.instance; shared = q.shared; class_side = r.class_side }

      by : (b : Bool) → AllByRecursion (ClassNames P) (cond b (changed_class w.tests.same d.name (class_again d) classes) (classes ++ new_class kernel d ∷ []))
      by true = all-changed (ClassNames P) (λ (c : ClassOf M). w.tests.same d.name c.name) (class_again d) classes again p
      by false = all-append (ClassNames P) classes (new_class kernel d ∷ []) p (record { name = q.name; superclass = q.superclass; instance = q.instance; shared = q.shared; class_side = tt }, tt)

  -- the same classes in order
  defined-map : (kernel : Bool) (d : DefinitionOf M) (classes : List (ClassOf M)) → AllByRecursion (ClassNames P) classes → DefinitionNames P d
      → defined v.tests.same kernel (map_definition f d) (map (map_class f) classes) ≡ map (map_class f) (defined w.tests.same kernel d classes)
  defined-map kernel d classes p q =
      (λ i. cond (has_class-map P f w v keeps classes d.name p q.name i) (settled v.tests.same (with_definition-map kernel d classes p q i)) (with_definition-map kernel d classes p q i))
      ∙ by (has_class w.tests.same classes d.name)
    where
      by : (b : Bool) → cond b (settled v.tests.same (map (map_class f) (with_definition w.tests.same kernel d classes))) (map (map_class f) (with_definition w.tests.same kernel d classes))
          ≡ map (map_class f) (cond b (settled w.tests.same (with_definition w.tests.same kernel d classes)) (with_definition w.tests.same kernel d classes))
      by true = settled-map P f w v keeps (with_definition w.tests.same kernel d classes) (with_definition-names kernel d classes p q)
      by false = refl

  defined-names : (kernel : Bool) (d : DefinitionOf M) (classes : List (ClassOf M)) → AllByRecursion (ClassNames P) classes → DefinitionNames P d → AllByRecursion (ClassNames P) (defined w.tests.same kernel d classes)
  defined-names kernel d classes p q = by (has_class w.tests.same classes d.name)
    where
      by : (b : Bool) → AllByRecursion (ClassNames P) (cond b (settled w.tests.same (with_definition w.tests.same kernel d classes)) (with_definition w.tests.same kernel d classes))
      by true = settled-names P f w v keeps (with_definition w.tests.same kernel d classes) (with_definition-names kernel d classes p q)
      by false = with_definition-names kernel d classes p q

  -- why a definition is refused
  definition_refusals-map : (classes : List (ClassOf M)) (d : DefinitionOf M) (new : List (ClassOf M)) → AllByRecursion (ClassNames P) classes → DefinitionNames P d → AllByRecursion (ClassNames P) new
      → definition_refusals v.tests.same (map (map_class f) classes) (map_definition f d) (map (map_class f) new) ≡ definition_refusals w.tests.same classes d new
  definition_refusals-map classes d new p q r =
      λ i. when (is_kernel_class-map P f w v keeps classes d.name p q.name i) KernelReplaced
      ∷ when (lacks d.superclass q.superclass i) UnknownSuperclass
      ∷ when (on_chain_of-map P f w v keeps classes p d.name d.superclass q.name q.superclass i) Cycle
      ∷ when (stands_twice-map P f w v keeps new r of_instance d.name q.name i || (stands_twice-map P f w v keeps new r of_class_side d.name q.name i || has_repeat-map P f w v keeps d.shared q.shared i)) VariableTwice
      ∷ when (not (has_class-map P f w v keeps classes d.name p q.name i) && nat_le class_limit (length-map (map_class f) classes i)) TooMany ∷ []
    where
      lacks : (o : Option M) → OptionNames P o
          → option_map_or (λ (n : N). not (has_class v.tests.same (map (map_class f) classes) n)) (option_map f o) false ≡ option_map_or (λ (n : M). not (has_class w.tests.same classes n)) o false
      lacks None t = refl
      lacks (Some n) t = ap not (has_class-map P f w v keeps classes n p t)

  -- whether a method is that of a class, a side and a selector
  pub is_method-map : (c : M) (meta : Bool) (s : M) (m : EntryOf M) → P c → P s → EntryNames P m → is_method v.tests.same (f c) meta (f s) (map_entry f m) ≡ is_method w.tests.same c meta s m
  is_method-map c meta s m p q r = λ i. is_that-map P f w v keeps c m.class r.class p i && beq meta m.meta && keeps.tests.same s m.tree.selector q r.tree.selector i

  all_methods-map : (c : M) (meta : Bool) (s : M) (methods : List (EntryOf M)) → AllByRecursion (EntryNames P) methods → P c → P s
      → AllByRecursion (λ (m : EntryOf M). is_method v.tests.same (f c) meta (f s) (map_entry f m) ≡ is_method w.tests.same c meta s m) methods
  all_methods-map c meta s methods p q r = all-implies _ _ (λ m t. is_method-map c meta s m q r t) methods p

  -- whether there is a method of a class, a side and a selector
  has_method-map : (methods : List (EntryOf M)) (c : M) (meta : Bool) (s : M) → AllByRecursion (EntryNames P) methods → P c → P s
      → has_method v.tests.same (map (map_entry f) methods) (f c) meta (f s) ≡ has_method w.tests.same methods c meta s
  has_method-map methods c meta s p q r = ap is_some (own_method-map P f w v keeps methods c meta s p q r) ∙ some-map (map_entry f) (own_method w.tests.same methods c meta s)

  -- whether it is one of the kernel
  is_kernel_method-map : (methods : List (EntryOf M)) (c : M) (meta : Bool) (s : M) → AllByRecursion (EntryNames P) methods → P c → P s
      → is_kernel_method v.tests.same (map (map_entry f) methods) (f c) meta (f s) ≡ is_kernel_method w.tests.same methods c meta s
  is_kernel_method-map methods c meta s p q r =
      ap (λ (o : Option (EntryOf N)). option_map_or (λ (m : EntryOf N). m.kernel) o false) (own_method-map P f w v keeps methods c meta s p q r) ∙ by (own_method w.tests.same methods c meta s)
    where
      by : (o : Option (EntryOf M)) → option_map_or (λ (m : EntryOf N). m.kernel) (option_map (map_entry f) o) false ≡ option_map_or (λ (m : EntryOf M). m.kernel) o false
      by None = refl
      by (Some m) = refl

  -- with other class-instance variables
  with_class_side-map : (n : M) (names : List M) (classes : List (ClassOf M)) → AllByRecursion (ClassNames P) classes → P n
      → with_class_side v.tests.same (f n) (map f names) (map (map_class f) classes) ≡ map (map_class f) (with_class_side w.tests.same n names classes)
  with_class_side-map n names classes p q =
      changed_class-map n (λ (c : ClassOf M). record c { class_side = names }) (λ (c : ClassOf N). record c { class_side = map f names }) classes p q (λ c. refl)

  with_class_side-names : (n : M) (names : List M) (classes : List (ClassOf M)) → AllByRecursion (ClassNames P) classes → AllByRecursion P names → AllByRecursion (ClassNames P) (with_class_side w.tests.same n names classes)
  with_class_side-names n names classes p q =
      all-changed (ClassNames P) (λ (c : ClassOf M). w.tests.same n c.name) (λ (c : ClassOf M). record c { class_side = names }) classes
      (λ c r. record { name = r.name; superclass = r.superclass; instance = r.instance; shared = r.shared; class_side = q }) p

  -- with another comment
  with_comment-map : (n : M) (text : List ℕ) (classes : List (ClassOf M)) → AllByRecursion (ClassNames P) classes → P n
      → with_comment v.tests.same (f n) text (map (map_class f) classes) ≡ map (map_class f) (with_comment w.tests.same n text classes)
  with_comment-map n text classes p q =
      changed_class-map n (λ (c : ClassOf M). record c { comment = text }) (λ (c : ClassOf N). record c { comment = text }) classes p q (λ c. refl)

  with_comment-names : (n : M) (text : List ℕ) (classes : List (ClassOf M)) → AllByRecursion (ClassNames P) classes → AllByRecursion (ClassNames P) (with_comment w.tests.same n text classes)
  with_comment-names n text classes p =
      all-changed (ClassNames P) (λ (c : ClassOf M). w.tests.same n c.name) (λ (c : ClassOf M). record c { comment = text }) classes
      (λ c r. record { name = r.name; superclass = r.superclass; instance = r.instance; shared = r.shared; class_side = r.class_side }) p

  -- without a class and its methods
  without_class-map : (n : M) (i : ImageOf M) → ImageNames P i → P n → without_class v.tests.same (f n) (map_image f i) ≡ map_image f (without_class w.tests.same n i)
  without_class-map n i p q = λ j. record (map_image f i) {
    classes = filter-map (map_class f) (λ (c : ClassOf M). not (w.tests.same n c.name)) (λ (c : ClassOf N). not (v.tests.same (f n) c.name)) i.classes (all-implies _ _ (λ c r. ap not (keeps.tests.same n c.name q r.name)) i.classes p.classes) j;
    methods = filter-map (map_entry f) (λ (m : EntryOf M). not (is_of_class w.tests.same n m)) (λ (m : EntryOf N). not (is_of_class v.tests.same (f n) m)) i.methods (all-implies _ _ (λ m r. ap not (is_that-map P f w v keeps n m.class r.class q)) i.methods p.methods) j;
  }

  -- without a method
  without_method-map : (c : M) (meta : Bool) (s : M) (i : ImageOf M) → ImageNames P i → P c → P s → without_method v.tests.same (f c) meta (f s) (map_image f i) ≡ map_image f (without_method w.tests.same c meta s i)
  without_method-map c meta s i p q r = λ j. record (map_image f i) {
    methods = filter-map (map_entry f) (λ (m : EntryOf M). not (is_method w.tests.same c meta s m)) (λ (m : EntryOf N). not (is_method v.tests.same (f c) meta (f s) m)) i.methods
        (all-implies _ _ (λ m t. ap not (is_method-map c meta s m q r t)) i.methods p.methods) j;
  }

  -- a change
  pub changed-map_image : (kernel : Bool) (c : ChangeOf M) (i : ImageOf M) → ImageNames P i → ChangeNames P c
      → ◌≡◌ {A = Result (ImageOf N) Cause} (changed v.tests.same kernel (map_change f c) (map_image f i)) (result_map_both (map_image f) (λ (e : Cause). e) (changed w.tests.same kernel c i))
  changed-map_image kernel (Define d) i p q =
      unless-map (map_image f) (definition_refusals w.tests.same i.classes d (with_definition w.tests.same kernel d i.classes))
      (definition_refusals v.tests.same (map (map_class f) i.classes) (map_definition f d) (with_definition v.tests.same kernel (map_definition f d) (map (map_class f) i.classes)))
      (record i { classes = defined w.tests.same kernel d i.classes }) (record (map_image f i) { classes = defined v.tests.same kernel (map_definition f d) (map (map_class f) i.classes) })
      (ap (definition_refusals v.tests.same (map (map_class f) i.classes) (map_definition f d)) (with_definition-map kernel d i.classes p.classes q)
      ∙ definition_refusals-map i.classes d (with_definition w.tests.same kernel d i.classes) p.classes q (with_definition-names kernel d i.classes p.classes q))
      (λ j. record (map_image f i) { classes = defined-map kernel d i.classes p.classes q j })
  changed-map_image kernel (DefineAt d k) i p q =
      unless-map (map_image f) (definition_refusals w.tests.same i.classes d (with_definition w.tests.same kernel d i.classes))
      (definition_refusals v.tests.same (map (map_class f) i.classes) (map_definition f d) (with_definition v.tests.same kernel (map_definition f d) (map (map_class f) i.classes)))
      (record i { classes = with_definition w.tests.same kernel d i.classes }) (record (map_image f i) { classes = with_definition v.tests.same kernel (map_definition f d) (map (map_class f) i.classes) })
      (ap (definition_refusals v.tests.same (map (map_class f) i.classes) (map_definition f d)) (with_definition-map kernel d i.classes p.classes q)
      ∙ definition_refusals-map i.classes d (with_definition w.tests.same kernel d i.classes) p.classes q (with_definition-names kernel d i.classes p.classes q))
      (λ j. record (map_image f i) { classes = with_definition-map kernel d i.classes p.classes q j })
  changed-map_image kernel (Comment n text) i p q =
      unless-map (map_image f) (comment_refusals w.tests.same i.classes n) (comment_refusals v.tests.same (map (map_class f) i.classes) (f n))
      (record i { classes = with_comment w.tests.same n text i.classes }) (record (map_image f i) { classes = with_comment v.tests.same (f n) text (map (map_class f) i.classes) })
      (λ j. when (not (has_class-map P f w v keeps i.classes n p.classes q j)) UnknownClass ∷ when (is_kernel_class-map P f w v keeps i.classes n p.classes q j) KernelReplaced ∷ [])
      (λ j. record (map_image f i) { classes = with_comment-map n text i.classes p.classes q j })
  changed-map_image kernel (SetClassSide n names) i p q =
      unless-map (map_image f) (class_side_refusals w.tests.same i.classes n names (with_class_side w.tests.same n names i.classes))
      (class_side_refusals v.tests.same (map (map_class f) i.classes) (f n) (map f names) (with_class_side v.tests.same (f n) (map f names) (map (map_class f) i.classes)))
      (record i { classes = with_class_side w.tests.same n names i.classes }) (record (map_image f i) { classes = with_class_side v.tests.same (f n) (map f names) (map (map_class f) i.classes) })
      (ap (class_side_refusals v.tests.same (map (map_class f) i.classes) (f n) (map f names)) (with_class_side-map n names i.classes p.classes q.0)
      ∙ (λ j. when (not (has_class-map P f w v keeps i.classes n p.classes q.0 j)) UnknownClass
      ∷ when (is_kernel_class-map P f w v keeps i.classes n p.classes q.0 j && not (length-map f names j == 0)) KernelReplaced
      ∷ when (stands_twice-map P f w v keeps (with_class_side w.tests.same n names i.classes) (with_class_side-names n names i.classes p.classes q.1) of_class_side n q.0 j) VariableTwice ∷ []))
      (λ j. record (map_image f i) { classes = with_class_side-map n names i.classes p.classes q.0 j })
  changed-map_image kernel (RemoveMethod c meta s) i p q =
      unless-map (map_image f) (removal_refusals w.tests.same i c meta s) (removal_refusals v.tests.same (map_image f i) (f c) meta (f s))
      (without_method w.tests.same c meta s i) (without_method v.tests.same (f c) meta (f s) (map_image f i))
      (λ j. when (not (has_class-map P f w v keeps i.classes c p.classes q.0 j)) UnknownClass ∷ when (is_kernel_method-map i.methods c meta s p.methods q.0 q.1 j) KernelReplaced ∷ [])
      (without_method-map c meta s i p q.0 q.1)
  changed-map_image kernel (RemoveClass n) i p q =
      unless-map (map_image f) (class_removal_refusals w.tests.same i.classes n) (class_removal_refusals v.tests.same (map (map_class f) i.classes) (f n))
      (without_class w.tests.same n i) (without_class v.tests.same (f n) (map_image f i))
      (λ j. when (not (has_class-map P f w v keeps i.classes n p.classes q j)) UnknownClass ∷ when (is_kernel_class-map P f w v keeps i.classes n p.classes q j) KernelReplaced
      ∷ when (has_subclass-map P f w v keeps i.classes n p.classes q j) UnknownSuperclass ∷ [])
      (without_class-map n i p q)

  -- a fact of each name in what a change makes
  pub changed-names : (kernel : Bool) (c : ChangeOf M) (i : ImageOf M) → ImageNames P i → ChangeNames P c → IfOk (changed w.tests.same kernel c i) (ImageNames P)
  changed-names kernel (Define d) i p q =
      unless-all (ImageNames P) (definition_refusals w.tests.same i.classes d (with_definition w.tests.same kernel d i.classes)) (record i { classes = defined w.tests.same kernel d i.classes })
      (record { classes = defined-names kernel d i.classes p.classes q; methods = p.methods; doits = p.doits })
  changed-names kernel (DefineAt d k) i p q =
      unless-all (ImageNames P) (definition_refusals w.tests.same i.classes d (with_definition w.tests.same kernel d i.classes)) (record i { classes = with_definition w.tests.same kernel d i.classes })
      (record { classes = with_definition-names kernel d i.classes p.classes q; methods = p.methods; doits = p.doits })
  changed-names kernel (Comment n text) i p q =
      unless-all (ImageNames P) (comment_refusals w.tests.same i.classes n) (record i { classes = with_comment w.tests.same n text i.classes })
      (record { classes = with_comment-names n text i.classes p.classes; methods = p.methods; doits = p.doits })
  changed-names kernel (SetClassSide n names) i p q =
      unless-all (ImageNames P) (class_side_refusals w.tests.same i.classes n names (with_class_side w.tests.same n names i.classes)) (record i { classes = with_class_side w.tests.same n names i.classes })
      (record { classes = with_class_side-names n names i.classes p.classes q.1; methods = p.methods; doits = p.doits })
  changed-names kernel (RemoveMethod c meta s) i p q =
      unless-all (ImageNames P) (removal_refusals w.tests.same i c meta s) (without_method w.tests.same c meta s i)
      (record { classes = p.classes; methods = all-filter (EntryNames P) (λ (m : EntryOf M). not (is_method w.tests.same c meta s m)) i.methods p.methods; doits = p.doits })
  changed-names kernel (RemoveClass n) i p q =
      unless-all (ImageNames P) (class_removal_refusals w.tests.same i.classes n) (without_class w.tests.same n i)
      (record {
        classes = all-filter (ClassNames P) (λ (c : ClassOf M). not (w.tests.same n c.name)) i.classes p.classes;
        methods = all-filter (EntryNames P) (λ (m : EntryOf M). not (is_of_class w.tests.same n m)) i.methods p.methods;
        doits = p.doits;
      })

  -- why a run of methods is refused
  pub run_refusals-map : (classes : List (ClassOf M)) (r : RunOf M) → AllByRecursion (ClassNames P) classes → P r.class
      → run_refusals v.tests.same (map (map_class f) classes) (map_run f r) ≡ run_refusals w.tests.same classes r
  run_refusals-map classes r p q = λ i. when (not (has_class-map P f w v keeps classes r.class p q i)) UnknownClass ∷ []

  -- with a method
  with_method-map : (kernel : Bool) (r : RunOf M) (source : List ℕ) (m : MethodOf M) (methods : List (EntryOf M)) → AllByRecursion (EntryNames P) methods → P r.class → MethodNames P m
      → with_method v.tests.same kernel (map_run f r) source (map_method f m) (map (map_entry f) methods) ≡ map (map_entry f) (with_method w.tests.same kernel r source m methods)
  with_method-map kernel r source m methods p q t =
      ap (λ (b : Bool). cond b (map (λ (e : EntryOf N). cond (is_method v.tests.same (f r.class) r.meta (f m.selector) e) (entry_in kernel (map_run f r) source (map_method f m)) e) (map (map_entry f) methods)) (map (map_entry f) methods ++ entry_in kernel (map_run f r) source (map_method f m) ∷ []))
      (has_method-map methods r.class r.meta m.selector p q t.selector)
      ∙ by (has_method w.tests.same methods r.class r.meta m.selector)
    where
      by : (b : Bool) → cond b (map (λ (e : EntryOf N). cond (is_method v.tests.same (f r.class) r.meta (f m.selector) e) (entry_in kernel (map_run f r) source (map_method f m)) e) (map (map_entry f) methods)) (map (map_entry f) methods ++ entry_in kernel (map_run f r) source (map_method f m) ∷ [])
          ≡ map (map_entry f) (cond b (map (λ (e : EntryOf M). cond (is_method w.tests.same r.class r.meta m.selector e) (entry_in kernel r source m) e) methods) (methods ++ entry_in kernel r source m ∷ []))
      by true =
          changed-map (map_entry f) (is_method w.tests.same r.class r.meta m.selector) (is_method v.tests.same (f r.class) r.meta (f m.selector)) (λ (e : EntryOf M). entry_in kernel r source m) (λ (e : EntryOf N). entry_in kernel (map_run f r) source (map_method f m)) methods (λ e. refl)
          (all_methods-map r.class r.meta m.selector methods p q t.selector)
      by false = sym (map-append (map_entry f) methods (entry_in kernel r source m ∷ []))

  -- a method of a run
  pub method_added-map_image : (kernel : Bool) (r : RunOf M) (source : List ℕ) (m : MethodOf M) (i : ImageOf M) → ImageNames P i → P r.class → MethodNames P m
      → ◌≡◌ {A = Result (ImageOf N) Cause} (method_added v.tests.same kernel (map_run f r) source (map_method f m) (map_image f i)) (result_map_both (map_image f) (λ (e : Cause). e) (method_added w.tests.same kernel r source m i))
  method_added-map_image kernel r source m i p q t =
      unless-map (map_image f) (method_refusals w.tests.same i.methods r m.selector) (method_refusals v.tests.same (map (map_entry f) i.methods) (map_run f r) (f m.selector))
      (record i { methods = with_method w.tests.same kernel r source m i.methods }) (record (map_image f i) { methods = with_method v.tests.same kernel (map_run f r) source (map_method f m) (map (map_entry f) i.methods) })
      (λ j. when (is_kernel_method-map i.methods r.class r.meta m.selector p.methods q t.selector j) KernelReplaced
      ∷ when (not (has_method-map i.methods r.class r.meta m.selector p.methods q t.selector j) && nat_le method_limit (length-map (map_entry f) i.methods j)) TooMany ∷ [])
      (λ j. record (map_image f i) { methods = with_method-map kernel r source m i.methods p.methods q t j })

  -- a fact of each name in what a method makes
  pub method_added-names : (kernel : Bool) (r : RunOf M) (source : List ℕ) (m : MethodOf M) (i : ImageOf M) → ImageNames P i → P r.class → MethodNames P m → IfOk (method_added w.tests.same kernel r source m i) (ImageNames P)
  method_added-names kernel r source m i p q t =
      unless-all (ImageNames P) (method_refusals w.tests.same i.methods r m.selector) (record i { methods = with_method w.tests.same kernel r source m i.methods })
      (record { classes = p.classes; methods = by (has_method w.tests.same i.methods r.class r.meta m.selector); doits = p.doits })
    where
      entry : EntryNames P (entry_in kernel r source m)
      entry = record { class = q; tree = t }

      by : (b : Bool) → AllByRecursion (EntryNames P) (cond b (map (λ (e : EntryOf M). cond (is_method w.tests.same r.class r.meta m.selector e) (entry_in kernel r source m) e) i.methods) (i.methods ++ entry_in kernel r source m ∷ []))
      by true = all-changed (EntryNames P) (is_method w.tests.same r.class r.meta m.selector) (λ (e : EntryOf M). entry_in kernel r source m) i.methods (λ e u. entry) p.methods
      by false = all-append (EntryNames P) i.methods (entry_in kernel r source m ∷ []) p.methods (entry, tt)
