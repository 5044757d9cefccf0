-- What is asked of classes is the same where names are changed one to one.
use Rattle.std.proofs.Common.{◌≡◌, ℕ, zero, suc, true, false, ◌||◌, List, [], ◌∷◌, ◌++◌, length, map, find, is_some, Option, Some, None, option_map, refl, sym, ap, ◌∙◌}
use Rattle.std.specs.List.{AllByRecursion, list_any, flat_map}
use Rattle.std.specs.Option.{option_map_or}
use Rattle.std.proofs.lemmas.List.{map-append}
use Rattle.image_model.specs.Image.{ClassOf, map_class}
use Rattle.image_model.specs.ImageNames.{OptionNames, ClassNames}
use Rattle.image_model.specs.Words.{WordsOf, KeepsWords}
use Rattle.image_model.specs.Chain.{class_named, chain_from, chain, class_of_name}
use Rattle.image_model.specs.Means.{VariableKind, of_instance, of_class_side, of_class, variables}
use Rattle.image_model.proofs.Lists.{all-implies, length-map, find-map, find-all, any-map}
use Rattle.image_model.proofs.Changed.{class_named-map, class_of_name-map, ClassNames-class_of_name, chain_from-map, ClassNames-chain_from}
use Rattle.file_model.specs.Hierarchy.{has_class, is_kernel_class, stands_in, has_subclass, has_repeat, chain_variables, tree_below, stands_twice, can_follow, without_first, settle_behind, settled}
use Rattle.file_numbers.proofs.Mapped.{some-map, filter-map, without_first-map, flat_map-mapped, all-append, all-flat_map, all-filter, all-without_first}

-- the variables of a kind of a mapped class
variables-map : {M N : Type 0} (f : M → N) (kind : VariableKind) (c : ClassOf M) → variables kind (map_class f c) ≡ map f (variables kind c)
variables-map f of_instance c = refl
variables-map f of_class_side c = refl
variables-map f of_class c = refl

-- a fact of each variable of a kind
variables-names : {N : Type 0} (P : N → Type 0) (kind : VariableKind) (c : ClassOf N) → ClassNames P c → AllByRecursion P (variables kind c)
variables-names P of_instance c p = p.instance
variables-names P of_class_side c p = p.class_side
variables-names P of_class c p = p.shared

module _ {M N : Type 0} (P : M → Type 0) (f : M → N) (w : WordsOf M) (v : WordsOf N) (keeps : KeepsWords P f w v) where
  -- whether there is a class of a name
  pub has_class-map : (classes : List (ClassOf M)) (n : M) → AllByRecursion (ClassNames P) classes → P n
      → has_class v.tests.same (map (map_class f) classes) (f n) ≡ has_class w.tests.same classes n
  has_class-map classes n p q = ap is_some (class_named-map P f w v keeps classes n p q) ∙ some-map (map_class f) (class_named w.tests.same classes n)

  -- whether the class of a name is one of the kernel
  pub is_kernel_class-map : (classes : List (ClassOf M)) (n : M) → AllByRecursion (ClassNames P) classes → P n
      → is_kernel_class v.tests.same (map (map_class f) classes) (f n) ≡ is_kernel_class w.tests.same classes n
  is_kernel_class-map classes n p q =
      ap (λ (o : Option (ClassOf N)). option_map_or (λ (c : ClassOf N). c.kernel) o false) (class_named-map P f w v keeps classes n p q) ∙ by (class_named w.tests.same classes n)
    where
      by : (o : Option (ClassOf M)) → option_map_or (λ (c : ClassOf N). c.kernel) (option_map (map_class f) o) false ≡ option_map_or (λ (c : ClassOf M). c.kernel) o false
      by None = refl
      by (Some c) = refl

  -- whether a class of a name is one of these
  pub stands_in-map : (n : M) (classes : List (ClassOf M)) → AllByRecursion (ClassNames P) classes → P n
      → stands_in v.tests.same (f n) (map (map_class f) classes) ≡ stands_in w.tests.same n classes
  stands_in-map n classes p q =
      any-map (map_class f) (λ (c : ClassOf M). w.tests.same n c.name) (λ (c : ClassOf N). v.tests.same (f n) c.name) classes
      (all-implies _ _ (λ c r. keeps.tests.same n c.name q r.name) classes p)

  -- whether a name is the one that there may be
  pub is_that-map : (n : M) (o : Option M) → OptionNames P o → P n → option_map_or (v.tests.same (f n)) (option_map f o) false ≡ option_map_or (w.tests.same n) o false
  is_that-map n None t q = refl
  is_that-map n (Some m) t q = keeps.tests.same n m q t

  -- whether a class is the superclass of another
  pub has_subclass-map : (classes : List (ClassOf M)) (n : M) → AllByRecursion (ClassNames P) classes → P n
      → has_subclass v.tests.same (map (map_class f) classes) (f n) ≡ has_subclass w.tests.same classes n
  has_subclass-map classes n p q =
      any-map (map_class f) (λ (c : ClassOf M). option_map_or (w.tests.same n) c.superclass false) (λ (c : ClassOf N). option_map_or (v.tests.same (f n)) c.superclass false) classes
      (all-implies _ _ (λ c r. is_that-map n c.superclass r.superclass q) classes p)

  -- whether a name stands twice
  pub has_repeat-map : (names : List M) → AllByRecursion P names → has_repeat v.tests.same (map f names) ≡ has_repeat w.tests.same names
  has_repeat-map [] p = refl
  has_repeat-map (n ∷ ns) p =
      λ i. any-map f (w.tests.same n) (v.tests.same (f n)) ns (all-implies _ _ (λ m t. keeps.tests.same n m p.0 t) ns p.1) i || has_repeat-map ns p.1 i

  module _ (classes : List (ClassOf M)) (named : AllByRecursion (ClassNames P) classes) where
    -- the variables on a chain
    chain_variables-map : (kind : VariableKind) (c : ClassOf M) → ClassNames P c
        → chain_variables v.tests.same (map (map_class f) classes) kind (map_class f c) ≡ map f (chain_variables w.tests.same classes kind c)
    chain_variables-map kind c p =
        ap (flat_map (variables kind)) (chain_from-map P f w v keeps classes (Some c) named p)
        ∙ flat_map-mapped (map_class f) f (variables kind) (variables kind) (chain_from w.tests.same classes (Some c))
        (all-implies _ _ (λ d r. variables-map f kind d) (chain_from w.tests.same classes (Some c)) (ClassNames-chain_from P f w v keeps classes (Some c) named p))

    chain_variables-names : (kind : VariableKind) (c : ClassOf M) → ClassNames P c → AllByRecursion P (chain_variables w.tests.same classes kind c)
    chain_variables-names kind c p =
        all-flat_map P (variables kind) (chain_from w.tests.same classes (Some c))
        (all-implies _ _ (λ d r. variables-names P kind d r) (chain_from w.tests.same classes (Some c)) (ClassNames-chain_from P f w v keeps classes (Some c) named p))

    -- whether a class is on the chain of another
    on_chain-map : (n : M) (c : ClassOf M) → P n → ClassNames P c
        → stands_in v.tests.same (f n) (chain_from v.tests.same (map (map_class f) classes) (Some (map_class f c))) ≡ stands_in w.tests.same n (chain_from w.tests.same classes (Some c))
    on_chain-map n c q p =
        ap (stands_in v.tests.same (f n)) (chain_from-map P f w v keeps classes (Some c) named p)
        ∙ stands_in-map n (chain_from w.tests.same classes (Some c)) (ClassNames-chain_from P f w v keeps classes (Some c) named p) q

    -- the class of a name and the classes below it
    tree_below-map : (n : M) → P n → tree_below v.tests.same (map (map_class f) classes) (f n) ≡ map (map_class f) (tree_below w.tests.same classes n)
    tree_below-map n q =
        filter-map (map_class f) (λ (c : ClassOf M). stands_in w.tests.same n (chain_from w.tests.same classes (Some c))) (λ (c : ClassOf N). stands_in v.tests.same (f n) (chain_from v.tests.same (map (map_class f) classes) (Some c))) classes
        (all-implies _ _ (λ c r. on_chain-map n c q r) classes named)

    -- whether a variable stands twice on the chain of a class or of one below it
    pub stands_twice-map : (kind : VariableKind) (n : M) → P n → stands_twice v.tests.same (map (map_class f) classes) kind (f n) ≡ stands_twice w.tests.same classes kind n
    stands_twice-map kind n q =
        ap (list_any (λ (c : ClassOf N). has_repeat v.tests.same (chain_variables v.tests.same (map (map_class f) classes) kind c))) (tree_below-map n q)
        ∙ any-map (map_class f) (λ (c : ClassOf M). has_repeat w.tests.same (chain_variables w.tests.same classes kind c)) (λ (c : ClassOf N). has_repeat v.tests.same (chain_variables v.tests.same (map (map_class f) classes) kind c))
        (tree_below w.tests.same classes n) (all-implies _ _ repeats (tree_below w.tests.same classes n) (all-filter (ClassNames P) (λ (c : ClassOf M). stands_in w.tests.same n (chain_from w.tests.same classes (Some c))) classes named))
      where
        repeats : (c : ClassOf M) → ClassNames P c
            → has_repeat v.tests.same (chain_variables v.tests.same (map (map_class f) classes) kind (map_class f c)) ≡ has_repeat w.tests.same (chain_variables w.tests.same classes kind c)
        repeats c p = ap (has_repeat v.tests.same) (chain_variables-map kind c p) ∙ has_repeat-map (chain_variables w.tests.same classes kind c) (chain_variables-names kind c p)

    -- whether a class of a name stands on the chain of a name
    pub on_chain_of-map : (n : M) (o : Option M) → P n → OptionNames P o
        → stands_in v.tests.same (f n) (chain v.tests.same (map (map_class f) classes) (option_map f o)) ≡ stands_in w.tests.same n (chain w.tests.same classes o)
    on_chain_of-map n o q p =
        ap (λ (d : Option (ClassOf N)). stands_in v.tests.same (f n) (chain_from v.tests.same (map (map_class f) classes) d)) (class_of_name-map P f w v keeps classes o named p)
        ∙ ap (stands_in v.tests.same (f n)) (chain_from-map P f w v keeps classes (class_of_name w.tests.same classes o) named (ClassNames-class_of_name P f w v keeps classes o named))
        ∙ stands_in-map n (chain w.tests.same classes o) (ClassNames-chain_from P f w v keeps classes (class_of_name w.tests.same classes o) named (ClassNames-class_of_name P f w v keeps classes o named)) q

  -- whether a class can be taken behind these
  can_follow-map : (taken : List (ClassOf M)) (c : ClassOf M) → AllByRecursion (ClassNames P) taken → ClassNames P c
      → can_follow v.tests.same (map (map_class f) taken) (map_class f c) ≡ can_follow w.tests.same taken c
  can_follow-map taken c p q = by c.superclass q.superclass
    where
      by : (o : Option M) → OptionNames P o → option_map_or (λ (n : N). stands_in v.tests.same n (map (map_class f) taken)) (option_map f o) true ≡ option_map_or (λ (n : M). stands_in w.tests.same n taken) o true
      by None t = refl
      by (Some n) t = stands_in-map n taken p t

  all_follow-map : (taken left : List (ClassOf M)) → AllByRecursion (ClassNames P) taken → AllByRecursion (ClassNames P) left
      → AllByRecursion (λ (c : ClassOf M). can_follow v.tests.same (map (map_class f) taken) (map_class f c) ≡ can_follow w.tests.same taken c) left
  all_follow-map taken left p q = all-implies _ _ (λ c r. can_follow-map taken c p r) left q

  -- classes taken one after the other
  settle_behind-map : (k : ℕ) (taken left : List (ClassOf M)) → AllByRecursion (ClassNames P) taken → AllByRecursion (ClassNames P) left
      → settle_behind v.tests.same k (map (map_class f) taken) (map (map_class f) left) ≡ map (map_class f) (settle_behind w.tests.same k taken left)
  settle_behind-map zero taken left p q = refl
  settle_behind-map (suc k) taken left p q =
      ap (λ (o : Option (ClassOf N)). option_map_or next o (map (map_class f) taken)) (find-map (map_class f) (can_follow w.tests.same taken) (can_follow v.tests.same (map (map_class f) taken)) left (all_follow-map taken left p q))
      ∙ by (find (can_follow w.tests.same taken) left) (find-all (ClassNames P) (can_follow w.tests.same taken) left q)
      (λ c r. settle_behind-map k (taken ++ c ∷ []) (without_first (can_follow w.tests.same taken) left) (all-append (ClassNames P) taken (c ∷ []) p (r, tt)) (all-without_first (ClassNames P) (can_follow w.tests.same taken) left q))
    where
      next : ClassOf N → List (ClassOf N)
      next c = settle_behind v.tests.same k (map (map_class f) taken ++ c ∷ []) (without_first (can_follow v.tests.same (map (map_class f) taken)) (map (map_class f) left))

      next_before : ClassOf M → List (ClassOf M)
      next_before c = settle_behind w.tests.same k (taken ++ c ∷ []) (without_first (can_follow w.tests.same taken) left)

      by : (o : Option (ClassOf M)) → OptionNames (ClassNames P) o
          → ((c : ClassOf M) → ClassNames P c → settle_behind v.tests.same k (map (map_class f) (taken ++ c ∷ [])) (map (map_class f) (without_first (can_follow w.tests.same taken) left)) ≡ map (map_class f) (next_before c))
          → option_map_or next (option_map (map_class f) o) (map (map_class f) taken) ≡ map (map_class f) (option_map_or next_before o taken)
      by None r rest = refl
      by (Some c) r rest =
          (λ i. settle_behind v.tests.same k (sym (map-append (map_class f) taken (c ∷ [])) i) (without_first-map (map_class f) (can_follow w.tests.same taken) (can_follow v.tests.same (map (map_class f) taken)) left (all_follow-map taken left p q) i))
          ∙ rest c r

  -- the classes in order
  pub settled-map : (classes : List (ClassOf M)) → AllByRecursion (ClassNames P) classes → settled v.tests.same (map (map_class f) classes) ≡ map (map_class f) (settled w.tests.same classes)
  settled-map classes p = ap (λ (k : ℕ). settle_behind v.tests.same k [] (map (map_class f) classes)) (length-map (map_class f) classes) ∙ settle_behind-map (length classes) [] classes tt p

  -- a fact of each name in classes taken one after the other
  settle_behind-names : (k : ℕ) (taken left : List (ClassOf M)) → AllByRecursion (ClassNames P) taken → AllByRecursion (ClassNames P) left → AllByRecursion (ClassNames P) (settle_behind w.tests.same k taken left)
  settle_behind-names zero taken left p q = p
  settle_behind-names (suc k) taken left p q =
      by (find (can_follow w.tests.same taken) left) (find-all (ClassNames P) (can_follow w.tests.same taken) left q)
      (λ c r. settle_behind-names k (taken ++ c ∷ []) (without_first (can_follow w.tests.same taken) left) (all-append (ClassNames P) taken (c ∷ []) p (r, tt)) (all-without_first (ClassNames P) (can_follow w.tests.same taken) left q))
    where
      by : (o : Option (ClassOf M)) → OptionNames (ClassNames P) o
          → ((c : ClassOf M) → ClassNames P c → AllByRecursion (ClassNames P) (settle_behind w.tests.same k (taken ++ c ∷ []) (without_first (can_follow w.tests.same taken) left)))
          → AllByRecursion (ClassNames P) (option_map_or (λ (c : ClassOf M). settle_behind w.tests.same k (taken ++ c ∷ []) (without_first (can_follow w.tests.same taken) left)) o taken)
      by None r rest = p
      by (Some c) r rest = rest c r

  pub settled-names : (classes : List (ClassOf M)) → AllByRecursion (ClassNames P) classes → AllByRecursion (ClassNames P) (settled w.tests.same classes)
  settled-names classes p = settle_behind-names (length classes) [] classes tt p
